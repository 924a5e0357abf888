use mathlib.Core.Path.{ap, ◌∙◌}
use mathlib.Core.List.{[]}
use lib.Seq.{sets}
use Rattle.input_state.specs.View.{lent}
use Rattle.panel.specs.View.{shown_by}
use Rattle.parking.proofs.Writes.{screen_part, pointer_part, wheel_part, sums_part, screen_part_length, pointer_part_length, wheel_part_length, fixed_parts, four_parts}
use Rattle.parking.proofs.park.fixed_put.Goals as goal

pub returns : goal.returns
returns c =
    let a = c.args in
    let p = shown_by (lent [] [] [] [] a.presses.now) a.panel in
    let s = c.screen_put.ensures in
    let q = c.pointer_put.ensures in
    let w = c.wheel_put.ensures in
    let t = c.sums_put.ensures in (
      four_parts a.out.now _ _ _ _ (screen_part p) (pointer_part p) (wheel_part p) (sums_part p) s.0 q.0 w.0 t.0 (screen_part_length p) (pointer_part_length p) (wheel_part_length p)
          ∙ ap (sets a.out.now 1) (fixed_parts p),
      λ h. (s.1 h.0, (s.2 h.1, (q.1, (q.2, (w.1, (w.2, (t.1, (t.2, t.3)))))))),
    )
