use mathlib.Core.Path.{refl, sym, ◌∙◌}
use native.Mathlib.Omega.{arith}
use Rattle.place_loop.proofs.Loops.{place_loop}
use Rattle.place_loop.proofs.place_events.Goals as goal

pub loop-at-init : goal.loop-at-init
loop-at-init c = record { result = λ times positions. sym (place_loop.begins _ _); start = refl }

pub loop-at-preserved : goal.loop-at-preserved
loop-at-preserved c =
    let step = c.place_at-s.ensures in
    let so_far = c.loop-at.invariant in
    record {
      result = λ times positions. step.result times positions ∙ rw (so_far.result times positions) (sym (place_loop.goes_on _ _ _ _ (omega arith)));
      start = step.start ∙ so_far.start;
    }
