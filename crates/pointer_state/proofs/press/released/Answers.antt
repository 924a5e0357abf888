use Rattle.std.specs.Prelude.{Option, None, Some, is_some, IfSome}
use Rattle.std.proofs.Common.{rules}
use Rattle.model.specs.Types.{InputOptions, Pos2, Modifiers, Click}
use Rattle.model.specs.Pointer.{ClickPast, press_event, release, release_button, remember_click, click_of}
use Rattle.pointer_events.proofs.Stored.{pushed_room, codes_written, positions_written}
use lib.Ieee.{Float}
use mathlib.Core.Bool.{Bool, true, false}
use mathlib.Core.Path.{◌≡◌, refl, ◌∙◌}
use Rattle.pointer_clicks.specs.View.{past}
use Rattle.pointer_state.proofs.press.released.Goals as goal
use Rattle.pointer_state.proofs.press.released.Goals.{then-clicked, else-clicked}

module _ (o : InputOptions) (time : Float) (v : Pos2) (m : Modifiers) (p : ClickPast) where
  then_click : (b : Bool) (r : Option Click) → is_some r ≡ b → IfSome r (λ k. Some k ≡ click_of true o time v m p) → r ≡ click_of b o time v m p
  unfolding click_of
  then_click true None s h = cc
  then_click true (Some k) s h = h
  then_click false None s h = refl
  then_click false (Some k) s h = cc

else_same : (b : Bool) (time : Float) (v : Pos2) (p : ClickPast) → b ≡ false → p ≡ remember_click b time v p
unfolding remember_click
else_same true time v p h = cc
else_same false time v p h = refl

pub returns : goal.returns
unfolding press_event release release_button
returns c =
    let p = c.push-count.ensures in
    let m : past c.if-clicked.past ≡ remember_click c.could_any_button_be_click-clicked.result c.args.time c.args.pos (past c.args.s.past) =
    elim c.if-clicked.branch [
      | then-clicked w ↦ rw (w.past-is, w.if-clicked.true) w.remember_click-past.ensures
      | else-clicked w ↦ rw w.past-is (else_same _ _ _ _ w.if-clicked.false)
    ] in
    let some = c.then-click.ensures.some in
    let k : c.then-click.result ≡ click_of c.could_any_button_be_click-clicked.result c.args.options c.args.time c.args.pos c.args.modifiers (past c.args.s.past) =
    then_click _ _ _ _ _ _ _ c.then-click.ensures.variant (search rules) in
    let d = c.set_down-down.ensures in
    let q = c.could_any_button_be_click-clicked.ensures c.args.positions.now in
    record {
      result = rw (p.result, d, m, k, q);
      room = λ h. rw (pushed_room p h, d, m, k, q);
      codes_after = codes_written p ∙ rw (k, q);
      positions_after = positions_written p ∙ rw (k, q);
    }
