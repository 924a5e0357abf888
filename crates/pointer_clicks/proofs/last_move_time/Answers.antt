use Rattle.std.specs.Prelude.{Option, Some}
use mathlib.Core.Path.{◌≡◌, sym, ◌∙◌}
use mathlib.Core.Bool.{true, false, or-true}
use mathlib.Core.List.{List}
use lib.Ieee.{Float}
use Rattle.emath.specs.Vec.{vec_zero, vec_ne}
use Rattle.emath.proofs.Parts.{not_equal}
use Rattle.model.specs.Types.{Vec2, PointerEvent}
use Rattle.model.specs.Pointer.{any, is_move, move_time}
use Rattle.std.proofs.Common.{rules}
use Rattle.pointer_events.specs.Events.{kind_of}
use Rattle.pointer_clicks.proofs.last_move_time.Goals as goal

module _ (time : Float) (es : List PointerEvent) (v : Vec2) (old : Option Float) where
  by_velocity : vec_ne v vec_zero ≡ true → Some time ≡ move_time time es v old
  unfolding move_time
  by_velocity e = rw (e, or-true)

  by_move : any is_move es ≡ true → Some time ≡ move_time time es v old
  unfolding move_time
  by_move e = rw e

  by_neither : any is_move es ≡ false → vec_ne v vec_zero ≡ false → old ≡ move_time time es v old
  unfolding move_time
  by_neither e f = rw (e, f)

pub returns-then-ne : goal.returns-then-ne
returns-then-ne c ps = by_velocity _ _ _ _ (sym (rw c.zero-zero.ensures at (c.ne.ensures ∙ not_equal c.args.velocity c.zero-zero.result)) ∙ c.if-ne.true)

pub returns-then-any : goal.returns-then-any
unfolding kind_of is_move
returns-then-any c ps = by_move _ _ _ _ (sym (c.any.ensures is_move (λ e r p. search rules) ps) ∙ c.if-any.true)

pub returns : goal.returns
unfolding kind_of is_move
returns c ps =
    by_neither _ _ _ _ (sym (c.any.ensures is_move (λ e r p. search rules) ps) ∙ c.if-any.false)
    (sym (rw c.zero-zero.ensures at (c.ne.ensures ∙ not_equal c.args.velocity c.zero-zero.result)) ∙ c.if-ne.false)
