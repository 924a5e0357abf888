-- What is given, or something else where it is not: by Option's methods, and by the model. Assumes nothing.
use Rattle.std.specs.Prelude.{Option, None, Some, MatchOption, IsTrue}
use Rattle.std.specs.Option.{unwrap_or}
use mathlib.Core.Path.{◌≡◌, refl}
use mathlib.Core.Bool.{Bool, true, false}
use lib.Ieee.{Float, binary64, add}
use Rattle.data.specs.Limits.{rect_ok}
use Rattle.model.specs.Types.{Rect}
use Rattle.model.specs.Pass.{time_or, rect_or, rect_given_ok}

pub time_absent : (t : Option Float) (dt old : Float) → unwrap_or t (add binary64 old dt) ≡ time_or t dt old
unfolding time_or
time_absent None dt old = refl
time_absent (Some t) dt old = refl

pub rect_absent : (r : Option Rect) (old : Rect) → unwrap_or r old ≡ rect_or r old
unfolding rect_or
rect_absent None old = refl
rect_absent (Some r) old = refl

pub no_rect_ok : (r : Option Rect) (b : Bool) → MatchOption r (IsTrue b) (λ x. b ≡ rect_ok x) → b ≡ rect_given_ok r
unfolding rect_given_ok
no_rect_ok None true h = refl
no_rect_ok None false h = cc
no_rect_ok (Some r) b h = h
