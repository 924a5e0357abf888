-- `then_some` in the words of feed's specs/Shape.antt. Assumes nothing.
use mathlib.Core.Path.{◌≡◌, refl}
use mathlib.Core.Bool.{Bool, true, false, cond}
use Rattle.std.specs.Prelude.{None, Some}
use Rattle.std.specs.Bool.{then_some}

pub kept : {T : Type 0} (b : Bool) (x : T) → then_some b x ≡ cond b (Some x) None
kept true x = refl
kept false x = refl
