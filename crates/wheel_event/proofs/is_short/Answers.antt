use mathlib.Core.Path.{◌≡◌, sym, subst}
use mathlib.Core.Bool.{Bool, true}
use lib.Dec.{T}
use lib.Ieee.{le, of_bits}
use Rattle.model.specs.Numbers.{eight}
use Rattle.wheel_event.proofs.Short.{square_of_8, shorter_square, not_short, short}
use Rattle.wheel_event.proofs.is_short.Goals as goal

holds : {b : Bool} → b ≡ true → T b
holds h = subst T (sym h) tt

pub returns-then-square : goal.returns-then-square
unfolding of_bits
returns-then-square c =
    let above : le square_of_8 c.length_sq64-square.result ≡ true = c.if-square.true in
    sym (not_short _ (holds (rw c.length_sq64-square.ensures at above)))

pub returns-then-square-2 : goal.returns-then-square-2
unfolding of_bits
returns-then-square-2 c =
    let below : le c.length_sq64-square.result shorter_square ≡ true = c.if-square-2.true in
    sym (short _ (holds (rw c.length_sq64-square.ensures at below)))

pub returns : goal.returns
unfolding eight of_bits
returns c = rw c.length.ensures
