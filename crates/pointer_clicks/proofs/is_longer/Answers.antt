use mathlib.Core.Path.{◌≡◌, sym, subst}
use mathlib.Core.Bool.{Bool, true}
use lib.Dec.{T}
use lib.Ieee.{Float, binary32, binary64, mul, le, lt, fits, of_bits}
use lib.Ieee.Fits.{mul-fits}
use Rattle.emath.specs.Vec.{+0}
use Rattle.ieee_laws.proofs.Order.{le_lt_trans}
use Rattle.emath_laws.proofs.Rim.{inside, outside}
use Rattle.pointer_clicks.proofs.is_longer.Goals as goal
use Rattle.pointer_clicks.proofs.is_longer.Goals.{Start}

-- PAST_THE_RIM
abbrev more : Float
more = of_bits binary32 0x3f80_2000

holds : {b : Bool} → b ≡ true → T b
holds h = subst T (sym h) tt

held : (c : Start) → T (fits binary32 c.args.dist)
held c = subst T (sym c.well_formed.1.0.1) tt

pub returns-then-square-d : goal.returns-then-square-d
unfolding of_bits
returns-then-square-d c =
    let d = c.args.dist in
    let above : le +0 d ≡ true = c.if-dist.true in
    let w = c.widen-d.result in
    let within : le c.length_sq64-square.result (mul binary64 w w) ≡ true = c.if-square-d.true in
    sym (inside d c.args.v (held (goal.at.returns-then-square-d c).Start) (holds above) (holds (rw (c.length_sq64-square.ensures, c.widen-d.ensures) at within)))

pub returns-then-e-square : goal.returns-then-e-square
unfolding of_bits
returns-then-e-square c =
    let d = c.args.dist in
    let above : le +0 d ≡ true = c.if-dist.true in
    let past = mul binary32 d more in
    let further : lt d past ≡ true = c.if-dist-past.true in
    let e = c.widen-e.result in
    let beyond : le (mul binary64 e e) c.length_sq64-square.result ≡ true = c.if-e-square.true in
    sym
    (outside d past c.args.v (mul-fits binary32 d more) (le_lt_trans +0 d past (holds above) (holds further)) (holds further)
    (holds (rw (c.length_sq64-square.ensures, c.widen-e.ensures) at beyond)))
