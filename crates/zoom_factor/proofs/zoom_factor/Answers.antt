use mathlib.Core.Path.{◌≡◌, refl, sym, ap, ◌∙◌, subst}
use Prim.Native.Nat.{◌^◌}
use native.Mathlib.Omega.{arith}
use mathlib.Core.Bool.{Bool, true, false, not, ◌&&◌}
use lib.Dec.{T}
use lib.Ieee.{Float, binary32, fits, le, neg, of_bits}
use Rattle.zoom_factor.specs.Answer.{unit_sized}
use Rattle.zoom_factor.proofs.Errors.{itself}
use Rattle.zoom_factor.proofs.Exponent.{pattern_small, answer}
use Rattle.zoom_factor.proofs.zoom_factor.Goals as goal
use Rattle.zoom_factor.proofs.zoom_factor.Goals.{Start}

-- what owning the float tells: the format holds it
held : (c : Start) → T (fits binary32 c.args.exponent)
held c = subst T (sym c.well_formed.0.1) tt

is_true : {b : Bool} → b ≡ true → T b
is_true e = subst T (sym e) tt

-- the code's -1.0
minus_one : neg (of_bits binary32 0x3f80_0000) ≡ of_bits binary32 0xbf80_0000
unfolding neg of_bits
minus_one = refl

above : (e : Float) (b : Bool) → le (neg (of_bits binary32 0x3f80_0000)) e ≡ b → le (of_bits binary32 0xbf80_0000) e ≡ b
above e b h = ap (λ (x : Float). le x e) (sym minus_one) ∙ h

both : (a b : Bool) → a ≡ true → b ≡ true → T (a && b)
both a b p q = subst (λ (x : Bool). T (x && b)) (sym p) (is_true q)

first : (a b : Bool) → a ≡ false → T (not (a && b))
first a b p = subst (λ (x : Bool). T (not (x && b))) (sym p) tt

second : (a b : Bool) → a ≡ true → b ≡ false → T (not (a && b))
second a b p q = subst (λ (x : Bool). T (not (x && b))) (sym p) (subst (λ (x : Bool). T (not x)) (sym q) tt)

pub units-size-requires : goal.units-size-requires
units-size-requires c = pattern_small c.args.exponent (held (goal.at.units-size-requires c).Start) (is_true (above c.args.exponent true c.if-exponent.true)) (is_true c.if-exponent-2.true)

pub nearest-requires : goal.nearest-requires
nearest-requires c = (c.series-sum.ensures c.units-size.result (2 ^ 30) c.units-size.ensures.small (omega arith) (itself c.units-size.result)).some

pub returns-then-exponent-2 : goal.returns-then-exponent-2
unfolding unit_sized
returns-then-exponent-2 c =
    let a = above c.args.exponent true c.if-exponent.true in
    let b = c.if-exponent-2.true in (
      both (le (of_bits binary32 0xbf80_0000) c.args.exponent) (le c.args.exponent (of_bits binary32 0x3f80_0000)) a b,
      answer c.args.exponent (held (goal.at.returns-then-exponent-2 c).Start) (is_true a) (is_true b) c.units-size.result c.series-sum.result c.nearest.result c.units-size.ensures c.series-sum.ensures c.nearest.ensures,
    )

pub returns-else-exponent-2 : goal.returns-else-exponent-2
unfolding unit_sized
returns-else-exponent-2 c = let e = c.args.exponent in (second (le (of_bits binary32 0xbf80_0000) e) (le e (of_bits binary32 0x3f80_0000)) (above e true c.if-exponent.true) c.if-exponent-2.false, refl)

pub returns-else-exponent : goal.returns-else-exponent
unfolding unit_sized
returns-else-exponent c = let e = c.args.exponent in (first (le (of_bits binary32 0xbf80_0000) e) (le e (of_bits binary32 0x3f80_0000)) (above e false c.if-exponent.false), refl)
