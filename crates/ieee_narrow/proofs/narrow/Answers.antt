use mathlib.Core.Path.{◌≡◌, sym, ap, ◌∙◌, subst}
use Prim.Native.Nat.{ℕ, ◌+◌, ◌*◌, ◌/◌, ◌%◌, ◌^◌, ◌≤◌}
use native.Mathlib.Omega.{arith}
use lib.Dec.{T, leb}
use lib.Ieee.{Float, nan, binary32, binary64, fits, div, to_bits, of_bits}
use lib.Ieee.Bits.{to_bits-lt}
use lib.Ieee.Compare.{differs_from_itself}
use Rattle.ieee_narrow.specs.Narrow.{narrow}
use Rattle.ieee_narrow.specs.Patterns.{Narrowed}
use Rattle.ieee.proofs.Decode.{no_nan, decode, at_most_infinity, pattern_no_nan, sign_is}
use Rattle.ieee_narrow.proofs.narrow.Goals as goal
use Rattle.ieee_narrow.proofs.narrow.Goals.{Start}

-- what owning an `f64` tells: the format holds it
held : (c : Start) → T (fits binary64 c.args.x)
held c = subst T (sym c.well_formed.0.1) tt

nan_result : (x : Float) → x ≡ nan → div binary32 (of_bits binary32 0) (of_bits binary32 0) ≡ narrow binary32 x
unfolding div of_bits narrow
nan_result x e = sym (ap (narrow binary32) e)

result : (x : Float) (r : ℕ) → T (fits binary64 x) → Narrowed (to_bits binary64 x % 2 ^ 63) r → of_bits binary32 (to_bits binary64 x / 2 ^ 63 * 2 ^ 31 + r) ≡ narrow binary32 x
result x r h n =
    ap (λ (w : ℕ). of_bits binary32 (w + r)) (sign_is (2 ^ 63) (to_bits binary64 x) (2 ^ 31) (to_bits-lt binary64 x h))
    ∙ n.value (leb (2 ^ 63) (to_bits binary64 x))
    ∙ ap (narrow binary32) (decode binary64 x h)

pub returns-then-x : goal.returns-then-x
returns-then-x c = nan_result c.args.x (differs_from_itself c.args.x (subst T (sym c.if-x.true) tt))

pub float_to_bits-bits : goal.float_to_bits-bits
float_to_bits-bits c = no_nan c.args.x c.if-x.false

pub narrow_pattern-rest-requires : goal.narrow_pattern-rest-requires
narrow_pattern-rest-requires c = at_most_infinity binary64 c.args.x (held (goal.at.narrow_pattern-rest-requires c).Start) (no_nan c.args.x c.if-x.false)

pub overflow_mul-result : goal.overflow_mul-result
overflow_mul-result c = omega (arith, to_bits-lt binary64 c.args.x (held (goal.at.overflow_mul-result c).Start))

pub overflow_add-result : goal.overflow_add-result
overflow_add-result c = omega (arith, to_bits-lt binary64 c.args.x (held (goal.at.overflow_add-result c).Start))

pub overflow_cast-result : goal.overflow_cast-result
overflow_cast-result c = omega (arith, to_bits-lt binary64 c.args.x (held (goal.at.overflow_cast-result c).Start))

pub float_from_bits-result : goal.float_from_bits-result
float_from_bits-result c =
    pattern_no_nan binary32 (to_bits binary64 c.args.x / 2 ^ 63 * 2 ^ 31 + c.narrow_pattern-rest.result) (low (to_bits binary64 c.args.x / 2 ^ 63) c.narrow_pattern-rest.result c.narrow_pattern-rest.ensures.within)
  where
    low : (s r : ℕ) → r ≤ 0x7f80_0000 → (s * 2 ^ 31 + r) % 2 ^ 31 ≤ 255 * 2 ^ 23
    low s r h = omega arith

pub returns : goal.returns
returns c = result c.args.x c.narrow_pattern-rest.result (held (goal.at.returns c).Start) c.narrow_pattern-rest.ensures
