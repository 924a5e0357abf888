-- The value of a pattern's two fields, for any format: of a subnormal, and of a normal value. Assumes nothing.
use Rattle.std.proofs.Common.{◌≡◌, ℕ, suc, ◌+◌, ◌-◌, ◌*◌, ◌^◌, ◌<◌, Bool, cond, eqb, sym, refl, subst, arith, eqb→eq}
use lib.Dec.{not_T}
use lib.Ieee.{Float, nan, inf, Format, prec, low, odd, hid, ones, of_fields}
use lib.Ieee.Bits.{cond_no}
use lib.Ieee.Exact.{HasValue, odd_sign}

at_zero : (f : Format) (s : Bool) (t : ℕ) → of_fields f s 0 t ≡ odd (prec f) s t 0 (low f)
unfolding of_fields
at_zero f s t = refl

differ : (a b : ℕ) → a < b → a ≡ b → ⊥
differ a b h e = omega arith

under_ones : (f : Format) (s : Bool) (t x : ℕ) → suc x < ones f → of_fields f s (suc x) t ≡ odd (prec f) s (hid f + t) x (low f)
unfolding of_fields
under_ones f s t x h = cond_no (eqb (suc x) (ones f)) (cond (eqb t 0) (inf s) nan) (odd (prec f) s (hid f + t) x (low f)) (not_T (eqb (suc x) (ones f)) (λ u. differ (suc x) (ones f) h (eqb→eq (suc x) (ones f) u)))

pub low_value : (f : Format) (s : Bool) (t : ℕ) → HasValue (of_fields f s 0 t) s (t * 2 ^ 0) (2 ^ low f)
low_value f s t = subst (λ (x : Float). HasValue x s (t * 2 ^ 0) (2 ^ low f)) (sym (at_zero f s t)) (odd_sign (prec f) s t 0 (low f))

suc_pred : (x : ℕ) → 0 < x → suc (x - 1) ≡ x
suc_pred x h = omega arith

pub normal_value : (f : Format) (s : Bool) (x t : ℕ) → 0 < x → x < ones f → HasValue (of_fields f s x t) s ((hid f + t) * 2 ^ (x - 1)) (2 ^ low f)
normal_value f s x t p h =
    subst (λ (y : ℕ). HasValue (of_fields f s y t) s ((hid f + t) * 2 ^ (x - 1)) (2 ^ low f)) (suc_pred x p)
    (subst (λ (v : Float). HasValue v s ((hid f + t) * 2 ^ (x - 1)) (2 ^ low f)) (sym (under_ones f s t (x - 1) (subst (λ (y : ℕ). y < ones f) (sym (suc_pred x p)) h)))
    (odd_sign (prec f) s (hid f + t) (x - 1) (low f)))
