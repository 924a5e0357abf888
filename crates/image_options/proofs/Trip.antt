-- The shared fields: what stands for a record gives it back, and every value in range stands for one. Assumes nothing.
use Rattle.std.specs.Prelude.{Option, None, Some, Float}
use Prim.Native.Nat.{ℕ, zero, suc, ◌+◌, ◌*◌, ◌/◌, ◌%◌, ◌≤◌}
use native.Mathlib.Omega.{arith}
use mathlib.Core.Path.{◌≡◌, refl}
use mathlib.Core.Bool.{Bool, true, false}
use lib.Dec.{T, eqb, leb→le, le→leb, ltb→lt}
use Rattle.data.specs.Bits.{bit_number}
use Rattle.data.specs.Modifiers.{modifiers_number, modifiers_of}
use Rattle.feed.proofs.RoundTrip.{modifiers_lt, modifiers_back}
use Rattle.model.specs.Types.{Modifiers, Pos2, Vec2}
use Rattle.image.specs.Codes.{El}
use Rattle.image_words.specs.Leaves.{flag, upto}
use Rattle.image_options.specs.Options.{boolean_of, five_bits, maybe_pair, maybe_time, maybe_pos_el, maybe_pos_of, maybe_vec_el, maybe_vec_of, maybe_time_el, maybe_time_of}

-- ---- values that may be absent
pub pos_back : (p : Option Pos2) → maybe_pos_of (maybe_pos_el p) ≡ p
unfolding maybe_pos_el maybe_pos_of
pos_back None = refl
pos_back (Some p) = refl

pub pos_forth : (v : El maybe_pair) → maybe_pos_el (maybe_pos_of v) ≡ v
unfolding maybe_pos_el maybe_pos_of
pos_forth None = refl
pos_forth (Some v) = refl

pub vec_back : (p : Option Vec2) → maybe_vec_of (maybe_vec_el p) ≡ p
unfolding maybe_vec_el maybe_vec_of
vec_back None = refl
vec_back (Some p) = refl

pub vec_forth : (v : El maybe_pair) → maybe_vec_el (maybe_vec_of v) ≡ v
unfolding maybe_vec_el maybe_vec_of
vec_forth None = refl
vec_forth (Some v) = refl

pub time_back : (t : Option Float) → maybe_time_of (maybe_time_el t) ≡ t
unfolding maybe_time_el maybe_time_of
time_back None = refl
time_back (Some t) = refl

pub time_forth : (v : El maybe_time) → maybe_time_el (maybe_time_of v) ≡ v
unfolding maybe_time_el maybe_time_of
time_forth None = refl
time_forth (Some t) = refl

-- ---- bits
pub boolean_in : (b : Bool) → T (flag (bit_number b))
boolean_in true = tt
boolean_in false = tt

pub boolean_back : (b : Bool) → boolean_of (bit_number b) ≡ b
boolean_back true = refl
boolean_back false = refl

pub bit_forth : (n : ℕ) → n ≤ 1 → bit_number (eqb n 1) ≡ n
bit_forth n h = go n h
  where
    go : (n : ℕ) → n ≤ 1 → bit_number (eqb n 1) ≡ n
    go zero h = refl
    go (suc zero) h = refl
    go (suc (suc n)) h = absurd (omega arith)

pub boolean_forth : (w : ℕ) → T (flag w) → bit_number (boolean_of w) ≡ w
boolean_forth w h = let g = ltb→lt w 2 h in bit_forth w (omega arith)

pub modifiers_in : (m : Modifiers) → T (upto five_bits (modifiers_number m))
modifiers_in m = le→leb (modifiers_number m) five_bits (let h = modifiers_lt m in omega arith)

pub modifiers_again : (m : Modifiers) → modifiers_of (modifiers_number m) ≡ m
modifiers_again m = modifiers_back m (modifiers_number m) 0 (omega arith)

linear : (w p a q b r c s d : ℕ) → w ≡ p + 2 * a → a ≡ q + 2 * b → b ≡ r + 2 * c → c ≡ s + 2 * d → p + 2 * q + 4 * r + 8 * s + 16 * d ≡ w
linear w p a q b r c s d e f g h = omega arith

halves : (n : ℕ) → n ≡ n % 2 + 2 * (n / 2)
halves n = omega arith

-- a number below 32 is that of its five bits
pub five_bits_sum : (w : ℕ) → w ≤ 31 → w / 1 % 2 + 2 * (w / 2 % 2) + 4 * (w / 4 % 2) + 8 * (w / 8 % 2) + 16 * (w / 16 % 2) ≡ w
five_bits_sum w h =
    let one : w / 1 ≡ w = omega arith in
    let b : w / 4 ≡ w / 2 / 2 = omega arith in
    let c : w / 8 ≡ w / 4 / 2 = omega arith in
    let d : w / 16 ≡ w / 8 / 2 = omega arith in
    let last : w / 16 % 2 ≡ w / 16 = omega arith in
    rw (one, last)
    (linear w (w % 2) (w / 2) (w / 2 % 2) (w / 4) (w / 4 % 2) (w / 8) (w / 8 % 2) (w / 16) (halves w) (rw b (halves (w / 2))) (rw c (halves (w / 4))) (rw d (halves (w / 8))))

-- a bit of a number as a number
pub bit_again : (n : ℕ) → bit_number (eqb (n % 2) 1) ≡ n % 2
bit_again n = bit_forth (n % 2) (omega arith)

pub modifiers_forth : (w : ℕ) → T (upto five_bits w) → modifiers_number (modifiers_of w) ≡ w
unfolding modifiers_number modifiers_of
modifiers_forth w h =
    rw (bit_again (w / 1), bit_again (w / 2), bit_again (w / 4), bit_again (w / 8), bit_again (w / 16)) (five_bits_sum w (leb→le w five_bits h))
