-- The bits of a word after one of them is set, and with them the members of a set. Assumes nothing.
use mathlib.Core.Path.{◌≡◌, refl, ap, ◌∙◌}
use mathlib.Core.Bool.{Bool, true, false, cond}
use mathlib.Core.List.{List, [], ◌∷◌}
use Prim.Native.Nat.{ℕ, zero, suc, ◌+◌, ◌-◌, ◌*◌, ◌/◌, ◌%◌, ◌^◌, ◌≤◌, ◌<◌}
use native.Mathlib.Omega.{arith}
use native.Mathlib.Nat.{pow-suc, mod-eq_of_lt, div-div-eq-div-mul}
use lib.Pow.{pow-lt}
use lib.Dec.{eqb}
use lib.ListN.{get_or, set, length, get_or-eq_default}
use lib.Seq.{get_or-set_same, get_or-set_other}
use borrow.Author.Tests.{eqb-true, eqb-false, eq-eqb, ne_eqb}
use Rattle.key_state.specs.declared.bits.Set256.{Set256}
use Rattle.key_state.specs.Bits.{bit, word_with, has}

pub shifted : (i : ℕ) → i < 64 → 1 * 2 ^ i % 2 ^ 64 ≡ 2 ^ i
shifted i h =
    let p : 2 ^ i < 2 ^ 64 = pow-lt h in
    mod-eq_of_lt (omega arith) ∙ omega arith

twice : (i : ℕ) → 2 ^ suc i ≡ 2 * 2 ^ i
twice i = pow-suc 2 i ∙ omega arith

-- the code's test
pub bit_is : (i w : ℕ) → eqb (w / 2 ^ i % 2) 1 ≡ bit i w
unfolding bit
bit_is zero w =
    let e : w / 1 ≡ w = omega arith in
    rw e
bit_is (suc i) w = rw (twice i, ← div-div-eq-div-mul w 2 (2 ^ i)) (bit_is i (w / 2))

pub no_bit : (i : ℕ) → bit i 0 ≡ false
unfolding bit
no_bit zero = refl
no_bit (suc i) = no_bit i

odd : (w : ℕ) → eqb (w % 2) 1 ≡ true → w % 2 ≡ 1
odd w h = eqb-true _ _ h

even : (w : ℕ) → eqb (w % 2) 1 ≡ false → w % 2 ≡ 0
even w h = go (w % 2) (omega arith) (eqb-false _ _ h)
  where
    go : (r : ℕ) → r < 2 → (r ≡ 1 → ⊥) → r ≡ 0
    go zero l n = refl
    go (suc zero) l n = absurd (n refl)
    go (suc (suc r)) l n = absurd (omega arith)

same_parity : (v w : ℕ) → v % 2 ≡ w % 2 → eqb (v % 2) 1 ≡ eqb (w % 2) 1
same_parity v w h = ap (λ (x : ℕ). eqb x 1) h

half : (j v w : ℕ) → v / 2 ≡ w / 2 → bit j (v / 2) ≡ bit j (w / 2)
half j v w h = ap (bit j) h

eqb_suc : (j i : ℕ) → eqb (suc j) (suc i) ≡ eqb j i
eqb_suc j i = go (eqb j i) refl
  where
    go : (b : Bool) → eqb j i ≡ b → eqb (suc j) (suc i) ≡ b
    go true t = eq-eqb (suc j) (suc i) (ap suc (eqb-true j i t))
    go false t =
        let n : j ≡ i → ⊥ = eqb-false j i t in
        ne_eqb (suc j) (suc i) (λ (q : suc j ≡ suc i). n (omega arith))

-- one bit more
bit_add : (i w : ℕ) → bit i w ≡ false → (j : ℕ) → bit j (w + 2 ^ i) ≡ cond (eqb j i) true (bit j w)
unfolding bit
bit_add zero w h zero = let e = even w h in eq-eqb ((w + 1) % 2) 1 (omega arith)
bit_add zero w h (suc j) =
    let e = even w h in
    rw (ne_eqb (suc j) 0 (λ (q : suc j ≡ 0). omega arith)) (half j (w + 1) w (omega arith))
bit_add (suc i) w h zero =
    let e = twice i in
    rw (ne_eqb 0 (suc i) (λ (q : ◌≡◌ {A = ℕ} 0 (suc i)). omega arith)) (same_parity (w + 2 ^ suc i) w (omega arith))
bit_add (suc i) w h (suc j) =
    let e = twice i in
    let q : (w + 2 ^ suc i) / 2 ≡ w / 2 + 2 ^ i = omega arith in
    rw (eqb_suc j i) (ap (bit j) q ∙ bit_add i (w / 2) h j)

pub at_least : (i w : ℕ) → bit i w ≡ true → 2 ^ i ≤ w
unfolding bit
at_least zero w h = let e = odd w h in omega arith
at_least (suc i) w h =
    let e = twice i in
    let l : 2 ^ i ≤ w / 2 = at_least i (w / 2) h in
    omega arith

-- one bit less
bit_sub : (i w : ℕ) → bit i w ≡ true → (j : ℕ) → bit j (w - 2 ^ i) ≡ cond (eqb j i) false (bit j w)
unfolding bit
bit_sub zero w h zero =
    let e = odd w h in
    ne_eqb ((w - 1) % 2) 1 (λ (k : (w - 1) % 2 ≡ 1). omega arith)
bit_sub zero w h (suc j) =
    let e = odd w h in
    rw (ne_eqb (suc j) 0 (λ (q : suc j ≡ 0). omega arith)) (half j (w - 1) w (omega arith))
bit_sub (suc i) w h zero =
    let e = twice i in
    let l : 2 ^ suc i ≤ w = at_least (suc i) w h in
    rw (ne_eqb 0 (suc i) (λ (q : ◌≡◌ {A = ℕ} 0 (suc i)). omega arith)) (same_parity (w - 2 ^ suc i) w (omega arith))
bit_sub (suc i) w h (suc j) =
    let e = twice i in
    let q : (w - 2 ^ suc i) / 2 ≡ w / 2 - 2 ^ i = omega arith in
    rw (eqb_suc j i) (ap (bit j) q ∙ bit_sub i (w / 2) h j)

pub room : (n i w : ℕ) → i < n → w < 2 ^ n → bit i w ≡ false → w + 2 ^ i < 2 ^ n
unfolding bit
room zero i w l f h = absurd (omega arith)
room (suc n) zero w l f h =
    let e = twice n in
    let z = even w h in
    omega arith
room (suc n) (suc i) w l f h =
    let e = twice n in
    let d = twice i in
    let r : w / 2 + 2 ^ i < 2 ^ n = room n i (w / 2) (omega arith) (omega arith) h in
    omega arith

pub bit_with : (i : ℕ) (present : Bool) (w j : ℕ) → bit j (word_with i present w) ≡ cond (eqb j i) present (bit j w)
unfolding word_with
bit_with i present w j = go (bit i w) refl present
  where
    same : (b : Bool) → bit i w ≡ b → bit j w ≡ cond (eqb j i) b (bit j w)
    same b h = case (eqb j i) refl
      where
        case : (t : Bool) → eqb j i ≡ t → bit j w ≡ cond t b (bit j w)
        case true t = ap (λ (x : ℕ). bit x w) (eqb-true _ _ t) ∙ h
        case false t = refl

    go : (b : Bool) → bit i w ≡ b → (present : Bool) → bit j (cond b (cond present w (w - 2 ^ i)) (cond present (w + 2 ^ i) w)) ≡ cond (eqb j i) present (bit j w)
    go true h true = same true h
    go true h false = bit_sub i w h j
    go false h true = bit_add i w h j
    go false h false = same false h

-- ---- sets
pub none_has : (k : ℕ) → has (record { words = 0 ∷ 0 ∷ 0 ∷ 0 ∷ [] }) k ≡ false
unfolding has
none_has k = rw (zeros (k / 64)) (no_bit (k % 64))
  where
    zeros : (i : ℕ) → ◌≡◌ {A = ℕ} (get_or (0 ∷ 0 ∷ 0 ∷ 0 ∷ []) i 0) 0
    zeros zero = refl
    zeros (suc zero) = refl
    zeros (suc (suc zero)) = refl
    zeros (suc (suc (suc zero))) = refl
    zeros (suc (suc (suc (suc i)))) = refl

pub beyond : (s : Set256) (k : ℕ) → length s.words ≡ 4 → 256 ≤ k → has s k ≡ false
unfolding has
beyond s k l h = rw (get_or-eq_default {A = ℕ} s.words 0 {n = k / 64} (omega arith)) (no_bit (k % 64))

-- the words with k's bit as it is told
module _ (ws : List ℕ) (k j : ℕ) (present : Bool) (here : k / 64 < length ws) where
  abbrev new : List ℕ
  new = set ws (k / 64) (word_with (k % 64) present (get_or ws (k / 64) 0))

  pub member : bit (j % 64) (get_or new (j / 64) 0) ≡ cond (eqb j k) present (bit (j % 64) (get_or ws (j / 64) 0))
  member = go (eqb (j / 64) (k / 64)) refl
    where
      other : (eqb j k ≡ false) → bit (j % 64) (get_or ws (j / 64) 0) ≡ cond (eqb j k) present (bit (j % 64) (get_or ws (j / 64) 0))
      other e = rw e

      within : (t : Bool) → eqb (j % 64) (k % 64) ≡ t → j / 64 ≡ k / 64 →
          cond t present (bit (j % 64) (get_or ws (k / 64) 0)) ≡ cond (eqb j k) present (bit (j % 64) (get_or ws (k / 64) 0))
      within true t e =
          let m : j % 64 ≡ k % 64 = eqb-true _ _ t in
          rw (eq-eqb j k (omega arith))
      within false t e =
          let m = eqb-false _ _ t in
          rw (ne_eqb j k (λ (q : j ≡ k). m (ap (λ (x : ℕ). x % 64) q)))

      go : (b : Bool) → eqb (j / 64) (k / 64) ≡ b → bit (j % 64) (get_or new (j / 64) 0) ≡ cond (eqb j k) present (bit (j % 64) (get_or ws (j / 64) 0))
      go true t =
          let e : j / 64 ≡ k / 64 = eqb-true _ _ t in
          rw (e, get_or-set_same ws (k / 64) (word_with (k % 64) present (get_or ws (k / 64) 0)) 0 here, bit_with (k % 64) present (get_or ws (k / 64) 0) (j % 64))
          (within (eqb (j % 64) (k % 64)) refl e)
      go false t =
          let n = eqb-false _ _ t in
          rw (get_or-set_other ws (k / 64) (j / 64) (word_with (k % 64) present (get_or ws (k / 64) 0)) 0 n)
          (other (ne_eqb j k (λ (q : j ≡ k). n (ap (λ (x : ℕ). x / 64) q))))
