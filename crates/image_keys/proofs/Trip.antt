-- Group 6: what stands for the keys gives them back, and every value in range stands for some. Assumes nothing.
use Prim.Native.Nat.{ℕ, zero, suc, ◌+◌, ◌*◌, ◌/◌, ◌%◌, ◌^◌, ◌≤◌, ◌<◌}
use native.Mathlib.Omega.{arith}
use mathlib.Core.Path.{◌≡◌, refl, sym, ap, ◌∙◌}
use mathlib.Core.Bool.{Bool, true, false, cond}
use lib.Dec.{eqb, ltb, leb→le}
use lib.ListN.{get_or}
use borrow.Author.Tests.{lt-ltb, ltb-true, ltb-false}
use Rattle.data.specs.Bits.{bit_number}
use Rattle.data.specs.Limits.{key_count}
use Rattle.model.specs.Pass.{Keys}
use Rattle.feed.proofs.RoundTrip.{bit_le}
use Rattle.key_state.specs.Bits.{bit}
use Rattle.key_state.specs.View.{presses_of, numbers_of}
use Rattle.key_state.proofs.Steps.{alike, all_numbers}
use native.Mathlib.Nat.{mod-eq_of_lt}
use Rattle.image_keys.proofs.Rows.{number_at}
use Rattle.image.specs.Codes.{El, In}
use Rattle.image_options.proofs.Trip.{boolean_back, boolean_forth, modifiers_again, modifiers_forth}
use Rattle.image_keys.specs.Keys.{bits_number, down_code, down_el, down_words, keys_down_of, keys_code, keys_el, keys_of, NoKeyBeyond, max_word, max_last}
use Rattle.image_keys.proofs.Bits.{bits_of, bits_same}

-- a bit of the number is its key's
parity : (b : Bool) (m : ℕ) → eqb ((bit_number b + 2 * m) % 2) 1 ≡ b
parity true m = let e : (1 + 2 * m) % 2 ≡ 1 = omega arith in rw e
parity false m = let e : (0 + 2 * m) % 2 ≡ 0 = omega arith in rw e

bit_back : (n : ℕ) (f : ℕ → Bool) (k i : ℕ) → i < n → bit i (bits_number n f k) ≡ f (k + i)
unfolding bits_number bit
bit_back zero f k i h = absurd (omega arith)
bit_back (suc n) f k zero h = let e : k + 0 ≡ k = omega arith in rw e (parity (f k) (bits_number n f (suc k)))
bit_back (suc n) f k (suc i) h =
    let b = bit_le (f k) in
    let m = bits_number n f (suc k) in
    let e : (bit_number (f k) + 2 * m) / 2 ≡ m = omega arith in
    let g : k + suc i ≡ suc k + i = omega arith in
    rw (e, g) (bit_back n f (suc k) i (omega arith))

down_back : (f : ℕ → Bool) → ((k : ℕ) → key_count ≤ k → f k ≡ false) → (k : ℕ) → keys_down_of (down_el f) k ≡ f k
unfolding keys_down_of
down_back f h k = go (ltb k key_count) refl
  where
    of_word : (q : ℕ) → k / 32 ≡ q → bit (k % 32) (get_or (down_words (down_el f)) (k / 32) 0) ≡ bit (k % 32) (get_or (down_words (down_el f)) q 0)
    of_word q e = rw e

    at : (n s : ℕ) → k % 32 < n → s + k % 32 ≡ k → bit (k % 32) (bits_number n f s) ≡ f k
    at n s l e = bit_back n f s (k % 32) l ∙ ap f e

    inside : (q : ℕ) → k / 32 ≡ q → k < key_count → bit (k % 32) (get_or (down_words (down_el f)) (k / 32) 0) ≡ f k
    inside zero e l = of_word 0 e ∙ at 32 0 (omega arith) (omega arith)
    inside (suc zero) e l = of_word 1 e ∙ at 32 32 (omega arith) (omega arith)
    inside (suc (suc zero)) e l = of_word 2 e ∙ at 32 64 (omega arith) (omega arith)
    inside (suc (suc (suc zero))) e l = of_word 3 e ∙ at 32 96 (omega arith) (omega arith)
    inside (suc (suc (suc (suc zero)))) e l = of_word 4 e ∙ at 17 128 (omega arith) (omega arith)
    inside (suc (suc (suc (suc (suc q))))) e l = absurd (omega arith)

    go : (b : Bool) → ltb k key_count ≡ b → cond b (bit (k % 32) (get_or (down_words (down_el f)) (k / 32) 0)) false ≡ f k
    go true t = inside (k / 32) refl (ltb-true k key_count t)
    go false t = sym (h k (ltb-false k key_count t))

pub keys_back : (s : Keys) → NoKeyBeyond s → keys_of (keys_el s) ≡ s
keys_back s h =
    rw (modifiers_again s.modifiers, boolean_back s.feed_empty)
    (alike s.modifiers s.feed_empty (down_back s.keys_down h.up) (λ j. pressed j (ltb j key_count) refl))
  where
    pressed : (j : ℕ) (b : Bool) → ltb j key_count ≡ b → cond b (get_or (numbers_of s.presses key_count) j 0) 0 ≡ s.presses j
    pressed j true t = number_at s.presses key_count j (ltb-true j key_count t)
    pressed j false t = sym (h.unpressed j (ltb-false j key_count t))

-- ---- and forth: the bits of a word are the word
module _ (v : El down_code) (h : In down_code v) where
  of_word : (k q i : ℕ) → k < key_count → k / 32 ≡ q → k % 32 ≡ i → keys_down_of v k ≡ bit i (get_or (down_words v) q 0)
  unfolding keys_down_of
  of_word k q i l e f = rw (lt-ltb k key_count l, e, f)

  word_forth : (n s q w : ℕ) → w ≡ get_or (down_words v) q 0 → w < 2 ^ n → ((i : ℕ) → i < n → (s + i < key_count) × ((s + i) / 32 ≡ q) × ((s + i) % 32 ≡ i))
      → bits_number n (keys_down_of v) s ≡ w
  word_forth n s q w e l g =
      bits_same n (keys_down_of v) (λ k. bit k w) s 0
      (λ i m. let z : 0 + i ≡ i = omega arith in rw (z, e) (of_word (s + i) q i (g i m).0 (g i m).1 (g i m).2))
      ∙ bits_of n 0 w ∙ (let a : w / 1 ≡ w = omega arith in ap (λ (z : ℕ). z % 2 ^ n) a ∙ mod-eq_of_lt l)

  pub down_forth : down_el (keys_down_of v) ≡ v
  down_forth =
      let a = leb→le v.0 max_word h.0 in
      let b = leb→le v.1.0 max_word h.1.0 in
      let c = leb→le v.1.1.0 max_word h.1.1.0 in
      let d = leb→le v.1.1.1.0 max_word h.1.1.1.0 in
      let e = leb→le v.1.1.1.1 max_last h.1.1.1.1 in
      rw (
        word_forth 32 0 0 v.0 refl (omega (arith, a)) (λ i l. (omega arith, omega arith, omega arith)),
        word_forth 32 32 1 v.1.0 refl (omega (arith, b)) (λ i l. (omega arith, omega arith, omega arith)),
        word_forth 32 64 2 v.1.1.0 refl (omega (arith, c)) (λ i l. (omega arith, omega arith, omega arith)),
        word_forth 32 96 3 v.1.1.1.0 refl (omega (arith, d)) (λ i l. (omega arith, omega arith, omega arith)),
        word_forth 17 128 4 v.1.1.1.1 refl (omega (arith, e)) (λ i l. (omega arith, omega arith, omega arith)),
      )

pub keys_forth : (v : El keys_code) → In keys_code v → keys_el (keys_of v) ≡ v
keys_forth v h =
    let p : v.1.1.1 ≡ numbers_of (presses_of v.1.1.1) key_count = all_numbers v.1.1.1 (presses_of v.1.1.1) h.1.1.1.0 (λ j. refl) in
    rw (down_forth v.0 h.0, modifiers_forth v.1.0 h.1.0, boolean_forth v.1.1.0 h.1.1.0, ← p)
