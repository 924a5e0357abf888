-- Keys as bits of words. Assumes nothing.
use Prim.Native.Nat.{ℕ, zero, suc, ◌+◌, ◌*◌, ◌/◌, ◌%◌, ◌^◌, ◌<◌}
use native.Mathlib.Omega.{arith}
use native.Mathlib.Nat.{pow-suc, div-div-eq-div-mul}
use mathlib.Core.Path.{◌≡◌, refl, sym, ap, ap₂, ◌∙◌}
use mathlib.Core.Bool.{Bool, true, false, cond}
use mathlib.Core.List.{[], ◌∷◌}
use lib.Arith.{mod-mul}
use lib.Pow.{pow_pos}
use lib.Dec.{T, eqb, ltb, leb, le→leb}
use lib.ListN.{get_or}
use borrow.Author.Tests.{lt-ltb, ltb-true}
use Rattle.data.specs.Bits.{bit_number}
use Rattle.data.specs.Limits.{key_count}
use Rattle.key_state.specs.Bits.{bit, has}
use Rattle.key_state.specs.View.{down_of}
use Rattle.key_state.specs.declared.bits.Set256.{Set256}
use Rattle.key_state.proofs.Members.{bit_is}
use Rattle.feed.proofs.RoundTrip.{bit_le}
use Rattle.image_options.proofs.Trip.{bit_again}
use Rattle.image.specs.Codes.{In, El, half, write}
use Rattle.image_keys.specs.Keys.{bits_number, down_code, down_el, down_words, keys_down_of, max_word, max_last, last_word}

-- ---- the bits of a number, from bit j on
pub bits_of : (n j x : ℕ) → bits_number n (λ k. bit k x) j ≡ x / 2 ^ j % 2 ^ n
unfolding bits_number
bits_of zero j x = let e : x / 2 ^ j % 1 ≡ 0 = omega arith in sym e
bits_of (suc n) j x =
    let y = x / 2 ^ j in
    let first : bit_number (bit j x) ≡ y % 2 = ap bit_number (sym (bit_is j x)) ∙ bit_again y in
    let next : x / 2 ^ suc j ≡ y / 2 = rw (pow-suc 2 j) (sym (div-div-eq-div-mul x (2 ^ j) 2)) in
    let rest : bits_number n (λ k. bit k x) (suc j) ≡ y / 2 % 2 ^ n = bits_of n (suc j) x ∙ ap (λ (z : ℕ). z % 2 ^ n) next in
    let whole : y % 2 ^ suc n ≡ (y / 2 % 2 ^ n) * 2 + y % 2 = rw (pow-suc 2 n) (mod-mul y (pow_pos n) (omega arith)) in
    rw (first, rest, whole) (omega arith)

-- the same keys, the same number
pub bits_same : (n : ℕ) (f g : ℕ → Bool) (k l : ℕ) → ((i : ℕ) → i < n → f (k + i) ≡ g (l + i)) → bits_number n f k ≡ bits_number n g l
unfolding bits_number
bits_same zero f g k l h = refl
bits_same (suc n) f g k l h =
    let a : k + 0 ≡ k = omega arith in
    let b : l + 0 ≡ l = omega arith in
    let first : f k ≡ g l = rw (a, b) at (h 0 (omega arith)) in
    let rest = bits_same n f g (suc k) (suc l) (λ i m.
    let c : suc k + i ≡ k + suc i = omega arith in
    let d : suc l + i ≡ l + suc i = omega arith in
    rw (c, d) (h (suc i) (omega arith))) in
    ap₂ (λ (x : Bool) (y : ℕ). bit_number x + 2 * y) first rest

pub bits_below : (n : ℕ) (f : ℕ → Bool) (k : ℕ) → bits_number n f k < 2 ^ n
unfolding bits_number
bits_below zero f k = omega arith
bits_below (suc n) f k =
    let a = bits_below n f (suc k) in
    let b = bit_le (f k) in
    let c : 2 ^ suc n ≡ 2 ^ n * 2 = pow-suc 2 n in
    omega (arith, a, b, c)

-- ---- the words of a set: keys k .. k + n are bits j .. of word q
member : (s : Set256) (k q j : ℕ) → k / 64 ≡ q → k % 64 ≡ j → has s k ≡ bit j (get_or s.words q 0)
unfolding has
member s k q j e f = rw (e, f)

part : (s : Set256) (n k q j : ℕ) → ((i : ℕ) → i < n → (k + i < key_count) × ((k + i) / 64 ≡ q) × ((k + i) % 64 ≡ j + i))
    → bits_number n (down_of s) k ≡ get_or s.words q 0 / 2 ^ j % 2 ^ n
part s n k q j h =
    bits_same n (down_of s) (λ i. bit i (get_or s.words q 0)) k j
    (λ i l.
    let g = h i l in
    rw (lt-ltb (k + i) key_count g.0) (member s (k + i) q (j + i) g.1 g.2))
    ∙ bits_of n j (get_or s.words q 0)

module _ (s : Set256) where
  pub word_0 : bits_number 32 (down_of s) 0 ≡ get_or s.words 0 0 % half
  word_0 = part s 32 0 0 0 (λ i l. (omega arith, omega arith, omega arith)) ∙ (let e : get_or s.words 0 0 / 1 ≡ get_or s.words 0 0 = omega arith in ap (λ (z : ℕ). z % half) e)

  pub word_1 : get_or s.words 0 0 / half < half → bits_number 32 (down_of s) 32 ≡ get_or s.words 0 0 / half
  word_1 h = part s 32 32 0 32 (λ i l. (omega arith, omega arith, omega arith)) ∙ (let x = get_or s.words 0 0 / half in let e : x % half ≡ x = omega arith in e)

  pub word_2 : bits_number 32 (down_of s) 64 ≡ get_or s.words 1 0 % half
  word_2 = part s 32 64 1 0 (λ i l. (omega arith, omega arith, omega arith)) ∙ (let e : get_or s.words 1 0 / 1 ≡ get_or s.words 1 0 = omega arith in ap (λ (z : ℕ). z % half) e)

  pub word_3 : get_or s.words 1 0 / half < half → bits_number 32 (down_of s) 96 ≡ get_or s.words 1 0 / half
  word_3 h = part s 32 96 1 32 (λ i l. (omega arith, omega arith, omega arith)) ∙ (let x = get_or s.words 1 0 / half in let e : x % half ≡ x = omega arith in e)

  pub word_4 : bits_number 17 (down_of s) 128 ≡ get_or s.words 2 0 % last_word
  word_4 = part s 17 128 2 0 (λ i l. (omega arith, omega arith, omega arith)) ∙ (let e : get_or s.words 2 0 / 1 ≡ get_or s.words 2 0 = omega arith in ap (λ (z : ℕ). z % last_word) e)

pub down_in : (f : ℕ → Bool) → In down_code (down_el f)
down_in f = (whole 0, (whole 32, (whole 64, (whole 96, le→leb (bits_number 17 f 128) max_last (let h = bits_below 17 f 128 in omega arith)))))
  where
    whole : (k : ℕ) → T (leb (bits_number 32 f k) max_word)
    whole k = le→leb (bits_number 32 f k) max_word (let h = bits_below 32 f k in omega arith)

-- the five words put together
pub down_list : (s : Set256) (a b d e f : ℕ)
    → a ≡ get_or s.words 0 0 % half → b ≡ get_or s.words 0 0 / half → b < half → d ≡ get_or s.words 1 0 % half → e ≡ get_or s.words 1 0 / half → e < half
    → f ≡ get_or s.words 2 0 % last_word
    → a ∷ b ∷ d ∷ e ∷ f ∷ [] ≡ write down_code (down_el (down_of s))
unfolding write
down_list s a b d e f ea eb lb ed ee le ef =
    rw (word_0 s, word_1 s (rw eb at lb), word_2 s, word_3 s (rw ee at le), word_4 s, ea, eb, ed, ee, ef)

-- ---- a word made of two: its low bits and its high bits
pub low_bit : (n i a b : ℕ) → i < n → bit i (a + b * 2 ^ n) ≡ bit i a
unfolding bit
low_bit zero i a b h = absurd (omega arith)
low_bit (suc n) zero a b h =
    let p = 2 ^ n in
    let e : a + b * 2 ^ suc n ≡ a + b * p * 2 = rw (pow-suc 2 n) (omega arith) in
    rw e (ap (λ (z : ℕ). eqb z 1) (let q = b * p in let g : (a + q * 2) % 2 ≡ a % 2 = omega arith in g))
low_bit (suc n) (suc i) a b h =
    let p = 2 ^ n in
    let e : a + b * 2 ^ suc n ≡ a + b * p * 2 = rw (pow-suc 2 n) (omega arith) in
    let f : (a + b * p * 2) / 2 ≡ a / 2 + b * p = (let q = b * p in let g : (a + q * 2) / 2 ≡ a / 2 + q = omega arith in g) in
    rw (e, f) (low_bit n i (a / 2) b (omega arith))

pub high_bit : (n i a b : ℕ) → a < 2 ^ n → bit (n + i) (a + b * 2 ^ n) ≡ bit i b
unfolding bit
high_bit zero i a b h =
    let e : a + b * 1 ≡ b = omega arith in
    let z : 0 + i ≡ i = omega arith in
    rw (z, e)
high_bit (suc n) i a b h =
    let p = 2 ^ n in
    let t : 2 ^ suc n ≡ p * 2 = pow-suc 2 n in
    let e : a + b * 2 ^ suc n ≡ a + b * p * 2 = rw t (omega arith) in
    let f : (a + b * p * 2) / 2 ≡ a / 2 + b * p = (let q = b * p in let g : (a + q * 2) / 2 ≡ a / 2 + q = omega arith in g) in
    let z : suc n + i ≡ suc (n + i) = omega arith in
    ap (λ (k : ℕ). bit k (a + b * 2 ^ suc n)) z ∙ ap (bit (n + i)) (ap (λ (w : ℕ). w / 2) e ∙ f) ∙ high_bit n i (a / 2) b (omega (arith, t))

-- ---- reading: a key's bit in the set that is made of the five words
pub set_bit : (v : El down_code) (s : Set256) → v.0 < half → v.1.1.0 < half
    → get_or s.words 0 0 ≡ v.0 + v.1.0 * half → get_or s.words 1 0 ≡ v.1.1.0 + v.1.1.1.0 * half → get_or s.words 2 0 ≡ v.1.1.1.1
    → (k : ℕ) → down_of s k ≡ keys_down_of v k
unfolding keys_down_of has
set_bit v s l0 l2 e0 e1 e2 k = go (ltb k key_count) refl
  where
    word_of : (q i : ℕ) → k / 32 ≡ q → k % 32 ≡ i → bit (k % 32) (get_or (down_words v) (k / 32) 0) ≡ bit i (get_or (down_words v) q 0)
    word_of q i e f = rw (e, f)

    set_of : (q i : ℕ) → k / 64 ≡ q → k % 64 ≡ i → bit (k % 64) (get_or s.words (k / 64) 0) ≡ bit i (get_or s.words q 0)
    set_of q i e f = rw (e, f)

    inside : (q : ℕ) → k / 32 ≡ q → k < key_count → bit (k % 64) (get_or s.words (k / 64) 0) ≡ bit (k % 32) (get_or (down_words v) (k / 32) 0)
    inside zero e h = set_of 0 (k % 32) (omega arith) (omega arith) ∙ rw e0 (low_bit 32 (k % 32) v.0 v.1.0 (omega arith)) ∙ sym (word_of 0 (k % 32) e refl)
    inside (suc zero) e h = set_of 0 (32 + k % 32) (omega arith) (omega arith) ∙ rw e0 (high_bit 32 (k % 32) v.0 v.1.0 l0) ∙ sym (word_of 1 (k % 32) e refl)
    inside (suc (suc zero)) e h = set_of 1 (k % 32) (omega arith) (omega arith) ∙ rw e1 (low_bit 32 (k % 32) v.1.1.0 v.1.1.1.0 (omega arith)) ∙ sym (word_of 2 (k % 32) e refl)
    inside (suc (suc (suc zero))) e h = set_of 1 (32 + k % 32) (omega arith) (omega arith) ∙ rw e1 (high_bit 32 (k % 32) v.1.1.0 v.1.1.1.0 l2) ∙ sym (word_of 3 (k % 32) e refl)
    inside (suc (suc (suc (suc zero)))) e h = set_of 2 (k % 32) (omega arith) (omega arith) ∙ rw e2 refl ∙ sym (word_of 4 (k % 32) e refl)
    inside (suc (suc (suc (suc (suc q))))) e h = absurd (omega arith)

    go : (b : Bool) → ltb k key_count ≡ b → cond b (bit (k % 64) (get_or s.words (k / 64) 0)) false ≡ cond b (bit (k % 32) (get_or (down_words v) (k / 32) 0)) false
    go true t = inside (k / 32) refl (ltb-true k key_count t)
    go false t = refl
