-- Laws of the leaves. Assumes nothing.
use Rattle.std.specs.Prelude.{Option, None, Some}
use Prim.Native.Nat.{ℕ, zero, suc, ◌+◌, ◌*◌, ◌/◌, ◌≤◌, ◌<◌, ◌-◌}
use native.Mathlib.Omega.{arith}
use native.Mathlib.Nat.{div-mul-le_self}
use mathlib.Core.Path.{◌≡◌, refl, sym, ap, ◌∙◌}
use mathlib.Core.Bool.{Bool, true, false, ◌&&◌, cond}
use mathlib.Core.List.{List, [], ◌∷◌, append_assoc}
use lib.Dec.{eqb, ltb, leb}
use lib.ListN.{length, get_or, set, take, drop, replicate, length-take, get_or-eq_default}
use lib.Seq.{sets, sets-eq, take-suc, drop-drop}
use Rattle.image.proofs.Lists.{sets_append}
use borrow.Rule.Slice.PartMut.{put_mid}
use mir.Val.{Fits}
use mir.Syntax.{w64}
use borrow.Author.Tests.{lt-ltb, le-ltb, leb-true}
use lib.Ieee.{Float, binary32, binary64, of_bits, to_bits}
use Rattle.image_words.specs.Leaves.{any, ascending}
use Rattle.image.specs.Codes.{header, zeros, single_ok, double_ok, count_of, table_ok}
use Rattle.image.specs.Places.{or_else, word_bad, two_at, two_bad, zeros_bad, keys_bad}

pub and-true : (b : Bool) → b && true ≡ b
and-true true = refl
and-true false = refl

-- a float's test is that of its one form and that of its range
one_form : (a b : Bool) → (a && true) && b ≡ a && b
one_form true b = refl
one_form false b = refl

pub single_both : (p : Float → Bool) (w : ℕ) → single_ok any w && p (of_bits binary32 w) ≡ single_ok p w
unfolding single_ok
single_both p w = one_form (eqb (to_bits binary32 (of_bits binary32 w)) w) (p (of_bits binary32 w))

pub double_both : (p : Float → Bool) (b : ℕ) → double_ok any b && p (of_bits binary64 b) ≡ double_ok p b
unfolding double_ok
double_both p b = one_form (eqb (to_bits binary64 (of_bits binary64 b)) b) (p (of_bits binary64 b))

-- a field of one word
module _ (p : ℕ → Bool) (ws : List ℕ) (i : ℕ) where
  pub one_good : i < length ws → true ≡ p (get_or ws i 0) → None ≡ word_bad p ws i
  unfolding word_bad
  one_good h e = rw (lt-ltb i (length ws) h, ← e)

  pub one_wrong : false ≡ p (get_or ws i 0) → Some i ≡ word_bad p ws i
  unfolding word_bad
  one_wrong e = rw (← e) (either (ltb i (length ws)))
    where
      either : (b : Bool) → Some i ≡ cond b (Some i) (Some i)
      either true = refl
      either false = refl

  pub one_missing : length ws ≤ i → Some i ≡ word_bad p ws i
  unfolding word_bad
  one_missing h = rw (le-ltb i (length ws) h)

  -- and of two
  pub two_good : i + 1 < length ws → true ≡ p (two_at ws i) → None ≡ two_bad p ws i
  unfolding two_bad
  two_good h e = rw (lt-ltb i (length ws) (omega arith), lt-ltb (suc i) (length ws) (omega arith), ← e)

  pub two_wrong : i + 1 < length ws → false ≡ p (two_at ws i) → Some i ≡ two_bad p ws i
  unfolding two_bad
  two_wrong h e = rw (lt-ltb i (length ws) (omega arith), lt-ltb (suc i) (length ws) (omega arith), ← e)

  pub two_cut : i < length ws → length ws ≤ i + 1 → Some (i + 1) ≡ two_bad p ws i
  unfolding two_bad
  two_cut h l = let e : i + 1 ≡ suc i = omega arith in rw (lt-ltb i (length ws) h, le-ltb (suc i) (length ws) (omega arith), e)

  pub two_missing : length ws ≤ i → Some i ≡ two_bad p ws i
  unfolding two_bad
  two_missing h = rw (le-ltb i (length ws) h)

-- zeros
module _ (ws : List ℕ) where
  pub zeros_step : (n i : ℕ) → 0 < n → i < length ws → get_or ws i 0 ≡ 0 → zeros_bad n ws i ≡ zeros_bad (n - 1) ws (i + 1)
  unfolding zeros_bad or_else
  zeros_step zero i h l e = absurd (omega arith)
  zeros_step (suc n) i h l e =
      let a : suc n - 1 ≡ n = omega arith in
      let b : i + 1 ≡ suc i = omega arith in
      let g : true ≡ eqb 0 (get_or ws i 0) = rw e in
      rw (a, b, ← one_good (eqb 0) ws i l g)

  pub zeros_wrong : (n i : ℕ) → 0 < n → eqb 0 (get_or ws i 0) ≡ false → Some i ≡ zeros_bad n ws i
  unfolding zeros_bad or_else
  zeros_wrong zero i h e = absurd (omega arith)
  zeros_wrong (suc n) i h e = rw (← one_wrong (eqb 0) ws i (sym e))

  pub zeros_missing : (n i : ℕ) → 0 < n → length ws ≤ i → Some i ≡ zeros_bad n ws i
  unfolding zeros_bad or_else
  zeros_missing zero i h l = absurd (omega arith)
  zeros_missing (suc n) i h l = rw (← one_missing (eqb 0) ws i l)

  pub zeros_done : (n i : ℕ) → n ≤ 0 → None ≡ zeros_bad n ws i
  unfolding zeros_bad
  zeros_done zero i h = refl
  zeros_done (suc n) i h = absurd (omega arith)

  -- a turn of the loop that looks for one
  pub zeros_next : (n a i : ℕ) → i < n → a + i < length ws → get_or ws (a + i) 0 ≡ 0 → zeros_bad (n - i) ws (a + i) ≡ zeros_bad (n - (i + 1)) ws (a + (i + 1))
  zeros_next n a i h l e =
      let p : n - i - 1 ≡ n - (i + 1) = omega arith in
      let q : a + i + 1 ≡ a + (i + 1) = omega arith in
      rw (← p, ← q) (zeros_step (n - i) (a + i) (omega arith) l e)

  -- a value of no words
  pub two_none : (i : ℕ) → length ws ≤ i → 0 ≡ two_at ws i
  unfolding two_at
  two_none i h =
      let l : length ws ≤ suc i = omega arith in
      rw (get_or-eq_default ws 0 h, get_or-eq_default ws 0 l)

-- a turn of a loop that writes one word after the other
pub sets_more : {A : Type 0} (l : List A) (i n : ℕ) (xs : List A) (z : A) → n < length xs → set (sets l i (take n xs)) (i + n) (get_or xs n z) ≡ sets l i (take (n + 1) xs)
sets_more l i n xs z h =
    let e : i + n ≡ i + length (take n xs) = omega (arith, length-take n xs) in
    let f : n + 1 ≡ suc n = omega arith in
    rw (f, take-suc xs n z h) (ap (λ (k : ℕ). set (sets l i (take n xs)) k (get_or xs n z)) e ∙ sets_append l i (take n xs) (get_or xs n z ∷ []))

-- a part written over with words of its length
pub put_part : {A : Type 0} (l : List A) (i k : ℕ) (xs ys : List A) → ys ≡ xs → k ≡ length xs → i + length xs ≤ length l → put_mid i k l ys ≡ sets l i xs
put_part l i k xs ys e n h = let d = drop-drop (length xs) i l in rw (e, n, d, sets-eq xs l i h) (sym (append_assoc (take i l) xs (drop (i + length xs) l)))

-- a part filled with zeros
pub filled : (n m : ℕ) → m ≡ n → replicate m 0 ≡ zeros n
unfolding zeros
filled n m e = rw e (go n)
  where
    go : (k : ℕ) → replicate k 0 ≡ zeros k
    go zero = refl
    go (suc k) = ap (λ (z : List ℕ). 0 ∷ z) (go k)

-- a word that is not wrong passed its test
pub passed : (p : ℕ → Bool) (ws : List ℕ) (i : ℕ) → word_bad p ws i ≡ None → p (get_or ws i 0) ≡ true
unfolding word_bad
passed p ws i h = go (ltb i (length ws)) (p (get_or ws i 0)) h
  where
    go : (x y : Bool) → cond x (cond y None (Some i)) (Some i) ≡ None → y ≡ true
    go true true h = refl
    go true false h = let z : ◌≡◌ {A = ℕ} 0 1 = cc in absurd (omega arith)
    go false y h = let z : ◌≡◌ {A = ℕ} 0 1 = cc in absurd (omega arith)

-- ---- a list's header
module _ (name s w : ℕ) where
  pub count_is : (w - name * 0x1000_0000) / s ≡ count_of name s w
  unfolding count_of
  count_is = let e : w - name * 0x1000_0000 ≡ w - header name 0 = omega arith in rw e

  pub count_times : count_of name s w * s ≤ w
  unfolding count_of
  count_times = let h = div-mul-le_self (w - header name 0) s in omega (arith, h)

  pub table_most : (m : ℕ) → table_ok name m s w ≡ true → count_of name s w ≤ m
  unfolding table_ok
  table_most m h = leb-true (count_of name s w) m (second (eqb (header name (count_of name s w * s)) w) (leb (count_of name s w) m) h)
    where
      second : (a b : Bool) → a && b ≡ true → b ≡ true
      second true b h = h
      second false b h = let z : ◌≡◌ {A = ℕ} 0 1 = cc in absurd (omega arith)

pub fits_le : (a b : ℕ) → a ≤ b → Fits w64 b → Fits w64 a
fits_le a b h k = omega arith

-- ---- of the ids before only the last is looked at
module _ (s : ℕ) (f : List ℕ → ℕ → Option ℕ) (ws : List ℕ) where
  pub keys_last : (n : ℕ) (d : ℕ) (xs ys : List ℕ) (i : ℕ) → keys_bad s ascending f n (d ∷ xs) ws i ≡ keys_bad s ascending f n (d ∷ ys) ws i
  unfolding keys_bad ascending
  keys_last zero d xs ys i = refl
  keys_last (suc n) d xs ys i =
      ap (λ (z : Option ℕ). or_else (two_bad (ascending (d ∷ xs)) ws i) (or_else (f ws (i + 2)) z)) (keys_last n (two_at ws i) (d ∷ xs) (d ∷ ys) (i + (2 + s)))
