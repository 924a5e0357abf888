-- The presses as words, and the words of the group put together. Assumes nothing.
use Rattle.std.specs.Prelude.{None, Some}
use Prim.Native.Nat.{ℕ, zero, suc, ◌+◌, ◌*◌, ◌%◌, ◌≤◌, ◌<◌}
use native.Mathlib.Omega.{arith}
use mathlib.Core.Path.{◌≡◌, refl, sym, ap, ap₂, subst, ◌∙◌}
use mathlib.Core.Bool.{Bool, true, false, cond}
use mathlib.Core.List.{List, [], ◌∷◌, ◌++◌}
use lib.Dec.{ltb, leb, le→leb}
use lib.ListN.{length, get_or, take, set, length-append, get_or-append}
use lib.Seq.{sets, take-suc, take-suc-set, get_or_at}
use borrow.Author.Tests.{leb-true, ltb-true, ltb-false}
use Rattle.data.specs.Bits.{bit_number}
use Rattle.data.specs.Limits.{key_count}
use Rattle.data.specs.Modifiers.{modifiers_number}
use Rattle.model.specs.Pass.{Keys}
use Rattle.key_state.specs.View.{presses_of, numbers_of}
use Rattle.key_state.proofs.Steps.{all_numbers}
use Rattle.image.specs.Codes.{In, Each, write, size, all, array}
use Rattle.image.specs.Places.{word_bad, span, bad_at, value_at, rows_bad, rows_at}
use Rattle.image.proofs.Lists.{or_else_none, read_row, each_more, sets_at}
use Rattle.image_keys.specs.Keys.{down_code, down_el, press_code, max_presses, keys_place, presses_place, keys_code, keys_el, keys_head}

-- a word each
pub all_words : (xs : List ℕ) → all (write press_code) xs ≡ xs
unfolding all write
all_words [] = refl
all_words (x ∷ xs) = ap (λ (z : List ℕ). x ∷ z) (all_words xs)

-- the group's words: those before the presses, then the presses
pub head_then : (s : Keys) → write keys_code (keys_el s) ≡ keys_head s ++ numbers_of s.presses key_count
unfolding write keys_head size
head_then s =
    ap write_head (all_words (numbers_of s.presses key_count))
  where
    write_head : List ℕ → List ℕ
    write_head z = 0x6000_0098 ∷ (write down_code (down_el s.keys_down) ++ (modifiers_number s.modifiers ∷ bit_number s.feed_empty ∷ z))

-- a word that is sound is a byte
sound_word : (ws : List ℕ) (i : ℕ) → bad_at press_code ws i ≡ None → get_or ws i 0 ≤ max_presses
unfolding bad_at word_bad
sound_word ws i h = go (ltb i (length ws)) (leb (get_or ws i 0) max_presses) refl h
  where
    go : (x y : Bool) → leb (get_or ws i 0) max_presses ≡ y → cond x (cond y None (Some i)) (Some i) ≡ None → get_or ws i 0 ≤ max_presses
    go true true e h = leb-true (get_or ws i 0) max_presses e
    go true false e h = let z : ◌≡◌ {A = ℕ} 0 1 = cc in absurd (omega arith)
    go false y e h = let z : ◌≡◌ {A = ℕ} 0 1 = cc in absurd (omega arith)

-- no row is wrong: none of them is
row_sound : (ws : List ℕ) (n i : ℕ) → rows_bad 1 (bad_at press_code) n ws i ≡ None → (j : ℕ) → j < n → bad_at press_code ws (i + j) ≡ None
unfolding rows_bad
row_sound ws zero i h j l = absurd (omega arith)
row_sound ws (suc n) i h zero l =
    let e : i + 0 ≡ i = omega arith in
    rw e (or_else_none (bad_at press_code ws i) (rows_bad 1 (bad_at press_code) n ws (i + 1)) h).0
row_sound ws (suc n) i h (suc j) l =
    let e : i + suc j ≡ i + 1 + j = omega arith in
    rw e (row_sound ws n (i + 1) (or_else_none (bad_at press_code ws i) (rows_bad 1 (bad_at press_code) n ws (i + 1)) h).1 j (omega arith))

pub byte_of : (ws : List ℕ) (n i : ℕ) → rows_bad 1 (bad_at press_code) n ws i ≡ None → (j : ℕ) → j < n → get_or ws (i + j) 0 % 256 ≡ get_or ws (i + j) 0
byte_of ws n i h j l = let k = sound_word ws (i + j) (row_sound ws n i h j l) in omega (arith, k)

-- a turn of the loop that reads
pub read_more : (ps ws : List ℕ) (at i w : ℕ) → i < length ps → w ≡ get_or ws (at + i) 0 → take i ps ≡ rows_at 1 (value_at press_code) i ws at
    → take (i + 1) (set ps i w) ≡ rows_at 1 (value_at press_code) (i + 1) ws at
unfolding value_at
read_more ps ws at i w h e f =
    let g : at + i * 1 ≡ at + i = omega arith in
    let a : i + 1 ≡ suc i = omega arith in
    rw (read_row 1 (value_at press_code) ws i at, g, a) (take-suc-set ps i w h ∙ ap₂ (λ (x : List ℕ) (y : ℕ). x ++ (y ∷ [])) f e)

-- the words written so far are in range
pub each_take : (xs : List ℕ) (i w : ℕ) → i < length xs → w ≡ get_or xs i 0 → w ≤ max_presses → Each (In press_code) (take i xs) → Each (In press_code) (take (i + 1) xs)
each_take xs i w h e l k =
    let a : i + 1 ≡ suc i = omega arith in
    let b : get_or xs i 0 ≤ max_presses = rw e at l in
    rw (a, take-suc xs i 0 h) (each_more (In press_code) (take i xs) (get_or xs i 0) k (le→leb (get_or xs i 0) max_presses b))

-- what a sound group says of its presses
pub presses_sound : (ws : List ℕ) → bad_at keys_code ws keys_place ≡ None → rows_bad 1 (bad_at press_code) key_count ws presses_place ≡ None
unfolding bad_at span size
presses_sound ws h =
    let a = (or_else_none _ _ h).1 in
    let b = (or_else_none _ _ a).1 in
    let c = (or_else_none _ _ b).1 in
    (or_else_none _ _ c).1

head_length : (s : Keys) → presses_place ≡ keys_place + length (keys_head s)
unfolding keys_head write
head_length s = refl

-- the group's words, as its two parts are written
pub keys_list : (s : Keys) (o head ps : List ℕ) → head ≡ keys_head s → length ps ≡ key_count → s.presses ≡ presses_of ps
    → sets (sets o keys_place head) presses_place ps ≡ sets o keys_place (write keys_code (keys_el s))
keys_list s o head ps e l f =
    let p : ps ≡ numbers_of s.presses key_count = all_numbers ps s.presses l (λ j. sym (ap (λ (g : ℕ → ℕ). g j) f)) in
    sets_at o keys_place presses_place head ps (head_length s ∙ ap (λ (z : List ℕ). keys_place + length z) (sym e)) ∙ ap (sets o keys_place) (ap₂ (λ (x y : List ℕ). x ++ y) e p ∙ sym (head_then s))

pub array_in : (ps : List ℕ) → length ps ≡ key_count → Each (In press_code) ps → In (array key_count press_code) (numbers_of (presses_of ps) key_count)
array_in ps l e =
    let p : ps ≡ numbers_of (presses_of ps) key_count = all_numbers ps (presses_of ps) l (λ j. refl) in
    subst (In (array key_count press_code)) p (l, e)

-- the number of key j stands at place j
numbers_length : (f : ℕ → ℕ) (n : ℕ) → length (numbers_of f n) ≡ n
unfolding numbers_of
numbers_length f zero = refl
numbers_length f (suc n) = omega (arith, length-append (numbers_of f n) (f n ∷ []), numbers_length f n)

-- the group has 153 words
pub keys_length : (s : Keys) → length (write keys_code (keys_el s)) ≡ 153
unfolding keys_head write
keys_length s =
    let e = ap length (head_then s) in
    let f = length-append (keys_head s) (numbers_of s.presses key_count) in
    let g = numbers_length s.presses key_count in
    let h = head_length s in
    omega (arith, e, f, g, h)

pub number_at : (f : ℕ → ℕ) (n j : ℕ) → j < n → get_or (numbers_of f n) j 0 ≡ f j
unfolding numbers_of
number_at f zero j h = absurd (omega arith)
number_at f (suc n) j h = go (ltb j n) refl (λ l. number_at f n j l)
  where
    go : (b : Bool) → ltb j n ≡ b → (j < n → get_or (numbers_of f n) j 0 ≡ f j) → get_or (numbers_of f n ++ (f n ∷ [])) j 0 ≡ f j
    go true t before = get_or-append (numbers_of f n) (f n ∷ []) 0 j (let l = numbers_length f n in omega (arith, ltb-true j n t)) ∙ before (ltb-true j n t)
    go false t before = let e : j ≡ n = omega (arith, ltb-false j n t) in rw e (get_or_at (numbers_of f n) (f n) [] 0 n (numbers_length f n))
