-- Reading is told by places. Assumes nothing.
use Rattle.std.specs.Prelude.{Option, None, Some}
use Prim.Native.Nat.{ℕ, zero, suc, ◌+◌, ◌-◌, ◌*◌, ◌≤◌}
use native.Mathlib.Omega.{arith}
use native.Mathlib.Nat.{add-mul}
use mathlib.Core.Path.{◌≡◌, refl, sym, ap, ap₂, ◌∙◌, subst}
use mathlib.Core.Bool.{Bool, true, false, not, cond}
use mathlib.Core.List.{List, [], ◌∷◌, ◌++◌}
use lib.Dec.{T, eqb, ltb, leb, leb→le, ltb→lt, nltb→le, eqb-suc-zero}
use lib.Seq.{drop-cons}
use lib.ListN.{length, get_or, drop, drop_of_length-le}
use lib.Ieee.{binary32, binary64, of_bits}
use Rattle.image.specs.Codes.{Code, word, single, double, id, both, array, maybe, group, table, blank, choice, keyed, ranked, El, size, header, single_ok, double_ok, Read, bad, good, then, read_word, read_two, read_zeros, read_option, read_times, read_keyed, count_of, table_ok, read, write}
use Rattle.image.specs.Places.{or_else, word_bad, two_at, two_bad, zeros_bad, rows_bad, rows_at, keys_bad, key_at, span, bad_at, value_at, Fixed, Placed, Told, ReadsByPlaces, WrittenIsThere, SoundIsWritten}
use Rattle.image.proofs.RoundTrip.{reads_back, is_written}
use Rattle.image.proofs.Sound.{word_sound}

data At (ws : List ℕ) (i : ℕ) : Type 0 where
  inside : ltb i (length ws) ≡ true → drop i ws ≡ get_or ws i 0 ∷ drop (suc i) ws → At ws i
  outside : ltb i (length ws) ≡ false → drop i ws ≡ [] → At ws i

at : (ws : List ℕ) (i : ℕ) → At ws i
at ws i = go (ltb i (length ws)) refl
  where
    go : (b : Bool) → ltb i (length ws) ≡ b → At ws i
    go true e = inside e (drop-cons ws i 0 (ltb→lt i (length ws) (subst T (sym e) tt)))
    go false e = outside e (drop_of_length-le ws (nltb→le i (length ws) (subst (λ (b : Bool). T (not b)) (sym e) tt)))

abbrev pair : {A B : Type 0} → A → B → A × B
pair v u = (v, u)

abbrev present : {A : Type 0} → A → Option A
present v = Some v

abbrev chosen : (f : ℕ → Code) (k : ℕ) → El (f k) → (k : ℕ) × El (f k)
chosen f k u = (k, u)

-- ---- readings put together
told_map : {A B : Type 0} (g : A → B) (r : Read A) (b : Option ℕ) (v : A) (ws : List ℕ) (k : ℕ) → Told r b v ws k → Told (then r (λ w j rest. good (g w) j rest)) b (g v) ws k
unfolding then
told_map g (bad j) b v ws k h = h
told_map g (good w j rest) b v ws k h = (h.0, ap g h.1, h.2, h.3)

told_then : {A B : Type 0} (r : Read A) (b : Option ℕ) (v : A) (ws : List ℕ) (k : ℕ) → Told r b v ws k
    → (f : A → ℕ → List ℕ → Read B) (c : Option ℕ) (u : B) (l : ℕ) → Told (f v k (drop k ws)) c u ws l → Told (then r f) (or_else b c) u ws l
unfolding then or_else
told_then (bad j) b v ws k h f c u l g = ap (λ (x : Option ℕ). or_else x c) h
told_then {A} (good w j rest) b v ws k h f c u l g =
    subst (λ (x : Option ℕ). Told (f w j rest) (or_else x c) u ws l) (sym h.0)
    (subst (λ (x : A). Told (f x j rest) c u ws l) (sym h.1) (subst (λ (x : ℕ). Told (f v x rest) c u ws l) (sym h.2) (subst (λ (x : List ℕ). Told (f v k x) c u ws l) (sym h.3) g)))

-- ---- a word at i, and two
word_told : (p : ℕ → Bool) (ws : List ℕ) (i : ℕ) → Told (read_word p i (drop i ws)) (word_bad p ws i) (get_or ws i 0) ws (suc i)
unfolding read_word word_bad
word_told p ws i = go (at ws i)
  where
    test : (b : Bool) → p (get_or ws i 0) ≡ b → Told (read_word p i (get_or ws i 0 ∷ drop (suc i) ws)) (cond (p (get_or ws i 0)) None (Some i)) (get_or ws i 0) ws (suc i)
    test true e = rw e (refl, refl, refl, refl)
    test false e = rw e refl

    go : At ws i → Told (read_word p i (drop i ws)) (cond (ltb i (length ws)) (cond (p (get_or ws i 0)) None (Some i)) (Some i)) (get_or ws i 0) ws (suc i)
    go (inside e d) = rw (e, d) (test (p (get_or ws i 0)) refl)
    go (outside e d) = rw (e, d) refl

two_told : (p : ℕ → Bool) (ws : List ℕ) (i : ℕ) → Told (read_two p i (drop i ws)) (two_bad p ws i) (two_at ws i) ws (suc (suc i))
unfolding read_two two_bad two_at
two_told p ws i = go (at ws i) (at ws (suc i))
  where
    test : (b : Bool) → p (two_at ws i) ≡ b → Told (read_two p i (get_or ws i 0 ∷ get_or ws (suc i) 0 ∷ drop (suc (suc i)) ws)) (cond (p (two_at ws i)) None (Some i)) (two_at ws i) ws (suc (suc i))
    test true e = rw e (refl, refl, refl, refl)
    test false e = rw e refl

    go : At ws i → At ws (suc i)
        → Told (read_two p i (drop i ws)) (cond (ltb i (length ws)) (cond (ltb (suc i) (length ws)) (cond (p (two_at ws i)) None (Some i)) (Some (suc i))) (Some i)) (two_at ws i) ws (suc (suc i))
    go (inside e d) (inside e' d') = rw (e, e', d, d') (test (p (two_at ws i)) refl)
    go (inside e d) (outside e' d') = rw (e, e', d, d') refl
    go (outside e d) y = rw (e, d) refl

zeros_told : (n : ℕ) (ws : List ℕ) (i : ℕ) → Told (read_zeros n i (drop i ws)) (zeros_bad n ws i) tt ws (i + n)
unfolding read_zeros zeros_bad
zeros_told zero ws i = let e : i ≡ i + 0 = omega arith in (refl, refl, e, ap (λ (z : ℕ). drop z ws) e)
zeros_told (suc n) ws i =
    let e : suc i + n ≡ i + suc n = omega arith in
    subst (λ (z : ℕ). Told (read_zeros (suc n) i (drop i ws)) (zeros_bad (suc n) ws i) tt ws z) e
    (told_then (read_word (eqb 0) i (drop i ws)) (word_bad (eqb 0) ws i) (get_or ws i 0) ws (suc i) (word_told (eqb 0) ws i) (λ w j rest. read_zeros n j rest) (zeros_bad n ws (suc i)) tt (suc i + n) (zeros_told n ws (suc i)))

moved : {A : Type 0} (r : Read A) (b : Option ℕ) (v : A) (ws : List ℕ) (k l : ℕ) → k ≡ l → Told r b v ws k → Told r b v ws l
moved r b v ws k l e h = subst (λ (z : ℕ). Told r b v ws z) e h

-- ---- entries
-- as told-then, where what follows is asked only if the first is good
told_after : {A B : Type 0} (r : Read A) (b : Option ℕ) (v : A) (ws : List ℕ) (k : ℕ) → Told r b v ws k
    → (f : A → ℕ → List ℕ → Read B) (c : Option ℕ) (u : B) (l : ℕ) → (b ≡ None → Told (f v k (drop k ws)) c u ws l) → Told (then r f) (or_else b c) u ws l
unfolding then or_else
told_after (bad j) b v ws k h f c u l g = ap (λ (x : Option ℕ). or_else x c) h
told_after (good w j rest) b v ws k h f c u l g = told_then (good w j rest) b v ws k h f c u l (g h.0)

module _ {A : Type 0} (r : ℕ → List ℕ → Read A) (s : ℕ) (b : List ℕ → ℕ → Option ℕ) (v : List ℕ → ℕ → A)
    (each : (ws : List ℕ) (i : ℕ) → Told (r i (drop i ws)) (b ws i) (v ws i) ws (i + s)) where
  rows_told : (k : ℕ) (ws : List ℕ) (i : ℕ) → Told (read_times k r i (drop i ws)) (rows_bad s b k ws i) (rows_at s v k ws i) ws (i + k * s)
  unfolding read_times rows_bad rows_at
  rows_told zero ws i = let e : i ≡ i + 0 * s = omega arith in (refl, refl, e, ap (λ (z : ℕ). drop z ws) e)
  rows_told (suc k) ws i =
      let j = i + s in
      let l = i + suc k * s in
      let h = moved (read_times k r j (drop j ws)) (rows_bad s b k ws j) (rows_at s v k ws j) ws (j + k * s) l (omega arith) (rows_told k ws j) in
      told_then (r i (drop i ws)) (b ws i) (v ws i) ws j (each ws i) (λ v j rest. then (read_times k r j rest) (λ vs l more. good (v ∷ vs) l more)) (rows_bad s b k ws j) (v ws i ∷ rows_at s v k ws j) l
      (told_map (λ (us : List A). v ws i ∷ us) (read_times k r j (drop j ws)) (rows_bad s b k ws j) (rows_at s v k ws j) ws l h)

  keys_told : (p : List ℕ → ℕ → Bool) (k : ℕ) (seen : List ℕ) (ws : List ℕ) (i : ℕ)
      → Told (read_keyed k p r seen i (drop i ws)) (keys_bad s p b k seen ws i) (rows_at (2 + s) (key_at v) k ws i) ws (i + k * (2 + s))
  unfolding read_keyed keys_bad rows_at
  keys_told p zero seen ws i = let e : i ≡ i + 0 * (2 + s) = omega arith in (refl, refl, e, ap (λ (z : ℕ). drop z ws) e)
  keys_told p (suc k) seen ws i =
      let d = two_at ws i in
      let u = v ws (i + 2) in
      let j = i + (2 + s) in
      let l = i + suc k * (2 + s) in
      let vs = rows_at (2 + s) (key_at v) k ws j in
      let c = keys_bad s p b k (d ∷ seen) ws j in
      let rest = read_keyed k p r (d ∷ seen) j (drop j ws) in
      let h = moved rest c vs ws (j + k * (2 + s)) l (omega arith) (keys_told p k (d ∷ seen) ws j) in
      let one : ℕ × A = (d, u) in
      let g = told_map (λ (us : List (ℕ × A)). one ∷ us) rest c vs ws l h in
      let f = moved (r (i + 2) (drop (i + 2) ws)) (b ws (i + 2)) u ws (i + 2 + s) j (omega arith) (each ws (i + 2)) in
      let m = told_then (r (i + 2) (drop (i + 2) ws)) (b ws (i + 2)) u ws j f (λ v l more. then (read_keyed k p r (d ∷ seen) l more) (λ vs o left. good ((d, v) ∷ vs) o left)) c (one ∷ vs) l g in
      let t = moved (read_two (p seen) i (drop i ws)) (two_bad (p seen) ws i) d ws (suc (suc i)) (i + 2) (omega arith) (two_told (p seen) ws i) in
      told_then (read_two (p seen) i (drop i ws)) (two_bad (p seen) ws i) d ws (i + 2) t
      (λ d j rest. then (r j rest) (λ v l more. then (read_keyed k p r (d ∷ seen) l more) (λ vs o left. good ((d, v) ∷ vs) o left))) (or_else (b ws (i + 2)) c) (one ∷ vs) l m

-- a count that passed its test
word_most : (m : ℕ) (ws : List ℕ) (i : ℕ) → word_bad (λ w. leb w m) ws i ≡ None → get_or ws i 0 ≤ m
word_most m ws i h = leb→le (get_or ws i 0) m (word_sound (λ w. leb w m) ws i h)

option_told : (a : Code) (ws : List ℕ) (i : ℕ) → Told (read a (suc i) (drop (suc i) ws)) (bad_at a ws (suc i)) (value_at a ws (suc i)) ws (suc i + size a) → (w : ℕ)
    → Told (read_option (size a) (read a) w (suc i) (drop (suc i) ws)) (cond (eqb w 0) (zeros_bad (size a) ws (suc i)) (bad_at a ws (suc i))) (cond (eqb w 0) None (Some (value_at a ws (suc i)))) ws (i + suc (size a))
unfolding read_option
option_told a ws i h zero =
    let r = read_zeros (size a) (suc i) (drop (suc i) ws) in
    let b = zeros_bad (size a) ws (suc i) in
    let no_value : Unit → Option (El a) = λ u. None in
    moved (then r (λ u j rest. good (no_value u) j rest)) b None ws (suc i + size a) (i + suc (size a)) (omega arith)
    (told_map no_value r b tt ws (suc i + size a) (zeros_told (size a) ws (suc i)))
option_told a ws i h (suc k) =
    let r = read a (suc i) (drop (suc i) ws) in
    let b = bad_at a ws (suc i) in
    let v = value_at a ws (suc i) in
    rw (eqb-suc-zero k)
    (moved (then r (λ u j rest. good (present u) j rest)) b (Some v) ws (suc i + size a) (i + suc (size a)) (omega arith) (told_map present r b v ws (suc i + size a) h))

both_told : (a b : Code) (ws : List ℕ) (i s t : ℕ) → Told (read a i (drop i ws)) (bad_at a ws i) (value_at a ws i) ws (i + s)
    → Told (read b (i + s) (drop (i + s) ws)) (bad_at b ws (i + s)) (value_at b ws (i + s)) ws (i + s + t)
    → Told (read (both a b) i (drop i ws)) (or_else (bad_at a ws i) (bad_at b ws (i + s))) (value_at a ws i, value_at b ws (i + s)) ws (i + (s + t))
unfolding read
both_told a b ws i s t h g =
    let k = i + s in
    let l = i + (s + t) in
    let v = value_at a ws i in
    let r = read b k (drop k ws) in
    let h' = moved r (bad_at b ws k) (value_at b ws k) ws (k + t) l (omega arith) g in
    told_then (read a i (drop i ws)) (bad_at a ws i) v ws k h (λ v j rest. then (read b j rest) (λ u l more. good (v, u) l more)) (bad_at b ws k) (v, value_at b ws k) l
    (told_map (λ (u : El b). pair v u) r (bad_at b ws k) (value_at b ws k) ws l h')

keyed_end : (i k m s : ℕ) → k ≤ m → suc i + k * s + (m - k) * s ≡ i + suc (m * s)
keyed_end i k m s h =
    let e : k + (m - k) ≡ m = omega arith in
    let f : k * s + (m - k) * s ≡ (k + (m - k)) * s = sym (add-mul k (m - k) s) in
    let g : (k + (m - k)) * s ≡ m * s = ap (λ (z : ℕ). z * s) e in
    omega (arith, f, g)

-- ---- every code of one size
span_fixed : (c : Code) → Fixed c → (ws : List ℕ) (i : ℕ) → span c ws i ≡ size c
unfolding span size
span_fixed (word p) x ws i = refl
span_fixed (single p) x ws i = refl
span_fixed (double p) x ws i = refl
span_fixed (id p) x ws i = refl
span_fixed (both a b) x ws i = ap₂ (λ (k l : ℕ). k + l) (span_fixed a x.0 ws i) (span_fixed b x.1 ws (i + span a ws i))
span_fixed (array n a) x ws i = refl
span_fixed (maybe a) x ws i = refl
span_fixed (group n a) x ws i = refl
span_fixed (table n m a) x ws i = absurd x
span_fixed (blank n) x ws i = refl
span_fixed (choice n f) x ws i = refl
span_fixed (keyed m p a) x ws i = refl
span_fixed (ranked n m p a) x ws i = absurd x

by_places : (c : Code) → Fixed c → (ws : List ℕ) (i : ℕ) → Told (read c i (drop i ws)) (bad_at c ws i) (value_at c ws i) ws (i + size c)
unfolding read bad_at value_at size
by_places (word p) x ws i = moved (read_word p i (drop i ws)) (word_bad p ws i) (get_or ws i 0) ws (suc i) (i + 1) (omega arith) (word_told p ws i)
by_places (single p) x ws i =
    let t = single_ok p in
    moved (then (read_word t i (drop i ws)) (λ w j rest. good (of_bits binary32 w) j rest)) (word_bad t ws i) (of_bits binary32 (get_or ws i 0)) ws (suc i) (i + 1) (omega arith)
    (told_map (of_bits binary32) (read_word t i (drop i ws)) (word_bad t ws i) (get_or ws i 0) ws (suc i) (word_told t ws i))
by_places (double p) x ws i =
    let t = double_ok p in
    moved (then (read_two t i (drop i ws)) (λ w j rest. good (of_bits binary64 w) j rest)) (two_bad t ws i) (of_bits binary64 (two_at ws i)) ws (suc (suc i)) (i + 2) (omega arith)
    (told_map (of_bits binary64) (read_two t i (drop i ws)) (two_bad t ws i) (two_at ws i) ws (suc (suc i)) (two_told t ws i))
by_places (id p) x ws i = moved (read_two p i (drop i ws)) (two_bad p ws i) (two_at ws i) ws (suc (suc i)) (i + 2) (omega arith) (two_told p ws i)
by_places (both a b) x ws i =
    rw (span_fixed a x.0 ws i)
    (both_told a b ws i (size a) (size b) (by_places a x.0 ws i) (by_places b x.1 ws (i + size a)))
by_places (array n a) x ws i = rows_told (read a) (size a) (bad_at a) (value_at a) (by_places a x) n ws i
by_places (maybe a) x ws i =
    let t : ℕ → Bool = λ w. ltb w 2 in
    let w = get_or ws i 0 in
    told_then (read_word t i (drop i ws)) (word_bad t ws i) w ws (suc i) (word_told t ws i) (λ w j rest. read_option (size a) (read a) w j rest)
    (cond (eqb w 0) (zeros_bad (size a) ws (suc i)) (bad_at a ws (suc i))) (cond (eqb w 0) None (Some (value_at a ws (suc i)))) (i + suc (size a)) (option_told a ws i (by_places a x ws (suc i)) w)
by_places (group n a) x ws i =
    let t = eqb (header n (size a)) in
    told_then (read_word t i (drop i ws)) (word_bad t ws i) (get_or ws i 0) ws (suc i) (word_told t ws i) (λ w j rest. read a j rest)
    (bad_at a ws (suc i)) (value_at a ws (suc i)) (i + suc (size a)) (moved (read a (suc i) (drop (suc i) ws)) (bad_at a ws (suc i)) (value_at a ws (suc i)) ws (suc i + size a) (i + suc (size a)) (omega arith) (by_places a x ws (suc i)))
by_places (table n m a) x ws i = absurd x
by_places (blank n) x ws i = zeros_told n ws i
by_places (choice n f) x ws i =
    let t : ℕ → Bool = λ w. ltb w n in
    let k = get_or ws i 0 in
    let l = i + suc (size (f 0)) in
    let e = (x k).1 in
    let r = read (f k) (suc i) (drop (suc i) ws) in
    let b = bad_at (f k) ws (suc i) in
    let v = value_at (f k) ws (suc i) in
    let h = moved r b v ws (suc i + size (f k)) l (omega (arith, e)) (by_places (f k) (x k).0 ws (suc i)) in
    told_then (read_word t i (drop i ws)) (word_bad t ws i) k ws (suc i) (word_told t ws i) (λ k j rest. then (read (f k) j rest) (λ v l more. good (k, v) l more)) b (k, v) l
    (told_map (λ (u : El (f k)). chosen f k u) r b v ws l h)
by_places (keyed m p a) x ws i =
    let t : ℕ → Bool = λ w. leb w m in
    let s = 2 + size a in
    let k = get_or ws i 0 in
    let j = suc i + k * s in
    let l = i + suc (m * s) in
    let vs = rows_at s (key_at (value_at a)) k ws (suc i) in
    let c = keys_bad (size a) p (bad_at a) k [] ws (suc i) in
    let b = zeros_bad ((m - k) * s) ws j in
    let same : Unit → List (ℕ × El a) = λ u. vs in
    told_after (read_word t i (drop i ws)) (word_bad t ws i) k ws (suc i) (word_told t ws i)
    (λ k j rest. then (read_keyed k p (read a) [] j rest) (λ vs l more. then (read_zeros ((m - k) * s) l more) (λ u o left. good vs o left))) (or_else c b) vs l
    (λ e.
    let f : k ≤ m = word_most m ws i e in
    let z = moved (read_zeros ((m - k) * s) j (drop j ws)) b tt ws (j + (m - k) * s) l (keyed_end i k m s f) (zeros_told ((m - k) * s) ws j) in
    told_then (read_keyed k p (read a) [] (suc i) (drop (suc i) ws)) c vs ws j (keys_told (read a) (size a) (bad_at a) (value_at a) (by_places a x) p k [] ws (suc i))
    (λ vs l more. then (read_zeros ((m - k) * s) l more) (λ u o left. good vs o left)) b vs l
    (told_map same (read_zeros ((m - k) * s) j (drop j ws)) b tt ws l z))
by_places (ranked n m p a) x ws i = absurd x

-- ---- and every code that is read by places
placed : (c : Code) → Placed c → (ws : List ℕ) (i : ℕ) → Told (read c i (drop i ws)) (bad_at c ws i) (value_at c ws i) ws (i + span c ws i)
unfolding read bad_at value_at size span
placed (word p) x ws i = by_places (word p) x ws i
placed (single p) x ws i = by_places (single p) x ws i
placed (double p) x ws i = by_places (double p) x ws i
placed (id p) x ws i = by_places (id p) x ws i
placed (both a b) x ws i = both_told a b ws i (span a ws i) (span b ws (i + span a ws i)) (placed a x.0 ws i) (placed b x.1 ws (i + span a ws i))
placed (array n a) x ws i = by_places (array n a) x ws i
placed (maybe a) x ws i = by_places (maybe a) x ws i
placed (group n a) x ws i = by_places (group n a) x ws i
placed (table n m a) x ws i =
    let s = size a in
    let t = table_ok n m s in
    let k = count_of n s (get_or ws i 0) in
    let l = i + suc (k * s) in
    let vs = rows_at s (value_at a) k ws (suc i) in
    let c = rows_bad s (bad_at a) k ws (suc i) in
    told_then (read_word t i (drop i ws)) (word_bad t ws i) (get_or ws i 0) ws (suc i) (word_told t ws i) (λ w j rest. read_times (count_of n s w) (read a) j rest) c vs l
    (moved (read_times k (read a) (suc i) (drop (suc i) ws)) c vs ws (suc i + k * s) l (omega arith) (rows_told (read a) s (bad_at a) (value_at a) (by_places a x) k ws (suc i)))
placed (blank n) x ws i = by_places (blank n) x ws i
placed (choice n f) x ws i = by_places (choice n f) x ws i
placed (keyed m p a) x ws i = by_places (keyed m p a) x ws i
placed (ranked n m p a) x ws i =
    let s = 2 + size a in
    let t = table_ok n m s in
    let k = count_of n s (get_or ws i 0) in
    let l = i + suc (k * s) in
    let vs = rows_at s (key_at (value_at a)) k ws (suc i) in
    let c = keys_bad (size a) p (bad_at a) k [] ws (suc i) in
    told_then (read_word t i (drop i ws)) (word_bad t ws i) (get_or ws i 0) ws (suc i) (word_told t ws i) (λ w j rest. read_keyed (count_of n s w) p (read a) [] j rest) c vs l
    (moved (read_keyed k p (read a) [] (suc i) (drop (suc i) ws)) c vs ws (suc i + k * s) l (omega arith) (keys_told (read a) (size a) (bad_at a) (value_at a) (by_places a x) p k [] ws (suc i)))

pub reads_by_places : ReadsByPlaces
reads_by_places c x ws i = placed c x ws i

-- ---- the two round trips, by places
pub written_is_there : WrittenIsThere
written_is_there c x v h ws i rest e =
    let t = subst (λ (z : List ℕ). Told (read c i z) (bad_at c ws i) (value_at c ws i) ws (i + span c ws i)) e (placed c x ws i) in
    let g = subst (λ (z : Read (El c)). Told z (bad_at c ws i) (value_at c ws i) ws (i + span c ws i)) (reads_back c v h i rest) t in
    record { sound = g.0; value = sym g.1; next = sym g.2 }

pub sound_is_written : SoundIsWritten
sound_is_written c x ws i k h = go (read c i (drop i ws)) refl (placed c x ws i)
  where
    go : (r : Read (El c)) → read c i (drop i ws) ≡ r → Told r (bad_at c ws i) (value_at c ws i) ws (i + span c ws i) → drop i ws ≡ write c (value_at c ws i) ++ drop (i + span c ws i) ws
    go (bad j) e t = let z : ◌≡◌ {A = ℕ} 0 1 = cc in absurd (omega arith)
    go (good v j rest) e t = is_written c i (drop i ws) k v j rest e ∙ ap₂ (λ (u : El c) (q : List ℕ). write c u ++ q) t.1 t.3
