-- A turn of each loop over the samples.
use Prim.Native.Nat.{ℕ, suc, ◌+◌, ◌-◌, ◌*◌, ◌≤◌, ◌<◌}
use native.Mathlib.Omega.{arith}
use native.Mathlib.Nat.{min-eq_left}
use mathlib.Core.Path.{◌≡◌, refl, sym, ap, ◌∙◌, subst}
use mathlib.Core.List.{List, [], ◌∷◌, map}
use lib.Dec.{T, leb, le→leb}
use lib.ListN.{length, get_or, drop, set, length-map}
use lib.Seq.{sets, drop-set-lt, drop-drop}
use lib.Ieee.{Float, nan, binary32, binary64, of_bits}
use Rattle.emath.specs.History.{Sample, max_len}
use Rattle.emath_history.specs.declared.history.History.{History}
use Rattle.emath_history.specs.Ring.{place, samples, sample_at, position_at, view, count}
use Rattle.emath_history.proofs.Samples.{samples_length, samples_more, samples_place, room}
use Rattle.image.specs.Codes.{write, all, size, In, Each, El}
use Rattle.image.specs.Places.{two_at, value_at, rows_at, span}
use Rattle.image.proofs.Lists.{put_row, all_length, read_row, map-append, each_more}
use Rattle.image_history.specs.History.{sample_code, sample_el, history_code, history_el, history_of, Filled}

pub four : (v : Float × (Float × Float)) → length (write sample_code v) ≡ 4
unfolding write
four v = refl

abbrev pub written : List Float → List Float → ℕ → ℕ → List ℕ
written ts ps start n = all (write sample_code) (history_el (samples ts ps start n))

-- one sample more is written
pub put_more : (l : List ℕ) (at start i : ℕ) (ts ps : List Float)
    → sets (sets l at (written ts ps start i)) (at + i * 4) (write sample_code (get_or ts (place (start + i)) nan, (get_or ps (place (start + i) * 2) nan, get_or ps (place (start + i) * 2 + 1) nan)))
    ≡ sets l at (written ts ps start (i + 1))
unfolding history_el sample_at position_at
put_more l at start i ts ps =
    let e : i + 1 ≡ suc i = omega arith in
    let n : i ≡ length (map sample_el (samples ts ps start i)) = sym (length-map (samples ts ps start i) sample_el ∙ samples_length ts ps start i) in
    put_row (write sample_code) 4 four l at i (map sample_el (samples ts ps start i)) (sample_el (sample_at ts ps (place (start + i)))) n
    ∙ ap (λ (z : List (Float × (Float × Float))). sets l at (all (write sample_code) z)) (rw (e, samples_more ts ps start i, map-append))

-- the whole group
pub put_all : (l : List ℕ) (at n : ℕ) (ts ps : List Float) (h : History) → n ≡ length (view ts ps h)
    → sets (set l at (0xA000_0000 + n * 4)) (at + 1) (written ts ps (place h.start) n) ≡ sets l at (write history_code (history_el (view ts ps h)))
unfolding write history_el view size
put_all l at n ts ps h e =
    let c : n ≡ count h = e ∙ samples_length ts ps h.start (count h) in
    let m : length (map sample_el (samples ts ps h.start (count h))) ≡ count h = length-map (samples ts ps h.start (count h)) sample_el ∙ samples_length ts ps h.start (count h) in
    let a : at + 1 ≡ suc at = omega arith in
    rw (a, m, c, samples_place ts ps h.start (count h))

-- one sample more is read
pub fill_more : (ts ps : List Float) (ws : List ℕ) (at i : ℕ) → i < max_len → i < length ts → i * 2 + 1 < length ps
    → samples ts ps 0 i ≡ history_of (rows_at 4 (value_at sample_code) i ws at)
    → samples (set ts i (of_bits binary64 (two_at ws (at + i * 4)))) (set (set ps (i * 2) (of_bits binary32 (get_or ws (at + i * 4 + 2) 0))) (i * 2 + 1) (of_bits binary32 (get_or ws (at + i * 4 + 3) 0))) 0 (i + 1)
    ≡ history_of (rows_at 4 (value_at sample_code) (i + 1) ws at)
unfolding history_of value_at span
fill_more ts ps ws at i h it ip e =
    let k = at + i * 4 in
    let d : i + 1 - max_len ≡ 0 = omega arith in
    let three : k + 2 + 1 ≡ k + 3 = omega arith in
    room ts ps i (of_bits binary64 (two_at ws k)) (record { x = of_bits binary32 (get_or ws (k + 2) 0); y = of_bits binary32 (get_or ws (k + 3) 0) }) it ip 0 i h (omega arith)
    ∙ rw (d, e, read_row 4 (value_at sample_code) ws i at, map-append, three)

pub kept_more : (xs ys : List Float) (n m i : ℕ) (v : Float) → drop n xs ≡ drop n ys → n ≤ m → i < m → drop m (set xs i v) ≡ drop m ys
kept_more xs ys n m i v e h l =
    let k : m ≡ n + (m - n) = omega arith in
    drop-set-lt m xs i v l ∙ ap (λ (z : ℕ). drop z xs) k ∙ sym (drop-drop (m - n) n xs) ∙ ap (drop (m - n)) e ∙ drop-drop (m - n) n ys ∙ ap (λ (z : ℕ). drop z ys) (sym k)

pub from_zero : (ts ps : List Float) (n : ℕ) → n ≤ max_len → view ts ps (record { start = 0; len = n }) ≡ samples ts ps 0 n
unfolding view
from_zero ts ps n h = rw (min-eq_left h)

pub put_none : (l : List ℕ) (at start : ℕ) (ts ps : List Float) → l ≡ sets l at (written ts ps start 0)
unfolding history_el samples all
put_none l at start ts ps = refl

pub kept_two : (xs ys : List Float) (n m i j : ℕ) (v u : Float) → drop n xs ≡ drop n ys → n ≤ m → i < m → j < m → drop m (set (set xs i v) j u) ≡ drop m ys
kept_two xs ys n m i j v u e h l k = drop-set-lt m (set xs i v) j u k ∙ kept_more xs ys n m i v e h l

-- what `len` gives
module _ (n : ℕ) (h : History) where
  pub is_count : (ts ps : List Float) → n ≡ length (view ts ps h) → n ≡ count h
  unfolding view
  is_count ts ps e = e ∙ samples_length ts ps h.start (count h)

-- ---- in range
pub each_none : (start : ℕ) (ts ps : List Float) → Each (In sample_code) (history_el (samples ts ps start 0))
unfolding history_el samples
each_none start ts ps = tt

pub each_sample : (start i : ℕ) (ts ps : List Float) → Each (In sample_code) (history_el (samples ts ps start i))
    → In sample_code (get_or ts (place (start + i)) nan, (get_or ps (place (start + i) * 2) nan, get_or ps (place (start + i) * 2 + 1) nan))
    → Each (In sample_code) (history_el (samples ts ps start (i + 1)))
unfolding history_el sample_at position_at
each_sample start i ts ps h g =
    let e : i + 1 ≡ suc i = omega arith in
    rw (e, samples_more ts ps start i, map-append) (each_more (In sample_code) (map sample_el (samples ts ps start i)) (sample_el (sample_at ts ps (place (start + i)))) h g)

pub in_history : (n : ℕ) (ts ps : List Float) (h : History) → n ≡ length (view ts ps h) → Each (In sample_code) (history_el (samples ts ps (place h.start) n)) → In history_code (history_el (view ts ps h))
unfolding history_el view size
in_history n ts ps h e k =
    let c : n ≡ count h = e ∙ samples_length ts ps h.start (count h) in
    let m : length (map sample_el (samples ts ps h.start (count h))) ≡ count h = length-map (samples ts ps h.start (count h)) sample_el ∙ samples_length ts ps h.start (count h) in
    let most : T (leb (count h) max_len) = le→leb (count h) max_len (omega arith) in
    (tt, subst (λ (z : ℕ). T (leb z max_len)) (sym m) most, rw (c, samples_place ts ps h.start (count h)) at k)

pub moved_filled : (n k : ℕ) (vs us : El history_code) (ts ps : List Float) (r : History) (ts' ps' : List Float) → n ≡ k → vs ≡ us → Filled n vs ts ps r ts' ps' → Filled k us ts ps r ts' ps'
moved_filled n k vs us ts ps r ts' ps' e g h = subst (λ (z : ℕ). Filled z us ts ps r ts' ps') e (subst (λ (z : El history_code). Filled n z ts ps r ts' ps') g h)

pub history_length : (vs : List Sample) → length (write history_code (history_el vs)) ≡ 1 + length vs * 4
unfolding write history_el
history_length vs = let e = all_length (write sample_code) 4 four (map sample_el vs) in let f = length-map vs sample_el in omega (arith, e, f)

pub history_of_el : (vs : El history_code) → history_el (history_of vs) ≡ vs
unfolding history_el history_of
history_of_el [] = refl
history_of_el (v ∷ vs) = ap {B = El history_code} (λ z. v ∷ z) (history_of_el vs)

pub history_back : (h : List Sample) → history_of (history_el h) ≡ h
unfolding history_of history_el
history_back [] = refl
history_back (s ∷ h) = ap {B = List Sample} (λ z. s ∷ z) (history_back h)
