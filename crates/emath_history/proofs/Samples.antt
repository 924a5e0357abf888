-- Laws of the samples in the ring: how many, where the last stands, one more, one written, one dropped. Assumes nothing.
use Prim.Native.Nat.{ℕ, zero, suc, ◌+◌, ◌-◌, ◌*◌, ◌≤◌, ◌<◌, min}
use native.Mathlib.Nat.{mod-eq_of_lt, min-eq_left}
use native.Mathlib.Omega.{arith}
use mathlib.Core.Path.{◌≡◌, refl, sym, ap, ◌∙◌}
use mathlib.Core.Bool.{Bool, true, false, ◌&&◌, cond}
use mathlib.Core.List.{List, [], ◌∷◌, ◌++◌}
use lib.Dec.{ltb}
use lib.ListN.{length, drop, get_or, set, length-append, length-set}
use lib.Seq.{get_or-set_same, get_or-set_other}
use lib.Ieee.{Float, nan, binary32, binary64, sub, lt, of_bits}
use Rattle.std.specs.Prelude.{Some, None}
use Rattle.ieee_narrow.specs.Narrow.{narrow}
use borrow.Author.Tests.{lt-ltb, le-ltb, ltb-true, ltb-false}
use Rattle.emath_history.specs.Types.{Pos2, History}
use Rattle.emath.specs.Vec.{pos_sub, vec_div}
use Rattle.emath.specs.History.{Sample, min_len, max_len, max_age, drop_old, flush, add, last, duration, velocity}
use Rattle.emath_history.specs.Ring.{place, position_at, sample_at, samples, count, view, free, grown, set_position}

add-zero : (i : ℕ) → i + 0 ≡ i
add-zero i = omega arith

shift : (i n : ℕ) → i + suc n ≡ suc i + n
shift i n = omega arith

next : (i : ℕ) → i + 1 ≡ suc i
next i = omega arith

less : (n : ℕ) → suc n - 1 ≡ n
less n = omega arith

none_over : (n : ℕ) → n ≤ max_len → n - max_len ≡ 0
none_over n h = omega arith

one_over : (n : ℕ) → n ≡ max_len → n + 1 - max_len ≡ 1
one_over n h = omega arith

pub place_next : (i : ℕ) → place (place i + 1) ≡ place (i + 1)
place_next i = omega arith

-- the place of the last of n samples, as the code reckons it
abbrev pub last_place : ℕ → ℕ → ℕ
last_place i n = place (place i + (n - 1))

module _ (ts ps : List Float) where
  pub samples_length : (i n : ℕ) → length (samples ts ps i n) ≡ n
  unfolding samples
  samples_length i zero = refl
  samples_length i (suc n) = ap suc (samples_length (suc i) n)

  -- which multiple of 1,000 the first place lies beyond does not show
  pub samples_same : (i j n : ℕ) → place i ≡ place j → samples ts ps i n ≡ samples ts ps j n
  unfolding samples
  samples_same i j zero e = refl
  samples_same i j (suc n) e = rw (e, samples_same (suc i) (suc j) n (omega arith))

  pub samples_place : (i n : ℕ) → samples ts ps (place i) n ≡ samples ts ps i n
  samples_place i n = samples_same (place i) i n (omega arith)

  pub samples_more : (i n : ℕ) → samples ts ps i (suc n) ≡ samples ts ps i n ++ (sample_at ts ps (place (i + n)) ∷ [])
  unfolding samples
  samples_more i zero = rw add-zero
  samples_more i (suc n) = rw (samples_more (suc i) n, shift i n)

  pub last_sample : (i n : ℕ) → last (sample_at ts ps (place i)) (samples ts ps (suc i) n) ≡ sample_at ts ps (place (i + n))
  unfolding samples last
  last_sample i zero = rw add-zero
  last_sample i (suc n) = rw (last_sample (suc i) n, shift i n)

  -- ---- one sample dropped: the loop of `flush`
  module _ (limit : Float) where
    pub few : (i n : ℕ) → n ≤ min_len → drop_old limit (samples ts ps i n) ≡ samples ts ps i n
    unfolding samples drop_old
    few i zero h = refl
    few i (suc n) h = rw (samples_length (suc i) n, le-ltb min_len (suc n) h)

    pub recent : (i n : ℕ) → i < max_len → min_len < n → lt (get_or ts i nan) limit ≡ false → drop_old limit (samples ts ps i n) ≡ samples ts ps i n
    unfolding samples sample_at drop_old
    recent i zero l h e = absurd (omega arith)
    recent i (suc n) l h e = rw (mod-eq_of_lt l, e) (either (ltb min_len (suc (length (samples ts ps (suc i) n)))))
      where
        either : (b : Bool) → cond (b && false) (drop_old limit (samples ts ps (suc i) n)) (sample_at ts ps i ∷ samples ts ps (suc i) n) ≡ sample_at ts ps i ∷ samples ts ps (suc i) n
        either true = refl
        either false = refl

    pub dropped : (i n : ℕ) → i < max_len → min_len < n → lt (get_or ts i nan) limit ≡ true → drop_old limit (samples ts ps i n) ≡ drop_old limit (samples ts ps (place (i + 1)) (n - 1))
    unfolding samples sample_at drop_old
    dropped i zero l h e = absurd (omega arith)
    dropped i (suc n) l h e =
        rw (mod-eq_of_lt l, e, samples_length (suc i) n, lt-ltb min_len (suc n) h, samples_place (i + 1) (suc n - 1), next i, less n)

  -- ---- the first and the last
  pub view_count : (h : History) → length (view ts ps h) ≡ count h
  unfolding view
  view_count h = samples_length h.start (count h)

  pub duration_none : (i n : ℕ) → n ≡ 0 → of_bits binary32 0 ≡ duration (samples ts ps i n)
  unfolding samples duration of_bits
  duration_none i n e = rw e

  pub velocity_none : (i n : ℕ) → n ≡ 0 → None ≡ velocity (samples ts ps i n)
  unfolding samples velocity
  velocity_none i n e = rw e

  last_at : (i n : ℕ) → last (sample_at ts ps (place i)) (samples ts ps (suc i) n) ≡ sample_at ts ps (last_place i (suc n))
  last_at i n = last_sample i n ∙ ap (sample_at ts ps) (omega arith)

  pub duration_some : (i n : ℕ) → (n ≡ 0 → ⊥) → narrow binary32 (sub binary64 (get_or ts (last_place i n) nan) (get_or ts (place i) nan)) ≡ duration (samples ts ps i n)
  unfolding samples sample_at duration
  duration_some i zero h = absurd (h refl)
  duration_some i (suc n) h = rw (last_at i n)

  module _ (d : Float) where
    pub velocity_some : (i n : ℕ) → (n ≡ 0 → ⊥) → d ≡ duration (samples ts ps i n) → lt (of_bits binary32 0) d ≡ true → Some (vec_div (pos_sub (position_at ps (last_place i n)) (position_at ps (place i))) d) ≡ velocity (samples ts ps i n)
    unfolding samples sample_at velocity of_bits
    velocity_some i zero h e l = absurd (h refl)
    velocity_some i (suc n) h e l = rw (← e, l, last_at i n)

    pub velocity_slow : (i n : ℕ) → (n ≡ 0 → ⊥) → d ≡ duration (samples ts ps i n) → lt (of_bits binary32 0) d ≡ false → None ≡ velocity (samples ts ps i n)
    unfolding samples velocity of_bits
    velocity_slow i zero h e l = absurd (h refl)
    velocity_slow i (suc n) h e l = rw (← e, l)

  -- at most 1,000 are there already
  pub flush_few : (now : Float) (i n : ℕ) → n ≤ max_len → flush now (samples ts ps i n) ≡ drop_old (sub binary64 now max_age) (samples ts ps i n)
  unfolding flush
  flush_few now i n h = rw (samples_length i n, none_over n h)

  pub flush_view : (now : Float) (h : History) → flush now (view ts ps h) ≡ drop_old (sub binary64 now max_age) (view ts ps h)
  unfolding view
  flush_view now h = flush_few now h.start (count h) (omega arith)

  -- what is left where nothing more is to be dropped
  pub flushed : (now : Float) (h r : History) (n : ℕ) → n ≡ count h → r.len ≤ max_len → drop_old (sub binary64 now max_age) (samples ts ps (place h.start) n) ≡ drop_old (sub binary64 now max_age) (samples ts ps r.start r.len) → drop_old (sub binary64 now max_age) (samples ts ps r.start r.len) ≡ samples ts ps r.start r.len → view ts ps r ≡ flush now (view ts ps h)
  unfolding view
  flushed now h r n c l d e =
      rw (min-eq_left l, flush_few now h.start (count h) (omega arith), ← c, ← samples_place h.start n) (sym e ∙ sym d)

-- The loop of `flush`: where it began and where it stands, the limit drops down to the same samples.
pub record Dropping (limit : Float) (times : List Float) (from_start from_len start len : ℕ) : Type 0 where
  pub in_ring : start < max_len
  pub held : len ≤ max_len
  pub same : (positions : List Float) → drop_old limit (samples times positions from_start from_len) ≡ drop_old limit (samples times positions start len)

-- ---- one sample written

abbrev pub new : Float → Pos2 → Sample
new t p = record { time = t; pos = p }

-- two of at most 1,000 samples stand at two places
apart : (s n k : ℕ) → k < n → n < max_len → place (s + k) ≡ place (s + n) → ⊥
apart s n k h g e = omega arith

module _ (ts ps : List Float) (i : ℕ) (t : Float) (p : Pos2) where
  other : (j : ℕ) → (j ≡ i → ⊥) → sample_at (set ts i t) (set_position ps i p) j ≡ sample_at ts ps j
  unfolding sample_at position_at
  other j h =
      rw (
        get_or-set_other ts i j t nan h,
        get_or-set_other (set ps (i * 2) p.x) (i * 2 + 1) (j * 2) p.y nan (λ e. omega arith),
        get_or-set_other ps (i * 2) (j * 2) p.x nan (λ e. h (omega arith)),
        get_or-set_other (set ps (i * 2) p.x) (i * 2 + 1) (j * 2 + 1) p.y nan (λ e. h (omega arith)),
        get_or-set_other ps (i * 2) (j * 2 + 1) p.x nan (λ e. omega arith),
      )

  others : (s m : ℕ) → ((k : ℕ) → k < m → place (s + k) ≡ i → ⊥) → samples (set ts i t) (set_position ps i p) s m ≡ samples ts ps s m
  unfolding samples
  others s zero h = refl
  others s (suc m) h =
      rw (
        other (place s) (λ e. h 0 (omega arith) (ap place (add-zero s) ∙ e)),
        others (suc s) m (λ k l e. h (suc k) (omega arith) (ap place (shift s k) ∙ e)),
      )

  module _ (in-times : i < length ts) (in-positions : i * 2 + 1 < length ps) where
    written : sample_at (set ts i t) (set_position ps i p) i ≡ new t p
    unfolding sample_at position_at
    written =
        rw (
          get_or-set_same ts i t nan in-times,
          get_or-set_same (set ps (i * 2) p.x) (i * 2 + 1) p.y nan (rw length-set in-positions),
          get_or-set_other (set ps (i * 2) p.x) (i * 2 + 1) (i * 2) p.y nan (λ e. omega arith),
          get_or-set_same ps (i * 2) p.x nan (omega arith),
        )

    appended : (s n : ℕ) → n < max_len → i ≡ place (s + n) → samples (set ts i t) (set_position ps i p) s (suc n) ≡ samples ts ps s n ++ (new t p ∷ [])
    appended s n h e =
        samples_more (set ts i t) (set_position ps i p) s n
        ∙ rw (others s n (λ k l f. apart s n k l h (f ∙ e)), ← e, written)

    -- a place is free
    pub room : (s n : ℕ) → n < max_len → i ≡ place (s + n) → samples (set ts i t) (set_position ps i p) s (n + 1) ≡ drop (n + 1 - max_len) (samples ts ps s n ++ (new t p ∷ []))
    room s n h e = rw (none_over (n + 1) (omega arith), next n) (appended s n h e)

    -- all places are taken: the oldest sample's is written
    pub full : (s n : ℕ) → n ≡ max_len → i ≡ place (s + n) → samples (set ts i t) (set_position ps i p) (place (s + 1)) n ≡ drop (n + 1 - max_len) (samples ts ps s n ++ (new t p ∷ []))
    unfolding samples
    full s zero h e = absurd (omega arith)
    full s (suc m) h e =
        samples_same (set ts i t) (set_position ps i p) (place (s + 1)) (suc s) (suc m) (omega arith)
        ∙ rw (one_over (suc m) h) (appended (suc s) m (omega arith) (e ∙ ap place (shift s m)))

-- ---- what an addition makes, before it flushes
module _ (ts ps : List Float) (h : History) (t : Float) (p : Pos2) where
  abbrev pub extended : List Sample
  extended = view ts ps h ++ (new t p ∷ [])

  over : length extended - max_len ≡ count h + 1 - max_len
  over = rw (length-append, view_count ts ps h)

  pub grown_view : free h < length ts → free h * 2 + 1 < length ps → view (set ts (free h) t) (set_position ps (free h) p) (grown h) ≡ drop (length extended - max_len) extended
  unfolding view grown
  grown_view it ip = rw over (go (ltb h.len max_len) refl)
    where
      go : (b : Bool) → ltb h.len max_len ≡ b → view (set ts (free h) t) (set_position ps (free h) p) (grown h) ≡ drop (count h + 1 - max_len) extended
      go true e =
          let l : h.len < max_len = ltb-true h.len max_len e in
          let n : min (h.len + 1) max_len ≡ count h + 1 = omega arith in
          rw (e, n) (room ts ps (free h) t p it ip h.start (count h) (omega arith) refl)
      go false e =
          let l : max_len ≤ h.len = ltb-false h.len max_len e in
          let n : count h ≡ max_len = omega arith in
          rw e (ap (samples (set ts (free h) t) (set_position ps (free h) p) (place (h.start + 1))) (sym n) ∙ full ts ps (free h) t p it ip h.start (count h) n refl)

  pub add_grown : free h < length ts → free h * 2 + 1 < length ps → flush t (view (set ts (free h) t) (set_position ps (free h) p) (grown h)) ≡ add t p (view ts ps h)
  unfolding add flush
  add_grown it ip = flush_view (set ts (free h) t) (set_position ps (free h) p) t (grown h) ∙ rw (grown_view it ip)
