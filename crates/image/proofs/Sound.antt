-- What was read where no word is wrong is in range: one induction over the descriptions. Assumes nothing.
use Rattle.std.specs.Prelude.{Option, None, Some}
use Prim.Native.Nat.{ℕ, zero, suc, ◌+◌, ◌*◌}
use native.Mathlib.Omega.{arith}
use mathlib.Core.Path.{◌≡◌, refl, sym, subst}
use mathlib.Core.Bool.{Bool, true, false, cond}
use mathlib.Core.List.{List, []}
use lib.Dec.{T, eqb, ltb, leb}
use lib.ListN.{length, get_or}
use lib.Ieee.{Float, binary32, binary64, of_bits, to_bits, fits}
use lib.Ieee.Fits.{and_r}
use lib.Ieee.Bits.{of_bits-fits}
use Rattle.image.specs.Codes.{word, single, double, id, both, array, maybe, group, table, blank, choice, keyed, ranked, size, header, single_ok, double_ok, count_of, table_ok, In, Each, Keyed}
use Rattle.image.specs.Places.{word_bad, two_at, two_bad, zeros_bad, rows_bad, rows_at, keys_bad, key_at, bad_at, value_at, SoundIsIn}
use Rattle.image.proofs.Lists.{or_else_none, rows_length}

-- ---- a test that nothing is wrong with was passed
wrong : {A : Type 0} (i : ℕ) → Some i ≡ None → A
wrong i h = let z : ◌≡◌ {A = ℕ} 0 1 = cc in absurd (omega arith)

pub word_sound : (p : ℕ → Bool) (ws : List ℕ) (i : ℕ) → word_bad p ws i ≡ None → T (p (get_or ws i 0))
unfolding word_bad
word_sound p ws i h = go (ltb i (length ws)) (p (get_or ws i 0)) refl h
  where
    go : (x y : Bool) → p (get_or ws i 0) ≡ y → cond x (cond y None (Some i)) (Some i) ≡ None → T (p (get_or ws i 0))
    go true true e h = subst T (sym e) tt
    go true false e h = wrong i h
    go false y e h = wrong i h

two_sound : (p : ℕ → Bool) (ws : List ℕ) (i : ℕ) → two_bad p ws i ≡ None → T (p (two_at ws i))
unfolding two_bad
two_sound p ws i h = go (ltb i (length ws)) (ltb (suc i) (length ws)) (p (two_at ws i)) refl h
  where
    go : (x y z : Bool) → p (two_at ws i) ≡ z → cond x (cond y (cond z None (Some i)) (Some (suc i))) (Some i) ≡ None → T (p (two_at ws i))
    go true true true e h = subst T (sym e) tt
    go true true false e h = wrong i h
    go true false z e h = wrong (suc i) h
    go false y z e h = wrong i h

single_sound : (p : Float → Bool) (w : ℕ) → T (single_ok p w) → T (fits binary32 (of_bits binary32 w)) × T (p (of_bits binary32 w))
unfolding single_ok
single_sound p w h = (of_bits-fits binary32 w, and_r (eqb (to_bits binary32 (of_bits binary32 w)) w) (p (of_bits binary32 w)) h)

double_sound : (p : Float → Bool) (w : ℕ) → T (double_ok p w) → T (fits binary64 (of_bits binary64 w)) × T (p (of_bits binary64 w))
unfolding double_ok
double_sound p w h = (of_bits-fits binary64 w, and_r (eqb (to_bits binary64 (of_bits binary64 w)) w) (p (of_bits binary64 w)) h)

table_most : (n m s w : ℕ) → T (table_ok n m s w) → T (leb (count_of n s w) m)
unfolding table_ok
table_most n m s w h = and_r (eqb (header n (count_of n s w * s)) w) (leb (count_of n s w) m) h

-- ---- entries
module _ {A : Type 0} (P : A → Type 0) (s : ℕ) (b : List ℕ → ℕ → Option ℕ) (v : List ℕ → ℕ → A) (ws : List ℕ) (each : (i : ℕ) → b ws i ≡ None → P (v ws i)) where
  rows_in : (k i : ℕ) → rows_bad s b k ws i ≡ None → Each P (rows_at s v k ws i)
  unfolding rows_bad rows_at
  rows_in zero i h = tt
  rows_in (suc k) i h = let g = or_else_none _ _ h in (each i g.0, rows_in k (i + s) g.1)

  keys_in : (p : List ℕ → ℕ → Bool) (k : ℕ) (seen : List ℕ) (i : ℕ) → keys_bad s p b k seen ws i ≡ None → Keyed p P seen (rows_at (2 + s) (key_at v) k ws i)
  unfolding keys_bad rows_at
  keys_in p zero seen i h = tt
  keys_in p (suc k) seen i h =
      let g = or_else_none _ _ h in
      let f = or_else_none _ _ g.1 in
      (two_sound (p seen) ws i g.0, each (i + 2) f.0, keys_in p k _ (i + (2 + s)) f.1)

-- so many entries as a count says that is at most m
few : {A : Type 0} (s : ℕ) (v : List ℕ → ℕ → A) (ws : List ℕ) (k i m : ℕ) → T (leb k m) → T (leb (length (rows_at s v k ws i)) m)
few s v ws k i m h = subst (λ (z : ℕ). T (leb z m)) (sym (rows_length s v ws k i)) h

-- ---- every code
pub sound_is_in : SoundIsIn
unfolding bad_at value_at
sound_is_in (word p) z ws i h = word_sound p ws i h
sound_is_in (single p) z ws i h = single_sound p (get_or ws i 0) (word_sound (single_ok p) ws i h)
sound_is_in (double p) z ws i h = double_sound p (two_at ws i) (two_sound (double_ok p) ws i h)
sound_is_in (id p) z ws i h = two_sound p ws i h
sound_is_in (both a b) z ws i h = let g = or_else_none _ _ h in (sound_is_in a z.0 ws i g.0, sound_is_in b z.1 ws _ g.1)
sound_is_in (array n a) z ws i h = (rows_length (size a) (value_at a) ws n i, rows_in (In a) (size a) (bad_at a) (value_at a) ws (sound_is_in a z ws) n i h)
sound_is_in (maybe a) z ws i h = go (eqb (get_or ws i 0) 0) (sound_is_in a z ws (suc i)) (or_else_none _ _ h).1
  where
    go : (b : Bool) → (bad_at a ws (suc i) ≡ None → In a (value_at a ws (suc i))) → cond b (zeros_bad (size a) ws (suc i)) (bad_at a ws (suc i)) ≡ None
        → In (maybe a) (cond b None (Some (value_at a ws (suc i))))
    go true f h = tt
    go false f h = f h
sound_is_in (group n a) z ws i h = sound_is_in a z ws (suc i) (or_else_none _ _ h).1
sound_is_in (table n m a) z ws i h =
    let g = or_else_none _ _ h in
    let k = count_of n (size a) (get_or ws i 0) in
    let most = table_most n m (size a) (get_or ws i 0) (word_sound (table_ok n m (size a)) ws i g.0) in
    (z.0, few (size a) (value_at a) ws k (suc i) m most, rows_in (In a) (size a) (bad_at a) (value_at a) ws (sound_is_in a z.1 ws) k (suc i) g.1)
sound_is_in (blank n) z ws i h = tt
sound_is_in (choice n f) z ws i h =
    let g = or_else_none _ _ h in
    let k = get_or ws i 0 in
    (word_sound (λ w. ltb w n) ws i g.0, sound_is_in (f k) (z k) ws (suc i) g.1)
sound_is_in (keyed m p a) z ws i h =
    let g = or_else_none _ _ h in
    let k = get_or ws i 0 in
    (few (2 + size a) (key_at (value_at a)) ws k (suc i) m (word_sound (λ w. leb w m) ws i g.0), keys_in (In a) (size a) (bad_at a) (value_at a) ws (sound_is_in a z ws) p k [] (suc i) (or_else_none _ _ g.1).0)
sound_is_in (ranked n m p a) z ws i h =
    let g = or_else_none _ _ h in
    let s = 2 + size a in
    let k = count_of n s (get_or ws i 0) in
    let most = table_most n m s (get_or ws i 0) (word_sound (table_ok n m s) ws i g.0) in
    (few s (key_at (value_at a)) ws k (suc i) m most, keys_in (In a) (size a) (bad_at a) (value_at a) ws (sound_is_in a z ws) p k [] (suc i) g.1)
