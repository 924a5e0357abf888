-- A walk through the words of a hit list, two at a time. Assumes nothing.
use Prim.Native.Nat.{ℕ, suc, ◌+◌, ◌*◌, ◌/◌, ◌<◌, ◌≤◌, max}
use mathlib.Core.Path.{◌≡◌, refl, ap}
use mathlib.Core.Bool.{Bool, true, false, cond, ◌||◌}
use Rattle.std.specs.Prelude.{Option, None, Some}
use Rattle.std.specs.Option.{is_some, unwrap_or}
use lib.Dec.{eqb}
use mathlib.Core.List.{List, [], ◌∷◌, ◌++◌}
use native.Mathlib.Numerals.{add-one}
use native.Mathlib.Omega.{arith}
use borrow.Author.Tests.{eq-eqb, ne_eqb}
use lib.ListN.{length, get_or, drop, length-drop}
use lib.Seq.{drop-cons}
use Rattle.model.specs.Interact.{Hit, has_hit, order_from}
use Rattle.hit_lists.specs.Hits.{hits_of, hit_of, position_from, seek_from}

-- the entries from entry i on, and entry i
abbrev pub rest : List ℕ → ℕ → List Hit
rest ws i = hits_of (drop (i * 2) ws)

abbrev pub at : List ℕ → ℕ → Hit
at ws i = hit_of (get_or ws (i * 2) 0) (get_or ws (i * 2 + 1) 0)

pub short : (ws : List ℕ) → length ws < 2 → hits_of ws ≡ []
unfolding hits_of
short [] h = refl
short (a ∷ []) h = refl
short (a ∷ b ∷ ws) h = absurd (omega arith)

pub done : (ws : List ℕ) (i : ℕ) → length ws / 2 ≤ i → rest ws i ≡ []
done ws i h = short (drop (i * 2) ws) (simp length-drop (omega arith))

pub next : (ws : List ℕ) (i : ℕ) → i < length ws / 2 → rest ws i ≡ at ws i ∷ rest ws (i + 1)
unfolding hits_of
next ws i h =
    let a : i * 2 < length ws = omega arith in
    let b : suc (i * 2) < length ws = omega arith in
    let e : (i + 1) * 2 ≡ suc (suc (i * 2)) = omega arith in
    rw (e, add-one, drop-cons ws (i * 2) 0 a, drop-cons ws (suc (i * 2)) 0 b)

-- the first two words are an entry
pub split : (ahead one more : List ℕ) → ahead ≡ one ++ more → length one ≡ 2 → hits_of ahead ≡ hit_of (get_or one 0 0) (get_or one 1 0) ∷ hits_of more
unfolding hits_of
split ahead [] more e n = absurd (omega (arith, n))
split ahead (a ∷ []) more e n = absurd (omega (arith, n))
split ahead (a ∷ b ∷ []) more e n = ap hits_of e
split ahead (a ∷ b ∷ d ∷ one) more e n = absurd (omega (arith, n))

-- as many entries as pairs of words
pub entries : (ws : List ℕ) → length (hits_of ws) ≡ length ws / 2
unfolding hits_of
entries [] = refl
entries (a ∷ []) = refl
entries (a ∷ b ∷ ws) = omega (arith, entries ws)

-- ---- looking for an id

module _ (ws : List ℕ) (d i : ℕ) where
  pub hit_here : i < length ws / 2 → d ≡ (at ws i).id → has_hit d (rest ws i) ≡ true
  unfolding has_hit
  hit_here h e = rw (next ws i h, eq-eqb _ _ e)

  pub found_here : i < length ws / 2 → d ≡ (at ws i).id → position_from d i (rest ws i) ≡ Some i
  unfolding position_from
  found_here h e = rw (next ws i h, eq-eqb _ _ e)

  pub found_later : i < length ws / 2 → (d ≡ (at ws i).id → ⊥) → position_from d i (rest ws i) ≡ position_from d (i + 1) (rest ws (i + 1))
  unfolding position_from
  found_later h e = rw (next ws i h, ne_eqb _ _ e, add-one)

  pub not_found : length ws / 2 ≤ i → position_from d i (rest ws i) ≡ None
  unfolding position_from
  not_found h = rw (done ws i h)

-- ---- what a search tells

module _ (d : ℕ) where
  pub has_found : (n : ℕ) (hs : List Hit) → is_some (position_from d n hs) ≡ has_hit d hs
  unfolding position_from has_hit
  has_found n [] = refl
  has_found n (h ∷ hs) = some_if (eqb d h.id) n (position_from d (suc n) hs) _ (has_found (suc n) hs)
    where
      some_if : (b : Bool) (n : ℕ) (o : Option ℕ) (c : Bool) → is_some o ≡ c → is_some (cond b (Some n) o) ≡ (b || c)
      some_if true n o c e = refl
      some_if false n o c e = e

  pub order_found : (n : ℕ) (hs : List Hit) → unwrap_or (position_from d n hs) 0 ≡ order_from d n hs
  unfolding position_from order_from
  order_found n [] = refl
  order_found n (h ∷ hs) = or_if (eqb d h.id) n (position_from d (suc n) hs) 0 _ (order_found (suc n) hs)
    where
      or_if : (b : Bool) (n : ℕ) (o : Option ℕ) (k m : ℕ) → unwrap_or o k ≡ m → unwrap_or (cond b (Some n) o) k ≡ cond b n m
      or_if true n o k m e = refl
      or_if false n o k m e = e

  pub seek_found : (n : ℕ) (hs : List Hit) (k : ℕ) → k ≡ n + length hs → unwrap_or (position_from d n hs) k ≡ seek_from d n hs
  unfolding position_from seek_from
  seek_found n [] k q = omega arith
  seek_found n (h ∷ hs) k q = or_if (eqb d h.id) n (position_from d (suc n) hs) k _ (seek_found (suc n) hs k (omega arith))
    where
      or_if : (b : Bool) (n : ℕ) (o : Option ℕ) (k m : ℕ) → unwrap_or o k ≡ m → unwrap_or (cond b (Some n) o) k ≡ cond b n m
      or_if true n o k m e = refl
      or_if false n o k m e = e

-- as many entries from entry i on as are left
pub entries_left : (ws : List ℕ) (i : ℕ) → max i (length ws / 2) ≡ i + length (rest ws i)
entries_left ws i = rw (entries (drop (i * 2) ws), length-drop (i * 2) ws) (omega arith)
