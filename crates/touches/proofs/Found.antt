-- Places found by the library's search, and an item put in. Assumes nothing.
use Prim.Native.Nat.{ℕ, suc, ◌+◌, ◌-◌, ◌<◌, ◌≤◌}
use mathlib.Core.Path.{◌≡◌, refl, sym, ap, ◌∙◌}
use mathlib.Core.Bool.{Bool, true, false, cond}
use mathlib.Core.List.{List, ◌∷◌, ◌++◌, append_assoc}
use native.Mathlib.Numerals.{add-one}
use native.Mathlib.Omega.{arith}
use lib.Dec.{ltb, leb}
use lib.ListN.{length, set, take, drop, length-append, length-drop}
use lib.Seq.{take-take, take_at, drop_at, length-take-le, set_split}
use borrow.Author.Tests.{ltb-true, ltb-false, le-leb, lt-leb}
use Rattle.std.proofs.lemmas.List.{take-append-le, drop-take}
use Rattle.std.proofs.lemmas.List.Recursion.{is_position_or_len}
use Rattle.std.specs.List.{copy_within, position_or_len}
use Rattle.std.specs.Prelude.{Option, Some, None, position}
use Rattle.std.specs.Option.{unwrap_or, is_some}
use Rattle.model.specs.Types.{ActiveTouch}
use Rattle.model.specs.Touch.{holds, touch_id_of}
use Rattle.touches.proofs.Upsert.{place_le, holds_index}
use Rattle.touches.specs.Touches.{place, index, has, inserted_at}

module _ {A : Type 0} (key : A → ℕ) (d : ℕ) where
  below : (u : A) (n : ℕ) (b : Bool) → ltb (key u) d ≡ b → cond (ltb (key u) d) (suc n) 0 ≡ cond (leb d (key u)) 0 (1 + n)
  below u n true q = rw (q, lt-leb d (key u) (ltb-true (key u) d q)) (omega arith)
  below u n false q = rw (q, le-leb d (key u) (ltb-false (key u) d q))

  pub place_is : (us : List A) → place key d us ≡ position_or_len (λ u. leb d (key u)) us
  unfolding place
  place_is us = is_position_or_len (place key d) (λ u. leb d (key u)) refl (λ u vs. below u (place key d vs) (ltb (key u) d) refl) us

  pub index_is : (us : List A) → index key d us ≡ position_or_len (has key d) us
  unfolding index
  index_is us = is_position_or_len (index key d) (has key d) refl (λ u vs. ap (cond (has key d u) 0) (one_more (index key d vs))) us
    where
      one_more : (n : ℕ) → suc n ≡ 1 + n
      one_more n = omega arith

  -- the place found, or the number of items
  pub place_or : (us : List A) → unwrap_or (position (λ u. leb d (key u)) us) (length us) ≡ place key d us
  place_or us = go (ltb (position_or_len (λ u. leb d (key u)) us) (length us)) refl
    where
      go : (b : Bool) → ltb (position_or_len (λ u. leb d (key u)) us) (length us) ≡ b
          → unwrap_or (cond (ltb (position_or_len (λ u. leb d (key u)) us) (length us)) (Some (position_or_len (λ u. leb d (key u)) us)) None) (length us) ≡ place key d us
      go true q = rw (q, place_is us)
      go false q = rw q (omega (arith, ltb-false (position_or_len (λ u. leb d (key u)) us) (length us) q, place_is us, place_le key d us))

  -- the place that is there
  pub index_found : (us : List A) (i : ℕ) → position (has key d) us ≡ Some i → (i ≡ index key d us) × (i < length us)
  index_found us i e = go (ltb (position_or_len (has key d) us) (length us)) refl
    where
      go : (b : Bool) → ltb (position_or_len (has key d) us) (length us) ≡ b → (i ≡ index key d us) × (i < length us)
      go true q =
          let f : ◌≡◌ {A = Option ℕ} (Some (position_or_len (has key d) us)) (Some i) = rw q at e in
          let g : position_or_len (has key d) us ≡ i = cc in
          (omega (arith, index_is us), omega (arith, ltb-true (position_or_len (has key d) us) (length us) q))
      go false q = let f : ◌≡◌ {A = Option ℕ} None (Some i) = rw q at e in absurd (cc)

  pub index_lost : (us : List A) → position (has key d) us ≡ None → length us ≤ index key d us
  index_lost us e = go (ltb (position_or_len (has key d) us) (length us)) refl
    where
      go : (b : Bool) → ltb (position_or_len (has key d) us) (length us) ≡ b → length us ≤ index key d us
      go true q = let f : ◌≡◌ {A = Option ℕ} (Some (position_or_len (has key d) us)) None = rw q at e in absurd (cc)
      go false q = omega (arith, index_is us, ltb-false (position_or_len (has key d) us) (length us) q)

pub holds_found : (d : ℕ) (us : List ActiveTouch) → is_some (position (has touch_id_of d) us) ≡ holds d us
holds_found d us = go (ltb (position_or_len (has touch_id_of d) us) (length us)) refl
  where
    go : (b : Bool) → ltb (position_or_len (has touch_id_of d) us) (length us) ≡ b → is_some (position (has touch_id_of d) us) ≡ holds d us
    go true q = rw (q, ← holds_index d us, index_is touch_id_of d us, q)
    go false q = rw (q, ← holds_index d us, index_is touch_id_of d us, q)

module _ {A : Type 0} (a : List A) (at count : ℕ) (x : A) (h : at ≤ count) (k : count < length a) where
  abbrev moved : List A
  moved = copy_within a at count (at + 1)

  front : length (take (at + 1) a) ≡ at + 1
  front = length-take-le (at + 1) a (omega arith)

  parts : moved ≡ take (at + 1) a ++ (take (count - at) (drop at a) ++ drop (at + 1 + (count - at)) a)
  parts = append_assoc (take (at + 1) a) (take (count - at) (drop at a)) (drop (at + 1 + (count - at)) a)

  before : take at moved ≡ take at a
  before = rw parts (take-append-le at (take (at + 1) a) _ (omega (arith, front)) ∙ take-take at (at + 1) a (omega arith))

  behind : drop (suc at) moved ≡ drop at (take count a) ++ drop (count + 1) a
  behind =
      let e : count ≡ at + (count - at) = omega arith in
      let f : at + 1 + (count - at) ≡ count + 1 = omega arith in
      let q : drop at (take count a) ≡ take (count - at) (drop at a) = ap (λ (n : ℕ). drop at (take n a)) e ∙ drop-take at (count - at) a in
      rw (← add-one, parts, drop_at (take (at + 1) a) (take (count - at) (drop at a) ++ drop (at + 1 + (count - at)) a) (at + 1) front, f, q)

  abbrev new : List A
  new = take at a ++ (x ∷ drop at (take count a))

  new_length : length new ≡ count + 1
  new_length =
      let f : length (take at a) ≡ at = length-take-le at a (omega arith) in
      let l : length (take count a) ≡ count = length-take-le count a (omega arith) in
      omega (arith, length-append (take at a) (x ∷ drop at (take count a)), length-drop at (take count a))

  pub put_there : (b : List A) → b ≡ moved → at < length b → take (count + 1) (set b at x) ≡ inserted_at at x (take count a)
  unfolding inserted_at
  put_there b e m =
      let whole : set b at x ≡ new ++ drop (count + 1) a =
      rw (set_split b at x m, e, before, behind) (sym (append_assoc (take at a) (x ∷ drop at (take count a)) (drop (count + 1) a))) in
      rw (whole, take_at new (drop (count + 1) a) (count + 1) new_length, take-take at count a h)
