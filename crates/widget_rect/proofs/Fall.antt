-- Every later position of a layer falls by one: what it does to the places, in numbers alone. Assumes nothing.
use mathlib.Core.Path.{◌≡◌, refl, sym, ◌∙◌, ap, subst}
use Prim.Native.Nat.{ℕ, zero, suc, ◌+◌, ◌-◌, ◌<◌, ◌≤◌}
use native.Mathlib.Omega.{arith}
use mathlib.Core.Bool.{Bool, true, false, ◌&&◌, cond, true≢false}
use mathlib.Core.List.{List}
use lib.Dec.{eqb, ltb}
use lib.ListN.{length, get_or, length-set}
use lib.Seq.{get_or-set_same, get_or-set_other}
use borrow.Author.Tests.{eq-eqb, ne_eqb, eqb-true, eqb-false, lt-ltb, le-ltb, ltb-true, ltb-false}
use Rattle.widget_rect.proofs.Index.{and_left, and_right}
use Rattle.widget_index.specs.Layout.{places, span, layer_of, position_of, place}
use Rattle.widget_insert.specs.Insert.{fallen, fall}

module _ (after before : ℕ) where
  pub length_fall : (n : ℕ) (ns : List ℕ) → length (fall n after before ns) ≡ length ns
  unfolding fall
  length_fall zero ns = refl
  length_fall (suc n) ns = length-set (fall n after before ns) (places + n) _ ∙ length_fall n ns

  -- places of other slots, and all else, stay
  pub fall_other : (n : ℕ) (ns : List ℕ) (j : ℕ) → ((k : ℕ) → k < n → j ≡ places + k → ⊥) → get_or (fall n after before ns) j 0 ≡ get_or ns j 0
  unfolding fall
  fall_other zero ns j other = refl
  fall_other (suc n) ns j other = get_or-set_other (fall n after before ns) (places + n) j _ 0 (other n (omega arith)) ∙ fall_other n ns j (λ k less. other k (omega arith))

  pub fall_at : (n : ℕ) (ns : List ℕ) (k : ℕ) → k < n → places + n ≤ length ns → get_or (fall n after before ns) (places + k) 0 ≡ fallen after before (get_or ns (places + k) 0)
  unfolding fall
  fall_at zero ns k less fits = absurd (never less)
    where
      never : k < 0 → ⊥
      never h = omega arith
  fall_at (suc n) ns k less fits = go (fall_at n ns k) (eqb k n) refl
    where
      fits_n : places + n < length (fall n after before ns)
      fits_n = subst (λ (m : ℕ). places + n < m) (sym (length_fall n ns)) (omega arith)

      last_one : get_or (fall n after before ns) (places + n) 0 ≡ get_or ns (places + n) 0
      last_one = fall_other n ns (places + n) (λ j below e. omega arith)

      go : (k < n → places + n ≤ length ns → get_or (fall n after before ns) (places + k) 0 ≡ fallen after before (get_or ns (places + k) 0)) → (b : Bool) → eqb k n ≡ b
          → get_or (fall (suc n) after before ns) (places + k) 0 ≡ fallen after before (get_or ns (places + k) 0)
      go hyp true t =
          subst (λ (i : ℕ). get_or (fall (suc n) after before ns) (places + i) 0 ≡ fallen after before (get_or ns (places + i) 0)) (sym (eqb-true k n t))
          (get_or-set_same (fall n after before ns) (places + n) (fallen after before (get_or (fall n after before ns) (places + n) 0)) 0 fits_n ∙ ap (fallen after before) last_one)
      go hyp false t =
          get_or-set_other (fall n after before ns) (places + n) (places + k) (fallen after before (get_or (fall n after before ns) (places + n) 0)) 0 (λ e. eqb-false k n t (omega arith))
          ∙ hyp (omega (arith, eqb-false k n t)) (omega arith)

-- ---- one place

abbrev pub later : ℕ → ℕ → ℕ → Bool
later l position p = eqb l (layer_of p) && ltb position (position_of p)

pub is_later : (l position p : ℕ) → later l position p ≡ true → (l ≡ layer_of p) × (position < position_of p)
is_later l position p h = (eqb-true l (layer_of p) (and_left _ _ h), ltb-true position (position_of p) (and_right (eqb l (layer_of p)) _ h))

pub not_later : (l position p : ℕ) → l ≡ layer_of p → later l position p ≡ false → position_of p ≤ position
not_later l position p e h = ltb-false position (position_of p) (rw (eq-eqb l (layer_of p) e) at h)

module _ (l position p : ℕ) (l_fits : l < 32) (position_fits : position < 2048) (p_fits : p < 65536) where
  abbrev q : ℕ
  q = fallen (place l position) (place l span) p

  -- a place is its layer and its position
  pub place_whole : p ≡ place (layer_of p) (position_of p)
  place_whole = omega arith

  pub fallen_layer : layer_of q ≡ layer_of p
  unfolding fallen
  fallen_layer = go (ltb (place l position) p) refl (ltb p (place l span)) refl
    where
      go : (a : Bool) → ltb (place l position) p ≡ a → (b : Bool) → ltb p (place l span) ≡ b → layer_of q ≡ layer_of p
      go true t true u = rw (t, u) (omega (arith, ltb-true (place l position) p t, ltb-true p (place l span) u))
      go true t false u = rw (t, u)
      go false t b u = rw t

  pub fallen_position : position_of q ≡ position_of p - cond (later l position p) 1 0
  unfolding fallen
  fallen_position = go (ltb (place l position) p) refl (ltb p (place l span)) refl
    where
      go : (a : Bool) → ltb (place l position) p ≡ a → (b : Bool) → ltb p (place l span) ≡ b → position_of q ≡ position_of p - cond (later l position p) 1 0
      go true t true u =
          let f : l ≡ layer_of p = omega (arith, ltb-true (place l position) p t, ltb-true p (place l span) u) in
          let g : position < position_of p = omega (arith, ltb-true (place l position) p t, ltb-true p (place l span) u) in
          rw (t, u, eq-eqb l (layer_of p) f, lt-ltb position (position_of p) g) (omega (arith, ltb-true (place l position) p t, ltb-true p (place l span) u))
      go true t false u =
          let f : l ≡ layer_of p → ⊥ = λ e. omega (arith, ltb-true (place l position) p t, ltb-false p (place l span) u) in
          rw (t, u, ne_eqb l (layer_of p) f) (omega arith)
      go false t b u = rw t (earlier (eqb l (layer_of p)) refl)
        where
          earlier : (c : Bool) → eqb l (layer_of p) ≡ c → position_of p ≡ position_of p - cond (later l position p) 1 0
          earlier true e =
              let g : position_of p ≤ position = omega (arith, ltb-false (place l position) p t, eqb-true l (layer_of p) e) in
              rw (e, le-ltb position (position_of p) g) (omega arith)
          earlier false e = rw e (omega arith)

  pub fallen_bound : q ≤ p
  unfolding fallen
  fallen_bound = go (ltb (place l position) p) refl (ltb p (place l span)) refl
    where
      go : (a : Bool) → ltb (place l position) p ≡ a → (b : Bool) → ltb p (place l span) ≡ b → q ≤ p
      go true t true u = rw (t, u) (omega arith)
      go true t false u = rw (t, u) (omega arith)
      go false t b u = rw t (omega arith)

  pub fallen_same : later l position p ≡ false → q ≡ p
  unfolding fallen
  fallen_same no-later = go (ltb (place l position) p) refl (ltb p (place l span)) refl
    where
      go : (a : Bool) → ltb (place l position) p ≡ a → (b : Bool) → ltb p (place l span) ≡ b → q ≡ p
      go true t true u =
          let f : l ≡ layer_of p = omega (arith, ltb-true (place l position) p t, ltb-true p (place l span) u) in
          let g : position < position_of p = omega (arith, ltb-true (place l position) p t, ltb-true p (place l span) u) in
          absurd (true≢false (sym (rw (eq-eqb l (layer_of p) f, lt-ltb position (position_of p) g)) ∙ no-later))
      go true t false u = rw (t, u)
      go false t b u = rw t

  pub fallen_less : l ≡ layer_of p → position < position_of p → q ≡ p - 1
  unfolding fallen
  fallen_less f g = rw (lt-ltb (place l position) p (omega arith), lt-ltb p (place l span) (omega arith))
