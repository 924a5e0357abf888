-- Laws of plain lists: stores, the last number that has a property, the first n values of a function, the first element that has a property.
-- Assumes nothing.
use Rattle.std.specs.Prelude.{Option, None, Some}
use mathlib.Core.Path.{◌≡◌, refl, sym, ◌∙◌, ap, subst}
use Prim.Native.Nat.{ℕ, zero, suc, ◌+◌, ◌<◌, ◌≤◌, zero-le}
use native.Mathlib.Omega.{arith}
use native.Mathlib.Nat.{eq-or-lt_of_le}
use mathlib.Core.Bool.{Bool, true, false, cond}
use mathlib.Core.Logic.{⊎_elim}
use mathlib.Core.List.{List, [], ◌∷◌, ◌++◌, map, map-append}
use lib.Dec.{eqb}
use lib.ListN.{length, get_or, set, length-set, length-append}
use lib.Seq.{get_or-set_same, get_or-set_other}
use borrow.Author.Tests.{eq-eqb, ne_eqb}
use Rattle.widget_index.specs.Layout.{stores}
use Rattle.widget_index.specs.Table.{last, firsts}
use Rattle.widget_rect.specs.Questions.{at_entry}

-- ---- stores

module _ {A : Type 0} where
  -- none of the stores is at j
  abbrev pub Apart : ℕ → List (ℕ × A) → Type 0
  Apart j [] = Unit {0}
  Apart j (ia ∷ rest) = (j ≡ ia.0 → ⊥) × Apart j rest

  pub length_stores : (xs : List A) (ias : List (ℕ × A)) → length (stores xs ias) ≡ length xs
  length_stores xs [] = refl
  length_stores xs (ia ∷ rest) = length_stores (set xs ia.0 ia.1) rest ∙ length-set xs ia.0 ia.1

  pub kept : (d : A) (xs : List A) (ias : List (ℕ × A)) (j : ℕ) → Apart j ias → get_or (stores xs ias) j d ≡ get_or xs j d
  kept d xs [] j other = refl
  kept d xs (ia ∷ rest) j other = kept d (set xs ia.0 ia.1) rest j other.1 ∙ get_or-set_other xs ia.0 j ia.1 d other.0

  pub stored : (d : A) (xs : List A) (before : List (ℕ × A)) (i : ℕ) (a : A) (after : List (ℕ × A)) → i < length xs → Apart i after → get_or (stores xs (before ++ ((i, a) ∷ after))) i d ≡ a
  stored d xs [] i a after within other = kept d (set xs i a) after i other ∙ get_or-set_same xs i a d within
  stored d xs (b ∷ before) i a after within other =
      stored d (set xs b.0 b.1) before i a after (subst (λ (n : ℕ). i < n) (sym (length-set xs b.0 b.1)) within) other

-- ---- the last number that has a property

module _ (p : ℕ → Bool) where
  last_by : (n : ℕ) (b : Bool) → p n ≡ b → last p (suc n) ≡ cond b (suc n) (last p n)
  unfolding last
  last_by n b e = ap (λ (t : Bool). cond t (suc n) (last p n)) e

  pub last_here : (n : ℕ) → p n ≡ true → last p (suc n) ≡ suc n
  last_here n e = last_by n true e

  pub last_before : (n : ℕ) → p n ≡ false → last p (suc n) ≡ last p n
  last_before n e = last_by n false e

  pub last_zero : last p zero ≡ 0
  unfolding last
  last_zero = refl

  pub last_le : (n : ℕ) → last p n ≤ n
  last_le zero = rw last_zero (zero-le)
  last_le (suc n) = go (last_le n) (p n) refl
    where
      go : last p n ≤ n → (b : Bool) → p n ≡ b → last p (suc n) ≤ suc n
      go less true e = rw (last_here n e) (omega arith)
      go less false e = rw (last_before n e) (omega arith)

  pub last_none : (n : ℕ) → last p n ≡ 0 → (k : ℕ) → k < n → p k ≡ false
  last_none zero z k less = absurd (never k less)
    where
      never : (k : ℕ) → k < 0 → ⊥
      never k less = omega arith
  last_none (suc n) z k less = go (last_none n) (p n) refl
    where
      never : suc n ≡ 0 → ⊥
      never h = omega arith

      at_most : k < suc n → k ≤ n
      at_most h = omega arith

      go : (last p n ≡ 0 → (k : ℕ) → k < n → p k ≡ false) → (b : Bool) → p n ≡ b → p k ≡ false
      go hyp true e = absurd (never (sym (last_here n e) ∙ z))
      go hyp false e = ⊎_elim (λ same. ap p same ∙ e) (λ below. hyp (sym (last_before n e) ∙ z) k below) (eq-or-lt_of_le (at_most less))

  pub last_is : (n k : ℕ) → last p n ≡ suc k → (k < n) × (p k ≡ true)
  last_is zero k e = absurd (never (sym last_zero ∙ e))
    where
      never : 0 ≡ suc k → ⊥
      never h = omega arith
  last_is (suc n) k e = go (last_is n k) (p n) refl
    where
      equal : suc k ≡ suc n → k ≡ n
      equal h = omega arith

      below : k < n → k < suc n
      below h = omega arith

      here : k ≡ n → k < suc n
      here h = omega arith

      go : (last p n ≡ suc k → (k < n) × (p k ≡ true)) → (b : Bool) → p n ≡ b → (k < suc n) × (p k ≡ true)
      go hyp true t = (here (equal (sym e ∙ last_here n t)), ap p (equal (sym e ∙ last_here n t)) ∙ t)
      go hyp false t = (below (hyp (sym (last_before n t) ∙ e)).0, (hyp (sym (last_before n t) ∙ e)).1)

  pub last_none' : (n : ℕ) → ((k : ℕ) → k < n → p k ≡ false) → last p n ≡ 0
  last_none' zero all = last_zero
  last_none' (suc n) all = last_before n (all n (omega arith)) ∙ last_none' n (λ k less. all k (omega arith))

pub last_cong : (p q : ℕ → Bool) (n : ℕ) → ((k : ℕ) → k < n → p k ≡ q k) → last p n ≡ last q n
last_cong p q zero same = last_zero p ∙ sym (last_zero q)
last_cong p q (suc n) same = go (last_cong p q n (λ k less. same k (omega arith))) (q n) refl
  where
    at_n : p n ≡ q n
    at_n = same n (omega arith)

    go : last p n ≡ last q n → (b : Bool) → q n ≡ b → last p (suc n) ≡ last q (suc n)
    go below true e = last_here p n (at_n ∙ e) ∙ sym (last_here q n e)
    go below false e = last_before p n (at_n ∙ e) ∙ below ∙ sym (last_before q n e)

-- ---- the first n values of a function

module _ {A : Type 0} where
  pub firsts_cong : (f g : ℕ → A) (n : ℕ) → ((k : ℕ) → k < n → f k ≡ g k) → firsts n f ≡ firsts n g
  unfolding firsts
  firsts_cong f g zero same = refl
  firsts_cong f g (suc n) same =
      ap (λ (xs : List A). xs ++ (f n ∷ [])) (firsts_cong f g n (λ k less. same k (omega arith))) ∙ ap (λ (x : A). firsts n g ++ (x ∷ [])) (same n (omega arith))

  pub length_firsts : (f : ℕ → A) (n : ℕ) → length (firsts n f) ≡ n
  unfolding firsts
  length_firsts f zero = refl
  length_firsts f (suc n) = length-append (firsts n f) (f n ∷ []) ∙ go (length_firsts f n)
    where
      go : length (firsts n f) ≡ n → length (firsts n f) + 1 ≡ suc n
      go h = omega arith

pub map_firsts : {A B : Type 0} (g : A → B) (f : ℕ → A) (n : ℕ) → map g (firsts n f) ≡ firsts n (λ k. g (f k))
unfolding firsts
map_firsts g f zero = refl
map_firsts g f (suc n) = map-append g (firsts n f) (f n ∷ []) ∙ ap (λ zs. zs ++ (g (f n) ∷ [])) (map_firsts g f n)

-- a function with another value at i
abbrev pub but : {A : Type 0} → ℕ → A → (ℕ → A) → ℕ → A
but i y f k = cond (eqb k i) y (f k)

-- ---- the first element that has a property

module _ {A : Type 0} (q : A → Bool) where
  unfoldable pub first_such : List A → Option A
  first_such [] = None
  first_such (x ∷ xs) = cond (q x) (Some x) (first_such xs)

  unfoldable pub change_such : (A → A) → List A → List A
  change_such g [] = []
  change_such g (x ∷ xs) = cond (q x) (g x ∷ xs) (x ∷ change_such g xs)

  no_such : (x : A) → None ≡ Some x → ⊥
  no_such x h = let z : ◌≡◌ {A = ℕ} 0 1 = cc in omega arith

  such_snoc_none : (xs ys : List A) → first_such xs ≡ None → first_such (xs ++ ys) ≡ first_such ys
  unfolding first_such change_such
  such_snoc_none [] ys e = refl
  such_snoc_none (x ∷ xs) ys e = go (such_snoc_none xs ys) (q x) refl
    where
      go : (first_such xs ≡ None → first_such (xs ++ ys) ≡ first_such ys) → (b : Bool) → q x ≡ b → first_such ((x ∷ xs) ++ ys) ≡ first_such ys
      go hyp true t = absurd (no_such x (sym (rw t at e)))
      go hyp false t = rw t (hyp (rw t at e))

  such_snoc_some : (xs ys : List A) (z : A) → first_such xs ≡ Some z → first_such (xs ++ ys) ≡ Some z
  unfolding first_such change_such
  such_snoc_some [] ys z e = absurd (no_such z e)
  such_snoc_some (x ∷ xs) ys z e = go (such_snoc_some xs ys z) (q x) refl
    where
      go : (first_such xs ≡ Some z → first_such (xs ++ ys) ≡ Some z) → (b : Bool) → q x ≡ b → first_such ((x ∷ xs) ++ ys) ≡ Some z
      go hyp true t = rw t (rw t at e)
      go hyp false t = rw t (hyp (rw t at e))

  change_snoc_none : (g : A → A) (xs ys : List A) → first_such xs ≡ None → change_such g (xs ++ ys) ≡ xs ++ change_such g ys
  unfolding first_such change_such
  change_snoc_none g [] ys e = refl
  change_snoc_none g (x ∷ xs) ys e = go (change_snoc_none g xs ys) (q x) refl
    where
      go : (first_such xs ≡ None → change_such g (xs ++ ys) ≡ xs ++ change_such g ys) → (b : Bool) → q x ≡ b → change_such g ((x ∷ xs) ++ ys) ≡ (x ∷ xs) ++ change_such g ys
      go hyp true t = absurd (no_such x (sym (rw t at e)))
      go hyp false t = rw t (ap (λ zs. x ∷ zs) (hyp (rw t at e)))

  change_snoc_some : (g : A → A) (xs ys : List A) (z : A) → first_such xs ≡ Some z → change_such g (xs ++ ys) ≡ change_such g xs ++ ys
  unfolding first_such change_such
  change_snoc_some g [] ys z e = absurd (no_such z e)
  change_snoc_some g (x ∷ xs) ys z e = go (change_snoc_some g xs ys z) (q x) refl
    where
      go : (first_such xs ≡ Some z → change_such g (xs ++ ys) ≡ change_such g xs ++ ys) → (b : Bool) → q x ≡ b → change_such g ((x ∷ xs) ++ ys) ≡ change_such g (x ∷ xs) ++ ys
      go hyp true t = rw t
      go hyp false t = rw t (ap (λ zs. x ∷ zs) (hyp (rw t at e)))

-- where no value before has the property too, the first is the last
module _ {A : Type 0} (q : A → Bool) (f : ℕ → A) where
  abbrev p : ℕ → Bool
  p k = q (f k)

  abbrev pub Once : ℕ → Type 0
  Once n = (k : ℕ) → k < n → q (f k) ≡ true → last p k ≡ 0

  pub finds : (n : ℕ) → Once n → first_such q (firsts n f) ≡ at_entry f (last p n)
  unfolding firsts first_such
  finds zero once = rw (last_zero p)
  finds (suc n) once = go (finds n (λ k less. once k (omega arith))) (q (f n)) refl
    where
      by_entry : first_such q (firsts n f) ≡ at_entry f (last p n) → q (f n) ≡ false → (e : ℕ) → last p n ≡ e → first_such q (firsts (suc n) f) ≡ at_entry f (last p (suc n))
      by_entry before t zero z = such_snoc_none q (firsts n f) (f n ∷ []) (before ∙ ap (at_entry f) z) ∙ rw (t, last_before p n t, z)
      by_entry before t (suc k) z = such_snoc_some q (firsts n f) (f n ∷ []) (f k) (before ∙ ap (at_entry f) z) ∙ rw (last_before p n t, z)

      go : first_such q (firsts n f) ≡ at_entry f (last p n) → (b : Bool) → q (f n) ≡ b → first_such q (firsts (suc n) f) ≡ at_entry f (last p (suc n))
      go before true t = such_snoc_none q (firsts n f) (f n ∷ []) (before ∙ ap (at_entry f) (once n (omega arith) t)) ∙ rw (t, last_here p n t)
      go before false t = by_entry before t (last p n) refl

  pub changes : (g : A → A) (n i : ℕ) → Once n → last p n ≡ suc i → change_such q g (firsts n f) ≡ firsts n (but i (g (f i)) f)
  unfolding firsts change_such
  changes g zero i once found = absurd (never (sym (last_zero p) ∙ found))
    where
      never : 0 ≡ suc i → ⊥
      never h = omega arith
  changes g (suc n) i once found = go (changes g n i (λ k less. once k (omega arith))) (q (f n)) refl
    where
      once' : Once n
      once' k less = once k (omega arith)

      other : (k : ℕ) → k < n → k ≡ n → ⊥
      other k less e = omega arith

      equal : suc i ≡ suc n → i ≡ n
      equal h = omega arith

      beyond : i < n → n ≡ i → ⊥
      beyond h e = omega arith

      at_end : i ≡ n → q (f n) ≡ true → change_such q g (firsts (suc n) f) ≡ firsts (suc n) (but i (g (f i)) f)
      at_end same t =
          change_snoc_none q g (firsts n f) (f n ∷ []) (finds n once' ∙ ap (at_entry f) (once n (omega arith) t))
          ∙ rw (t, same) (ap (λ xs. xs ++ (g (f n) ∷ [])) (firsts_cong f (but n (g (f n)) f) n (λ k less. rw (ne_eqb k n (other k less)))) ∙ rw (eq-eqb n n refl))

      earlier : (last p n ≡ suc i → change_such q g (firsts n f) ≡ firsts n (but i (g (f i)) f)) → last p n ≡ suc i → change_such q g (firsts (suc n) f) ≡ firsts (suc n) (but i (g (f i)) f)
      earlier hyp found' =
          change_snoc_some q g (firsts n f) (f n ∷ []) (f i) (finds n once' ∙ ap (at_entry f) found') ∙ ap (λ xs. xs ++ (f n ∷ [])) (hyp found') ∙ rw (ne_eqb n i (beyond (last_is p n i found').0))

      go : (last p n ≡ suc i → change_such q g (firsts n f) ≡ firsts n (but i (g (f i)) f)) → (b : Bool) → q (f n) ≡ b → change_such q g (firsts (suc n) f) ≡ firsts (suc n) (but i (g (f i)) f)
      go hyp true t = at_end (equal (sym found ∙ last_here p n t)) t
      go hyp false t = earlier hyp (sym (last_before p n t) ∙ found)
