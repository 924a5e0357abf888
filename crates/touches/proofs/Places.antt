-- Lists as the first n places of an array, for any type of elements. Assumes nothing.
use mathlib.Core.Path.{◌≡◌, refl, ap, ◌∙◌}
use mathlib.Core.List.{List, [], ◌∷◌}
use Prim.Native.Nat.{ℕ, zero, suc, ◌≤◌, ◌<◌}
use native.Mathlib.Omega.{arith}
use lib.ListN.{length, get_or, set, take, drop, length-take, drop_of_length-le}
use lib.Seq.{drop-cons, take-set-lt, get_or-take, length-take-le}

module _ {A : Type 0} where
  -- a count is as good as the number of places that it takes
  pub first : (c : ℕ) (a : List A) → take (length (take c a)) a ≡ take c a
  first zero a = refl
  first (suc c) [] = refl
  first (suc c) (x ∷ xs) = ap {B = List A} (λ r. x ∷ r) (first c xs)

  pub first_of : (n c : ℕ) (a : List A) → n ≡ length (take c a) → take n a ≡ take c a
  first_of n c a e = rw (e, first)

  pub first_le : (c : ℕ) (a : List A) → length (take c a) ≤ length a
  first_le c a = omega (arith, length-take c a)

  pub set_first : (c i : ℕ) (a : List A) (t : A) → i < length (take c a) → take c (set a i t) ≡ set (take c a) i t
  set_first c i a t h = take-set-lt c a i t (omega (arith, length-take c a))

  module _ (n i : ℕ) (a : List A) (z : A) (h : i < n) (l : n ≤ length a) where
    pub rest : drop i (take n a) ≡ get_or a i z ∷ drop (suc i) (take n a)
    rest =
        let f : i < length (take n a) = simp (length-take-le n a l) h in
        drop-cons (take n a) i z f ∙ ap {B = List A} (λ (x : A). x ∷ drop (suc i) (take n a)) (get_or-take n a i z h)

  -- the end of a walk
  pub done : (n i : ℕ) (a : List A) → n ≤ i → n ≤ length a → drop i (take n a) ≡ []
  done n i a h l =
      let e : length (take n a) ≤ i = simp (length-take-le n a l) h in
      drop_of_length-le (take n a) e
