-- Removing a touch, a turn at a time: what is kept so far, and the rest without that touch. Assumes nothing.
use mathlib.Core.Path.{◌≡◌, refl, sym}
use mathlib.Core.List.{List, ◌++◌, append-nil}
use Prim.Native.Nat.{ℕ, suc, ◌+◌, ◌≤◌, ◌<◌}
use native.Mathlib.Numerals.{add-one}
use native.Mathlib.Omega.{arith}
use borrow.Author.Tests.{eq-eqb, ne_eqb}
use lib.ListN.{length, get_or, set, take, drop}
use lib.Seq.{append_snoc, take-suc-set, take-set-lt, drop-set-lt}
use Rattle.model.specs.Types.{ActiveTouch}
use Rattle.model.specs.Touch.{remove_touch}
use Rattle.touches.proofs.Places.{rest, done}

-- the first j, and what is left of the rest of the first n
unfoldable pub kept : ℕ → ℕ → List ActiveTouch → ℕ → ℕ → List ActiveTouch
kept d n a j i = take j a ++ remove_touch d (drop i (take n a))

pub kept_start : (d n : ℕ) (a : List ActiveTouch) → kept d n a 0 0 ≡ remove_touch d (take n a)
unfolding kept
kept_start d n a = refl

module _ (d n j i : ℕ) (a : List ActiveTouch) (z : ActiveTouch) (h : i < n) (l : n ≤ length a) where
  pub drops : (get_or a i z).id ≡ d → kept d n a j (i + 1) ≡ kept d n a j i
  unfolding kept remove_touch
  drops e = rw (add-one, rest n i a z h l, eq-eqb d (get_or a i z).id (sym e))

  pub keeps : j ≤ i → ((get_or a i z).id ≡ d → ⊥) → kept d n (set a j (get_or a i z)) (j + 1) (i + 1) ≡ kept d n a j i
  unfolding kept remove_touch
  keeps k e =
      let b : j < length a = omega arith in
      let m : j < n = omega arith in
      let s : j < suc i = omega arith in
      rw (add-one j, add-one i, take-suc-set a j (get_or a i z) b, append_snoc, take-set-lt n a j (get_or a i z) m, drop-set-lt (suc i) (take n a) j (get_or a i z) s, rest n i a z h l, ne_eqb d (get_or a i z).id (λ q. e (sym q)))

pub kept_end : (d n j i : ℕ) (a : List ActiveTouch) → n ≤ i → n ≤ length a → take j a ≡ kept d n a j i
unfolding kept remove_touch
kept_end d n j i a h l = rw (done n i a h l, append-nil)
