-- A reader's list is the first places of its row. Assumes nothing.
use mathlib.Core.Path.{◌≡◌, refl, ◌∙◌}
use mathlib.Core.Bool.{Bool, true, false}
use mathlib.Core.List.{List, [], ◌∷◌, ◌++◌}
use Prim.Native.Nat.{ℕ, zero, suc, ◌+◌, ◌≤◌, ◌<◌}
use native.Mathlib.Omega.{arith}
use lib.ListN.{get_or, set, length, take, length-set}
use lib.Dec.{eqb}
use lib.Seq.{get_or-set_same, get_or-set_other}
use borrow.Author.Tests.{eqb-true, eqb-false}
use denote.Enum.Declared.{tag_of}
use Rattle.std.proofs.lemmas.List.{take_more_set, length-take-le}
use Rattle.event_loop.specs.declared.lists.Reader.{Reader}
use Rattle.event_loop.specs.declared.lists.Reader.TheVariants.{Nobody, Pointer, Keys, Sums, Touches, Wheel}
use Rattle.event_loop.specs.contracts.lists.Reader.{the_type}
use Rattle.event_loop.specs.Count.{list_count}
use Rattle.event_loop.specs.Lists.{number}

pub tag_is : (r : Reader) → tag_of the_type r ≡ number r
tag_is Nobody = refl
tag_is Pointer = refl
tag_is Keys = refl
tag_is Sums = refl
tag_is Touches = refl
tag_is Wheel = refl

pub number_small : (r : Reader) → number r < list_count
number_small Nobody = omega arith
number_small Pointer = omega arith
number_small Keys = omega arith
number_small Sums = omega arith
number_small Touches = omega arith
number_small Wheel = omega arith

abbrev pub row : List (List ℕ) → List ℕ → ℕ → List ℕ
row ps counts l = take (get_or counts l 0) (get_or ps l [])

module _ (ps : List (List ℕ)) (counts : List ℕ) (i : ℕ) where
  abbrev k : ℕ
  k = get_or counts i 0

  abbrev old : List ℕ
  old = get_or ps i []

  pub row_last : (at : ℕ) → i < length ps → i < length counts → k < length old →
      row (set ps i (set old k at)) (set counts i (k + 1)) i ≡ row ps counts i ++ (at ∷ [])
  row_last at h g f = rw (get_or-set_same counts i (k + 1) 0 g, get_or-set_same ps i (set old k at) [] h) (take_more_set old k at f)

  pub row_other : (l n : ℕ) (new : List ℕ) → (l ≡ i → ⊥) → row (set ps i new) (set counts i n) l ≡ row ps counts l
  row_other l n new other = rw (get_or-set_other counts i l n 0 other, get_or-set_other ps i l new [] other)

-- every row has as many places
abbrev pub Long : List (List ℕ) → ℕ → Type 0
Long ps most = (l : ℕ) → l < list_count → length (get_or ps l []) ≡ most

module _ (row : List ℕ) where
  abbrev rows : List (List ℕ)
  rows = row ∷ row ∷ row ∷ row ∷ row ∷ row ∷ []

  pub rows_long : (l : ℕ) → l < list_count → length (get_or rows l []) ≡ length row
  rows_long zero h = refl
  rows_long (suc zero) h = refl
  rows_long (suc (suc zero)) h = refl
  rows_long (suc (suc (suc zero))) h = refl
  rows_long (suc (suc (suc (suc zero)))) h = refl
  rows_long (suc (suc (suc (suc (suc zero))))) h = refl
  rows_long (suc (suc (suc (suc (suc (suc l)))))) h = absurd (omega arith)

pub zeros : (l : ℕ) → ◌≡◌ {A = ℕ} (get_or (0 ∷ 0 ∷ 0 ∷ 0 ∷ 0 ∷ 0 ∷ []) l 0) 0
zeros zero = refl
zeros (suc zero) = refl
zeros (suc (suc zero)) = refl
zeros (suc (suc (suc zero))) = refl
zeros (suc (suc (suc (suc zero)))) = refl
zeros (suc (suc (suc (suc (suc zero))))) = refl
zeros (suc (suc (suc (suc (suc (suc l)))))) = refl

-- a row that has a place left
pub room : (ps : List (List ℕ)) (counts : List ℕ) (i most : ℕ) → length (get_or ps i []) ≡ most → get_or counts i 0 ≤ most → length (row ps counts i) < most → get_or counts i 0 < most
room ps counts i most e below h =
    let k : get_or counts i 0 ≤ length (get_or ps i []) = rw e below in
    rw (length-take-le (get_or counts i 0) (get_or ps i []) k) at h

-- one more in list i is within the bound
pub counted : (counts : List ℕ) (i most : ℕ) → ((l : ℕ) → get_or counts l 0 ≤ most) → i < length counts → get_or counts i 0 < most → (l : ℕ) → get_or (set counts i (get_or counts i 0 + 1)) l 0 ≤ most
counted counts i most all here room l = go (eqb l i) refl
  where
    go : (b : Bool) → eqb l i ≡ b → get_or (set counts i (get_or counts i 0 + 1)) l 0 ≤ most
    go true t = rw (eqb-true l i t, get_or-set_same counts i (get_or counts i 0 + 1) 0 here) (omega arith)
    go false t = rw (get_or-set_other counts i l (get_or counts i 0 + 1) 0 (eqb-false l i t)) (all l)

-- a write into row i
pub still_long : (ps : List (List ℕ)) (i k at most : ℕ) → i < length ps → Long ps most → i < list_count → Long (set ps i (set (get_or ps i []) k at)) most
still_long ps i k at most there long here l h = go (eqb l i) refl
  where
    go : (b : Bool) → eqb l i ≡ b → length (get_or (set ps i (set (get_or ps i []) k at)) l []) ≡ most
    go true t = rw (eqb-true l i t, get_or-set_same ps i (set (get_or ps i []) k at) [] there) (length-set (get_or ps i []) k at ∙ long i here)
    go false t = rw (get_or-set_other ps i l (set (get_or ps i []) k at) [] (eqb-false l i t)) (long l h)
