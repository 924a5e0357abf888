-- What is refused of a hit list, an entry at a time. Assumes nothing.
use Rattle.std.specs.Prelude.{Option, None, Some}
use Prim.Native.Nat.{ℕ, zero, suc, ◌+◌, ◌-◌, ◌<◌, ◌≤◌}
use mathlib.Core.Path.{◌≡◌}
use mathlib.Core.List.{List, [], ◌∷◌, ◌++◌}
use native.Mathlib.Numerals.{add-one}
use native.Mathlib.Omega.{arith}
use lib.ListN.{length, get_or}
use Rattle.model.specs.Pass.{or_else}
use Rattle.model.specs.Types.{InteractRefusal}
use Rattle.model.specs.Types.interaction.{TooManyHits}
use Rattle.model.specs.Interact.{Hit, entry_refusal, hits_refusal}
use Rattle.hit_lists.specs.Hits.{hits_of, hit_of}
use Rattle.hit_lists.proofs.Walk.{short, split}

module _ (ahead one more : List ℕ) (e : ahead ≡ one ++ more) (two : length one ≡ 2) (m i : ℕ) where
  pub too_many : m ≤ i → hits_refusal (m - i) i (hits_of ahead) ≡ Some (TooManyHits i)
  unfolding hits_refusal
  too_many l = let z : m - i ≡ 0 = omega arith in rw (z, split ahead one more e two)

  abbrev first : Hit
  first = hit_of (get_or one 0 0) (get_or one 1 0)

  pub one_more : i < m → hits_refusal (m - i) i (hits_of ahead) ≡ or_else (entry_refusal i first) (hits_refusal (m - (i + 1)) (i + 1) (hits_of more))
  unfolding hits_refusal
  one_more l =
      let z : m - i ≡ suc (m - (i + 1)) = omega arith in
      rw (z, split ahead one more e two, add-one i)

  module _ (l : i < m) where
    pub refused_here : (r : InteractRefusal) → entry_refusal i first ≡ Some r → hits_refusal (m - i) i (hits_of ahead) ≡ Some r
    unfolding or_else
    refused_here r q = rw (one_more l, q)

    pub passed : entry_refusal i first ≡ None → hits_refusal (m - i) i (hits_of ahead) ≡ hits_refusal (m - (i + 1)) (i + 1) (hits_of more)
    unfolding or_else
    passed q = rw (one_more l, q)

pub no_entry : (ahead : List ℕ) (m i : ℕ) → length ahead < 2 → hits_refusal m i (hits_of ahead) ≡ None
unfolding hits_refusal
no_entry ahead m i h = rw (short ahead h)

-- what is refused by nothing has no first refusal and no later one
nothing_first : {A : Type 0} (a b : Option A) → or_else a b ≡ None → b ≡ None
unfolding or_else
nothing_first None b e = e
nothing_first (Some r) b e = let z : ◌≡◌ {A = ℕ} 0 1 = cc in absurd (omega arith)

-- a list that is taken is short enough
pub not_too_many : (m i : ℕ) (hs : List Hit) → hits_refusal m i hs ≡ None → length hs ≤ m
unfolding hits_refusal
not_too_many m i [] e = omega arith
not_too_many zero i (h ∷ hs) e = let z : ◌≡◌ {A = ℕ} 0 1 = cc in omega arith
not_too_many (suc m) i (h ∷ hs) e = omega (arith, not_too_many m (suc i) hs (nothing_first (entry_refusal i h) _ e))
