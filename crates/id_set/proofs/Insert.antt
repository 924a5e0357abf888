-- Putting an id in its place is the model's `insert_id`. Assumes nothing.
use Rattle.std.specs.Prelude.{Option, None, Some, position}
use Rattle.std.specs.Option.{unwrap_or}
use Rattle.std.specs.List.{position_or_len}
use Rattle.std.proofs.lemmas.List.Sums.{fails_before_first, passes_at_first}
use Prim.Native.Nat.{ℕ, zero, suc, ◌<◌, ◌≤◌}
use mathlib.Core.Path.{◌≡◌, refl, sym, ap}
use mathlib.Core.Bool.{Bool, true, false, cond}
use mathlib.Core.List.{List, [], ◌∷◌, ◌++◌}
use native.Mathlib.Omega.{arith}
use lib.Dec.{ltb, leb, eqb}
use lib.ListN.{length, get_or, take, drop}
use lib.Seq.{length-take-le, get_or-take}
use borrow.Author.Tests.{lt-ltb, le-ltb, eq-eqb, ne_eqb, ltb-true, ltb-false, leb-true, leb-false}
use Rattle.model.specs.Interact.{insert_id, insert_some}
use Rattle.id_set.specs.Ids.{Place, stands_at}

later : (d e : ℕ) (s : List ℕ) (r : ℕ) → Place d (e ∷ s) (suc r) → Place d s r
later d e s r p =
    record {
      within = let w = p.within in omega arith;
      below = λ k h. p.below (suc k) (omega arith);
      not_below = λ h. p.not_below (omega arith);
    }

-- the place that a search finds, or the number of ids
module _ (d count : ℕ) (a : List ℕ) (l : count ≤ length a) where
  abbrev t : ℕ → Bool
  t x = leb d x

  abbrev s : List ℕ
  s = take count a

  abbrev r : ℕ
  r = position_or_len t s

  long : length s ≡ count
  long = length-take-le count a l

  first : (b : Bool) → ltb r (length s) ≡ b → Place d s (unwrap_or (cond (ltb r (length s)) (Some r) None) count)
  first true q =
      rw q
      (record {
        within = omega (arith, ltb-true r (length s) q);
        below = λ k h. leb-false d (get_or s k 0) (fails_before_first t s k 0 h);
        not_below = λ h. leb-true d (get_or s r 0) (passes_at_first t s 0 h);
      })
  first false q =
      let f : length s ≤ r = ltb-false r (length s) q in
      rw q
      (record {
        within = omega (arith, long);
        below = λ k h. leb-false d (get_or s k 0) (fails_before_first t s k 0 (omega (arith, f, long)));
        not_below = λ h. absurd (omega (arith, long));
      })

  pub found_at : Place d s (unwrap_or (position t s) count)
  found_at = first (ltb r (length s)) refl

-- a place whose id is d itself: nothing is inserted
pub present : (d : ℕ) (s : List ℕ) (r : ℕ) → Place d s r → r < length s → get_or s r 0 ≡ d → insert_id d s ≡ s
unfolding insert_id
present d [] r p h e = absurd (omega arith)
present d (a ∷ s) zero p h e = rw (le-ltb d a (omega arith), eq-eqb d a (sym e))
present d (a ∷ s) (suc r) p h e =
    let b : a < d = p.below 0 (omega arith) in
    rw (le-ltb d a (omega arith), ne_eqb d a (λ q. omega arith)) (ap (λ (t : List ℕ). a ∷ t) (present d s r (later d a s r p) (omega arith) e))

-- any other place: d comes there
pub placed : (d : ℕ) (s : List ℕ) (r : ℕ) → Place d s r → (r < length s → get_or s r 0 ≡ d → ⊥) → insert_id d s ≡ take r s ++ d ∷ drop r s
unfolding insert_id
placed d [] zero p n = refl
placed d [] (suc r) p n = let w : suc r ≤ 0 = p.within in absurd (omega arith)
placed d (a ∷ s) zero p n =
    let b : d ≤ a = p.not_below (omega arith) in
    let o : a ≡ d → ⊥ = n (omega arith) in
    let l : d < a = omega arith in
    rw (lt-ltb d a l)
placed d (a ∷ s) (suc r) p n =
    let b : a < d = p.below 0 (omega arith) in
    rw (le-ltb d a (omega arith), ne_eqb d a (λ q. omega arith)) (ap (λ (t : List ℕ). a ∷ t) (placed d s r (later d a s r p) (λ h. n (omega arith))))

-- ---- lengths: an id more at the most

-- the three cases of `insert_id`
bounds : (t u : Bool) (d a : ℕ) (s s' : List ℕ) → (length s ≤ length s') × (length s' ≤ suc (length s))
    → let l = length (cond t (d ∷ a ∷ s) (cond u (a ∷ s) (a ∷ s'))) in (suc (length s) ≤ l) × (l ≤ suc (suc (length s)))
bounds true u d a s s' h = (omega arith, omega arith)
bounds false true d a s s' h = (omega arith, omega arith)
bounds false false d a s s' h = (omega arith, omega arith)

pub one_more : (d : ℕ) (s : List ℕ) → (length s ≤ length (insert_id d s)) × (length (insert_id d s) ≤ suc (length s))
unfolding insert_id
one_more d [] = (omega arith, omega arith)
one_more d (a ∷ s) = bounds (ltb d a) (eqb d a) d a s (insert_id d s) (one_more d s)

pub some_more : (o : Option ℕ) (s : List ℕ) → (length s ≤ length (insert_some o s)) × (length (insert_some o s) ≤ suc (length s))
unfolding insert_some
some_more None s = (omega arith, omega arith)
some_more (Some d) s = one_more d s

-- ---- the first `count` places of a buffer

module _ (a : List ℕ) (count : ℕ) (l : count ≤ length a) (d at : ℕ) where
  pub at_place : at ≤ count → ((k : ℕ) → k < at → get_or a k 0 < d) → (at < count → d ≤ get_or a at 0) → Place d (take count a) at
  at_place h b n =
      record {
        within = rw (length-take-le count a l) h;
        below = λ k i. rw (get_or-take count a k 0 (omega arith)) (b k i);
        not_below = λ i. let j : at < count = (rw (length-take-le count a l) at i) in rw (get_or-take count a at 0 j) (n j);
      }

  pub there : at < count → stands_at d (take count a) at ≡ eqb (get_or a at 0) d
  unfolding stands_at
  there h = rw (length-take-le count a l, lt-ltb at count h, get_or-take count a at 0 h)

  pub not_there : count ≤ at → stands_at d (take count a) at ≡ false
  unfolding stands_at
  not_there h = rw (length-take-le count a l, le-ltb at count h)
