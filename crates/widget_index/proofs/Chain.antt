-- The walk along a bucket's links, and the search of a layer, step by step: what the loops' turns ask. No memory and no MIR is in it.
-- Assumes nothing.
use mathlib.Core.Path.{◌≡◌, refl, ap}
use Prim.Native.Nat.{ℕ, zero, suc, ◌-◌, ◌<◌, ◌≤◌, zero-le}
use native.Mathlib.Omega.{arith}
use mathlib.Core.Bool.{Bool, true, false, cond}
use mathlib.Core.List.{List}
use lib.Dec.{leb, eqb, eqb-suc-zero}
use borrow.Author.Tests.{leb-true, eq-eqb, ne_eqb}
use Rattle.widget_index.specs.Layout.{id_at, link_at}
use Rattle.widget_index.specs.Table.{chain, last}

falls : (e s : ℕ) (b : Bool) → leb e s ≡ b → cond b e 0 ≤ s
falls e s true l = leb-true e s l
falls e s false l = zero-le

pub link_falls : (numbers : List ℕ) (s : ℕ) → link_at numbers s ≤ s
unfolding link_at
link_falls numbers s = falls _ s _ refl

module _ (words numbers : List ℕ) (d : ℕ) where
  -- fuel for as many steps as the entry says is enough
  pub enough : (f g e : ℕ) → e ≤ f → e ≤ g → chain words numbers d f e ≡ chain words numbers d g e
  unfolding chain
  enough zero zero e l m = refl
  enough zero (suc g) zero l m = refl
  enough zero (suc g) (suc s) l m = absurd (never s l)
    where
      never : (s : ℕ) → suc s ≤ 0 → ⊥
      never s h = omega arith
  enough (suc f) zero zero l m = refl
  enough (suc f) zero (suc s) l m = absurd (never s m)
    where
      never : (s : ℕ) → suc s ≤ 0 → ⊥
      never s h = omega arith
  enough (suc f) (suc g) zero l m = refl
  enough (suc f) (suc g) (suc s) l m =
      ap
      (λ (r : ℕ). cond (eqb (suc s) 0) 0 (cond (eqb d (id_at words (suc s - 1))) (suc s) r))
      (enough f g (link_at numbers (suc s - 1)) (omega (arith, link_falls numbers (suc s - 1))) (omega (arith, link_falls numbers (suc s - 1))))

  pub stops : (s : ℕ) → d ≡ id_at words s → chain words numbers d (suc s) (suc s) ≡ suc s
  unfolding chain
  stops s same = let e : suc s - 1 ≡ s = omega arith in rw (eqb-suc-zero, e, eq-eqb _ _ same)

  pub goes_on : (s : ℕ) → (d ≡ id_at words s → ⊥) → chain words numbers d (suc s) (suc s) ≡ chain words numbers d (link_at numbers s) (link_at numbers s)
  unfolding chain
  goes_on s other = let e : suc s - 1 ≡ s = omega arith in rw (eqb-suc-zero, e, ne_eqb _ _ other) (enough s (link_at numbers s) (link_at numbers s) (link_falls numbers s) (omega arith))

-- the same of `last`
module _ (p : ℕ → Bool) where
  pub last_stops : (e : ℕ) → 0 < e → p (e - 1) ≡ true → last p e ≡ e
  unfolding last
  last_stops zero h true-there = absurd (never h)
    where
      never : 0 < 0 → ⊥
      never h = omega arith
  last_stops (suc s) h true-there = let e : suc s - 1 ≡ s = omega arith in rw (rw e at true-there)

  pub last_goes_on : (e : ℕ) → 0 < e → p (e - 1) ≡ false → last p e ≡ last p (e - 1)
  unfolding last
  last_goes_on zero h false-there = refl
  last_goes_on (suc s) h false-there = let e : suc s - 1 ≡ s = omega arith in rw (e, rw e at false-there)
