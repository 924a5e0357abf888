-- A lookup by the index: it answers the id that it was asked for, and what the steps make of its answer. Assumes nothing.
use Rattle.std.specs.Prelude.{Option, None, Some}
use Rattle.std.specs.Option.{option_eq, unwrap_or}
use Prim.Native.Nat.{ℕ, zero, suc, ◌-◌}
use mathlib.Core.Path.{◌≡◌, refl, sym, ap, ◌∙◌}
use mathlib.Core.Bool.{Bool, true, false, cond}
use mathlib.Core.List.{List}
use native.Mathlib.Omega.{arith}
use lib.Dec.{eqb}
use lib.Ieee.{Float}
use borrow.Author.Tests.{eqb-true}
use Rattle.model.specs.Types.{WidgetRect}
use Rattle.model.specs.Interact.{widget_id, same_id}
use Rattle.widget_index.specs.Layout.{id_at, link_at}
use Rattle.widget_index.specs.Table.{chain, head, find}
use Rattle.interaction_state.specs.Types.{WidgetRects, Found}
use Rattle.interaction_state.specs.Lookup.{at_entry, lookup, found_of}

-- along the links, only the id itself is found
chain_case : (words numbers : List ℕ) (d rest e s : ℕ) (t u : Bool) → eqb d (id_at words (e - 1)) ≡ u
    → (rest ≡ suc s → id_at words s ≡ d) → cond t 0 (cond u e rest) ≡ suc s → id_at words s ≡ d
chain_case words numbers d rest e s true u q later h = let z : ◌≡◌ {A = ℕ} 0 1 = omega arith in absurd (omega arith)
chain_case words numbers d rest e s false true q later h =
    let i : e - 1 ≡ s = omega arith in ap (id_at words) (sym i) ∙ sym (eqb-true d (id_at words (e - 1)) q)
chain_case words numbers d rest e s false false q later h = later h

chain_id : (words numbers : List ℕ) (d fuel e s : ℕ) → chain words numbers d fuel e ≡ suc s → id_at words s ≡ d
unfolding chain
chain_id words numbers d zero e s h = absurd (omega arith)
chain_id words numbers d (suc fuel) e s h =
    chain_case words numbers d (chain words numbers d fuel (link_at numbers (e - 1))) e s (eqb e 0) _ refl
    (chain_id words numbers d fuel (link_at numbers (e - 1)) s) h

-- an answer that is there is of the id d
abbrev pub Of : ℕ → Option WidgetRect → Type 0
Of d m = (w : WidgetRect) → m ≡ Some w → w.id ≡ d

entry_of : (words numbers : List ℕ) (edges : List Float) (d e : ℕ) → ((s : ℕ) → e ≡ suc s → id_at words s ≡ d) → Of d (at_entry words numbers edges e)
unfolding at_entry
entry_of words numbers edges d zero h w q = let z : ◌≡◌ {A = ℕ} 0 1 = cc in absurd (omega arith)
entry_of words numbers edges d (suc s) h w q = ap (λ (o : Option WidgetRect). id_or d o) (sym q) ∙ h s refl
  where
    id_or : ℕ → Option WidgetRect → ℕ
    id_or d None = d
    id_or d (Some w) = w.id

pub looked_up : (set : WidgetRects) (words numbers : List ℕ) (edges : List Float) (d : ℕ) → Of d (lookup set words numbers edges d)
unfolding lookup find
looked_up set words numbers edges d =
    entry_of words numbers edges d (find set words numbers d)
    (λ s q. chain_id words numbers d (head set words numbers d) (head set words numbers d) s q)

-- ---- what the steps make of an answer m

pub found_is : (w : WidgetRect) (f : Found) → found_of (Some w) ≡ Some f → (w.enabled ≡ f.enabled) × (w.sense ≡ f.sense)
unfolding found_of
found_is w f e =
    let q : record { enabled = w.enabled; sense = w.sense } ≡ f = ap (λ (o : Option Found). unwrap_or o f) e in
    (ap (λ (g : Found). g.enabled) q, ap (λ (g : Found). g.sense) q)

pub known_is : (d : ℕ) (m : Option WidgetRect) → Of d m → (f : Found) → found_of m ≡ Some f → widget_id m ≡ Some d
unfolding found_of widget_id
known_is d None o f h = let z : ◌≡◌ {A = ℕ} 0 1 = cc in absurd (omega arith)
known_is d (Some w) o f h = ap Some (o w refl)

pub unknown_is : (m : Option WidgetRect) → found_of m ≡ None → widget_id m ≡ None
unfolding found_of widget_id
unknown_is None h = refl
unknown_is (Some w) h = let z : ◌≡◌ {A = ℕ} 0 1 = cc in absurd (omega arith)

-- ---- two ids are the same by `==`
pub option_eq_is : (a b : Option ℕ) → option_eq eqb a b ≡ same_id a b
unfolding same_id
option_eq_is None None = refl
option_eq_is None (Some b) = refl
option_eq_is (Some a) None = refl
option_eq_is (Some a) (Some b) = refl
