-- What the steps make of a lookup's answer. Assumes nothing.
use Rattle.std.specs.Prelude.{Option, None, Some}
use Rattle.std.specs.Option.{option_or}
use Prim.Native.Nat.{ℕ}
use mathlib.Core.Path.{◌≡◌, refl, sym, ap}
use mathlib.Core.Bool.{true, false}
use mathlib.Core.List.{List}
use native.Mathlib.Omega.{arith}
use lib.Ieee.{Float}
use Rattle.model.specs.Types.{WidgetRect}
use Rattle.model.specs.Pass.{Interaction, no_interaction, or_else}
use Rattle.model.specs.Interact.{is_some, get, widget_id, kept_if, long_touch_on}
use Rattle.widget_index.specs.declared.table.WidgetRects.{WidgetRects}
use Rattle.interaction_state.specs.declared.state.Interaction as declared
use Rattle.interaction_state.specs.View.{interaction_of}
use Rattle.interaction_state.specs.Lookup.{lookup}
use Rattle.interaction_state.proofs.Looked.{Of, looked_up}

module _ (d : ℕ) where
  kept_is : (m : Option WidgetRect) → Of d m → kept_if (is_some m) (Some d) ≡ widget_id m
  unfolding kept_if is_some widget_id
  kept_is None o = refl
  kept_is (Some w) o = ap Some (sym (o w refl))

pub known_kept : (set : WidgetRects) (words numbers : List ℕ) (edges : List Float) (o : Option ℕ)
    → kept_if (is_some (get o (lookup set words numbers edges))) o ≡ widget_id (get o (lookup set words numbers edges))
unfolding get kept_if is_some widget_id
known_kept set words numbers edges None = refl
known_kept set words numbers edges (Some d) = kept_is d (lookup set words numbers edges d) (looked_up set words numbers edges d)

-- a long touch on it
pub touches : (s : Interaction) (m : Option WidgetRect) → is_some (widget_id m) ≡ true
    → long_touch_on s m ≡ record { interaction = no_interaction; clicked = widget_id m; long_touched = widget_id m }
unfolding long_touch_on is_some widget_id
touches s None h = let z : ◌≡◌ {A = ℕ} 0 1 = cc in absurd (omega arith)
touches s (Some w) h = refl

pub touches_none : (s : Interaction) (m : Option WidgetRect) → is_some (widget_id m) ≡ false
    → long_touch_on s m ≡ record { interaction = s; clicked = None; long_touched = None }
unfolding long_touch_on is_some widget_id
touches_none s None h = refl
touches_none s (Some w) h = let z : ◌≡◌ {A = ℕ} 0 1 = cc in absurd (omega arith)

-- the id that might be clicked, of the viewed state
pub click_id_of : (s : declared.Interaction) → (interaction_of s).potential_click_id ≡ s.potential_click_id
unfolding interaction_of
click_id_of s = refl

pub or_is : (a b : Option ℕ) → option_or a b ≡ or_else a b
unfolding or_else
or_is None b = refl
or_is (Some d) b = refl

-- `Interaction::default()` is no interaction
pub default_is : (s : declared.Interaction) → (s.potential_click_id ≡ None) × ((s.potential_drag_id ≡ None) × (s.dragged ≡ None)) → interaction_of s ≡ no_interaction
unfolding interaction_of no_interaction
default_is s h = rw (h.0, h.1.0, h.1.1)
