-- The drag decision by cases. Assumes nothing.
use Rattle.std.specs.Prelude.{Option, None, Some}
use Rattle.std.specs.Bool.{then_some}
use Prim.Native.Nat.{ℕ}
use mathlib.Core.Path.{◌≡◌, refl}
use mathlib.Core.Bool.{Bool, true, false, cond, ◌&&◌}
use native.Mathlib.Omega.{arith}
use Rattle.model.specs.Types.{WidgetRect}
use Rattle.model.specs.Interact.{InteractInput, kept_if, is_dragged, new_drag}
use Rattle.interaction_state.specs.Types.{Found}
use Rattle.interaction_state.specs.Lookup.{found_of}
use Rattle.interaction_state.proofs.Looked.{Of}

-- what senses no drag is not dragged
pub no_drag : (click : Bool) (a : Bool) → cond (click && false) a false ≡ false
no_drag true a = refl
no_drag false a = refl

module _ (x : InteractInput) (dragging : Bool) where
  pub unknown_drag : (m : Option WidgetRect) → found_of m ≡ None → None ≡ new_drag x dragging m
  unfolding found_of new_drag
  unknown_drag None h = refl
  unknown_drag (Some w) h = let z : ◌≡◌ {A = ℕ} 0 1 = cc in absurd (omega arith)

  kept : (b : Bool) (d : ℕ) → then_some b d ≡ kept_if b (Some d)
  unfolding kept_if
  kept true d = refl
  kept false d = refl

  pub known_drag : (d : ℕ) (m : Option WidgetRect) → Of d m → (f : Found) → found_of m ≡ Some f → (b : Bool)
      → ((w : WidgetRect) → w.id ≡ d → found_of (Some w) ≡ Some f → b ≡ is_dragged x dragging w) → then_some b d ≡ new_drag x dragging m
  unfolding found_of new_drag
  known_drag d None o f q b h = let z : ◌≡◌ {A = ℕ} 0 1 = cc in absurd (omega arith)
  known_drag d (Some w) o f q b h = rw (h w (o w refl) q, o w refl) (kept _ d)
