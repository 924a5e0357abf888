-- The pointer events by their kinds, and a walk through them. Assumes nothing.
use Rattle.std.specs.Prelude.{Option, None, Some}
use Rattle.std.specs.Option.{is_some}
use Prim.Native.Nat.{ℕ, suc, ◌+◌, ◌-◌, ◌<◌, ◌≤◌}
use mathlib.Core.Path.{◌≡◌, refl, ap}
use mathlib.Core.Bool.{Bool, true, false, not, ◌&&◌}
use mathlib.Core.List.{List}
use native.Mathlib.Numerals.{add-one}
use native.Mathlib.Omega.{arith}
use lib.Ieee.{Float}
use Rattle.model.specs.Pass.{Interaction}
use Rattle.model.specs.Types.{Pos2, WidgetRect, PointerButton, PointerEvent, Click, Moved, Pressed, Released}
use Rattle.model.specs.Interact.{InteractInput, Seen, Going, has_click, forget_gone_click, abort_if, long_touch_if, pointer_event, pointer_events, walked}
use Rattle.pointer_events.specs.declared.EventKind.TheVariants as kind
use Rattle.pointer_events.specs.Events.{kind_of, event_of, entry_at, events_from}

-- an event by its kind
no : {A : Type 0} → ◌≡◌ {A = ℕ} 0 1 → A
no z = absurd (omega arith)

pub of_moved : (e : PointerEvent) → kind_of e ≡ kind.Moved → (v : Pos2) × (e ≡ Moved v)
unfolding kind_of
of_moved (Moved v) q = (v, refl)
of_moved (Pressed v b) q = no cc
of_moved (Released None b) q = no cc
of_moved (Released (Some k) b) q = no cc

pub of_pressed : (e : PointerEvent) (b : PointerButton) → kind_of e ≡ kind.Pressed b → (v : Pos2) × (e ≡ Pressed v b)
unfolding kind_of
of_pressed (Moved v) b q = no cc
of_pressed (Pressed v a) b q = (v, cc)
of_pressed (Released None a) b q = no cc
of_pressed (Released (Some k) a) b q = no cc

pub of_released : (e : PointerEvent) (o : Option ℕ) (b : PointerButton) → kind_of e ≡ kind.Released o b
    → (k : Option Click) × ((e ≡ Released k b) × (has_click k ≡ is_some o))
unfolding kind_of has_click
of_released (Moved v) o b q = no cc
of_released (Pressed v a) o b q = no cc
of_released (Released None a) o b q = let n : ◌≡◌ {A = Option ℕ} None o = cc in (None, (cc, ap is_some n))
of_released (Released (Some k) a) o b q = let n : ◌≡◌ {A = Option ℕ} (Some k.count) o = cc in (Some k, (cc, ap is_some n))

-- a release is a click where it has one and nothing is dragged
module _ (x : InteractInput) (b : PointerButton) (g h : Going) where
  pub clicks : (dragging : Bool) (k : Option Click) → (has_click k && not dragging) ≡ true
      → ((j : Click) → h ≡ pointer_event x false (Released (Some j) b) g) → h ≡ pointer_event x dragging (Released k b) g
  unfolding has_click
  clicks dragging None q f = no cc
  clicks false (Some j) q f = f j
  clicks true (Some j) q f = no cc

  pub releases : (dragging : Bool) (k : Option Click) → (has_click k && not dragging) ≡ false
      → h ≡ pointer_event x dragging (Released None b) g → h ≡ pointer_event x dragging (Released k b) g
  unfolding pointer_event has_click
  releases dragging None q f = f
  releases false (Some j) q f = no cc
  releases true (Some j) q f = f

module _ (codes : List ℕ) (ps : List Float) (x : InteractInput) (dragging : Bool) (n i : ℕ) where
  pub one_event : i < n → (g : Going)
      → pointer_events x dragging (events_from codes ps i (n - i)) g
      ≡ pointer_events x dragging (events_from codes ps (i + 1) (n - (i + 1))) (pointer_event x dragging (event_of (entry_at codes ps i)) g)
  unfolding pointer_events events_from
  one_event h g = let z : n - i ≡ suc (n - (i + 1)) = omega arith in rw (z, add-one i)

  pub no_event : n ≤ i → (g : Going) → pointer_events x dragging (events_from codes ps i (n - i)) g ≡ g
  unfolding pointer_events events_from
  no_event h g = let z : n - i ≡ 0 = omega arith in rw z

-- the steps one after the other
pub composed : (v : Seen) (x : InteractInput) (s : Interaction) (widgets : ℕ → Option WidgetRect) → x.widgets ≡ widgets
    → (s₁ : Interaction) → s₁ ≡ forget_gone_click widgets s → (s₂ : Interaction) → s₂ ≡ abort_if v.escape_pressed s₁
    → (g : Going) → g ≡ long_touch_if v.is_long_touch widgets s₂
    → (h : Going) → h ≡ pointer_events x v.is_decidedly_dragging v.pointer_events g → h ≡ walked v x s
unfolding walked
composed v x s widgets e s₁ a s₂ b g c h d = cc
