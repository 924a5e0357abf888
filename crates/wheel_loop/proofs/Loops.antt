-- Events of the kinds that are not read leave it as it is; and its loop along its list. Assumes nothing.
use mathlib.Core.Path.{◌≡◌, refl}
use mathlib.Core.List.{List}
use lib.Ieee.{Float}
use Rattle.data.specs.Kinds.{wheel_kind}
use Rattle.data.specs.Numbers.{kind_number}
use Rattle.model.specs.Types.{Rect, InputOptions, WheelState}
use Rattle.model.specs.Types.{Event, Key, ModifiersChanged, PointerMoved, MouseMoved, Button, PointerGone, Zoom, Rotate, Touch, MouseWheel, WindowFocused, Other}
use Rattle.model.specs.Wheel.{wheel_event, wheel_events, wheel_pass, clear_smooth}
use Rattle.event_loop.specs.Lists.{wheel_list, own}
use Rattle.event_loop.specs.Loop.{Loop}
use Rattle.event_loop.proofs.Loops.{loop, own_law}
use Rattle.event_loop.proofs.OfKind.{not_read}

-- ---- the wheel
module _ (r : Rect) (o : InputOptions) (time : Float) where
  pub wheel_idle : (e : Event) (s : WheelState) → (kind_number e ≡ wheel_kind → ⊥) → wheel_event r o time e s ≡ s
  unfolding wheel_event
  wheel_idle (Key k b) s h10 = refl
  wheel_idle (ModifiersChanged m) s h10 = refl
  wheel_idle (PointerMoved v) s h10 = refl
  wheel_idle (MouseMoved v) s h10 = refl
  wheel_idle (Button v b c m) s h10 = refl
  wheel_idle PointerGone s h10 = refl
  wheel_idle (Zoom x) s h10 = refl
  wheel_idle (Rotate x) s h10 = refl
  wheel_idle (Touch d i ph v f) s h10 = refl
  wheel_idle (MouseWheel u v ph g m) s h10 = absurd (h10 refl)
  wheel_idle (WindowFocused b) s h10 = refl
  wheel_idle Other s h10 = refl

  pub wheel_loop : Loop (wheel_events r o time) (wheel_event r o time)
  unfolding wheel_events
  wheel_loop = loop (wheel_events r o time) (wheel_event r o time) (λ s. refl) (λ e es s. refl)

  pub wheel_own : (es : List Event) (s : WheelState) → wheel_events r o time (own wheel_list es) s ≡ wheel_events r o time es s
  unfolding wheel_events
  wheel_own es s = own_law (wheel_events r o time) (wheel_event r o time) (λ s. refl) (λ e es s. refl) wheel_list (λ e s h. wheel_idle e s (not_read wheel_list e wheel_kind h refl)) es s

-- ---- its part of a pass, of its own events alone
pub wheel_pass_own : (r : Rect) (o : InputOptions) (time factor : Float) (es : List Event) (w : WheelState) → wheel_pass r o time factor (own wheel_list es) w ≡ wheel_pass r o time factor es w
unfolding wheel_pass
wheel_pass_own r o time factor es w = rw (wheel_own r o time es (clear_smooth w))
