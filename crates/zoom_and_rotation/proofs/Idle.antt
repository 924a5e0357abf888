-- Events of the kinds that a sum does not read leave it as it is; and its loop along its list. Assumes nothing.
use mathlib.Core.Path.{◌≡◌, refl}
use mathlib.Core.List.{List}
use lib.Ieee.{Float}
use Rattle.data.specs.Kinds.{zoom_kind, rotate_kind}
use Rattle.data.specs.Numbers.{kind_number}
use Rattle.model.specs.Types.{Event, Key, ModifiersChanged, PointerMoved, MouseMoved, Button, PointerGone, Zoom, Rotate, Touch, MouseWheel, WindowFocused, Other}
use Rattle.model.specs.Pass.{zoom_event, zoom_of, rotation_event, rotation_of}
use Rattle.event_loop.specs.Lists.{own, sums_list}
use Rattle.event_loop.specs.Loop.{Loop}
use Rattle.event_loop.proofs.Loops.{loop, own_law}
use Rattle.event_loop.proofs.OfKind.{not_read}

pub zoom_idle : (e : Event) (s : Float) → (kind_number e ≡ zoom_kind → ⊥) → zoom_event e s ≡ s
unfolding zoom_event
zoom_idle (Key k b) s h7 = refl
zoom_idle (ModifiersChanged m) s h7 = refl
zoom_idle (PointerMoved v) s h7 = refl
zoom_idle (MouseMoved v) s h7 = refl
zoom_idle (Button v b d m) s h7 = refl
zoom_idle PointerGone s h7 = refl
zoom_idle (Zoom x) s h7 = absurd (h7 refl)
zoom_idle (Rotate x) s h7 = refl
zoom_idle (Touch d i ph v f) s h7 = refl
zoom_idle (MouseWheel u v ph g m) s h7 = refl
zoom_idle (WindowFocused b) s h7 = refl
zoom_idle Other s h7 = refl

pub rotation_idle : (e : Event) (s : Float) → (kind_number e ≡ rotate_kind → ⊥) → rotation_event e s ≡ s
unfolding rotation_event
rotation_idle (Key k b) s h8 = refl
rotation_idle (ModifiersChanged m) s h8 = refl
rotation_idle (PointerMoved v) s h8 = refl
rotation_idle (MouseMoved v) s h8 = refl
rotation_idle (Button v b d m) s h8 = refl
rotation_idle PointerGone s h8 = refl
rotation_idle (Zoom x) s h8 = refl
rotation_idle (Rotate x) s h8 = absurd (h8 refl)
rotation_idle (Touch d i ph v f) s h8 = refl
rotation_idle (MouseWheel u v ph g m) s h8 = refl
rotation_idle (WindowFocused b) s h8 = refl
rotation_idle Other s h8 = refl

pub zoom_loop : Loop zoom_of zoom_event
unfolding zoom_of
zoom_loop = loop zoom_of zoom_event (λ s. refl) (λ e es s. refl)

pub rotation_loop : Loop rotation_of rotation_event
unfolding rotation_of
rotation_loop = loop rotation_of rotation_event (λ s. refl) (λ e es s. refl)

-- the events of other lists change nothing
pub zoom_own : (es : List Event) (s : Float) → zoom_of (own sums_list es) s ≡ zoom_of es s
unfolding zoom_of
zoom_own es s = own_law zoom_of zoom_event (λ s. refl) (λ e es s. refl) sums_list (λ e s h. zoom_idle e s (not_read sums_list e zoom_kind h refl)) es s

pub rotation_own : (es : List Event) (s : Float) → rotation_of (own sums_list es) s ≡ rotation_of es s
unfolding rotation_of
rotation_own es s = own_law rotation_of rotation_event (λ s. refl) (λ e es s. refl) sums_list (λ e s h. rotation_idle e s (not_read sums_list e rotate_kind h refl)) es s
