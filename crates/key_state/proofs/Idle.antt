-- Events of the kinds that the keys do not read leave them as they are; and their loop along their list. Assumes nothing.
use mathlib.Core.Path.{◌≡◌, refl}
use mathlib.Core.List.{List}
use Rattle.data.specs.Kinds.{key_kind, modifiers_kind, focus_kind}
use Rattle.data.specs.Numbers.{kind_number}
use Rattle.model.specs.Types.{Event, Key, ModifiersChanged, PointerMoved, MouseMoved, Button, PointerGone, Zoom, Rotate, Touch, MouseWheel, WindowFocused, Other}
use Rattle.model.specs.Pass.{Keys, key_event, key_events}
use Rattle.event_loop.specs.Lists.{own, keys_list}
use Rattle.event_loop.specs.Loop.{Loop}
use Rattle.event_loop.proofs.Loops.{loop, own_law}
use Rattle.event_loop.proofs.OfKind.{not_read}

pub key_idle : (e : Event) (s : Keys) → (kind_number e ≡ key_kind → ⊥) → (kind_number e ≡ modifiers_kind → ⊥) → (kind_number e ≡ focus_kind → ⊥) → key_event e s ≡ s
unfolding key_event
key_idle (Key k b) s h1 h2 h11 = absurd (h1 refl)
key_idle (ModifiersChanged m) s h1 h2 h11 = absurd (h2 refl)
key_idle (PointerMoved v) s h1 h2 h11 = refl
key_idle (MouseMoved v) s h1 h2 h11 = refl
key_idle (Button v b d m) s h1 h2 h11 = refl
key_idle PointerGone s h1 h2 h11 = refl
key_idle (Zoom x) s h1 h2 h11 = refl
key_idle (Rotate x) s h1 h2 h11 = refl
key_idle (Touch d i ph v f) s h1 h2 h11 = refl
key_idle (MouseWheel u v ph g m) s h1 h2 h11 = refl
key_idle (WindowFocused b) s h1 h2 h11 = absurd (h11 refl)
key_idle Other s h1 h2 h11 = refl

pub key_loop : Loop key_events key_event
unfolding key_events
key_loop = loop key_events key_event (λ s. refl) (λ e es s. refl)

-- the events of other lists change nothing
pub key_own : (es : List Event) (s : Keys) → key_events (own keys_list es) s ≡ key_events es s
unfolding key_events
key_own es s =
    own_law key_events key_event (λ s. refl) (λ e es s. refl) keys_list
    (λ e s h. key_idle e s (not_read keys_list e key_kind h refl) (not_read keys_list e modifiers_kind h refl) (not_read keys_list e focus_kind h refl)) es s
