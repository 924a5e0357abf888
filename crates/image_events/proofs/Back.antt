-- An event read from the value that stands for it, and every value in range stands for one.
use Rattle.std.specs.Prelude.{None, Some}
use Prim.Native.Nat.{ℕ, zero, suc}
use native.Mathlib.Omega.{arith}
use mathlib.Core.Path.{◌≡◌, refl, ap₂}
use mathlib.Core.List.{List, [], ◌∷◌}
use lib.Dec.{T, ltb, leb→le, ltb→lt}
use Rattle.data.specs.Numbers.{button_number}
use Rattle.feed.specs.Shape.{button_of}
use Rattle.feed.proofs.RoundTrip.{button_back}
use Rattle.model.specs.Types.{PointerEvent, Moved, Pressed, Released}
use Rattle.image.specs.Codes.{El, In, Each}
use Rattle.image_words.specs.Leaves.{upto}
use Rattle.image_options.proofs.Trip.{modifiers_again, modifiers_forth}
use Rattle.image_events.specs.Events.{kinds, max_button, by_kind, event_code, event_el, event_by, event_of_el, events_el, events_of_el}

event_back : (e : PointerEvent) → event_of_el (event_el e) ≡ e
unfolding event_el event_by
event_back (Moved v) = refl
event_back (Pressed v b) = rw (button_back b)
event_back (Released None b) = rw (button_back b)
event_back (Released (Some k) b) = rw (button_back b, modifiers_again k.modifiers)

pub events_back : (es : List PointerEvent) → events_of_el (events_el es) ≡ es
unfolding events_of_el events_el
events_back [] = refl
events_back (e ∷ es) = ap₂ (λ (x : PointerEvent) (xs : List PointerEvent). x ∷ xs) (event_back e) (events_back es)

-- ---- and forth
button_forth : (n : ℕ) → T (upto max_button n) → button_number (button_of n) ≡ n
unfolding button_of
button_forth zero h = refl
button_forth (suc zero) h = refl
button_forth (suc (suc zero)) h = refl
button_forth (suc (suc (suc zero))) h = refl
button_forth (suc (suc (suc (suc zero)))) h = refl
button_forth (suc (suc (suc (suc (suc n))))) h = absurd (let k = leb→le (suc (suc (suc (suc (suc n))))) max_button h in omega arith)

by_kind_forth : (k : ℕ) (v : El (by_kind k)) → T (ltb k kinds) → In (by_kind k) v → event_el (event_by k v) ≡ (k, v)
unfolding event_el event_by
by_kind_forth zero v l h = refl
by_kind_forth (suc zero) v l h = rw (button_forth v.0 h.0)
by_kind_forth (suc (suc zero)) v l h = rw (button_forth v.0 h.0)
by_kind_forth (suc (suc (suc zero))) v l h = rw (button_forth v.0 h.0, modifiers_forth v.1.1.0 h.1.1.0)
by_kind_forth (suc (suc (suc (suc k)))) v l h = absurd (let z = ltb→lt (suc (suc (suc (suc k)))) kinds l in omega arith)

pub events_forth : (vs : List (El event_code)) → Each (In event_code) vs → events_el (events_of_el vs) ≡ vs
unfolding events_el events_of_el
events_forth [] h = refl
events_forth (v ∷ vs) h = ap₂ (λ (x : El event_code) (xs : List (El event_code)). x ∷ xs) (by_kind_forth v.0 v.1 h.0.0 h.0.1) (events_forth vs h.1)
