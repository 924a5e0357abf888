-- The laws of specs/Laws.antt that need no round trip. Assumes nothing.
use Rattle.std.specs.Prelude.{None, Some}
use mathlib.Core.Path.{◌≡◌, refl, sym, ◌∙◌}
use mathlib.Core.List.{List, [], ◌∷◌, ◌++◌, map}
use Prim.Native.Nat.{ℕ, zero, suc, ◌≤◌}
use native.Mathlib.Omega.{arith}
use lib.ListN.{length}
use lib.Ieee.{nan, binary32, lt, le, fits, of_bits, nan_bits}
use lib.Ieee.Bits.{nan_bits_is, is_true}
use Rattle.data.specs.Limits.{max_events, within32, zero32, one32, max_coordinate, min_coordinate, max_zoom, max_radians, min_radians, coordinate_ok, zoom_ok, radians_ok, force_ok}
use Rattle.feed.specs.Types.{Event, PassRefusal, TooManyEvents}
use Rattle.feed.specs.Shape.{float_of}
use Rattle.feed.specs.Decode.{Decoded, good, malformed, outside_domain, Item, items}
use Rattle.feed.specs.Feed.{then_events, events_of, then_refusal, first_refusal, feed_refusal}
use Rattle.feed.specs.Laws.{NanOutside, Walk, good_item, EventSixtyFive, Accepted}
use Rattle.feed.proofs.Nan.{nan_is}
use Rattle.feed.proofs.Reading.{items_first, items_none, items_next}

-- ---- NaN
pub nan_outside : NanOutside
unfolding float_of coordinate_ok zoom_ok radians_ok force_ok within32 zero32 one32 max_coordinate min_coordinate max_zoom max_radians min_radians of_bits le lt fits
nan_outside w h =
    let e : of_bits binary32 w ≡ nan = nan_is (of_bits binary32 w) (sym (nan_bits_is binary32 w) ∙ is_true (nan_bits binary32 w) h) in
    (rw e, rw e, rw e, rw e)

-- ---- from place to place
pub walk : Walk
walk = record { first = items_first; past = items_none; next = items_next }

-- ---- refusals event by event
over : (left : ℕ) (before : List (ℕ × Event)) (i : Item) (after : List Item) → length before ≡ left →
    first_refusal left (map good_item before ++ i ∷ after) ≡ Some (TooManyEvents i.index)
unfolding first_refusal then_refusal
over zero [] i after h = refl
over zero (b ∷ before) i after h = absurd (omega arith)
over (suc left) [] i after h = absurd (omega arith)
over (suc left) (b ∷ before) i after h = over left before i after (omega arith)

pub event_sixty_five : EventSixtyFive
unfolding feed_refusal
event_sixty_five ws before i after h e = rw e (over max_events before i after h)

some_none : {X : Type 0} {r : PassRefusal} → Some r ≡ None → X
some_none e = let z : ◌≡◌ {A = ℕ} 0 1 = cc in absurd (omega arith)

abbrev what : Item → Decoded
what i = i.what

abbrev Fine : ℕ → List Item → Type 0
Fine left is = (length is ≤ left) × (map what is ≡ map good (events_of is))

accepted_from : (left : ℕ) (is : List Item) → first_refusal left is ≡ None → Fine left is
unfolding first_refusal events_of then_refusal then_events
accepted_from left [] h = (omega arith, refl)
accepted_from zero (i ∷ is) h = some_none h
accepted_from (suc left) (i ∷ is) h = go i.what refl h (λ k. accepted_from left is k)
  where
    go : (d : Decoded) → i.what ≡ d → then_refusal i.index d (first_refusal left is) ≡ None → (first_refusal left is ≡ None → Fine left is) →
        (suc (length is) ≤ suc left) × (i.what ∷ map what is ≡ map good (then_events i.what (events_of is)))
    go (good e) p h later =
        let rest = later h in
        (omega (arith, rest.0), rw (p, rest.1))
    go malformed p h later = some_none h
    go outside_domain p h later = some_none h

pub accepted : Accepted
unfolding feed_refusal
accepted ws h = accepted_from max_events (items ws) h
