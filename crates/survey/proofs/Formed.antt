-- Devices in order: what the survey takes fits. Assumes nothing.
use Rattle.std.specs.Prelude.{None, Some}
use mathlib.Core.Path.{◌≡◌, refl, sym, ap, ◌∙◌}
use mathlib.Core.Bool.{Bool, true, false, cond}
use mathlib.Core.List.{List, [], ◌∷◌}
use Prim.Native.Nat.{zero, suc}
use Rattle.feed.specs.Decode.{Decoded, good, malformed, outside_domain}
use Rattle.feed.specs.Feed.{then_events, events_of}
use Rattle.model.specs.Types.{NoPlace}
use Rattle.model.specs.Types.{Event, Key, ModifiersChanged, PointerMoved, MouseMoved, Button, PointerGone, Zoom, Rotate, Touch, MouseWheel, WindowFocused, Other}
use Rattle.model.specs.Touch.{TouchState, InOrder, touch_event, touch_events}
use Rattle.model.specs.Pass.{or_else, crowded, item_refusal, item_devices, survey}
use Rattle.model.proofs.InOrder as Model
use Rattle.touch_state.proofs.Steps.{step_law}
use Rattle.survey.specs.Survey.{fits_event, fits_events, fits_item, fits_survey}
use Rattle.survey.specs.Laws.{NoneInOrder, SurveyLaw, EventsLaw, EndLaw}
use Rattle.survey.proofs.Places.{none_some}

-- ---- an event
event_fits : (e : Event) (vs : List TouchState) → InOrder vs → crowded e vs ≡ false → (fits_event e vs ≡ touch_event e vs) × InOrder (fits_event e vs)
unfolding fits_event touch_event crowded
event_fits (Key k b) vs o h = (refl, o)
event_fits (ModifiersChanged m) vs o h = (refl, o)
event_fits (PointerMoved v) vs o h = (refl, o)
event_fits (MouseMoved v) vs o h = (refl, o)
event_fits (Button v b c m) vs o h = (refl, o)
event_fits PointerGone vs o h = (refl, o)
event_fits (Zoom x) vs o h = (refl, o)
event_fits (Rotate x) vs o h = (refl, o)
event_fits (Touch d i ph p f) vs o h = step_law d ph (record { id = i; pos = p; force = f }) vs o h
event_fits (MouseWheel u v ph s m) vs o h = (refl, o)
event_fits (WindowFocused b) vs o h = (refl, o)
event_fits Other vs o h = (refl, o)

module _ (e : Event) (vs : List TouchState) (o : InOrder vs) (free : crowded e vs ≡ false) where
  event_is : fits_event e vs ≡ touch_event e vs
  event_is = (event_fits e vs o free).0

  event_keeps : InOrder (fits_event e vs)
  event_keeps = (event_fits e vs o free).1

-- ---- all of them
pub none_in_order : NoneInOrder
none_in_order = Model.none_in_order

pub survey_law : SurveyLaw
unfolding fits_survey survey item_refusal fits_item item_devices or_else
survey_law left [] vs o = refl
survey_law zero (i ∷ is) vs o = refl
survey_law (suc left) (i ∷ is) vs o = go i.what (λ us q. survey_law left is us q)
  where
    go : (d : Decoded) → ((us : List TouchState) → InOrder us → fits_survey left is us ≡ survey left is us) →
        or_else (item_refusal i.index d vs) (fits_survey left is (fits_item d vs)) ≡ or_else (item_refusal i.index d vs) (survey left is (item_devices d vs))
    go (good e) later = by (crowded e vs) refl
      where
        by : (b : Bool) → crowded e vs ≡ b →
            or_else (cond b (Some (NoPlace i.index)) None) (fits_survey left is (fits_event e vs)) ≡ or_else (cond b (Some (NoPlace i.index)) None) (survey left is (touch_event e vs))
        by true t = refl
        by false t = later (fits_event e vs) (event_keeps e vs o t) ∙ rw (event_is e vs o t)
    go malformed later = refl
    go outside_domain later = refl

pub events_law : EventsLaw
unfolding fits_survey events_of then_events item_refusal fits_item or_else fits_events touch_events
events_law left [] vs o h = (refl, o)
events_law zero (i ∷ is) vs o h = none_some (sym h)
events_law (suc left) (i ∷ is) vs o h = go i.what h (λ us q k. events_law left is us q k)
  where
    go : (d : Decoded) → or_else (item_refusal i.index d vs) (fits_survey left is (fits_item d vs)) ≡ None →
        ((us : List TouchState) → InOrder us → fits_survey left is us ≡ None → (fits_events (events_of is) us ≡ touch_events (events_of is) us) × InOrder (fits_events (events_of is) us)) →
        (fits_events (then_events d (events_of is)) vs ≡ touch_events (then_events d (events_of is)) vs) × InOrder (fits_events (then_events d (events_of is)) vs)
    go (good e) h later = by (crowded e vs) refl h
      where
        by : (b : Bool) → crowded e vs ≡ b → or_else (cond b (Some (NoPlace i.index)) None) (fits_survey left is (fits_event e vs)) ≡ None →
            (fits_events (events_of is) (fits_event e vs) ≡ touch_events (events_of is) (touch_event e vs)) × InOrder (fits_events (events_of is) (fits_event e vs))
        by true t h = none_some (sym h)
        by false t h =
            let rest = later (fits_event e vs) (event_keeps e vs o t) h in
            (rest.0 ∙ ap (touch_events (events_of is)) (event_is e vs o t), rest.1)
    go malformed h later = none_some (sym h)
    go outside_domain h later = none_some (sym h)

pub end_law : EndLaw
end_law = Model.end_in_order
