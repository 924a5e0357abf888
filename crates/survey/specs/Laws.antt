-- Of devices as every pass leaves them, nothing that the survey takes fails to fit: the survey and the events are the model's.
use Rattle.std.specs.Prelude.{ℕ, ◌≡◌, List, [], map, Float, Option, None}
use Rattle.feed.specs.Decode.{Item}
use Rattle.feed.specs.Feed.{events_of}
use Rattle.model.specs.Types.{Pos2, Event}
use Rattle.model.specs.Touch.{TouchState, InOrder, touch_events, end_touches}
use Rattle.model.specs.Pass.{survey}
use Rattle.survey.specs.Survey.{fits_events, fits_survey}

abbrev pub NoneInOrder : Type 0
NoneInOrder = InOrder []

abbrev pub SurveyLaw : Type 0
SurveyLaw = (left : ℕ) (is : List Item) (vs : List TouchState) → InOrder vs → fits_survey left is vs ≡ survey left is vs

-- and after the events the devices are in order again
abbrev pub EventsLaw : Type 0
EventsLaw =
    (left : ℕ) (is : List Item) (vs : List TouchState) → InOrder vs → fits_survey left is vs ≡ None →
    (fits_events (events_of is) vs ≡ touch_events (events_of is) vs) × InOrder (fits_events (events_of is) vs)

-- the end of a pass keeps the order
abbrev pub EndLaw : Type 0
EndLaw = (time : Float) (p : Option Pos2) (es : List Event) (vs : List TouchState) → InOrder vs → InOrder (map (end_touches time p es) vs)
