-- The survey of a feed on the devices that the arrays hold: the model's `survey`, where what does not fit is left out.
-- Of devices in order these are the model's own (specs/Laws.antt).
use Rattle.std.specs.Prelude.{ℕ, zero, suc, ◌≡◌, cond, List, [], ◌∷◌, Option, None, Some, Ok, Err, Result, ⊤}
use Rattle.data.specs.Limits.{max_events}
use Rattle.feed.specs.Decode.{Decoded, good, malformed, outside_domain, Item, items}
use Rattle.feed.specs.Feed.{feed_refusal}
use Rattle.model.specs.Types.{PassRefusal, TooManyEvents, NoPlace}
use Rattle.model.specs.Types.{Event, Key, ModifiersChanged, PointerMoved, MouseMoved, Button, PointerGone, Zoom, Rotate, Touch, MouseWheel, WindowFocused, Other}
use Rattle.model.specs.Touch.{TouchState}
use Rattle.model.specs.Pass.{or_else, crowded, item_refusal}
use Rattle.touch_state.specs.View.{fits_touch}
use Rattle.event_loop.specs.Shaped.{shaped_at}
use Rattle.event_loop.specs.declared.lists.Lists.{Lists}
use Rattle.event_loop.specs.Lists.{touch_list, listed, Listed}
use Rattle.data.specs.declared.refusal.PassRefusal.{PassRefusal}

-- the refusal of an answer, if there is one
unfoldable pub option : {A : Type 0} → Result A PassRefusal → Option PassRefusal
option (Ok x) = None
option (Err r) = Some r

-- `touch_event`, of what fits
unfoldable pub fits_event : Event → List TouchState → List TouchState
fits_event (Key k b) vs = vs
fits_event (ModifiersChanged m) vs = vs
fits_event (PointerMoved v) vs = vs
fits_event (MouseMoved v) vs = vs
fits_event (Button v b d m) vs = vs
fits_event PointerGone vs = vs
fits_event (Zoom x) vs = vs
fits_event (Rotate x) vs = vs
fits_event (Touch d i ph p f) vs = fits_touch d ph (record { id = i; pos = p; force = f }) vs
fits_event (MouseWheel u v ph s m) vs = vs
fits_event (WindowFocused b) vs = vs
fits_event Other vs = vs

unfoldable pub fits_events : List Event → List TouchState → List TouchState
fits_events [] vs = vs
fits_events (e ∷ es) vs = fits_events es (fits_event e vs)

unfoldable pub fits_item : Decoded → List TouchState → List TouchState
fits_item (good e) vs = fits_event e vs
fits_item malformed vs = vs
fits_item outside_domain vs = vs

-- 01: "then event by event 4, 1, 2, 5". `left` is how many events may still come
unfoldable pub fits_survey : ℕ → List Item → List TouchState → Option PassRefusal
fits_survey left [] vs = None
fits_survey zero (i ∷ is) vs = Some (TooManyEvents i.index)
fits_survey (suc left) (i ∷ is) vs = or_else (item_refusal i.index i.what vs) (fits_survey left is (fits_item i.what vs))

-- the events at some places, one after the other: the first that finds no place is refused, and `after` them comes the rest
unfoldable pub crowd_then : List ℕ → List ℕ → (List TouchState → Option PassRefusal) → List TouchState → Option PassRefusal
crowd_then ws [] after vs = after vs
crowd_then ws (p ∷ ps) after vs = cond (crowded (shaped_at ws p) vs) (Some (NoPlace p)) (crowd_then ws ps after (fits_event (shaped_at ws p) vs))

-- What reading tells: 4, 1, 2; of a feed that is not refused, the lists; and the survey is decided by the touch events in their list.
pub record Read (ws : List ℕ) (s : Lists) (r : Result ⊤ PassRefusal) : Type 0 where
  pub refusal : option r ≡ feed_refusal ws
  pub lists : feed_refusal ws ≡ None → Listed ws s
  pub crowd : (vs : List TouchState) →
      fits_survey max_events (items ws) vs ≡ crowd_then ws (listed s touch_list) (λ us. feed_refusal ws) vs
