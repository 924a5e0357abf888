-- The devices of a pass that is taken stay in order: the survey takes an event only where it has a place. Assumes nothing.
use Rattle.std.specs.Prelude.{Option, None, Some}
use Prim.Native.Nat.{ℕ, zero, suc}
use mathlib.Core.Path.{◌≡◌, refl}
use mathlib.Core.Bool.{Bool, true, false, cond}
use mathlib.Core.List.{List, [], ◌∷◌}
use lib.Ieee.{Float}
use Rattle.feed.specs.Decode.{Decoded, good, malformed, outside_domain, Item}
use Rattle.feed.specs.Feed.{then_events, events_of}
use Rattle.model.specs.Types.{Pos2, NoPlace}
use Rattle.model.specs.Touch.{TouchState, touch_event, touch_events, touch_pass, InOrder}
use Rattle.model.specs.Pass.{crowded, item_refusal, item_devices, or_else, survey}
use Rattle.model.proofs.Ids.{impossible}
use Rattle.model.proofs.InOrder.{event_in_order, end_in_order}

survey_in_order : (left : ℕ) (is : List Item) (vs : List TouchState) → InOrder vs → survey left is vs ≡ None → InOrder (touch_events (events_of is) vs)
unfolding survey touch_events events_of then_events item_refusal item_devices or_else
survey_in_order left [] vs w h = w
survey_in_order zero (i ∷ is) vs w h = impossible (cc)
survey_in_order (suc left) (i ∷ is) vs w h = go i.what h (λ us z k. survey_in_order left is us z k)
  where
    go : (x : Decoded) → or_else (item_refusal i.index x vs) (survey left is (item_devices x vs)) ≡ None
        → ((us : List TouchState) → InOrder us → survey left is us ≡ None → InOrder (touch_events (events_of is) us)) → InOrder (touch_events (then_events x (events_of is)) vs)
    go malformed k ih = impossible (cc)
    go outside_domain k ih = impossible (cc)
    go (good e) k ih = placed (crowded e vs) refl k
      where
        placed : (b : Bool) → crowded e vs ≡ b → or_else (cond b (Some (NoPlace i.index)) None) (survey left is (touch_event e vs)) ≡ None → InOrder (touch_events (events_of is) (touch_event e vs))
        placed true c m = impossible (cc)
        placed false c m = ih (touch_event e vs) (event_in_order e vs w c) m

-- the devices' part of a pass
pub touch_pass_in_order : (time : Float) (p : Option Pos2) (left : ℕ) (is : List Item) (vs : List TouchState) → InOrder vs → survey left is vs ≡ None → InOrder (touch_pass time p (events_of is) vs)
unfolding touch_pass
touch_pass_in_order time p left is vs o h = end_in_order time p (events_of is) (touch_events (events_of is) vs) (survey_in_order left is vs o h)
