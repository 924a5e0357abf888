-- A pass refused or taken, as its parts tell. Assumes nothing.
use Rattle.std.specs.Prelude.{Option, None, Some, Result, ⊤}
use mathlib.Core.Path.{◌≡◌, refl, sym, ap, ◌∙◌}
use mathlib.Core.List.{List, map}
use Rattle.std.specs.Option.{option_map}
use Prim.Native.Nat.{ℕ}
use native.Mathlib.Omega.{arith}
use lib.Ieee.{Float}
use Rattle.data.specs.Limits.{max_events}
use Rattle.data.specs.Numbers.{pass_row}
use Rattle.feed.specs.Decode.{items}
use Rattle.feed.specs.Feed.{events_of}
use Rattle.model.specs.Types.{PassRefusal, Pos2}
use Rattle.model.specs.Touch.{TouchState, InOrder, touch_events, touch_pass, end_touches}
use Rattle.model.specs.Pass.{Panel, Interaction, or_else, own_refusal, time_of, time_or, fresh, pass_events, begin_pass, pass_refusal, pass_by, pass}
use Rattle.model.specs.Pass as Pass
use Rattle.event_loop.specs.Shaped.{shaped_events}
use Rattle.event_loop.specs.declared.lists.Lists.{Lists}
use Rattle.event_loop.specs.Lists.{touch_list, listed, listed_events, Listed}
use Rattle.touch_state.specs.View.{view}
use Rattle.touch_state.specs.declared.devices.Devices.{Devices}
use Rattle.survey.specs.Survey.{option, fits_events, fits_survey, crowd_then, Read}
use Rattle.survey.proofs.Places.{survey_is, none_refused, devices_are}
use Rattle.survey.proofs.Formed.{survey_law, events_law, end_law}
use Rattle.survey.proofs.Accepted.{accepted}
use Rattle.touch_ends.proofs.Ended.{ended_own}
use Rattle.input_state.specs.declared.input.PassInput.{PassInput}
use Rattle.input_state.specs.declared.state.InputState.{InputState}
use Rattle.input_state.specs.View.{Lent, panel, input, begin_by, Storage, Ready, Acted}
use Rattle.input_pass.specs.Begun.{outcome, refusal_of, left_by, Begun}
use Rattle.input_pass.specs.declared.begin.Begun.{Begun as Answer}

pub some_none : {X : Type 0} {r : PassRefusal} → Some r ≡ None → X
some_none e = let z : ◌≡◌ {A = ℕ} 0 1 = cc in absurd (omega arith)

-- the list of the touch events holds all that the devices' end reads
ended_all : (ws : List ℕ) (s : Lists) → Listed ws s → (time : Float) (p : Option Pos2) (vs : List TouchState) →
    map (end_touches time p (listed_events ws (listed s touch_list))) vs ≡ map (end_touches time p (shaped_events ws)) vs
ended_all ws s ls time p vs = rw (ls touch_list (omega arith)) (ended_own time p (shaped_events ws) vs)

-- refused for its own numbers
pub own_refused : (i : PassInput) (ws : List ℕ) (old : Float) (vs : List TouchState) (x : PassRefusal) → own_refusal (input ws i) old ≡ Some x → refusal_of i ws old vs ≡ Some x
unfolding refusal_of or_else
own_refused i ws old vs x e = rw e

-- ---- before the events: its own numbers are not refused; what reading tells, and the touch events
module _ (i : PassInput) (ws : List ℕ) (s : Lists) (old : Float) (r : Result ⊤ PassRefusal) (vs : List TouchState)
    (own : own_refusal (input ws i) old ≡ None) (read : Read ws s r) where
  pub surveyed : crowd_then ws (listed s touch_list) (λ us. option r) vs ≡ refusal_of i ws old vs
  unfolding refusal_of or_else
  surveyed = rw own (survey_is ws s r vs read)

  module _ (z : refusal_of i ws old vs ≡ None) where
    none_found : fits_survey max_events (items ws) vs ≡ None
    unfolding refusal_of or_else
    none_found = rw own at z

    pub devices_held : fits_events (listed_events ws (listed s touch_list)) vs ≡ fits_events (shaped_events ws) vs
    devices_held = devices_are ws s r vs read none_found

    pub ready : Ready ws s
    ready = record { lists = read.lists (none_refused ws s r vs read none_found); few = (accepted ws max_events vs none_found).1 }

none_later : (a b : Option PassRefusal) → or_else a b ≡ None → b ≡ None
unfolding or_else
none_later None b h = h
none_later (Some r) b h = some_none h

-- a pass that is taken, of what `act` leaves
module _ (i : PassInput) (ws : List ℕ) (l l' : Lent) (s s' : InputState) (ds : Devices) (z : refusal_of i ws s.clock.time (view ds) ≡ None)
    (act : Acted i ws l s l' s') (n : Interaction) (t : ℕ) where
  -- its events are those of the feed
  all_events : shaped_events ws ≡ pass_events (input ws i)
  unfolding refusal_of pass_events
  all_events = (accepted ws max_events (view ds) (none_later (own_refusal (input ws i) s.clock.time) _ z)).0

  pub taken_is : (ds' : Devices) (held : List TouchState) (time : Float) →
      held ≡ fits_events (shaped_events ws) (view ds) →
      time ≡ time_or i.time i.predicted_dt s.clock.time →
      view ds' ≡ map (end_touches time s.pointer.place.interact_pos (shaped_events ws)) held →
      panel l' s' (view ds') n t ≡ begin_by (pass_events (input ws i)) (fits_events (pass_events (input ws i)) (view ds)) (panel l s (view ds) n t) (input ws i)
  unfolding time_of
  taken_is ds' held time h e k = rw (k, h, e) (act.result (view ds) (fits_events (shaped_events ws) (view ds)) n t ∙ rw all_events)

  pub storage_is : Storage (pass_events (input ws i))
      (begin_by (pass_events (input ws i)) (fits_events (pass_events (input ws i)) (view ds)) (panel l s (view ds) n t) (input ws i)) l s l'
  storage_is = rw all_events at (act.storage (view ds) (fits_events (shaped_events ws) (view ds)) n t)

-- ---- the model's pass
begin_is : (p : Panel) (i : Pass.PassInput) → begin_by (pass_events i) (touch_events (pass_events i) p.touch_states) p i ≡ begin_pass p i
unfolding begin_by begin_pass touch_pass
begin_is p i = refl

module _ (i : PassInput) (ws : List ℕ) (l l' : Lent) (s : InputState) (ds : Devices) (r : Result Answer PassRefusal) where
  abbrev b : Answer
  b = left_by s ds r

  abbrev first : Option PassRefusal
  first = refusal_of i ws s.clock.time (view ds)

  abbrev now : Interaction → ℕ → Panel
  now n t = panel l' b.state (view b.devices) n t

  module _ (q : option r ≡ first) (o : InOrder (view ds)) (n : Interaction) (t : ℕ) where
    abbrev old : Panel
    old = panel l s (view ds) n t

    same_refusal : first ≡ pass_refusal old (input ws i)
    unfolding refusal_of pass_refusal
    same_refusal = rw (survey_law max_events (items ws) (view ds) o)

    refused_whole : (x : PassRefusal) → first ≡ Some x → outcome (option r) (now n t) ≡ pass old (input ws i)
    unfolding pass pass_by outcome
    refused_whole x h = rw (q, ← same_refusal, h)

    survey_none : first ≡ None → fits_survey max_events (items ws) (view ds) ≡ None
    unfolding refusal_of
    survey_none h = none_later (own_refusal (input ws i) s.clock.time) _ h

    taken_whole : first ≡ None → now n t ≡ begin_by (pass_events (input ws i)) (fits_events (pass_events (input ws i)) (view ds)) old (input ws i) →
        outcome (option r) (now n t) ≡ pass old (input ws i)
    unfolding pass pass_by outcome pass_events
    taken_whole h e =
        let v = (events_law max_events (items ws) (view ds) o (survey_none h)).0 in
        rw (q, ← same_refusal, h, e, v) (ap Pass.taken (begin_is old (input ws i)))

  some_not_none : (x : PassRefusal) → first ≡ Some x → first ≡ None → ⊥
  some_not_none x h z = some_none (sym h ∙ z)

  -- a pass that is refused
  pub refused_pass : (x : PassRefusal) → option r ≡ first → option r ≡ Some x → b.state ≡ s → b.devices ≡ ds → l' ≡ l → Begun i ws l s ds l' r
  refused_pass x q y es ed el =
      let h : first ≡ Some x = sym q ∙ y in
      record {
        refusal = q;
        answer = ap (option_map pass_row) q;
        refused = λ z. (es, ed, el);
        taken = λ z. absurd (some_not_none x h z);
        storage = λ z. absurd (some_not_none x h z);
        whole = λ o n t. refused_whole q o n t x h;
        in_order = λ o. rw ed o;
      }

  -- a pass that is taken
  pub taken_pass : (ls : Lists) (held : List TouchState) (time : Float) → option r ≡ first → option r ≡ None →
      (first ≡ None → held ≡ fits_events (shaped_events ws) (view ds)) →
      (first ≡ None → Ready ws ls) →
      time ≡ time_or i.time i.predicted_dt s.clock.time →
      view b.devices ≡ map (end_touches time s.pointer.place.interact_pos (listed_events ws (listed ls touch_list))) held →
      Acted i ws l s l' b.state → Begun i ws l s ds l' r
  unfolding pass_events
  taken_pass ls held time q y e ready tm m act =
      let h : first ≡ None = sym q ∙ y in
      let k = m ∙ ended_all ws ls (ready h).lists time s.pointer.place.interact_pos held in
      let same : (n : Interaction) (t : ℕ) → now n t ≡ begin_by (events_of (items ws)) (fits_events (events_of (items ws)) (view ds)) (panel l s (view ds) n t) (input ws i) =
      λ n t. taken_is i ws l l' s b.state ds h act n t b.devices held time (e h) tm k in
      record {
        refusal = q;
        answer = ap (option_map pass_row) q;
        refused = λ z. absurd (z h);
        taken = λ z. same;
        storage = λ z. storage_is i ws l l' s b.state ds h act;
        whole = λ o n t. taken_whole q o n t h (same n t);
        in_order =
            λ o.
            let later = survey_none q o fresh.interaction 0 h in
            let a = (accepted ws max_events (view ds) later).0 in
            let v = (events_law max_events (items ws) (view ds) o later).1 in
            rw (k, e h, a) (end_law time s.pointer.place.interact_pos (events_of (items ws)) (fits_events (events_of (items ws)) (view ds)) v);
      }
