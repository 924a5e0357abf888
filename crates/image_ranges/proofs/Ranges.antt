-- Every call stays in range: a taken pass by its own numbers, which are in 01's domain; nothing else writes these fields. Assumes nothing.
use Rattle.std.specs.Prelude.{Option, None, Some}
use mathlib.Core.Path.{◌≡◌, refl}
use mathlib.Core.Bool.{Bool, true, false, ◌&&◌, cond}
use mathlib.Core.List.{[], ◌∷◌}
use lib.Dec.{T}
use lib.Ieee.{Float, lt}
use lib.Ieee.Fits.{and_l, and_r}
use Rattle.data.specs.Limits.{max_events, time_ok, unit_interval_ok, scale_ok, rect_ok, options_ok}
use Rattle.feed.specs.Decode.{items}
use Rattle.model.specs.Types.{Rect, PassRefusal, OutsideDomain, TimeBelow, InteractRefusal}
use Rattle.model.specs.Pass.{Panel, PassInput, fresh, begin_pass, clock_pass, screen_pass, rect_or, rect_given_ok, time_of, own_numbers_ok, own_refusal, or_else, survey, pass, pass_by, pass_refusal}
use Rattle.model.specs.Interact.{InteractInput, seen, interact, interact_seen, interact_by, input_refusal, tally_refusal, tallied, tallied_by, snapshot, interaction_after, with_interaction}
use Rattle.model.specs.Calls.{Call, passes, interacts, of_pass, of_interact, call, after, run}
use Rattle.model.proofs.Ids.{impossible}
use Rattle.model.proofs.Opened.{opened}
use Rattle.image_ranges.specs.Ranges.{Ranged, RunsStayInRange, EveryRunIsInRange}

-- ---- a pass's own numbers
record Own (i : PassInput) (t : Float) : Type 0 where
  time : T (time_ok t)
  dt : T (unit_interval_ok i.predicted_dt)
  scale : T (scale_ok i.pixels_per_point)
  rect : T (rect_given_ok i.screen_rect)
  options : T (options_ok i.options)

own : (i : PassInput) (t : Float) → T (own_numbers_ok i t) → Own i t
unfolding own_numbers_ok
own i t h =
    let b = unit_interval_ok i.predicted_dt in
    let c = unit_interval_ok i.smoothing_factor in
    let d = scale_ok i.pixels_per_point in
    let e = rect_given_ok i.screen_rect in
    let f = options_ok i.options in
    let u = and_r (time_ok t) (b && (c && (d && (e && f)))) h in
    let v = and_r c (d && (e && f)) (and_r b (c && (d && (e && f))) u) in
    let w = and_r d (e && f) v in
    record {
      time = and_l (time_ok t) (b && (c && (d && (e && f)))) h;
      dt = and_l b (c && (d && (e && f))) u;
      scale = and_l d (e && f) v;
      rect = and_l e f w;
      options = and_r e f w;
    }

rect_kept : (g : Option Rect) (old : Rect) → T (rect_given_ok g) → T (rect_ok old) → T (rect_ok (rect_or g old))
unfolding rect_given_ok rect_or
rect_kept None old h k = k
rect_kept (Some r) old h k = h

begun : (p : Panel) (i : PassInput) → Ranged p → T (own_numbers_ok i (time_of i p.clock.time)) → Ranged (begin_pass p i)
unfolding begin_pass clock_pass screen_pass
begun p i r h =
    let o = own i (time_of i p.clock.time) h in
    ((o.time, o.dt), (rect_kept i.screen_rect p.screen.viewport_rect o.rect r.1.0, o.scale, o.options))

-- ---- a call
numbers_taken : (a b : Bool) (s : Option PassRefusal) → or_else (cond a (cond b (Some TimeBelow) None) (Some (OutsideDomain 0))) s ≡ None → T a
unfolding or_else
numbers_taken true b s h = tt
numbers_taken false b s h = impossible (cc)

taken_numbers : (p : Panel) (i : PassInput) → pass_refusal p i ≡ None → T (own_numbers_ok i (time_of i p.clock.time))
unfolding pass_refusal own_refusal
taken_numbers p i e =
    let t = time_of i p.clock.time in
    numbers_taken (own_numbers_ok i t) (lt t p.clock.time) (survey max_events (items i.feed) p.touch_states) e

passed : (p : Panel) (i : PassInput) → Ranged p → Ranged (after p (call p (passes i)))
unfolding after call of_pass pass pass_by
passed p i r = go (pass_refusal p i) refl
  where
    go : (o : Option PassRefusal) → pass_refusal p i ≡ o → Ranged (after p (of_pass (pass_by o p i)))
    go (Some q) e = r
    go None e = begun p i r (taken_numbers p i e)

-- an interact writes interaction and tally alone
interacted : (p : Panel) (x : InteractInput) → Ranged p → Ranged (after p (call p (interacts x)))
unfolding after call of_interact interact interact_seen interact_by tallied tallied_by with_interaction
interacted p x r = go (input_refusal x)
  where
    full : (o : Option InteractRefusal) → Ranged (after p (of_interact (tallied_by o p (snapshot (seen p) x p.interaction) (interaction_after (seen p) x p.interaction))))
    full (Some q) = r
    full None = r

    go : (o : Option InteractRefusal) → Ranged (after p (of_interact (interact_by o (seen p) p x)))
    go (Some q) = r
    go None = full (tally_refusal (snapshot (seen p) x p.interaction) p.tally)

call_ranged : (p : Panel) (c : Call) → Ranged p → Ranged (after p (call p c))
call_ranged p (passes i) r = passed p i r
call_ranged p (interacts x) r = interacted p x r

pub runs_stay_in_range : RunsStayInRange
unfolding run
runs_stay_in_range p r [] = r
runs_stay_in_range p r (c ∷ cs) = runs_stay_in_range (after p (call p c)) (call_ranged p c r) cs

fresh_ranged : Ranged fresh
unfolding opened
fresh_ranged = ((tt, tt), (tt, tt, tt))

pub every_run_is_in_range : EveryRunIsInRange
every_run_is_in_range cs = runs_stay_in_range fresh fresh_ranged cs
