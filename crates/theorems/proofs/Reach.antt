-- What holds of every panel reached: an invariant of each call. Assumes nothing.
use Rattle.std.specs.Prelude.{Option, Some}
use mathlib.Core.Path.{◌≡◌, refl, sym, ap, subst}
use mathlib.Core.Bool.{Bool, true, false, ◌&&◌, ◌||◌, cond}
use mathlib.Core.List.{List, [], ◌∷◌}
use lib.Dec.{T, not_T}
use lib.Ieee.{Float, binary32, binary64, add, sub, lt, le, fits, of_bits}
use lib.Ieee.Fits.{and_l, and_r}
use lib.Ieee.Scale.{finite}
use Rattle.ieee_laws.proofs.Order.{le_trans, le_refl, le_not_lt, not_lt_le}
use Rattle.ieee_laws.proofs.Monotone.{add_up, sub_from_zero, narrow_mono}
use Rattle.ieee_laws.proofs.Exact.{narrow_exact}
use Rattle.ieee_narrow.specs.Narrow.{narrow}
use Rattle.emath.specs.Vec.{vec_zero, vec_ne}
use Rattle.data.specs.Limits.{max_events, zero32, one32, within32, time_ok, unit_interval_ok}
use Rattle.feed.specs.Decode.{items}
use Rattle.model.specs.Numbers.{+0}
use Rattle.model.specs.Types.{Pos2, InputOptions, Event}
use Rattle.model.specs.Pointer.{no_buttons, flags_down, CountTrue, ClickPast, Press, any, is_move, move_time, could_any_button_be_click, with_moved, remember_click, release, press_event, press_events, clear_events, press_pass}
use Rattle.model.specs.Pass.{Panel, Clock, PassInput, fresh, fresh_press, begin_pass, clock_pass, pass_events, time_or, time_of}
use Rattle.model.specs.Interact.{InteractInput, InteractionSnapshot, with_interaction}
use Rattle.model.specs.Calls.{Call, Outcome, call, after, run}
use Rattle.model.specs.Questions.{bool, maybe_number, since, ask, reply, shown}
use Rattle.theorems.specs.Reach.{NotAfter, never, by, LastMove, no_move, move_by, Reached, Reach, FromZero, no_seconds, seconds, RestedFromZero, AnyDownIsEguis, RunsKeepCount, TimeNeverFalls, AbsentTimeNeverBelow}
use Rattle.theorems.proofs.Pointer.{PointerView, a_move, a_press, a_release, nothing, pointer_view}
use Rattle.theorems.proofs.Counts.{count_laws, events_count}
use Rattle.theorems.proofs.Times.{time_in_range, +0-time-ok, not_after_later}
use Rattle.model.proofs.InOrder.{none_in_order}
use Rattle.theorems.proofs.TouchLimits.{touch_pass_in_order}
use Rattle.theorems.proofs.Taken.{Taken, Answered, CallView, pass_refused, pass_taken, interact_refused, interact_full, interact_taken, call_view}

-- ---- clicks
remembered : (c : Bool) (now : Float) (v : Pos2) (p : ClickPast) → NotAfter now now → NotAfter now p.last_click_time → NotAfter now (remember_click c now v p).last_click_time
unfolding remember_click
remembered false now v p n h = h
remembered true now v p n h = n

event_not_after : (o : InputOptions) (now : Float) (e : Event) (s : Press) → NotAfter now now → NotAfter now s.past.last_click_time → NotAfter now (press_event o now e s).past.last_click_time
unfolding press_event with_moved release
event_not_after o now e s n h = go (pointer_view e)
  where
    go : {e : Event} → PointerView e → NotAfter now (press_event o now e s).past.last_click_time
    go (a_move v) = h
    go (a_press v b m) = h
    go (a_release v b m) = remembered (could_any_button_be_click o now s.held s.past.has_moved_too_much_for_a_click) now v s.past n h
    go (nothing k l) = rw (k o now s) h

events_not_after : (o : InputOptions) (now : Float) (es : List Event) (s : Press) → NotAfter now now → NotAfter now s.past.last_click_time → NotAfter now (press_events o now es s).past.last_click_time
unfolding press_events
events_not_after o now [] s n h = h
events_not_after o now (e ∷ es) s n h = events_not_after o now es (press_event o now e s) n (event_not_after o now e s n h)

-- ---- movements
pass_moved : (c d : Clock) (b : Bool) (l : Option Float) → T (time_ok d.time) → d.pointer_time ≡ d.time → T (le c.time d.time) → LastMove c l → LastMove d (cond b (Some d.time) l)
pass_moved c d true l t e h m = move_by d.time t (le_refl d.time (time_in_range d.time t).is_finite) e
pass_moved c d false l t e h no_move = no_move
pass_moved c d false l t e h (move_by at k le-at f) = move_by at k (le_trans at c.time d.time le-at h) e

-- ---- the number of buttons down
pass_count : (p : Panel) (i : PassInput) → CountTrue p.press.held.down → CountTrue (begin_pass p i).press.held.down
unfolding begin_pass press_pass clear_events
pass_count p i h = events_count i.options (time_of i p.clock.time) (pass_events i) (record { held = clear_events p.press.held; past = p.press.past }) h

-- ---- a call
pub pass_later : (p : Panel) (i : PassInput) (q : Panel) → Reached p → Taken p i q → T (le p.clock.time (time_of i p.clock.time))
pass_later p i q r t = not_lt_le (time_of i p.clock.time) p.clock.time (time_in_range (time_of i p.clock.time) t.in_domain).is_finite r.time_finite t.not_before

pub pass_reaches : (p : Panel) (i : PassInput) (q : Panel) → Reached p → Taken p i q → Reached q
unfolding begin_pass clock_pass press_pass pass_events move_time
pass_reaches p i q r t =
    let now = time_of i p.clock.time in
    let es = pass_events i in
    let f : T (finite now) = (time_in_range now t.in_domain).is_finite in
    let z : Reached (begin_pass p i) =
    record {
      time_finite = f;
      time_in_domain = t.in_domain;
      last_click = events_not_after i.options now es (record { held = clear_events p.press.held; past = p.press.past }) (by f (le_refl now f)) (not_after_later p.clock.time now p.press.past.last_click_time (pass_later p i q r t) r.last_click);
      last_move = pass_moved p.clock (clock_pass i now p.clock) (any is_move (begin_pass p i).press.held.pointer_events || vec_ne (begin_pass p i).place.velocity vec_zero) p.last_move_time t.in_domain refl (pass_later p i q r t) r.last_move;
      count_true = pass_count p i r.count_true;
      devices = touch_pass_in_order now p.place.interact_pos max_events (items i.feed) p.touch_states r.devices t.surveyed;
    } in
    subst (λ (x : Panel). Reached x) (sym t.is) z

pub interact_reaches : (p : Panel) (x : InteractInput) (s : InteractionSnapshot) (q : Panel) → Reached p → Answered p x s q → Reached q
unfolding with_interaction
interact_reaches p x s q r t =
    subst (λ (z : Panel). Reached z) (sym t.is)
    (record { time_finite = r.time_finite; time_in_domain = r.time_in_domain; last_click = r.last_click; last_move = r.last_move; count_true = r.count_true; devices = r.devices })

call_reaches : (p : Panel) (c : Call) → Reached p → Reached (after p (call p c))
unfolding after
call_reaches p c r = go (call_view p c)
  where
    go : {c : Call} {o : Outcome} → CallView p c o → Reached (after p o)
    go (pass_refused i e k) = r
    go (pass_taken i q t) = pass_reaches p i q r t
    go (interact_refused x e k) = r
    go (interact_full x e k l) = r
    go (interact_taken x s q t) = interact_reaches p x s q r t

run_reaches : (p : Panel) (cs : List Call) → Reached p → Reached (run p cs)
unfolding run
run_reaches p [] r = r
run_reaches p (c ∷ cs) r = run_reaches (after p (call p c)) cs (call_reaches p c r)

pub reach : Reach
unfolding fresh fresh_press no_buttons flags_down
reach cs = run_reaches fresh cs (record { time_finite = tt; time_in_domain = +0-time-ok; last_click = never refl; last_move = no_move; count_true = refl; devices = none_in_order })

-- ---- the seconds since the last movement
+0-fits : T (fits binary32 +0)
unfolding fits
+0-fits = tt

rested : (c : Clock) (l : Option Float) → T (time_ok c.time) → LastMove c l → FromZero (maybe_number (since c.pointer_time l))
unfolding since
rested c l t no_move = no_seconds
rested c l t (move_by at k h e) =
    let d = sub binary64 c.time at in
    let from : T (le +0 d) = sub_from_zero binary64 c.time at (time_in_range c.time t).is_finite (time_in_range at k).is_finite h in
    rw e (seconds (narrow binary32 d) (subst (λ (z : Float). T (le z (narrow binary32 d))) (narrow_exact binary32 +0 +0-fits) (narrow_mono binary32 +0 d from)))

pub rested_from_zero : RestedFromZero
unfolding ask
rested_from_zero cs = let p = run fresh cs in rested p.clock p.last_move_time (reach cs).time_in_domain (reach cs).last_move

-- ---- any_down
pub any_down_is_egui's : AnyDownIsEguis
unfolding ask reply shown
any_down_is_egui's cs = ap bool (count_laws.scans (run fresh cs).press.held.down (reach cs).count_true)

call_count : (p : Panel) (c : Call) → CountTrue p.press.held.down → CountTrue (after p (call p c)).press.held.down
unfolding after with_interaction
call_count p c h = go (call_view p c)
  where
    go : {c : Call} {o : Outcome} → CallView p c o → CountTrue (after p o).press.held.down
    go (pass_refused i e k) = h
    go (pass_taken i q t) = subst (λ (z : Panel). CountTrue z.press.held.down) (sym t.is) (pass_count p i h)
    go (interact_refused x e k) = h
    go (interact_full x e k l) = h
    go (interact_taken x s q t) = subst (λ (z : Panel). CountTrue z.press.held.down) (sym t.is) h

pub runs_keep_count : RunsKeepCount
unfolding run
runs_keep_count p h [] = h
runs_keep_count p h (c ∷ cs) = runs_keep_count (after p (call p c)) (call_count p c h) cs

-- ---- time never falls
call_later : (p : Panel) (c : Call) → Reached p → T (le p.clock.time (after p (call p c)).clock.time)
unfolding after begin_pass clock_pass with_interaction
call_later p c r = go (call_view p c)
  where
    same : T (le p.clock.time p.clock.time)
    same = le_refl p.clock.time r.time_finite

    go : {c : Call} {o : Outcome} → CallView p c o → T (le p.clock.time (after p o).clock.time)
    go (pass_refused i e k) = same
    go (pass_taken i q t) = subst (λ (z : Panel). T (le p.clock.time z.clock.time)) (sym t.is) (pass_later p i q r t)
    go (interact_refused x e k) = same
    go (interact_full x e k l) = same
    go (interact_taken x s q t) = subst (λ (z : Panel). T (le p.clock.time z.clock.time)) (sym t.is) same

run_later : (p : Panel) (cs : List Call) → Reached p → T (le p.clock.time (run p cs).clock.time)
unfolding run
run_later p [] r = le_refl p.clock.time r.time_finite
run_later p (c ∷ cs) r =
    let q = after p (call p c) in
    le_trans p.clock.time q.clock.time (run q cs).clock.time (call_later p c r) (run_later q cs (call_reaches p c r))

pub time_never_falls : TimeNeverFalls
time_never_falls cs later = run_later (run fresh cs) later (reach cs)

-- ---- an absent time is never below the state's
dt_from_zero : (x : Float) → T (unit_interval_ok x) → T (le +0 x)
unfolding unit_interval_ok within32 zero32 of_bits
dt_from_zero x h = and_l (le +0 x) (le x one32) (and_r (fits binary32 x) (le +0 x && le x one32) h)

pub absent_time_never_below : AbsentTimeNeverBelow
unfolding time_of time_or
absent_time_never_below cs i e h =
    let r = reach cs in
    let old = (run fresh cs).clock.time in
    rw e (not_T (lt (add binary64 old i.predicted_dt) old)
    (le_not_lt old (add binary64 old i.predicted_dt) (add_up binary64 old i.predicted_dt (time_in_range old r.time_in_domain).fits_64 r.time_finite (dt_from_zero i.predicted_dt h))))
