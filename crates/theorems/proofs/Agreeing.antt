-- Two panels from the next taken pass on: they differ in the click past, in devices without a touch, in the tally and in the last movement's time, and answer alike. Assumes nothing.
use Rattle.std.specs.Prelude.{Option, None, Some}
use mathlib.Core.Path.{◌≡◌, refl, sym, ap, ◌∙◌, subst}
use mathlib.Core.Bool.{Bool, true, false, not, ◌&&◌, ◌||◌, cond}
use mathlib.Core.List.{List}
use lib.Dec.{T}
use lib.Ieee.{Float, binary32, binary64, sub, le}
use lib.Ieee.Scale.{finite}
use Rattle.ieee_narrow.specs.Narrow.{narrow}
use Rattle.ieee_laws.proofs.Order.{le_trans, le_refl}
use Rattle.emath.specs.Vec.{vec_zero, vec_ne}
use Rattle.model.specs.Types.{InputOptions, Primary, Event}
use Rattle.model.specs.Pointer.{Held, ClickPast, Press, any, is_click, is_move, move_time, any_down, no_buttons, button_down, press_too_long, is_decidedly_dragging, is_long_press, clear_events, press_events, press_pass}
use Rattle.model.specs.Touch.{TouchState, touch_pass, multi_touch, any_touches, find_device, info_at, any_touches_at}
use Rattle.model.specs.Pass.{Panel, PassInput, Interaction, Tally, begin_pass, clock_pass, decidedly_dragging, pass_events, time_of}
use Rattle.model.specs.Interact.{InteractInput, InteractionSnapshot, seen, snapshot, interaction_after, with_interaction, tally_after, long_press, could_click, has_pos}
use Rattle.model.specs.Calls.{passed}
use Rattle.model.specs.Questions.{Question, settled, time_since_last_click, time_since_last_movement, has_touch_screen, tally, since, shown, reply, ask}
use Rattle.theorems.specs.Clearing.{FirstIsPress, Unless, first_button, button_came, Since, then_since, may_differ}
use Rattle.model.proofs.InOrder.{Ascend, touch_pass_ascending}
use Rattle.theorems.proofs.Devices.{live, touch_pass_live, info_live, any_touches_at_live, multi_touch_live, any_touches_live}
use Rattle.theorems.proofs.Times.{time_in_range}
use Rattle.theorems.proofs.Trace.{Trace, unpressed, pressed, clicked, equal, pair, Kept, steps, first, could_same, decidedly_same, last_same, click_flag, next_pass}
use Rattle.theorems.proofs.Taken.{Taken, Answered}

-- p with another click past, other devices, another tally and another time of the last movement
unfoldable pub but_for : Panel → ClickPast → List TouchState → Tally → Option Float → Panel
but_for p b vs n l =
    record {
      clock = p.clock;
      screen = p.screen;
      place = p.place;
      press = pair p.press.held b;
      started_decidedly_dragging = p.started_decidedly_dragging;
      last_move_time = l;
      touch_states = vs;
      wheel = p.wheel;
      keys = p.keys;
      sums = p.sums;
      interaction = p.interaction;
      tally = n;
    }

-- The relation, for later delays of at most D. `pr` says whether a button event came since the clearing pass, `k` what came from the next taken pass on.
pub record Agreeing (D tc : Float) (pr : Bool) (k : Since) (p q : Panel) : Type 0 where
  pub past : ClickPast
  pub devices : List TouchState
  pub count : Tally
  pub moved_at : Option Float
  pub is : q ≡ but_for p past devices count moved_at
  pub same_live : live p.touch_states ≡ live devices
  pub ascend_p : Ascend p.touch_states
  pub ascend_q : Ascend devices
  pub flag : Bool
  pub trace : Trace D tc p.clock.time p.press.held p.press.past past pr flag
  pub clicks : T k.clicked → T flag
  pub moves : T k.moved → moved_at ≡ p.last_move_time
  pub fin_tc : T (finite tc)
  pub timed : T (finite p.clock.time)
  pub from : T (le tc p.clock.time)

-- ---- a pass
pub record Together (D tc now : Float) (pr c : Bool) (x y : Press) : Type 0 where
  pub held : y.held ≡ x.held
  pub flag : Bool
  pub grows : T c → T flag
  pub trace : Trace D tc now x.held x.past y.past pr flag

pub together : (D tc now : Float) (pr c : Bool) (x y : Press) → Kept D tc now pr c x y → Together D tc now pr c x y
together D tc now pr c x y k =
    record {
      held = ap (λ (z : Press). z.held) k.right ∙ sym (ap (λ (z : Press). z.held) k.left);
      flag = k.flag;
      grows = k.grows;
      trace =
          subst (λ (z : Press). Trace D tc now z.held z.past y.past pr k.flag) (sym k.left)
          (subst (λ (z : Press). Trace D tc now k.held k.a z.past pr k.flag) (sym k.right) k.trace);
    }

press_together : (D tc old now : Float) (o : InputOptions) (es : List Event) (h : Held) (a b : ClickPast) (pr c : Bool) → T (le o.max_double_click_delay D) → T (finite tc) → T (finite now)
    → T (le tc old) → T (le old now) → Unless pr (FirstIsPress D tc now (first_button es)) → Trace D tc old h a b pr c
    → Together D tc now (button_came pr (first_button es)) c (press_pass o now es (pair h a)) (press_pass o now es (pair h b))
unfolding press_pass
press_together D tc old now o es h a b true c delay ft fn l m u t =
    subst (λ (z : Bool). Together D tc now z c (press_events o now es (pair (clear_events h) a)) (press_events o now es (pair (clear_events h) b))) (sym (stays (first_button es)))
    (together D tc now true c (press_events o now es (pair (clear_events h) a)) (press_events o now es (pair (clear_events h) b))
    (steps D tc now o delay es (clear_events h) a b c (next_pass D tc old h a b now true c fn m t)))
  where
    stays : (x : Option Bool) → button_came true x ≡ true
    stays None = refl
    stays (Some y) = refl
press_together D tc old now o es h a b false c delay ft fn l m u t = go c (next_pass D tc old h a b now false c fn m t)
  where
    go : (c : Bool) → Trace D tc now (clear_events h) a b false c
        → Together D tc now (button_came false (first_button es)) c (press_events o now es (pair (clear_events h) a)) (press_events o now es (pair (clear_events h) b))
    go c (unpressed q la lb) =
        together D tc now (button_came false (first_button es)) false (press_events o now es (pair (clear_events h) a)) (press_events o now es (pair (clear_events h) b))
        (first D tc now o delay ft fn (le_trans tc old now l m) (le_refl now fn) es (clear_events h) a b q la lb u)

-- the state after it, of p and of p with another click past
begin_but_for : (p : Panel) (i : PassInput) (b : ClickPast) (vs : List TouchState) (n : Tally) (l : Option Float) (D tc : Float) (pr c : Bool)
    → (t : Together D tc (time_of i p.clock.time) pr c (press_pass i.options (time_of i p.clock.time) (pass_events i) p.press) (press_pass i.options (time_of i p.clock.time) (pass_events i) (pair p.press.held b)))
    → decidedly_dragging p.clock p.screen p.press ≡ decidedly_dragging p.clock p.screen (pair p.press.held b)
    → begin_pass (but_for p b vs n l) i
    ≡ but_for (begin_pass p i) (press_pass i.options (time_of i p.clock.time) (pass_events i) (pair p.press.held b)).past
    (touch_pass (time_of i p.clock.time) p.place.interact_pos (pass_events i) vs) n
    (move_time (time_of i p.clock.time) (begin_pass p i).press.held.pointer_events (begin_pass p i).place.velocity l)
unfolding begin_pass but_for
begin_but_for p i b vs n l D tc pr c t e =
    let o = i.options in
    let now = time_of i p.clock.time in
    let x = press_pass o now (pass_events i) p.press in
    let y = press_pass o now (pass_events i) (pair p.press.held b) in
    let d : is_decidedly_dragging o now y.held y.past.has_moved_too_much_for_a_click ≡ is_decidedly_dragging o now x.held x.past.has_moved_too_much_for_a_click =
    ap (λ (z : Held). is_decidedly_dragging o now z y.past.has_moved_too_much_for_a_click) t.held
    ∙ sym (decidedly_same D tc now x.held x.past y.past o now pr t.flag t.trace) in
    let m = begin_pass p i in
    λ j. record {
      clock = m.clock;
      screen = m.screen;
      place = m.place;
      press = pair (t.held j) y.past;
      started_decidedly_dragging = d j && not (sym e j);
      last_move_time = move_time now (t.held j).pointer_events m.place.velocity l;
      touch_states = touch_pass now p.place.interact_pos (pass_events i) vs;
      wheel = m.wheel;
      keys = m.keys;
      sums = m.sums;
      interaction = m.interaction;
      tally = n;
    }

pub agreeing_pass : (i : PassInput) (D tc : Float) (pr : Bool) (k : Since) (p q p' q' : Panel) → Agreeing D tc pr k p q → Taken p i p' → Taken q i q' → T (le i.options.max_double_click_delay D)
    → T (le p.clock.time (time_of i p.clock.time)) → Unless pr (FirstIsPress D tc p'.clock.time (first_button (pass_events i)))
    → Agreeing D tc (button_came pr (first_button (pass_events i))) (then_since (passed p') k) p' q'
unfolding but_for begin_pass clock_pass decidedly_dragging move_time
agreeing_pass i D tc pr k p q p' q' g tp tq delay later opens =
    let core : Unless pr (FirstIsPress D tc now (first_button es)) → Agreeing D tc (button_came pr (first_button es)) (then_since (passed m) k) m q' =
    λ u. built (press_together D tc p.clock.time now o es p.press.held p.press.past g.past pr g.flag delay g.fin_tc fin_now g.from later u g.trace) in
    subst
    (λ (z : Panel). Unless pr (FirstIsPress D tc z.clock.time (first_button es)) → Agreeing D tc (button_came pr (first_button es)) (then_since (passed z) k) z q')
    (sym tp.is) core opens
  where
    o : InputOptions
    o = i.options

    now : Float
    now = time_of i p.clock.time

    es : List Event
    es = pass_events i

    m : Panel
    m = begin_pass p i

    fin_now : T (finite now)
    fin_now = (time_in_range now tp.in_domain).is_finite

    x : Press
    x = press_pass o now es p.press

    y : Press
    y = press_pass o now es (pair p.press.held g.past)

    last : Option Float
    last = move_time now m.press.held.pointer_events m.place.velocity g.moved_at

    same_last : (b : Bool) → T (b || k.moved) → cond b (Some now) g.moved_at ≡ cond b (Some now) p.last_move_time
    same_last true u = refl
    same_last false u = g.moves u

    is_then : Together D tc now (button_came pr (first_button es)) g.flag x y → q' ≡ but_for m y.past (touch_pass now p.place.interact_pos es g.devices) g.count last
    is_then t =
        tq.is ∙ ap (λ (z : Panel). begin_pass z i) g.is
        ∙ begin_but_for p i g.past g.devices g.count g.moved_at D tc (button_came pr (first_button es)) g.flag t
        (decidedly_same D tc p.clock.time p.press.held p.press.past g.past p.screen.options p.clock.pointer_time pr g.flag g.trace)

    flags : (t : Together D tc now (button_came pr (first_button es)) g.flag x y) (c' : Bool) → (T c' → T t.flag) → T (c' || k.clicked) → T t.flag
    flags t true v z = v tt
    flags t false v z = t.grows (g.clicks z)

    built : Together D tc now (button_came pr (first_button es)) g.flag x y → Agreeing D tc (button_came pr (first_button es)) (then_since (passed m) k) m q'
    built t =
        record {
          past = y.past;
          devices = touch_pass now p.place.interact_pos es g.devices;
          count = g.count;
          moved_at = last;
          is = is_then t;
          moves = same_last (any is_move m.press.held.pointer_events || vec_ne m.place.velocity vec_zero);
          same_live = touch_pass_live now p.place.interact_pos es p.touch_states g.devices g.ascend_p g.ascend_q g.same_live;
          ascend_p = touch_pass_ascending now p.place.interact_pos es p.touch_states g.ascend_p;
          ascend_q = touch_pass_ascending now p.place.interact_pos es g.devices g.ascend_q;
          flag = t.flag;
          trace = t.trace;
          clicks = flags t (any is_click m.press.held.pointer_events) (click_flag D tc now x.held x.past y.past (button_came pr (first_button es)) t.flag t.trace);
          fin_tc = g.fin_tc;
          timed = fin_now;
          from = le_trans tc p.clock.time now g.from later;
        }

-- ---- what they show
not_down : (st a b x : Bool) → (st && (not a && (false && x))) ≡ (st && (not b && (false && x)))
not_down true true true x = refl
not_down true true false x = refl
not_down true false true x = refl
not_down true false false x = refl
not_down false a b x = refl

long_press_same : (D tc now : Float) (o : InputOptions) (time : Float) (h : Held) (a b : ClickPast) (pr fl st : Bool) → Trace D tc now h a b pr fl
    → is_long_press o time (pair h a) st ≡ is_long_press o time (pair h b) st
unfolding is_long_press button_down no_buttons
long_press_same D tc now o time h a b pr fl st (unpressed q la lb) =
    rw q.none_down (not_down st a.has_moved_too_much_for_a_click b.has_moved_too_much_for_a_click (press_too_long o time h.press_start_time))
long_press_same D tc now o time h a b pr fl st (pressed t times none_yet m la lb) = ap (λ (z : Bool). st && (not z && (button_down Primary h.down && press_too_long o time h.press_start_time))) m
long_press_same D tc now o time h a b pr fl st (clicked m s l x y) = ap (λ (z : Bool). st && (not z && (button_down Primary h.down && press_too_long o time h.press_start_time))) m
long_press_same D tc now o time h a b pr fl st (equal e) = ap (λ (z : ClickPast). is_long_press o time (pair h z) st) e

module _ (D tc : Float) (pr : Bool) (k : Since) (p q : Panel) (g : Agreeing D tc pr k p q) where
  devices_same : {A : Type 0} (f : List TouchState → A) → ((vs : List TouchState) → Ascend vs → f vs ≡ f (live vs)) → f p.touch_states ≡ f g.devices
  devices_same f h = h p.touch_states g.ascend_p ∙ ap f g.same_live ∙ sym (h g.devices g.ascend_q)

  other : Panel
  other = but_for p g.past g.devices g.count g.moved_at

  could' : could_click p ≡ could_click other
  unfolding could_click but_for other
  could' = could_same D tc p.clock.time p.press.held p.press.past g.past p.screen.options p.clock.pointer_time pr g.flag g.trace

  decidedly' : decidedly_dragging p.clock p.screen p.press ≡ decidedly_dragging p.clock p.screen (pair p.press.held g.past)
  unfolding decidedly_dragging
  decidedly' = decidedly_same D tc p.clock.time p.press.held p.press.past g.past p.screen.options p.clock.pointer_time pr g.flag g.trace

  long' : long_press p ≡ long_press other
  unfolding long_press but_for other
  long' = long_press_same D tc p.clock.time p.screen.options p.clock.pointer_time p.press.held p.press.past g.past pr g.flag p.started_decidedly_dragging g.trace

  touches' : any_touches p.touch_states ≡ any_touches g.devices
  touches' = devices_same any_touches (λ vs a. any_touches_live vs)

  shown_same : shown p ≡ shown q
  unfolding shown but_for other
  shown_same = of_other ∙ ap shown (sym g.is)
    where
      of_other : shown p ≡ shown other
      of_other = λ j. record {
        clock = p.clock;
        screen = p.screen;
        place = p.place;
        held = p.press.held;
        wheel = p.wheel;
        keys = p.keys;
        sums = p.sums;
        interaction = p.interaction;
        could_be_click = could' j;
        decidedly_dragging = decidedly' j;
        long_press = long' j;
        multi_touch = devices_same multi_touch (λ vs a. multi_touch_live vs) j;
        any_touches = touches' j;
        info = λ d. devices_same (λ vs. info_at (find_device d vs)) (λ vs a. info_live d vs a) j;
        touched = λ d. devices_same (λ vs. any_touches_at (find_device d vs)) (λ vs a. any_touches_at_live d vs a) j;
      }

  seen_same : seen p ≡ seen q
  unfolding seen but_for other
  seen_same = of_other ∙ ap seen (sym g.is)
    where
      of_other : seen p ≡ seen other
      of_other = λ j. record {
        escape_pressed = (seen p).escape_pressed;
        is_long_touch = touches' j && long' j;
        pointer_events = p.press.held.pointer_events;
        is_decidedly_dragging = decidedly' j;
        could_any_button_be_click = could' j;
        any_down = any_down p.press.held.down;
        has_pointer = has_pos p.place.latest_pos;
      }

  since_click_same : T g.flag → ask time_since_last_click p ≡ ask time_since_last_click q
  unfolding ask but_for
  since_click_same t =
      ap (λ (z : Float). Rattle.model.specs.Questions.number (narrow binary32 (sub binary64 p.clock.pointer_time z)))
      (last_same D tc p.clock.time p.press.held p.press.past g.past pr g.flag g.trace t)
      ∙ ap (ask time_since_last_click) (sym g.is)

  since_movement_same : g.moved_at ≡ p.last_move_time → ask time_since_last_movement p ≡ ask time_since_last_movement q
  unfolding ask but_for
  since_movement_same e =
      ap (λ (z : Option Float). Rattle.model.specs.Questions.maybe_number (since p.clock.pointer_time z)) (sym e) ∙ ap (ask time_since_last_movement) (sym g.is)

  doubly : (b : Bool) → T (not (not b)) → T b
  doubly true t = tt
  doubly false t = t

  pub agreeing_replies : (question : Question) → T (not (may_differ k question)) → ask question p ≡ ask question q
  unfolding ask may_differ
  agreeing_replies (settled a) t = ap (reply a) shown_same
  agreeing_replies time_since_last_click t = since_click_same (g.clicks (doubly k.clicked t))
  agreeing_replies time_since_last_movement t = since_movement_same (g.moves (doubly k.moved t))
  agreeing_replies has_touch_screen t = absurd t
  agreeing_replies tally t = absurd t

  -- ---- an interact
  interaction_same : p.interaction ≡ q.interaction
  unfolding but_for
  interaction_same = ap (λ (z : Panel). z.interaction) (sym g.is)

  pub agreeing_time : p.clock.time ≡ q.clock.time
  unfolding but_for
  agreeing_time = ap (λ (z : Panel). z.clock.time) (sym g.is)

  pub agreeing_interact : (x : InteractInput) (s t : InteractionSnapshot) (p' q' : Panel) → Answered p x s p' → Answered q x t q' → (s ≡ t) × Agreeing D tc pr k p' q'
  unfolding but_for with_interaction
  agreeing_interact x s t p' q' hp hq =
      let d = interaction_after (seen p) x p.interaction in
      let n = tally_after s p.tally in
      let n' = tally_after t q.tally in
      let same_snapshot : snapshot (seen p) x p.interaction ≡ snapshot (seen q) x q.interaction = λ j. snapshot (seen_same j) x (interaction_same j) in
      let same_after : d ≡ interaction_after (seen q) x q.interaction = λ j. interaction_after (seen_same j) x (interaction_same j) in
      let e : q' ≡ but_for (with_interaction p d n) g.past g.devices n' g.moved_at =
      hq.is ∙ ap (λ (z : Interaction). with_interaction q z n') (sym same_after) ∙ ap (λ (z : Panel). with_interaction z d n') g.is in (
        hp.answer ∙ same_snapshot ∙ sym hq.answer,
        subst (λ (z : Panel). Agreeing D tc pr k z q') (sym hp.is)
            (record {
              past = g.past;
              devices = g.devices;
              count = n';
              moved_at = g.moved_at;
              is = e;
              moves = g.moves;
              same_live = g.same_live;
              ascend_p = g.ascend_p;
              ascend_q = g.ascend_q;
              flag = g.flag;
              trace = g.trace;
              clicks = g.clicks;
              fin_tc = g.fin_tc;
              timed = g.timed;
              from = g.from;
            }),
      )
