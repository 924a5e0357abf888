-- The clearing pass and its interact clear a panel, further interacts leave it cleared, and the next taken pass makes two of them agree. Assumes nothing.
use Rattle.std.specs.Prelude.{Option, None, Some}
use mathlib.Core.Path.{◌≡◌, refl, sym, ap, ◌∙◌, subst}
use mathlib.Core.Bool.{Bool, true, false, not, ◌&&◌, ◌||◌, cond, true≢false, false≢true}
use mathlib.Core.List.{List, [], ◌∷◌, ◌++◌, map}
use lib.Dec.{T}
use lib.Ieee.{Float, le}
use lib.Ieee.Scale.{finite}
use Rattle.ieee_laws.proofs.Order.{le_refl}
use Rattle.emath.specs.Vec.{vec_zero, vec_ne}
use Rattle.model.specs.Types.{Vec2, Rect, Pos2, Modifiers, InputOptions, PointerButton, PointerEvent, Moved, Pressed, Released}
use Rattle.model.specs.Types.{Event, Key, ModifiersChanged, PointerMoved, MouseMoved, Button, PointerGone, Zoom, Rotate, Touch, MouseWheel, WindowFocused, Other}
use Rattle.model.specs.Pointer.{Place, with_place, place_event, place_events, clear_history_after, start_place, finish_place, end_place, place_pass}
use Rattle.model.specs.Pointer.{Held, ClickPast, Press, any, is_press, is_release, is_click, is_move, move_time, any_down, no_buttons, could_any_button_be_click, is_decidedly_dragging, add_event, press_button, release_button, click_of, release}
use Rattle.model.specs.Pointer.{press_event, press_events, clear_events, press_pass}
use Rattle.model.specs.Touch.{touch_pass}
use Rattle.model.specs.Pass.{Panel, PassInput, Interaction, Tally, no_interaction, begin_pass, clock_pass, decidedly_dragging, pass_events, time_of, or_else}
use Rattle.model.specs.Interact.{InteractInput, InteractionSnapshot, Seen, seen, Going, pointer_event, pointer_events, walked, interaction_after, forget_gone_click, abort_if, long_touch_on, long_touch_if, get, is_some, kept_if, dragged_after, new_drag, with_interaction, tally_after}
use Rattle.theorems.specs.Reach.{NotAfter, Reached}
use Rattle.model.specs.Calls.{passed}
use Rattle.theorems.specs.Clearing.{TouchEnd, end_event, EndsAll, Rest, rest_events, FirstIsPress, button_event, first_button, button_came, nothing_since, then_since}
use Rattle.theorems.proofs.Pointer.{PointerView, a_move, a_press, a_release, nothing, pointer_view}
use Rattle.model.proofs.InOrder.{Ascend, touch_pass_ascending}
use Rattle.theorems.proofs.Devices.{live, touch_pass_live}
use Rattle.theorems.proofs.Times.{time_in_range}
use Rattle.theorems.proofs.Taken.{Taken, Answered}
use Rattle.theorems.proofs.Reach.{pass_reaches}
use Rattle.theorems.proofs.Trace.{NoButton, Trace, unpressed, pair, first, click_flag}
use Rattle.theorems.proofs.Agreeing.{but_for, Together, together, Agreeing}
use Rattle.theorems.proofs.ClearingPass.{Undecided, undecided_of, cleared_panel, pass_clears, touches_cleared, press_ends}
use Rattle.theorems.proofs.ClearingPass as C

unfoldable pub with_tally : Tally → Undecided → Undecided
with_tally n w =
    record {
      unstable_dt = w.unstable_dt;
      stable_dt = w.stable_dt;
      velocity = w.velocity;
      pointer_events = w.pointer_events;
      past = w.past;
      started_decidedly_dragging = w.started_decidedly_dragging;
      last_move_time = w.last_move_time;
      touch_states = w.touch_states;
      tally = n;
    }

-- a panel after the clearing pass's interact, until the next taken pass
pub record Cleared (c : PassInput) (tc : Float) (rect : Rect) (r : Rest) (p : Panel) : Type 0 where
  pub own : Undecided
  pub is : p ≡ cleared_panel c tc rect r own no_interaction
  pub no_press : any is_press own.pointer_events ≡ false
  pub last_click : NotAfter tc own.past.last_click_time
  pub ascend : Ascend own.touch_states
  pub none_live : live own.touch_states ≡ []

-- ---- interacts
kept_none : (b : Bool) → kept_if b None ≡ None
unfolding kept_if
kept_none true = refl
kept_none false = refl

-- where the walk ends with no interaction, none is left
nothing_left : (v : Seen) (x : InteractInput) (d : Interaction) → (walked v x d).interaction ≡ no_interaction → interaction_after v x d ≡ no_interaction
unfolding interaction_after no_interaction dragged_after get new_drag or_else
nothing_left v x d e =
    (λ j. record {
      potential_click_id = kept_if (v.could_any_button_be_click && v.any_down && v.has_pointer) (e j).potential_click_id;
      potential_drag_id = kept_if (v.any_down && v.has_pointer) (e j).potential_drag_id;
      dragged = dragged_after x v.is_decidedly_dragging (e j);
    })
    ∙ (λ j. record { potential_click_id = kept_none (v.could_any_button_be_click && v.any_down && v.has_pointer) j; potential_drag_id = kept_none (v.any_down && v.has_pointer) j; dragged = None })

-- the clearing pass's releases end every interaction
releases_end : (x : InteractInput) (b : Bool) (g : Going) (o : InputOptions) (time : Float) (r : Rest) (s : Press)
    → (pointer_events x b (press_events o time (rest_events r) (record { held = clear_events s.held; past = s.past })).held.pointer_events g).interaction ≡ no_interaction
unfolding pointer_events pointer_event press_events press_event release release_button clear_events no_interaction
releases_end x b g o time r s = refl

releases_no_press : (o : InputOptions) (time : Float) (r : Rest) (s : Press)
    → any is_press (press_events o time (rest_events r) (record { held = clear_events s.held; past = s.past })).held.pointer_events ≡ false
unfolding any is_press press_events press_event release release_button clear_events
releases_no_press o time r s = refl

-- without a press nothing starts
nothing_starts : (x : InteractInput) (b : Bool) (es : List PointerEvent) (g : Going) → any is_press es ≡ false → g.interaction ≡ no_interaction → (pointer_events x b es g).interaction ≡ no_interaction
unfolding pointer_events pointer_event any is_press no_interaction
nothing_starts x b [] g h e = e
nothing_starts x b (Moved v ∷ es) g h e = nothing_starts x b es g h e
nothing_starts x b (Pressed v u ∷ es) g h e = absurd (true≢false h)
nothing_starts x b (Released k u ∷ es) g h e = nothing_starts x b es (pointer_event x b (Released k u) g) h refl

stays_none : (v : Seen) (x : InteractInput) → any is_press v.pointer_events ≡ false → interaction_after v x no_interaction ≡ no_interaction
unfolding walked no_interaction long_touch_if long_touch_on abort_if forget_gone_click get is_some kept_if
stays_none v x h =
    nothing_left v x no_interaction
    (nothing_starts x v.is_decidedly_dragging v.pointer_events (long_touch_if v.is_long_touch x.widgets (abort_if v.escape_pressed (forget_gone_click x.widgets no_interaction))) h
    (untouched v.escape_pressed v.is_long_touch))
  where
    untouched : (a b : Bool) → (long_touch_if b x.widgets (abort_if a (forget_gone_click x.widgets no_interaction))).interaction ≡ no_interaction
    untouched true true = refl
    untouched true false = refl
    untouched false true = refl
    untouched false false = refl

module _ (c : PassInput) (tc : Float) (rect : Rect) (r : Rest) where
  interact_is : (w : Undecided) (d e : Interaction) (n : Tally) → with_interaction (cleared_panel c tc rect r w d) e n ≡ cleared_panel c tc rect r (with_tally n w) e
  unfolding with_interaction cleared_panel with_tally
  interact_is w d e n = refl

  events_are : (w : Undecided) (d : Interaction) → (seen (cleared_panel c tc rect r w d)).pointer_events ≡ w.pointer_events
  unfolding seen cleared_panel
  events_are w d = refl

  interaction_is : (w : Undecided) (d : Interaction) → (cleared_panel c tc rect r w d).interaction ≡ d
  unfolding cleared_panel
  interaction_is w d = refl

  interacted : (p p' : Panel) (w : Undecided) (d : Interaction) (x : InteractInput) (s : InteractionSnapshot) → p ≡ cleared_panel c tc rect r w d
      → interaction_after (seen (cleared_panel c tc rect r w d)) x d ≡ no_interaction → Answered p x s p'
      → p' ≡ cleared_panel c tc rect r (with_tally (tally_after s p.tally) w) no_interaction
  interacted p p' w d x s e n i =
      let z = cleared_panel c tc rect r w d in
      let m = tally_after s p.tally in
      i.is ∙ ap (λ (y : Panel). with_interaction y (interaction_after (seen y) x y.interaction) m) e
      ∙ ap (λ (y : Interaction). with_interaction z (interaction_after (seen z) x y) m) (interaction_is w d) ∙ ap (λ (y : Interaction). with_interaction z y m) n ∙ interact_is w d no_interaction m

  pub cleared_interact : (p p' : Panel) (x : InteractInput) (s : InteractionSnapshot) → Cleared c tc rect r p → Answered p x s p' → Cleared c tc rect r p'
  unfolding with_tally
  cleared_interact p p' x s h i =
      record {
        own = with_tally (tally_after s p.tally) h.own;
        is =
            interacted p p' h.own no_interaction x s h.is
            (stays_none (seen (cleared_panel c tc rect r h.own no_interaction)) x (rw (events_are h.own no_interaction) h.no_press)) i;
        no_press = h.no_press;
        last_click = h.last_click;
        ascend = h.ascend;
        none_live = h.none_live;
      }

  -- ---- the clearing pass and its interact
  module _ (es : List TouchEnd) (gives_time : c.time ≡ Some tc) (gives_rect : c.screen_rect ≡ Some rect) (feed : pass_events c ≡ map end_event es ++ rest_events r) where
    pub clears : (p p₁ p₂ : Panel) (x : InteractInput) (s : InteractionSnapshot) → Reached p → EndsAll es p.touch_states → Taken p c p₁ → Answered p₁ x s p₂ → Cleared c tc rect r p₂
    unfolding undecided_of with_tally walked begin_pass clock_pass press_pass
    clears p p₁ p₂ x s reached ended t i =
        record {
          own = with_tally (tally_after s p₁.tally) w;
          is =
              interacted p₁ p₂ w p.interaction x s (t.is ∙ pass_clears p c tc rect es r gives_time gives_rect feed reached.count_true)
              (nothing_left (seen (cleared_panel c tc rect r w p.interaction)) x p.interaction ends) i;
          no_press = ap (any is_press) events_of_releases ∙ releases_no_press c.options now r p.press;
          last_click = subst (λ (z : Float). NotAfter z w.past.last_click_time) time_is (subst (λ (z : Panel). NotAfter z.clock.time z.press.past.last_click_time) t.is reached₁.last_click);
          ascend = subst (λ (z : Panel). Ascend z.touch_states) t.is reached₁.devices.ascend;
          none_live = rw feed (touches_cleared now p.place.interact_pos es r p.touch_states reached.devices.ascend ended);
        }
      where
        w : Undecided
        w = undecided_of (begin_pass p c)

        now : Float
        now = time_of c p.clock.time

        u : Press
        u = record { held = clear_events p.press.held; past = p.press.past }

        reached₁ : Reached p₁
        reached₁ = pass_reaches p c p₁ reached t

        time_is : now ≡ tc
        time_is = C.time_is p c tc rect es r gives_time gives_rect feed

        events_of_releases : w.pointer_events ≡ (press_events c.options now (rest_events r) u).held.pointer_events
        events_of_releases =
            ap (λ (z : List Event). (press_pass c.options now z p.press).held.pointer_events) feed ∙ ap (λ (z : Press). z.held.pointer_events) (press_ends c.options now es (rest_events r) u)

        ends : (walked (seen (cleared_panel c tc rect r w p.interaction)) x p.interaction).interaction ≡ no_interaction
        ends =
            let v = seen (cleared_panel c tc rect r w p.interaction) in
            let g = long_touch_if v.is_long_touch x.widgets (abort_if v.escape_pressed (forget_gone_click x.widgets p.interaction)) in
            ap (λ (z : List PointerEvent). (pointer_events x v.is_decidedly_dragging z g).interaction) (events_are w p.interaction ∙ events_of_releases)
            ∙ releases_end x v.is_decidedly_dragging g c.options now r p.press

-- ---- the next taken pass

-- what the velocity was does not matter to it
with_velocity : Vec2 → Place → Place
with_velocity v p =
    record { latest_pos = p.latest_pos; interact_pos = p.interact_pos; delta = p.delta; motion = p.motion; velocity = v; direction = p.direction; pos_history = p.pos_history }

velocity_event : (v : Vec2) (e : Event) (p : Place) → place_event e (with_velocity v p) ≡ with_velocity v (place_event e p)
unfolding with_velocity place_event with_place
velocity_event v (Key k b) p = refl
velocity_event v (ModifiersChanged m) p = refl
velocity_event v (PointerMoved w) p = refl
velocity_event v (MouseMoved w) p = refl
velocity_event v (Button w b true m) p = refl
velocity_event v (Button w b false m) p = refl
velocity_event v PointerGone p = refl
velocity_event v (Zoom x) p = refl
velocity_event v (Rotate x) p = refl
velocity_event v (Touch d i ph w f) p = refl
velocity_event v (MouseWheel u w ph s m) p = refl
velocity_event v (WindowFocused b) p = refl
velocity_event v Other p = refl

velocity_events : (v : Vec2) (es : List Event) (p : Place) → place_events es (with_velocity v p) ≡ with_velocity v (place_events es p)
unfolding place_events
velocity_events v [] p = refl
velocity_events v (e ∷ es) p = ap (place_events es) (velocity_event v e p) ∙ velocity_events v es (place_event e p)

velocity_pass : (v : Vec2) (time : Float) (es : List Event) (p : Place) → place_pass time es (with_velocity v p) ≡ place_pass time es p
unfolding place_pass with_velocity start_place with_place end_place finish_place
velocity_pass v time es p = ap (end_place time p.latest_pos (clear_history_after es)) (velocity_events v es (start_place p))

-- with a press in the pass, or with no button, nothing is decidedly dragged
any_left : (f : PointerEvent → Bool) (es : List PointerEvent) (e : PointerEvent) → any f es ≡ true → any f (es ++ (e ∷ [])) ≡ true
unfolding any
any_left f [] e h = absurd (false≢true h)
any_left f (g ∷ es) e h = go (f g) h (any_left f es e)
  where
    go : (b : Bool) → (b || any f es) ≡ true → (any f es ≡ true → any f (es ++ (e ∷ [])) ≡ true) → (b || any f (es ++ (e ∷ []))) ≡ true
    go true x ih = refl
    go false x ih = ih x

any_right : (f : PointerEvent → Bool) (es : List PointerEvent) (e : PointerEvent) → f e ≡ true → any f (es ++ (e ∷ [])) ≡ true
unfolding any
any_right f [] e h = rw h
any_right f (g ∷ es) e h = go (f g) (any_right f es e h)
  where
    go : (b : Bool) → any f (es ++ (e ∷ [])) ≡ true → (b || any f (es ++ (e ∷ []))) ≡ true
    go true x = refl
    go false x = x

press_stays : (o : InputOptions) (time : Float) (e : Event) (s : Press) → any is_press s.held.pointer_events ≡ true → any is_press (press_event o time e s).held.pointer_events ≡ true
unfolding press_event add_event press_button release release_button
press_stays o time e s h = go (pointer_view e)
  where
    go : {e : Event} → PointerView e → any is_press (press_event o time e s).held.pointer_events ≡ true
    go (a_move v) = any_left is_press s.held.pointer_events (Moved v) h
    go (a_press v b m) = any_left is_press s.held.pointer_events (Pressed v b) h
    go (a_release v b m) =
        any_left is_press s.held.pointer_events (Released (click_of (could_any_button_be_click o time s.held s.past.has_moved_too_much_for_a_click) o time v m s.past) b) h
    go (nothing k l) = rw (k o time s) h

presses_stay : (o : InputOptions) (time : Float) (es : List Event) (s : Press) → any is_press s.held.pointer_events ≡ true → any is_press (press_events o time es s).held.pointer_events ≡ true
unfolding press_events
presses_stay o time [] s h = h
presses_stay o time (e ∷ es) s h = presses_stay o time es (press_event o time e s) (press_stays o time e s h)

press_seen : (o : InputOptions) (time : Float) (es : List Event) (s : Press) → first_button es ≡ Some true → any is_press (press_events o time es s).held.pointer_events ≡ true
unfolding press_events press_event press_button is_press first_button button_event or_else
press_seen o time [] s h = cc
press_seen o time (e ∷ es) s h = go (pointer_view e) h (λ s k. press_seen o time es s k)
  where
    pressed_now : (v : Pos2) (b : PointerButton) (m : Modifiers) → any is_press (press_event o time (Button v b true m) s).held.pointer_events ≡ true
    pressed_now v b m = any_right is_press s.held.pointer_events (Pressed v b) refl

    go : {e : Event} → PointerView e → or_else (button_event e) (first_button es) ≡ Some true
        → ((s : Press) → first_button es ≡ Some true → any is_press (press_events o time es s).held.pointer_events ≡ true)
        → any is_press (press_events o time es (press_event o time e s)).held.pointer_events ≡ true
    go (a_move v) k ih = ih (press_event o time (PointerMoved v) s) k
    go (a_press v b m) k ih = presses_stay o time es (press_event o time (Button v b true m) s) (pressed_now v b m)
    go (a_release v b m) k ih = cc
    go (nothing n l) k ih = rw (n o time s) (ih s (rw l at k))

pressed_undecided : (o : InputOptions) (time : Float) (h : Held) (m : Bool) → any is_press h.pointer_events ≡ true → is_decidedly_dragging o time h m ≡ false
unfolding is_decidedly_dragging
pressed_undecided o time h m e = rw e (go (any_down h.down || any is_release h.pointer_events) (not (could_any_button_be_click o time h m)) (not (any is_click h.pointer_events)))
  where
    go : (a b c : Bool) → (a && false && b && c) ≡ false
    go true b c = refl
    go false b c = refl

unpressed_undecided : (o : InputOptions) (time : Float) (h : Held) (m : Bool) → NoButton h → is_decidedly_dragging o time h m ≡ false
unfolding is_decidedly_dragging any_down no_buttons
unpressed_undecided o time h m q = rw (q.none_down, q.no_release)

undecided : (D tc now : Float) (o : InputOptions) (es : List Event) (s : Press) (b : ClickPast) (c m : Bool) (f : Option Bool) → first_button es ≡ f → FirstIsPress D tc now f
    → Trace D tc now (press_events o now es s).held (press_events o now es s).past b (button_came false f) c → is_decidedly_dragging o now (press_events o now es s).held m ≡ false
undecided D tc now o es s b c m None e u t = go c t
  where
    go : (c : Bool) → Trace D tc now (press_events o now es s).held (press_events o now es s).past b false c → is_decidedly_dragging o now (press_events o now es s).held m ≡ false
    go c (unpressed q la lb) = unpressed_undecided o now (press_events o now es s).held m q
undecided D tc now o es s b c m (Some true) e u t = pressed_undecided o now (press_events o now es s).held m (press_seen o now es s e)
undecided D tc now o es s b c m (Some false) e u t = absurd u

-- no button, no pointer event
no_held : Held
no_held = record { down = no_buttons; press_origin = None; press_start_time = None; pointer_events = [] }

no_held_none : NoButton no_held
unfolding no_held any_down no_buttons any
no_held_none = record { none_down = refl; no_release = refl; no_click = refl }

or_false : (b : Bool) → T (b || false) → T b
or_false true t = t
or_false false t = t

module _ (c : PassInput) (tc : Float) (rect : Rect) (r : Rest) (i : PassInput) (w u : Undecided) (D : Float) (delay : T (le i.options.max_double_click_delay D)) (fin_tc : T (finite tc)) (fin_now : T (finite (time_of i tc)))
    (from : T (le tc (time_of i tc))) (last-w : NotAfter tc w.past.last_click_time) (last-u : NotAfter tc u.past.last_click_time) (opens : FirstIsPress D tc (time_of i tc) (first_button (pass_events i))) where
  both : Together D tc (time_of i tc) (button_came false (first_button (pass_events i))) false
      (press_events i.options (time_of i tc) (pass_events i) (pair no_held w.past)) (press_events i.options (time_of i tc) (pass_events i) (pair no_held u.past))
  both =
      let o = i.options in
      let now = time_of i tc in
      let es = pass_events i in
      together D tc now (button_came false (first_button es)) false (press_events o now es (pair no_held w.past)) (press_events o now es (pair no_held u.past))
      (first D tc now o delay fin_tc fin_now from (le_refl now fin_now) es no_held w.past u.past no_held_none last-w last-u opens)

  begin_cleared : begin_pass (cleared_panel c tc rect r u no_interaction) i
      ≡ but_for (begin_pass (cleared_panel c tc rect r w no_interaction) i) (press_events i.options (time_of i tc) (pass_events i) (pair no_held u.past)).past
      (touch_pass (time_of i tc) (Some r.pos) (pass_events i) u.touch_states) u.tally
      (move_time (time_of i tc) (begin_pass (cleared_panel c tc rect r w no_interaction) i).press.held.pointer_events (begin_pass (cleared_panel c tc rect r w no_interaction) i).place.velocity u.last_move_time)
  unfolding begin_pass but_for cleared_panel clock_pass press_pass clear_events no_held with_velocity
  begin_cleared =
      let o = i.options in
      let now = time_of i tc in
      let es = pass_events i in
      let pp = cleared_panel c tc rect r w no_interaction in
      let qq = cleared_panel c tc rect r u no_interaction in
      let x = press_events o now es (pair no_held w.past) in
      let y = press_events o now es (pair no_held u.past) in
      let m = begin_pass pp i in
      let dx : is_decidedly_dragging o now x.held x.past.has_moved_too_much_for_a_click ≡ false =
      undecided D tc now o es (pair no_held w.past) y.past both.flag x.past.has_moved_too_much_for_a_click (first_button es) refl opens both.trace in
      let dy : is_decidedly_dragging o now y.held y.past.has_moved_too_much_for_a_click ≡ false =
      ap (λ (z : Held). is_decidedly_dragging o now z y.past.has_moved_too_much_for_a_click) both.held
      ∙ undecided D tc now o es (pair no_held w.past) y.past both.flag y.past.has_moved_too_much_for_a_click (first_button es) refl opens both.trace in
      let st : (is_decidedly_dragging o now y.held y.past.has_moved_too_much_for_a_click && not (decidedly_dragging qq.clock qq.screen qq.press))
      ≡ (is_decidedly_dragging o now x.held x.past.has_moved_too_much_for_a_click && not (decidedly_dragging pp.clock pp.screen pp.press)) =
      ap (λ (z : Bool). z && not (decidedly_dragging qq.clock qq.screen qq.press)) dy ∙ sym (ap (λ (z : Bool). z && not (decidedly_dragging pp.clock pp.screen pp.press)) dx) in
      λ j. record {
        clock = m.clock;
        screen = m.screen;
        place = velocity_pass u.velocity now es pp.place j;
        press = pair (both.held j) y.past;
        started_decidedly_dragging = st j;
        last_move_time = move_time now (both.held j).pointer_events (velocity_pass u.velocity now es pp.place j).velocity u.last_move_time;
        touch_states = touch_pass now (Some r.pos) es u.touch_states;
        wheel = m.wheel;
        keys = m.keys;
        sums = m.sums;
        interaction = m.interaction;
        tally = u.tally;
      }

  same_last : (b : Bool) → T (b || false) → cond b (Some (time_of i tc)) u.last_move_time ≡ cond b (Some (time_of i tc)) w.last_move_time
  same_last true t = refl
  same_last false t = absurd t

  begin_agreeing : Ascend w.touch_states → Ascend u.touch_states → live w.touch_states ≡ live u.touch_states
      → Agreeing D tc (button_came false (first_button (pass_events i))) (then_since (passed (begin_pass (cleared_panel c tc rect r w no_interaction) i)) nothing_since)
      (begin_pass (cleared_panel c tc rect r w no_interaction) i) (begin_pass (cleared_panel c tc rect r u no_interaction) i)
  unfolding begin_pass cleared_panel clock_pass press_pass clear_events no_held move_time
  begin_agreeing a b e =
      let now = time_of i tc in
      let es = pass_events i in
      let x = press_events i.options now es (pair no_held w.past) in
      let y = press_events i.options now es (pair no_held u.past) in
      let m = begin_pass (cleared_panel c tc rect r w no_interaction) i in
      record {
        past = y.past;
        devices = touch_pass now (Some r.pos) es u.touch_states;
        count = u.tally;
        moved_at = move_time now m.press.held.pointer_events m.place.velocity u.last_move_time;
        is = begin_cleared;
        moves = same_last (any is_move m.press.held.pointer_events || vec_ne m.place.velocity vec_zero);
        same_live = touch_pass_live now (Some r.pos) es w.touch_states u.touch_states a b e;
        ascend_p = touch_pass_ascending now (Some r.pos) es w.touch_states a;
        ascend_q = touch_pass_ascending now (Some r.pos) es u.touch_states b;
        flag = both.flag;
        trace = both.trace;
        clicks = λ t. click_flag D tc now x.held x.past y.past (button_came false (first_button es)) both.flag both.trace (or_false (any is_click x.held.pointer_events) t);
        fin_tc = fin_tc;
        timed = fin_now;
        from = from;
      }

time_of_cleared : (c : PassInput) (tc : Float) (rect : Rect) (r : Rest) (w : Undecided) (d : Interaction) → (cleared_panel c tc rect r w d).clock.time ≡ tc
unfolding cleared_panel
time_of_cleared c tc rect r w d = refl

pub cleared_time : (c : PassInput) (tc : Float) (rect : Rect) (r : Rest) (p : Panel) → Cleared c tc rect r p → p.clock.time ≡ tc
cleared_time c tc rect r p h = ap (λ (z : Panel). z.clock.time) h.is ∙ time_of_cleared c tc rect r h.own no_interaction

pub cleared_pass : (c : PassInput) (tc : Float) (rect : Rect) (r : Rest) (i : PassInput) (D : Float) (p q p' q' : Panel) → T (finite tc) → Cleared c tc rect r p → Cleared c tc rect r q
    → Taken p i p' → Taken q i q' → T (le i.options.max_double_click_delay D) → T (le tc (time_of i p.clock.time)) → FirstIsPress D tc p'.clock.time (first_button (pass_events i))
    → Agreeing D tc (button_came false (first_button (pass_events i))) (then_since (passed p') nothing_since) p' q'
unfolding begin_pass clock_pass
cleared_pass c tc rect r i D p q p' q' fin_tc hp hq tp tq delay from opens =
    subst (λ (z : Panel). Agreeing D tc (button_came false (first_button es)) (then_since (passed z) nothing_since) z q') (sym (is_then p p' hp tp))
    (subst (λ (z : Panel). Agreeing D tc (button_came false (first_button es)) (then_since (passed pp) nothing_since) pp z) (sym (is_then q q' hq tq))
    (begin_agreeing c tc rect r i hp.own hq.own D delay fin_tc (subst (λ (z : Float). T (finite (time_of i z))) (cleared_time c tc rect r p hp) (time_in_range (time_of i p.clock.time) tp.in_domain).is_finite)
    (subst (λ (z : Float). T (le tc (time_of i z))) (cleared_time c tc rect r p hp) from) hp.last_click hq.last_click (subst (λ (z : Float). FirstIsPress D tc z (first_button es)) when opens)
    hp.ascend hq.ascend (hp.none_live ∙ sym hq.none_live)))
  where
    es : List Event
    es = pass_events i

    pp : Panel
    pp = begin_pass (cleared_panel c tc rect r hp.own no_interaction) i

    is_then : (p p' : Panel) (h : Cleared c tc rect r p) → Taken p i p' → p' ≡ begin_pass (cleared_panel c tc rect r h.own no_interaction) i
    is_then p p' h t = t.is ∙ ap (λ (z : Panel). begin_pass z i) h.is

    when : p'.clock.time ≡ time_of i tc
    when = ap (λ (z : Panel). z.clock.time) tp.is ∙ ap (time_of i) (cleared_time c tc rect r p hp)
