-- What a lost event may leave in the click past of two panels, and how it ends. Assumes nothing.
use Rattle.std.specs.Prelude.{None, Some}
use mathlib.Core.Path.{◌≡◌, refl, sym, ap, subst}
use mathlib.Core.Bool.{Bool, true, false, ◌||◌}
use mathlib.Core.List.{List, [], ◌∷◌, ◌++◌}
use lib.Dec.{T}
use lib.Ieee.{Float, nan, inf, fin, binary64, sub, lt, le}
use lib.Ieee.Scale.{finite}
use Rattle.ieee_laws.proofs.Order.{le_trans, le_not_lt}
use Rattle.ieee_laws.proofs.Differences.{sub_spans}
use Rattle.model.specs.Numbers.{neg_infinity}
use Rattle.model.specs.Types.{Pos2, Modifiers, InputOptions, PointerButton, Event, PointerMoved, Button, PointerEvent, Moved, Pressed, Released}
use Rattle.model.specs.Pointer.{Held, ClickPast, Press, any, is_release, is_click, any_down, no_buttons, could_any_button_be_click, is_decidedly_dragging, count_of, click_count, too_far}
use Rattle.model.specs.Pointer.{add_event, press_button, release_button, with_moved, remember_click, click_of, release, press_event, press_events, clear_events}
use Rattle.model.specs.Pass.{or_else}
use Rattle.theorems.specs.Reach.{NotAfter, never, by}
use Rattle.theorems.specs.Clearing.{FirstIsPress, button_event, first_button, button_came}
use Rattle.model.proofs.Ids.{false_of}
use Rattle.theorems.proofs.Pointer.{PointerView, a_move, a_press, a_release, nothing, pointer_view}

-- ---- times, for delays of at most D

-- a click not after tc is far from a press at t, at least D after tc, and from all that follows it
pub record Times (D tc t now : Float) : Type 0 where
  pub fin_tc : T (finite tc)
  pub fin_t : T (finite t)
  pub fin_now : T (finite now)
  pub far : T (le D (sub binary64 t tc))
  pub from : T (le tc t)
  pub to : T (le t now)

after_never : (D y now : Float) → T (le D y) → T (finite now) → T (le D (sub binary64 now neg_infinity))
unfolding sub le
after_never D y nan h f = absurd f
after_never D y (inf s) h f = absurd f
after_never nan y (fin s m e) h f = h
after_never (inf true) y (fin s m e) h f = tt
after_never (inf false) y (fin s m e) h f = tt
after_never (fin t n d) y (fin s m e) h f = tt

far_apart : (D tc t now l : Float) → Times D tc t now → NotAfter tc l → T (le D (sub binary64 now l))
far_apart D tc t now l h (never e) = rw e (after_never D (sub binary64 t tc) now h.far h.fin_now)
far_apart D tc t now l h (by f b) =
    le_trans D (sub binary64 t tc) (sub binary64 now l) h.far (sub_spans binary64 l tc t now f h.fin_tc h.fin_t h.fin_now b h.from h.to)

-- a difference of at least D is no sooner than a delay of at most D
not_sooner : (delay D x : Float) → T (le delay D) → T (le D x) → lt x delay ≡ false
not_sooner delay D x h k = false_of (lt x delay) (le_not_lt delay x (le_trans delay D x h k))

-- ---- what may differ

-- no button is down, and the pass has no release and no click
pub record NoButton (h : Held) : Type 0 where
  pub none_down : h.down ≡ no_buttons
  pub no_release : any is_release h.pointer_events ≡ false
  pub no_click : any is_click h.pointer_events ≡ false

-- The click pasts a and b of two panels whose buttons and pointer events are h, from the pass after the clearing one on.
-- The first flag says whether a button event came since, the second whether a click did.
pub data Trace (D tc now : Float) (h : Held) (a b : ClickPast) : Bool → Bool → Type 0 where
  -- before the first press: anything, but no click after tc
  unpressed : NoButton h → NotAfter tc a.last_click_time → NotAfter tc b.last_click_time → Trace D tc now h a b false false
  -- from it to the first click: the last clicks, too long ago for a double click
  pressed : (t : Float) → Times D tc t now → any is_click h.pointer_events ≡ false → a.has_moved_too_much_for_a_click ≡ b.has_moved_too_much_for_a_click
      → NotAfter tc a.last_click_time → NotAfter tc b.last_click_time → Trace D tc now h a b true false
  -- from that to the next click: the click before the last, too long ago for a triple click
  clicked : a.has_moved_too_much_for_a_click ≡ b.has_moved_too_much_for_a_click → a.last_click_pos ≡ b.last_click_pos → a.last_click_time ≡ b.last_click_time
      → T (le D (sub binary64 a.last_click_time a.last_last_click_time)) → T (le D (sub binary64 b.last_click_time b.last_last_click_time))
      → Trace D tc now h a b true true
  -- from then on, nothing
  equal : a ≡ b → Trace D tc now h a b true true

abbrev pub pair : Held → ClickPast → Press
pair h a = record { held = h; past = a }

-- x and y come to have the same buttons and pointer events, and their click pasts are in the relation
pub record Kept (D tc now : Float) (pr c : Bool) (x y : Press) : Type 0 where
  pub held : Held
  pub a : ClickPast
  pub b : ClickPast
  pub left : x ≡ pair held a
  pub right : y ≡ pair held b
  pub flag : Bool
  pub grows : T c → T flag
  pub trace : Trace D tc now held a b pr flag

any_more : (f : PointerEvent → Bool) (es : List PointerEvent) (e : PointerEvent) → any f es ≡ false → f e ≡ false → any f (es ++ (e ∷ [])) ≡ false
unfolding any
any_more f [] e h k = rw k
any_more f (g ∷ es) e h k = go (f g) h (any_more f es e)
  where
    go : (b : Bool) → (b || any f es) ≡ false → (any f es ≡ false → f e ≡ false → any f (es ++ (e ∷ [])) ≡ false) → (b || any f (es ++ (e ∷ []))) ≡ false
    go true x ih = x
    go false x ih = ih x k

-- ---- one event of a pass, after a button event
module _ (D tc now : Float) (o : InputOptions) (delay : T (le o.max_double_click_delay D)) where
  same_past : (h : Held) (a b : ClickPast) (f : Press → Press) → a ≡ b → Kept D tc now true true (f (pair h a)) (f (pair h b))
  same_past h a b f e =
      record {
        held = (f (pair h a)).held;
        a = (f (pair h a)).past;
        b = (f (pair h a)).past;
        left = refl;
        right = ap (λ (z : ClickPast). f (pair h z)) (sym e);
        flag = true;
        grows = λ t. t;
        trace = equal refl;
      }

  unchanged : (h : Held) (a b : ClickPast) (pr c : Bool) → Trace D tc now h a b pr c → Kept D tc now pr c (pair h a) (pair h b)
  unchanged h a b pr c t = record { held = h; a = a; b = b; left = refl; right = refl; flag = c; grows = λ x. x; trace = t }

  move_step : (h : Held) (a b : ClickPast) (v : Pos2) (c : Bool) → Trace D tc now h a b true c
      → Kept D tc now true c (press_event o now (PointerMoved v) (pair h a)) (press_event o now (PointerMoved v) (pair h b))
  unfolding press_event add_event with_moved is_click
  move_step h a b v c (pressed t times none_yet m la lb) =
      record {
        held = add_event (Moved v) h;
        a = with_moved (a.has_moved_too_much_for_a_click || too_far o v h.press_origin) a;
        b = with_moved (b.has_moved_too_much_for_a_click || too_far o v h.press_origin) b;
        left = refl;
        right = refl;
        flag = false;
        grows = λ x. x;
        trace = pressed t times (any_more is_click h.pointer_events (Moved v) none_yet refl) (ap (λ (z : Bool). z || too_far o v h.press_origin) m) la lb;
      }
  move_step h a b v c (clicked m s l x y) =
      record {
        held = add_event (Moved v) h;
        a = with_moved (a.has_moved_too_much_for_a_click || too_far o v h.press_origin) a;
        b = with_moved (b.has_moved_too_much_for_a_click || too_far o v h.press_origin) b;
        left = refl;
        right = refl;
        flag = true;
        grows = λ x. x;
        trace = clicked (ap (λ (z : Bool). z || too_far o v h.press_origin) m) s l x y;
      }
  move_step h a b v c (equal e) = same_past h a b (press_event o now (PointerMoved v)) e

  press_step : (h : Held) (a b : ClickPast) (v : Pos2) (u : PointerButton) (m : Modifiers) (c : Bool) → Trace D tc now h a b true c
      → Kept D tc now true c (press_event o now (Button v u true m) (pair h a)) (press_event o now (Button v u true m) (pair h b))
  unfolding press_event press_button with_moved is_click
  press_step h a b v u m c (pressed t times none_yet _ la lb) =
      record {
        held = press_button u now v h;
        a = with_moved false a;
        b = with_moved false b;
        left = refl;
        right = refl;
        flag = false;
        grows = λ x. x;
        trace = pressed t times (any_more is_click h.pointer_events (Pressed v u) none_yet refl) refl la lb;
      }
  press_step h a b v u m c (clicked _ s l x y) =
      record { held = press_button u now v h; a = with_moved false a; b = with_moved false b; left = refl; right = refl; flag = true; grows = λ x. x; trace = clicked refl s l x y }
  press_step h a b v u m c (equal e) = same_past h a b (press_event o now (Button v u true m)) e

  -- the click after the first later press counts 1
  one_click : (v : Pos2) (p : ClickPast) → T (le D (sub binary64 now p.last_click_time)) → click_count o now v p ≡ 1
  unfolding click_count count_of
  one_click v p h = rw (not_sooner o.max_double_click_delay D (sub binary64 now p.last_click_time) delay h)

  -- the next one counts alike: no triple click
  no_third : (v : Pos2) (a b : ClickPast) → a.last_click_pos ≡ b.last_click_pos → a.last_click_time ≡ b.last_click_time → T (le D (sub binary64 a.last_click_time a.last_last_click_time))
      → T (le D (sub binary64 b.last_click_time b.last_last_click_time)) → click_count o now v a ≡ click_count o now v b
  unfolding click_count
  no_third v a b s l x y =
      rw (
        not_sooner o.max_double_click_delay D (sub binary64 a.last_click_time a.last_last_click_time) delay x,
        not_sooner o.max_double_click_delay D (sub binary64 b.last_click_time b.last_last_click_time) delay y,
        s,
        l,
      )

  release_as : (cl : Bool) (h : Held) (a b : ClickPast) (v : Pos2) (u : PointerButton) (m : Modifiers) (c : Bool) → Trace D tc now h a b true c
      → Kept D tc now true c (release cl o now v m u (pair h a)) (release cl o now v m u (pair h b))
  unfolding release release_button remember_click click_of is_click
  release_as cl h a b v u m c (equal e) = same_past h a b (release cl o now v m u) e
  release_as false h a b v u m c (pressed t times none_yet e la lb) =
      record {
        held = release_button u None h;
        a = a;
        b = b;
        left = refl;
        right = refl;
        flag = false;
        grows = λ x. x;
        trace = pressed t times (any_more is_click h.pointer_events (Released None u) none_yet refl) e la lb;
      }
  release_as true h a b v u m c (pressed t times none_yet e la lb) =
      let x = far_apart D tc t now a.last_click_time times la in
      let y = far_apart D tc t now b.last_click_time times lb in
      record {
        held = release_button u (Some (record { pos = v; count = 1; modifiers = m })) h;
        a = remember_click true now v a;
        b = remember_click true now v b;
        left = rw (one_click v a x);
        right = rw (one_click v b y);
        flag = true;
        grows = λ x. tt;
        trace = clicked e refl refl x y;
      }
  release_as false h a b v u m c (clicked e s l x y) =
      record { held = release_button u None h; a = a; b = b; left = refl; right = refl; flag = true; grows = λ x. x; trace = clicked e s l x y }
  release_as true h a b v u m c (clicked e s l x y) =
      record {
        held = release_button u (Some (record { pos = v; count = click_count o now v a; modifiers = m })) h;
        a = remember_click true now v a;
        b = remember_click true now v b;
        left = refl;
        right = rw (no_third v a b s l x y);
        flag = true;
        grows = λ x. x;
        trace = equal (rw (e, l));
      }

  moved_same : (h : Held) (a b : ClickPast) (c : Bool) → Trace D tc now h a b true c → a.has_moved_too_much_for_a_click ≡ b.has_moved_too_much_for_a_click
  moved_same h a b c (pressed t times none_yet m la lb) = m
  moved_same h a b c (clicked m s l x y) = m
  moved_same h a b c (equal e) = ap (λ (p : ClickPast). p.has_moved_too_much_for_a_click) e

  release_step : (h : Held) (a b : ClickPast) (v : Pos2) (u : PointerButton) (m : Modifiers) (c : Bool) → Trace D tc now h a b true c
      → Kept D tc now true c (press_event o now (Button v u false m) (pair h a)) (press_event o now (Button v u false m) (pair h b))
  unfolding press_event
  release_step h a b v u m c t =
      subst
      (λ (z : Bool). Kept D tc now true c (release (could_any_button_be_click o now h a.has_moved_too_much_for_a_click) o now v m u (pair h a)) (release (could_any_button_be_click o now h z) o now v m u (pair h b)))
      (moved_same h a b c t) (release_as (could_any_button_be_click o now h a.has_moved_too_much_for_a_click) h a b v u m c t)

  step : (e : Event) (h : Held) (a b : ClickPast) (c : Bool) → Trace D tc now h a b true c → Kept D tc now true c (press_event o now e (pair h a)) (press_event o now e (pair h b))
  step e h a b c t = go (pointer_view e)
    where
      go : {e : Event} → PointerView e → Kept D tc now true c (press_event o now e (pair h a)) (press_event o now e (pair h b))
      go (a_move v) = move_step h a b v c t
      go (a_press v u m) = press_step h a b v u m c t
      go (a_release v u m) = release_step h a b v u m c t
      go (nothing k l) = rw (k o now (pair h a), k o now (pair h b)) (unchanged h a b true c t)

  -- ---- all events of the pass
  chain : (pr c : Bool) (es : List Event) (x y : Press) (k : Kept D tc now true c x y)
      → Kept D tc now pr k.flag (press_events o now es (pair k.held k.a)) (press_events o now es (pair k.held k.b))
      → Kept D tc now pr c (press_events o now es x) (press_events o now es y)
  chain pr c es x y k n =
      record
      { held = n.held; a = n.a; b = n.b; left = rw k.left n.left; right = rw k.right n.right; flag = n.flag; grows = λ t. n.grows (k.grows t); trace = n.trace }

  pub steps : (es : List Event) (h : Held) (a b : ClickPast) (c : Bool) → Trace D tc now h a b true c
      → Kept D tc now true c (press_events o now es (pair h a)) (press_events o now es (pair h b))
  unfolding press_events
  steps [] h a b c t = unchanged h a b true c t
  steps (e ∷ es) h a b c t =
      let k = step e h a b c t in
      chain true c es (press_event o now e (pair h a)) (press_event o now e (pair h b)) k (steps es k.held k.a k.b k.flag k.trace)

  -- ---- and before a button event
  module _ (fin_tc : T (finite tc)) (fin_now : T (finite now)) (from : T (le tc now)) (self : T (le now now)) where
    moved_on : (h : Held) (v : Pos2) → NoButton h → NoButton (add_event (Moved v) h)
    unfolding add_event is_click is_release
    moved_on h v q =
        record {
          none_down = q.none_down;
          no_release = any_more is_release h.pointer_events (Moved v) q.no_release refl;
          no_click = any_more is_click h.pointer_events (Moved v) q.no_click refl;
        }

    first_pressed : (h : Held) (a b : ClickPast) (v : Pos2) (u : PointerButton) → NoButton h → NotAfter tc a.last_click_time → NotAfter tc b.last_click_time → T (le D (sub binary64 now tc))
        → Trace D tc now (press_button u now v h) (with_moved false a) (with_moved false b) true false
    unfolding press_button with_moved is_click
    first_pressed h a b v u q la lb far =
        pressed now (record { fin_tc = fin_tc; fin_t = fin_now; fin_now = fin_now; far = far; from = from; to = self })
        (any_more is_click h.pointer_events (Pressed v u) q.no_click refl) refl la lb

    pub first : (es : List Event) (h : Held) (a b : ClickPast) → NoButton h → NotAfter tc a.last_click_time → NotAfter tc b.last_click_time
        → FirstIsPress D tc now (first_button es)
        → Kept D tc now (button_came false (first_button es)) false (press_events o now es (pair h a)) (press_events o now es (pair h b))
    unfolding press_events press_event first_button button_event or_else with_moved
    first [] h a b q la lb p = unchanged h a b false false (unpressed q la lb)
    first (e ∷ es) h a b q la lb p = go (pointer_view e) p (λ h a b q la lb p. first es h a b q la lb p)
      where
        go : {e : Event} → PointerView e → FirstIsPress D tc now (first_button (e ∷ es))
            → ((h : Held) (a b : ClickPast) → NoButton h → NotAfter tc a.last_click_time → NotAfter tc b.last_click_time → FirstIsPress D tc now (first_button es)
            → Kept D tc now (button_came false (first_button es)) false (press_events o now es (pair h a)) (press_events o now es (pair h b)))
            → Kept D tc now (button_came false (first_button (e ∷ es))) false (press_events o now es (press_event o now e (pair h a))) (press_events o now es (press_event o now e (pair h b)))
        go (a_move v) p ih =
            ih (add_event (Moved v) h) (with_moved (a.has_moved_too_much_for_a_click || too_far o v h.press_origin) a) (with_moved (b.has_moved_too_much_for_a_click || too_far o v h.press_origin) b)
            (moved_on h v q) la lb p
        go (a_press v u m) p ih = steps es (press_button u now v h) (with_moved false a) (with_moved false b) false (first_pressed h a b v u q la lb p)
        go (a_release v u m) p ih = absurd p
        go (nothing k l) p ih = rw (k o now (pair h a), k o now (pair h b), l) (ih h a b q la lb (rw l at p))

-- ---- what the pointer's questions make of it
module _ (D tc now : Float) (h : Held) (a b : ClickPast) where
  pub could_same : (o : InputOptions) (time : Float) (pr c : Bool) → Trace D tc now h a b pr c
      → could_any_button_be_click o time h a.has_moved_too_much_for_a_click ≡ could_any_button_be_click o time h b.has_moved_too_much_for_a_click
  unfolding could_any_button_be_click any_down no_buttons
  could_same o time pr c (unpressed q la lb) = rw (q.none_down, q.no_release)
  could_same o time pr c (pressed t times none_yet m la lb) = rw m
  could_same o time pr c (clicked m s l x y) = rw m
  could_same o time pr c (equal e) = rw e

  pub decidedly_same : (o : InputOptions) (time : Float) (pr c : Bool) → Trace D tc now h a b pr c
      → is_decidedly_dragging o time h a.has_moved_too_much_for_a_click ≡ is_decidedly_dragging o time h b.has_moved_too_much_for_a_click
  unfolding is_decidedly_dragging
  decidedly_same o time pr c t = rw (could_same o time pr c t)

  pub last_same : (pr c : Bool) → Trace D tc now h a b pr c → T c → a.last_click_time ≡ b.last_click_time
  last_same pr c (unpressed q la lb) t = absurd t
  last_same pr c (pressed t times none_yet m la lb) x = absurd x
  last_same pr c (clicked m s l x y) t = l
  last_same pr c (equal e) t = ap (λ (p : ClickPast). p.last_click_time) e

  -- a click among the pass's pointer events is in the flag
  pub click_flag : (pr c : Bool) → Trace D tc now h a b pr c → T (any is_click h.pointer_events) → T c
  click_flag pr c (unpressed q la lb) t = rw q.no_click at t
  click_flag pr c (pressed t times none_yet m la lb) x = rw none_yet at x
  click_flag pr c (clicked m s l x y) t = tt
  click_flag pr c (equal e) t = tt

  -- at a later time, with the pointer events cleared
  pub next_pass : (later : Float) (pr c : Bool) → T (finite later) → T (le now later) → Trace D tc now h a b pr c → Trace D tc later (clear_events h) a b pr c
  unfolding clear_events any
  next_pass later pr c f l (unpressed q la lb) = unpressed (record { none_down = q.none_down; no_release = refl; no_click = refl }) la lb
  next_pass later pr c f l (pressed t s none_yet m la lb) =
      pressed t (record { fin_tc = s.fin_tc; fin_t = s.fin_t; fin_now = f; far = s.far; from = s.from; to = le_trans t now later s.to l }) refl m la lb
  next_pass later pr c f l (clicked m s k x y) = clicked m s k x y
  next_pass later pr c f l (equal e) = equal e
