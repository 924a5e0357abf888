-- interaction.rs: an interact, refused with all left as before, or answered with a snapshot. Definitions only.
use Rattle.std.specs.Prelude.{ℕ, zero, suc, ◌+◌, max, Bool, true, false, not, ◌&&◌, ◌||◌, cond, List, [], ◌∷◌, leb, ltb, eqb, Option, None, Some}
use Rattle.data.specs.Limits.{max_hits, id_places, max_tally}
use Rattle.data.specs.Sense.{sense_ok, senses_click, senses_drag}
use Rattle.model.specs.Types.{Pos2, Click, PointerEvent, Moved, Pressed, Released, WidgetRect, InteractRefusal}
use Rattle.model.specs.Types.interaction.{Malformed, TooManyHits, ShortBuffer, ZeroId, TallyFull}
use Rattle.model.specs.Pointer.{any_down, could_any_button_be_click, is_long_press}
use Rattle.model.specs.Touch.{any_touches}
use Rattle.model.specs.Pass.{Panel, Interaction, no_interaction, decidedly_dragging, or_else, Tally}

-- an entry of a hit list
pub record Hit : Type 0 where
  pub id : ℕ
  pub sense : ℕ

-- what an interact is given: the widgets by a lookup, and the lengths of the two id buffers
pub record InteractInput : Type 0 where
  pub widgets : ℕ → Option WidgetRect
  pub close : List Hit
  pub contains_pointer : List Hit
  pub click : Option Hit
  pub drag : Option Hit
  pub hovered_places : ℕ
  pub contains_places : ℕ

-- `InteractionSnapshot`: the two id sets as ascending lists without repeats
pub record InteractionSnapshot : Type 0 where
  pub clicked : Option ℕ
  pub long_touched : Option ℕ
  pub drag_started : Option ℕ
  pub dragged : Option ℕ
  pub drag_stopped : Option ℕ
  pub hovered : List ℕ
  pub contains_pointer : List ℕ

-- ---- what an interact reads of the panel's input
pub record Seen : Type 0 where
  pub escape_pressed : Bool
  pub is_long_touch : Bool
  pub pointer_events : List PointerEvent
  pub is_decidedly_dragging : Bool
  pub could_any_button_be_click : Bool
  pub any_down : Bool
  pub has_pointer : Bool

unfoldable pub has_pos : Option Pos2 → Bool
has_pos None = false
has_pos (Some v) = true

-- `is_long_press` of a panel
unfoldable pub long_press : Panel → Bool
long_press p = is_long_press p.screen.options p.clock.pointer_time p.press p.started_decidedly_dragging

-- `could_any_button_be_click` of a panel
unfoldable pub could_click : Panel → Bool
could_click p = could_any_button_be_click p.screen.options p.clock.pointer_time p.press.held p.press.past.has_moved_too_much_for_a_click

-- Escape is key 4
unfoldable pub seen : Panel → Seen
seen p =
    record {
      escape_pressed = ltb 0 (p.keys.presses 4);
      is_long_touch = any_touches p.touch_states && long_press p;
      pointer_events = p.press.held.pointer_events;
      is_decidedly_dragging = decidedly_dragging p.clock p.screen p.press;
      could_any_button_be_click = could_click p;
      any_down = any_down p.press.held.down;
      has_pointer = has_pos p.place.latest_pos;
    }

-- ---- the walk through it
pub record Going : Type 0 where
  pub interaction : Interaction
  pub clicked : Option ℕ
  pub long_touched : Option ℕ

unfoldable pub is_some : {A : Type 0} → Option A → Bool
is_some None = false
is_some (Some a) = true

unfoldable pub has_click : Option Click → Bool
has_click None = false
has_click (Some c) = true

-- `id.and_then(|id| widgets.get(id))`
unfoldable pub get : Option ℕ → (ℕ → Option WidgetRect) → Option WidgetRect
get None widgets = None
get (Some d) widgets = widgets d

unfoldable pub widget_id : Option WidgetRect → Option ℕ
widget_id None = None
widget_id (Some w) = Some w.id

unfoldable pub hit_id : Option Hit → Option ℕ
hit_id None = None
hit_id (Some h) = Some h.id

unfoldable pub kept_if : Bool → Option ℕ → Option ℕ
kept_if false d = None
kept_if true d = d

-- the widget that might be clicked is gone, and so is the click; one that might be dragged, or is dragged, stays
unfoldable pub forget_gone_click : (ℕ → Option WidgetRect) → Interaction → Interaction
forget_gone_click widgets s =
    record { potential_click_id = kept_if (is_some (get s.potential_click_id widgets)) s.potential_click_id; potential_drag_id = s.potential_drag_id; dragged = s.dragged }

-- "Abort dragging on escape"
unfoldable pub abort_if : Bool → Interaction → Interaction
abort_if false s = s
abort_if true s = record { potential_click_id = s.potential_click_id; potential_drag_id = None; dragged = None }

-- press-and-hold for the context menu, on the widget that might be clicked
unfoldable pub long_touch_on : Interaction → Option WidgetRect → Going
long_touch_on s None = record { interaction = s; clicked = None; long_touched = None }
long_touch_on s (Some w) = record { interaction = no_interaction; clicked = Some w.id; long_touched = Some w.id }

unfoldable pub long_touch_if : Bool → (ℕ → Option WidgetRect) → Interaction → Going
long_touch_if false widgets s = record { interaction = s; clicked = None; long_touched = None }
long_touch_if true widgets s = long_touch_on s (get s.potential_click_id widgets)

-- a pointer event: a press may name what is clicked or dragged, a release ends both
unfoldable pub pointer_event : InteractInput → Bool → PointerEvent → Going → Going
pointer_event x dragging (Moved v) g = g
pointer_event x dragging (Pressed v b) g =
    record {
      interaction =
          record {
            potential_click_id = or_else g.interaction.potential_click_id (hit_id x.click);
            potential_drag_id = or_else g.interaction.potential_drag_id (hit_id x.drag);
            dragged = g.interaction.dragged;
          };
      clicked = g.clicked;
      long_touched = g.long_touched;
    }
pointer_event x dragging (Released c b) g =
    record {
      interaction = no_interaction;
      clicked = cond (has_click c && not dragging) (or_else (widget_id (get g.interaction.potential_click_id x.widgets)) g.clicked) g.clicked;
      long_touched = g.long_touched;
    }

unfoldable pub pointer_events : InteractInput → Bool → List PointerEvent → Going → Going
pointer_events x dragging [] g = g
pointer_events x dragging (e ∷ es) g = pointer_events x dragging es (pointer_event x dragging e g)

unfoldable pub has_hit : ℕ → List Hit → Bool
has_hit d [] = false
has_hit d (h ∷ hs) = eqb d h.id || has_hit d hs

unfoldable pub is_hit : ℕ → Option Hit → Bool
is_hit d None = false
is_hit d (Some h) = eqb d h.id

-- `could_still_be_clicked`
unfoldable pub could_still_be_clicked : InteractInput → ℕ → Bool
could_still_be_clicked x d = has_hit d x.contains_pointer || is_hit d x.click

-- `is_dragged`, of an enabled widget: one that senses clicks too is dragged once that is decided
unfoldable pub is_dragged : InteractInput → Bool → WidgetRect → Bool
is_dragged x dragging w =
    w.enabled && cond (senses_click w.sense && senses_drag w.sense) (dragging || not (could_still_be_clicked x w.id)) (senses_drag w.sense)

unfoldable pub new_drag : InteractInput → Bool → Option WidgetRect → Option ℕ
new_drag x dragging None = None
new_drag x dragging (Some w) = kept_if (is_dragged x dragging w) (Some w.id)

-- whom the interact leaves dragged
unfoldable pub dragged_after : InteractInput → Bool → Interaction → Option ℕ
dragged_after x dragging s = or_else s.dragged (new_drag x dragging (get s.potential_drag_id x.widgets))

-- ---- sets of ids, ascending without repeats

unfoldable pub insert_id : ℕ → List ℕ → List ℕ
insert_id d [] = d ∷ []
insert_id d (e ∷ es) = cond (ltb d e) (d ∷ e ∷ es) (cond (eqb d e) (e ∷ es) (e ∷ insert_id d es))

unfoldable pub insert_some : Option ℕ → List ℕ → List ℕ
insert_some None s = s
insert_some (Some d) s = insert_id d s

unfoldable pub insert_hits : List Hit → List ℕ → List ℕ
insert_hits [] s = s
insert_hits (h ∷ hs) s = insert_hits hs (insert_id h.id s)

-- `order(id).unwrap_or(0)`: the first place in `close`, from n on
unfoldable pub order_from : ℕ → ℕ → List Hit → ℕ
order_from d n [] = 0
order_from d n (h ∷ hs) = cond (eqb d h.id) n (order_from d (suc n) hs)

unfoldable pub order : ℕ → List Hit → ℕ
order d close = order_from d 0 close

unfoldable pub order_of : Option Hit → List Hit → ℕ
order_of None close = 0
order_of (Some h) close = order h.id close

-- the widgets that sense no click and no drag and lie on top of the interactive one
unfoldable pub insert_on_top : ℕ → List Hit → List Hit → List ℕ → List ℕ
insert_on_top top close [] s = s
insert_on_top top close (h ∷ hs) s =
    insert_on_top top close hs (cond (not (senses_click h.sense || senses_drag h.sense) && leb top (order h.id close)) (insert_id h.id s) s)

-- `contains_pointer`
unfoldable pub contains_pointer_of : InteractInput → List ℕ
contains_pointer_of x = insert_hits x.contains_pointer (insert_some (hit_id x.click) (insert_some (hit_id x.drag) []))

-- `hovered`: while something is clicked or dragged, only that
unfoldable pub hovered_of : InteractInput → Option ℕ → Option ℕ → Option ℕ → List ℕ
hovered_of x clicked dragged long_touched =
    cond (is_some clicked || is_some dragged || is_some long_touched)
    (insert_some clicked (insert_some dragged (insert_some long_touched [])))
    (insert_on_top (max (order_of x.click x.close) (order_of x.drag x.close)) x.close x.contains_pointer
    (insert_some (hit_id x.click) (insert_some (hit_id x.drag) [])))

-- ---- the core: the snapshot, and the interaction state after it

unfoldable pub same_id : Option ℕ → Option ℕ → Bool
same_id None None = true
same_id None (Some b) = false
same_id (Some a) None = false
same_id (Some a) (Some b) = eqb a b

unfoldable pub walked : Seen → InteractInput → Interaction → Going
walked v x s =
    pointer_events x v.is_decidedly_dragging v.pointer_events
    (long_touch_if v.is_long_touch x.widgets (abort_if v.escape_pressed (forget_gone_click x.widgets s)))

-- the potential ids stay while a button is down and the pointer is there, the click's while it could still be one
unfoldable pub interaction_after : Seen → InteractInput → Interaction → Interaction
interaction_after v x s =
    record {
      potential_click_id = kept_if (v.could_any_button_be_click && v.any_down && v.has_pointer) (walked v x s).interaction.potential_click_id;
      potential_drag_id = kept_if (v.any_down && v.has_pointer) (walked v x s).interaction.potential_drag_id;
      dragged = dragged_after x v.is_decidedly_dragging (walked v x s).interaction;
    }

-- `drag_changed.then_some(..)`
unfoldable pub if_changed : Option ℕ → Option ℕ → Option ℕ → Option ℕ
if_changed before now d = cond (same_id now before) None d

unfoldable pub snapshot : Seen → InteractInput → Interaction → InteractionSnapshot
snapshot v x s =
    let g = walked v x s in
    let now = (interaction_after v x s).dragged in
    record {
      clicked = g.clicked;
      long_touched = g.long_touched;
      drag_started = if_changed s.dragged now now;
      dragged = now;
      drag_stopped = if_changed s.dragged now s.dragged;
      hovered = hovered_of x g.clicked now g.long_touched;
      contains_pointer = contains_pointer_of x;
    }

-- ---- refusals

-- of an entry: 1, 9
unfoldable pub entry_refusal : ℕ → Hit → Option InteractRefusal
entry_refusal i h = cond (sense_ok h.sense) (cond (eqb h.id 0) (Some ZeroId) None) (Some (Malformed i))

-- of a list from its entry i on: 4, 1, 9 by entry. `left` is how many entries may still come
unfoldable pub hits_refusal : ℕ → ℕ → List Hit → Option InteractRefusal
hits_refusal left i [] = None
hits_refusal zero i (h ∷ hs) = Some (TooManyHits i)
hits_refusal (suc left) i (h ∷ hs) = or_else (entry_refusal i h) (hits_refusal left (suc i) hs)

unfoldable pub hit_refusal : Option Hit → Option InteractRefusal
hit_refusal None = None
hit_refusal (Some h) = entry_refusal 0 h

-- 8: "an id buffer under 66 places"
unfoldable pub buffers_refusal : InteractInput → Option InteractRefusal
buffers_refusal x = cond (leb id_places x.hovered_places && leb id_places x.contains_places) None (Some ShortBuffer)

-- 01: "Interact: 8, then by list close, contains_pointer, click, drag: 4, 1, 9 by entry"
unfoldable pub input_refusal : InteractInput → Option InteractRefusal
input_refusal x =
    or_else (buffers_refusal x)
    (or_else (hits_refusal max_hits 0 x.close) (or_else (hits_refusal max_hits 0 x.contains_pointer) (or_else (hit_refusal x.click) (hit_refusal x.drag))))

-- ---- an interact

pub data Interacted : Type 0 where
  refused : InteractRefusal → Interacted
  answered : InteractionSnapshot → Panel → Interacted

unfoldable pub with_interaction : Panel → Interaction → Tally → Panel
with_interaction p s n =
    record {
      clock = p.clock;
      screen = p.screen;
      place = p.place;
      press = p.press;
      started_decidedly_dragging = p.started_decidedly_dragging;
      last_move_time = p.last_move_time;
      touch_states = p.touch_states;
      wheel = p.wheel;
      keys = p.keys;
      sums = p.sums;
      interaction = s;
      tally = n;
    }

unfoldable pub one_if : {A : Type 0} → Option A → ℕ
one_if None = 0
one_if (Some a) = 1

-- the tally after an answer
unfoldable pub tally_after : InteractionSnapshot → Tally → Tally
tally_after a n = n + one_if a.drag_started

-- 10: the answer would start a drag with the 32-bit tally full
unfoldable pub tally_refusal : InteractionSnapshot → Tally → Option InteractRefusal
tally_refusal a n = cond (is_some a.drag_started && leb max_tally n) (Some TallyFull) None

-- refused by the tally, or answered with what it counts then
unfoldable pub tallied_by : Option InteractRefusal → Panel → InteractionSnapshot → Interaction → Interacted
tallied_by (Some r) p a s = refused r
tallied_by None p a s = answered a (with_interaction p s (tally_after a p.tally))

-- the last step counts in the tally, or refuses
unfoldable pub tallied : Panel → InteractionSnapshot → Interaction → Interacted
tallied p a s = tallied_by (tally_refusal a p.tally) p a s

unfoldable pub interact_by : Option InteractRefusal → Seen → Panel → InteractInput → Interacted
interact_by (Some r) v p x = refused r
interact_by None v p x = tallied p (snapshot v x p.interaction) (interaction_after v x p.interaction)

-- `interact` of the panel's interaction state and tally, where v is what it reads of the input: for every v, also one that no panel shows
unfoldable pub interact_seen : Seen → Panel → InteractInput → Interacted
interact_seen v p x = interact_by (input_refusal x) v p x

-- `interact`
unfoldable pub interact : Panel → InteractInput → Interacted
interact p x = interact_seen (seen p) p x
