-- A recorded exchange with egui: the words that it was given and those that it answered. The model is given the same. Definitions only.
use Rattle.std.specs.Prelude.{ℕ, zero, suc, ◌+◌, ◌*◌, ◌-◌, ◌/◌, ◌%◌, Bool, true, false, ◌&&◌, cond, List, [], ◌∷◌, ◌++◌, length, get_or, take, drop, replicate, Float, Option, None, Some}
use Rattle.std.specs.Float.{binary64}
use Rattle.std.specs.Float.Ieee.{of_bits}
use Rattle.data.specs.Bits.{bit_of}
use Rattle.data.specs.Modifiers.{modifiers_of}
use Rattle.data.specs.Numbers.{pass_refusal_number, pass_refusal_index, interact_refusal_number, interact_refusal_index, insert_refusal_number, insert_refusal_index}
use Rattle.feed.specs.Shape.{id_of, float_of, pos_of}
use Rattle.model.specs.Types.{Rect, LayerId, WidgetRect}
use Rattle.model.specs.Pass.{Panel, PassInput, Passed, pass, fresh}
use Rattle.model.specs.Pass as P
use Rattle.model.specs.Widgets.{WidgetRects, Inserted, insert, get, no_widgets, same_layer}
use Rattle.model.specs.Widgets as W
use Rattle.model.specs.Interact.{Hit, InteractInput, Interacted, interact, with_interaction}
use Rattle.model.specs.Interact as I
use Rattle.edges.specs.Words.{same, snapshot_words}
use Rattle.model_calls.specs.Ask.{ask_words}
use Rattle.model_calls.specs.Dump.{Slice, widget_words, dump_words}

infixr 67 ◌zeros◌
-- n words that are 0, and the words after them
unfoldable pub ◌zeros◌ : ℕ → List ℕ → List ℕ
n zeros ws = replicate n 0 ++ ws

-- Each with the request's words and egui's answer; an answer's first word is the refusal number, times 2 ^ 24, and how many words follow.
pub data Exchange : Type 0 where
  resets : Exchange
  passes : List ℕ → List ℕ → Exchange
  inserts : List ℕ → List ℕ → Exchange
  clears_widgets : Exchange
  interacts : List ℕ → List ℕ → Exchange
  -- all questions, and the whole state
  asks : List ℕ → Exchange
  dumps : List ℕ → Exchange
  sets_tally : ℕ → Exchange

-- ---- what the words of a request say; i is a word's place

unfoldable pub word : List ℕ → ℕ → ℕ
word ws i = get_or ws i 0

unfoldable pub f32_at : List ℕ → ℕ → Float
f32_at ws i = float_of (word ws i)

unfoldable pub f64_at : List ℕ → ℕ → Float
f64_at ws i = of_bits binary64 (id_of (word ws i) (word ws (1 + i)))

unfoldable pub id_at : List ℕ → ℕ → ℕ
id_at ws i = id_of (word ws i) (word ws (1 + i))

unfoldable pub rect_at : List ℕ → ℕ → Rect
rect_at ws i = record { min = pos_of (word ws i) (word ws (1 + i)); max = pos_of (word ws (2 + i)) (word ws (3 + i)) }

unfoldable pub if_given : {A : Type 0} → Bool → A → Option A
if_given false a = None
if_given true a = Some a

unfoldable pub pass_input : List ℕ → PassInput
pass_input ws =
    record {
      time = if_given (bit_of 1 (word ws 0)) (f64_at ws 1);
      screen_rect = if_given (bit_of 2 (word ws 0)) (rect_at ws 6);
      predicted_dt = f32_at ws 3;
      smoothing_factor = f32_at ws 4;
      pixels_per_point = f32_at ws 5;
      focused = bit_of 4 (word ws 0);
      requested_repaint = bit_of 8 (word ws 0);
      options =
          record {
            line_scroll_speed = f32_at ws 10;
            scroll_zoom_speed = f32_at ws 11;
            max_click_dist = f32_at ws 12;
            max_click_duration = f64_at ws 13;
            max_double_click_delay = f64_at ws 15;
            zoom_modifier = modifiers_of (word ws 17);
            horizontal_scroll_modifier = modifiers_of (word ws 17 / 32);
            vertical_scroll_modifier = modifiers_of (word ws 17 / 1024);
          };
      feed = drop 18 ws;
    }

-- the 17 words of a widget
unfoldable pub widget_at : List ℕ → ℕ → WidgetRect
widget_at ws i =
    record {
      id = id_at ws i;
      parent_id = id_at ws (2 + i);
      layer_id = record { order = word ws (4 + i); id = id_at ws (5 + i) };
      rect = rect_at ws (7 + i);
      interact_rect = rect_at ws (11 + i);
      sense = word ws (15 + i);
      enabled = bit_of 1 (word ws (16 + i));
      visible = bit_of 2 (word ws (16 + i));
    }

unfoldable pub widgets_at : List ℕ → ℕ → ℕ → List WidgetRect
widgets_at ws i zero = []
widgets_at ws i (suc n) = widget_at ws i ∷ widgets_at ws (17 + i) n

-- n entries of a hit list
unfoldable pub hit_at : List ℕ → ℕ → Hit
hit_at ws i = record { id = id_at ws i; sense = word ws (2 + i) }

unfoldable pub hits_at : List ℕ → ℕ → ℕ → List Hit
hits_at ws i zero = []
hits_at ws i (suc n) = hit_at ws i ∷ hits_at ws (3 + i) n

unfoldable pub interact_input : WidgetRects → List ℕ → InteractInput
interact_input widgets ws =
    record {
      widgets = λ d. get d widgets;
      close = hits_at ws 5 (word ws 2);
      contains_pointer = hits_at ws (5 + 3 * word ws 2) (word ws 3);
      click = if_given (bit_of 1 (word ws 4)) (hit_at ws (5 + 3 * word ws 2 + 3 * word ws 3));
      drag = if_given (bit_of 2 (word ws 4)) (hit_at ws (5 + 3 * word ws 2 + 3 * word ws 3 + 3 * (word ws 4 % 2)));
      hovered_places = word ws 0;
      contains_places = word ws 1;
    }

-- ---- the words of the model's answers

unfoldable pub answer_words : List ℕ → List ℕ
answer_words ws = length ws ∷ ws

unfoldable pub index_words : Option ℕ → List ℕ
index_words None = []
index_words (Some i) = i ∷ []

unfoldable pub refusal_words : ℕ → Option ℕ → List ℕ
refusal_words number index = (0x100_0000 * number + length (index_words index)) ∷ index_words index

unfoldable pub passed_words : Passed → List ℕ
passed_words (P.refused r) = refusal_words (pass_refusal_number r) (pass_refusal_index r)
passed_words (P.taken p) = answer_words []

unfoldable pub interacted_words : Interacted → List ℕ
interacted_words (I.refused r) = refusal_words (interact_refusal_number r) (interact_refusal_index r)
interacted_words (I.answered a p) = answer_words (snapshot_words a ++ (p.tally ∷ []))

-- the set's record of a widget
unfoldable pub record_words : Option WidgetRect → List ℕ
record_words None = []
record_words (Some w) = widget_words w

-- of an insertion of the widget with the id d
unfoldable pub inserted_words : ℕ → Inserted → List ℕ
inserted_words d (W.refused r) = refusal_words (insert_refusal_number r) (insert_refusal_index r)
inserted_words d (W.inserted i) = answer_words (i.position ∷ i.count ∷ record_words (get d i.widgets))

-- ---- the slices that are lent, one for each layer: egui keeps them, the model's callers do

unfoldable pub slice_of : LayerId → List Slice → List WidgetRect
slice_of l [] = []
slice_of l (s ∷ ss) = cond (same_layer l s.layer_id) s.widgets (slice_of l ss)

unfoldable pub with_slice : LayerId → List WidgetRect → List Slice → List Slice
with_slice l ws [] = record { layer_id = l; widgets = ws } ∷ []
with_slice l ws (s ∷ ss) = cond (same_layer l s.layer_id) (record { layer_id = l; widgets = ws } ∷ ss) (s ∷ with_slice l ws ss)

-- contents that the request gives, in as many places as there are widgets
unfoldable pub overwritten : List WidgetRect → List WidgetRect → List WidgetRect
overwritten gs [] = []
overwritten [] (w ∷ ws) = w ∷ ws
overwritten (g ∷ gs) (w ∷ ws) = g ∷ overwritten gs ws

-- so many places: the layer's widgets, and then anything
unfoldable pub lent : ℕ → List WidgetRect → WidgetRect → List WidgetRect
lent places ws anything = take places (ws ++ replicate places anything)

-- ---- the check: whether all answers were the same so far, the panel, the widgets

pub record Checked : Type 0 where
  pub so_far : Bool
  pub panel : Panel
  pub widgets : WidgetRects
  pub slices : List Slice

unfoldable pub start : Checked
start = record { so_far = true; panel = fresh; widgets = no_widgets; slices = [] }

unfoldable pub also : Bool → Panel → Checked → Checked
also b p s = record { so_far = s.so_far && b; panel = p; widgets = s.widgets; slices = s.slices }

unfoldable pub passed : List ℕ → Passed → Checked → Checked
passed a (P.refused r) s = also (same (passed_words (P.refused r)) a) s.panel s
passed a (P.taken p) s = also (same (passed_words (P.taken p)) a) p s

unfoldable pub interacted : List ℕ → Interacted → Checked → Checked
interacted a (I.refused r) s = also (same (interacted_words (I.refused r)) a) s.panel s
interacted a (I.answered x p) s = also (same (interacted_words (I.answered x p)) a) p s

unfoldable pub inserted : List ℕ → WidgetRect → Inserted → Checked → Checked
inserted a w (W.refused r) s = also (same (inserted_words w.id (W.refused r)) a) s.panel s
inserted a w (W.inserted i) s =
    record {
      so_far = s.so_far && same (inserted_words w.id (W.inserted i)) a;
      panel = s.panel;
      widgets = i.widgets;
      slices = with_slice w.layer_id (take i.count i.slice) s.slices;
    }

-- the request's widget, whether it is moved to top, the places lent and what they are given to hold
unfoldable pub inserts_into : List ℕ → Checked → Inserted
inserts_into ws s =
    let w = widget_at ws 0 in
    insert (bit_of 4 (word ws 16)) s.widgets
    (lent (word ws 17) (overwritten (widgets_at ws 18 ((length ws - 18) / 17)) (slice_of w.layer_id s.slices)) w) w

unfoldable pub exchange : Exchange → Checked → Checked
exchange resets s = record { so_far = s.so_far; panel = fresh; widgets = no_widgets; slices = [] }
exchange (passes ws a) s = passed a (pass s.panel (pass_input ws)) s
exchange (inserts ws a) s = inserted a (widget_at ws 0) (inserts_into ws s) s
exchange clears_widgets s = record { so_far = s.so_far; panel = s.panel; widgets = no_widgets; slices = [] }
exchange (interacts ws a) s = interacted a (interact s.panel (interact_input s.widgets ws)) s
exchange (asks a) s = also (same (answer_words (ask_words s.panel)) a) s.panel s
exchange (dumps a) s = also (same (answer_words (dump_words s.panel s.slices s.widgets.by_id)) a) s.panel s
exchange (sets_tally n) s = also true (with_interaction s.panel s.panel.interaction n) s

unfoldable pub exchanges : List Exchange → Checked → Checked
exchanges [] s = s
exchanges (x ∷ xs) s = exchanges xs (exchange x s)

unfoldable pub check_all : List Exchange → Bool
check_all xs = (exchanges xs start).so_far
