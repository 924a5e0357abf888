-- The words of a reply, of a snapshot and of a widget's record: what is compared. A float is its bit pattern, and a not-a-number is always the same one. Definitions only.
use Rattle.std.specs.Prelude.{ℕ, ◌+◌, ◌*◌, Bool, true, false, ◌&&◌, List, [], ◌∷◌, ◌++◌, eqb, length, replicate, Float, Option, None, Some}
use Rattle.std.specs.Float.{Format, binary32, binary64}
use Rattle.std.specs.Float.Ieee.{to_bits}
use Rattle.data.specs.Bits.{bit_number}
use Rattle.data.specs.Modifiers.{modifiers_number}
use Rattle.data.specs.Numbers.{button_number, source_number}
use Rattle.feed.specs.Encode.{id_words, pos_words, vec_words, float_word}
use Rattle.model.specs.Types.{WidgetRect, Rect, Pos2, Vec2}
use Rattle.model.specs.Types.{PointerEvent, Moved, Pressed, Released, MouseWheelSource}
use Rattle.model.specs.Types.{Rotation, Radians, Headings, MultiTouchInfo}
use Rattle.model.specs.Interact.{InteractionSnapshot}
use Rattle.model.specs.Questions.{Reply, bool, count, number, vector, maybe_vector, maybe_position, maybe_seconds, maybe_number, rectangle, flags, source, zoom, zoom_2d, rotation, gesture, events, widget}

unfoldable pub same : List ℕ → List ℕ → Bool
same [] [] = true
same [] (w ∷ ws) = false
same (v ∷ vs) [] = false
same (v ∷ vs) (w ∷ ws) = eqb v w && same vs ws

-- an f32 is one word, an f64 two: low, high
unfoldable pub float_words : Format → Float → List ℕ
float_words binary32 x = to_bits binary32 x ∷ []
float_words binary64 x = id_words (to_bits binary64 x)

-- a word 1 and the words, or a word 0 and n zeros
unfoldable pub present : List ℕ → List ℕ
present ws = 1 ∷ ws

unfoldable pub absent : ℕ → List ℕ
absent n = 0 ∷ replicate n 0

unfoldable pub maybe_pos_words : Option Pos2 → List ℕ
maybe_pos_words None = absent 2
maybe_pos_words (Some p) = present (pos_words p)

unfoldable pub maybe_vec_words : Option Vec2 → List ℕ
maybe_vec_words None = absent 2
maybe_vec_words (Some v) = present (vec_words v)

unfoldable pub maybe_time_words : Option Float → List ℕ
maybe_time_words None = absent 2
maybe_time_words (Some t) = present (float_words binary64 t)

unfoldable pub maybe_number_words : Option Float → List ℕ
maybe_number_words None = absent 1
maybe_number_words (Some x) = present (float_word x ∷ [])

unfoldable pub rect_words : Rect → List ℕ
rect_words r = pos_words r.min ++ pos_words r.max

-- an id, or 0 for none
unfoldable pub maybe_id_words : Option ℕ → List ℕ
maybe_id_words None = 0 ∷ 0 ∷ []
maybe_id_words (Some d) = id_words d

unfoldable pub source_word : Option MouseWheelSource → ℕ
source_word None = 0
source_word (Some s) = 1 + source_number s

unfoldable pub rotation_words : Rotation → List ℕ
rotation_words (Radians sum) = 0 ∷ float_word sum ∷ 0 ∷ 0 ∷ 0 ∷ []
rotation_words (Headings previous current) = 1 ∷ vec_words previous ++ vec_words current

-- 17 words
unfoldable pub info_words : MultiTouchInfo → List ℕ
info_words g =
    float_words binary64 g.start_time
    ++ (pos_words g.start_pos
    ++ (pos_words g.center_pos
    ++ (g.num_touches ∷ float_word g.zoom_delta
    ∷ (vec_words g.zoom_delta_2d
    ++ (vec_words g.previous_heading ++ (vec_words g.heading ++ (vec_words g.translation_delta ++ (float_word g.force ∷ []))))))))

unfoldable pub maybe_info_words : Option MultiTouchInfo → List ℕ
maybe_info_words None = absent 17
maybe_info_words (Some g) = present (info_words g)

-- 5 words: kind, button and whether it clicks; position, count, flags
unfoldable pub pointer_event_words : PointerEvent → List ℕ
pointer_event_words (Moved v) = 0 ∷ pos_words v ++ (0 ∷ 0 ∷ [])
pointer_event_words (Pressed v b) = (1 + 256 * button_number b) ∷ pos_words v ++ (0 ∷ 0 ∷ [])
pointer_event_words (Released None b) = (2 + 256 * button_number b) ∷ 0 ∷ 0 ∷ 0 ∷ 0 ∷ []
pointer_event_words (Released (Some c) b) = (2 + 256 * button_number b + 65536) ∷ pos_words c.pos ++ (c.count ∷ modifiers_number c.modifiers ∷ [])

unfoldable pub pointer_events_words : List PointerEvent → List ℕ
pointer_events_words [] = []
pointer_events_words (e ∷ es) = pointer_event_words e ++ pointer_events_words es

-- a reply's; a number is written in the format that its question has
unfoldable pub reply_words : Format → Reply → List ℕ
reply_words f (bool b) = bit_number b ∷ []
reply_words f (count n) = n ∷ []
reply_words f (number x) = float_words f x
reply_words f (vector v) = vec_words v
reply_words f (maybe_vector v) = maybe_vec_words v
reply_words f (maybe_position v) = maybe_pos_words v
reply_words f (maybe_seconds t) = maybe_time_words t
reply_words f (maybe_number x) = maybe_number_words x
reply_words f (rectangle r) = rect_words r
reply_words f (flags m) = modifiers_number m ∷ []
reply_words f (source s) = source_word s ∷ []
reply_words f (zoom factor exponent) = float_word factor ∷ float_word exponent ∷ []
reply_words f (zoom_2d factor exponent) = vec_words factor ++ vec_words exponent
reply_words f (rotation r) = rotation_words r
reply_words f (gesture g) = maybe_info_words g
reply_words f (events es) = length es ∷ pointer_events_words es
reply_words f (widget d) = maybe_id_words d

unfoldable pub ids_words : List ℕ → List ℕ
ids_words [] = []
ids_words (d ∷ ds) = id_words d ++ ids_words ds

unfoldable pub snapshot_words : InteractionSnapshot → List ℕ
snapshot_words a =
    maybe_id_words a.clicked
    ++ (maybe_id_words a.long_touched
    ++ (maybe_id_words a.drag_started
    ++ (maybe_id_words a.dragged
    ++ (maybe_id_words a.drag_stopped
    ++ (length a.hovered ∷ ids_words a.hovered ++ (length a.contains_pointer ∷ ids_words a.contains_pointer))))))

unfoldable pub widget_words : WidgetRect → List ℕ
widget_words w =
    w.id ∷ w.parent_id ∷ w.layer_id.order ∷ w.layer_id.id ∷ w.sense ∷ bit_number w.enabled ∷ bit_number w.visible
    ∷ rect_words w.rect ++ rect_words w.interact_rect

unfoldable pub widgets_words : List WidgetRect → List ℕ
widgets_words [] = []
widgets_words (w ∷ ws) = widget_words w ++ widgets_words ws
