-- The event that the words of one piece say, by "The feed"'s table; none for an "unknown kind, field or stray bit, event cut short".
-- Floats are taken as they are.
use Rattle.std.specs.Prelude.{ℕ, ◌+◌, ◌*◌, ◌/◌, ◌%◌, cond, List, [], ◌∷◌, eqb, ltb, get_or, length, Float, Option, None, Some}
use Rattle.std.specs.Float.{binary32}
use Rattle.std.specs.Float.Ieee.{of_bits}
use Rattle.data.specs.Kinds.{key_kind, modifiers_kind, moved_kind, motion_kind, button_kind, gone_kind, zoom_kind, rotate_kind, touch_kind, wheel_kind, focus_kind, other_kind}
use Rattle.data.specs.Limits.{key_count, button_count, unit_count}
use Rattle.data.specs.Bits.{bit_of}
use Rattle.data.specs.Modifiers.{modifiers_of}
use Rattle.feed.specs.Types.{Pos2, Vec2, PointerButton, Primary, Secondary, Middle, Extra1, Extra2, MouseWheelUnit, Point, Line, Page}
use Rattle.feed.specs.Types.{MouseWheelSource, Unknown, Wheel, Trackpad, Momentum, TouchPhase, Start, Move, End, Cancel}
use Rattle.feed.specs.Types.{Key, ModifiersChanged, PointerMoved, MouseMoved, Button, PointerGone, Zoom, Rotate, Touch, MouseWheel, WindowFocused, Other}
use Rattle.feed.specs.Types.{Event}
use Rattle.feed.specs.Split.{kind, low_bits, following}

-- the cases that the numbers of a field stand for; a number past the last case is the last one
unfoldable pub button_of : ℕ → PointerButton
button_of n = cond (eqb n 0) Primary (cond (eqb n 1) Secondary (cond (eqb n 2) Middle (cond (eqb n 3) Extra1 Extra2)))

unfoldable pub phase_of : ℕ → TouchPhase
phase_of n = cond (eqb n 0) Start (cond (eqb n 1) Move (cond (eqb n 2) End Cancel))

unfoldable pub unit_of : ℕ → MouseWheelUnit
unit_of n = cond (eqb n 0) Point (cond (eqb n 1) Line Page)

unfoldable pub source_of : ℕ → MouseWheelSource
source_of n = cond (eqb n 0) Unknown (cond (eqb n 1) Wheel (cond (eqb n 2) Trackpad Momentum))

-- "A float is one word of f32 bits"
unfoldable pub float_of : ℕ → Float
float_of w = of_bits binary32 w

unfoldable pub pos_of : ℕ → ℕ → Pos2
pos_of x y = record { x = float_of x; y = float_of y }

unfoldable pub vec_of : ℕ → ℕ → Vec2
vec_of x y = record { x = float_of x; y = float_of y }

-- an id's low and high word
unfoldable pub id_of : ℕ → ℕ → ℕ
id_of low high = high * 0x1_0000_0000 + low

unfoldable pub force_of : ℕ → ℕ → Option Float
force_of present w = cond (eqb present 1) (Some (float_of w)) None

-- "unused bits 0": the low bits are below `limit`, the first unused bit
unfoldable pub clean : ℕ → ℕ → Option Event → Option Event
clean limit low e = cond (ltb low limit) e None

-- a field is below its limit
unfoldable pub field_below : ℕ → ℕ → Option Event → Option Event
field_below limit field e = cond (ltb field limit) e None

-- 1 key: bits 0–7 place, 8 pressed
unfoldable pub key_shape : ℕ → Option Event
key_shape low = clean 512 low (field_below key_count (low % 256) (Some (Key (low % 256) (bit_of 256 low))))

-- 2 modifiers: flags
unfoldable pub modifiers_shape : ℕ → Option Event
modifiers_shape low = clean 32 low (Some (ModifiersChanged (modifiers_of low)))

-- 3 pointer moved, 4 relative motion: no low bits
unfoldable pub moved_shape : ℕ → ℕ → ℕ → Option Event
moved_shape low x y = clean 1 low (Some (PointerMoved (pos_of x y)))

unfoldable pub motion_shape : ℕ → ℕ → ℕ → Option Event
motion_shape low x y = clean 1 low (Some (MouseMoved (vec_of x y)))

-- 5 button: flags, bits 5–7 button, 8 pressed
unfoldable pub button_shape : ℕ → ℕ → ℕ → Option Event
button_shape low x y =
    clean 512 low (field_below button_count (low / 32 % 8) (Some (Button (pos_of x y) (button_of (low / 32 % 8)) (bit_of 256 low) (modifiers_of low))))

-- 7 zoom, 8 rotate: no low bits
unfoldable pub zoom_shape : ℕ → ℕ → Option Event
zoom_shape low x = clean 1 low (Some (Zoom (float_of x)))

unfoldable pub rotate_shape : ℕ → ℕ → Option Event
rotate_shape low x = clean 1 low (Some (Rotate (float_of x)))

-- 9 touch: bits 0–1 phase, 2 force present
unfoldable pub touch_shape : ℕ → List ℕ → Option Event
touch_shape low ws =
    clean 8 low
    (Some
    (Touch
    (id_of (get_or ws 0 0) (get_or ws 1 0))
    (id_of (get_or ws 2 0) (get_or ws 3 0))
    (phase_of (low % 4))
    (pos_of (get_or ws 4 0) (get_or ws 5 0))
    (force_of (low / 4 % 2) (get_or ws 6 0))))

-- 10 wheel: flags, bits 5–6 unit, 7–8 phase, 9–10 source
unfoldable pub wheel_shape : ℕ → ℕ → ℕ → Option Event
wheel_shape low x y =
    clean 2048 low
    (field_below unit_count (low / 32 % 4)
    (Some (MouseWheel (unit_of (low / 32 % 4)) (vec_of x y) (phase_of (low / 128 % 4)) (source_of (low / 512 % 4)) (modifiers_of low))))

-- 11 window focus: bit 0 focused
unfoldable pub focus_shape : ℕ → Option Event
focus_shape low = clean 2 low (Some (WindowFocused (bit_of 1 low)))

-- by kind: the low bits, and the words after. "Kinds 0, 13, 14, 15 have length 0 and are refused"
unfoldable pub shape_by_kind : ℕ → ℕ → List ℕ → Option Event
shape_by_kind k low ws =
    cond (eqb k 0) None
    (cond (eqb k key_kind) (key_shape low)
    (cond (eqb k modifiers_kind) (modifiers_shape low)
    (cond (eqb k moved_kind) (moved_shape low (get_or ws 0 0) (get_or ws 1 0))
    (cond (eqb k motion_kind) (motion_shape low (get_or ws 0 0) (get_or ws 1 0))
    (cond (eqb k button_kind) (button_shape low (get_or ws 0 0) (get_or ws 1 0))
    (cond (eqb k gone_kind) (clean 1 low (Some PointerGone))
    (cond (eqb k zoom_kind) (zoom_shape low (get_or ws 0 0))
    (cond (eqb k rotate_kind) (rotate_shape low (get_or ws 0 0))
    (cond (eqb k touch_kind) (touch_shape low ws)
    (cond (eqb k wheel_kind) (wheel_shape low (get_or ws 0 0) (get_or ws 1 0))
    (cond (eqb k focus_kind) (focus_shape low)
    (cond (eqb k other_kind) (clean 1 low (Some Other))
    None))))))))))))

-- an event's first word and the words after, of which enough are there
unfoldable pub shape : List ℕ → Option Event
shape [] = None
shape (w ∷ ws) = cond (ltb (length ws) (following w)) None (shape_by_kind (kind w) (low_bits w) ws)
