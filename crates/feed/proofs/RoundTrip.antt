-- What is encoded is decoded again. Assumes nothing.
use Rattle.std.specs.Prelude.{Option, None, Some}
use mathlib.Core.Path.{◌≡◌, refl, ap, ◌∙◌}
use mathlib.Core.Bool.{Bool, true, false, cond}
use mathlib.Core.List.{List, [], ◌∷◌}
use Prim.Native.Nat.{ℕ, ◌+◌, ◌*◌, ◌/◌, ◌%◌, ◌≤◌, ◌<◌}
use native.Mathlib.Omega.{arith}
use native.Mathlib.Nat.{mod-eq_of_lt}
use lib.Dec.{T, eqb, ltb, ltb→lt}
use lib.ListN.{get_or, length}
use lib.Ieee.{Float, binary32, fits}
use lib.Ieee.Bits.{of_bits-to_bits, is_true}
use lib.Ieee.Fits.{and_l, and_r}
use borrow.Author.Tests.{lt-ltb}
use Rattle.data.specs.Kinds.{kind_unit, key_kind, modifiers_kind, moved_kind, motion_kind, button_kind, gone_kind, zoom_kind, rotate_kind, touch_kind, wheel_kind, focus_kind, other_kind}
use Rattle.data.specs.Bits.{bit_number}
use Rattle.data.specs.Modifiers.{modifiers_number, modifiers_of}
use Rattle.data.specs.Numbers.{button_number, phase_number, unit_number, source_number}
use Rattle.data.specs.Limits.{key_count, within32, coordinate_ok, pos_ok, vec_ok, zoom_ok, radians_ok, force_ok, maybe_force_ok, event_ok}
use Rattle.feed.specs.Types.{Pos2, Vec2, Modifiers, PointerButton, Primary, Secondary, Middle, Extra1, Extra2, MouseWheelUnit, Point, Line, Page}
use Rattle.feed.specs.Types.{MouseWheelSource, Unknown, Wheel, Trackpad, Momentum, TouchPhase, Start, Move, End, Cancel}
use Rattle.feed.specs.Types.{Event, Key, ModifiersChanged, PointerMoved, MouseMoved, Button, PointerGone, Zoom, Rotate, Touch, MouseWheel, WindowFocused, Other}
use Rattle.feed.specs.Split.{kind, low_bits, lengths, following}
use Rattle.feed.specs.Shape.{clean, field_below, button_of, phase_of, unit_of, source_of, float_of, pos_of, vec_of, id_of, force_of, key_shape, modifiers_shape, moved_shape, motion_shape, button_shape, zoom_shape, rotate_shape, touch_shape, wheel_shape, focus_shape, shape_by_kind, shape}
use Rattle.feed.specs.Decode.{decode, check_floats}
use Rattle.feed.specs.Encode.{float_word, pos_words, vec_words, id_words, force_present, force_words, fields, words_after, encode, fields_ok}
use Rattle.feed.specs.Laws.{DecodeAfterEncode}

-- ---- the first word
shape_head : (k f : ℕ) (ws : List ℕ) → f < kind_unit →
    shape ((k * kind_unit + f) ∷ ws) ≡ cond (ltb (length ws) (get_or lengths k 0 + cond (eqb k touch_kind) (f / 4 % 2) 0)) None (shape_by_kind k f ws)
unfolding shape following
shape_head k f ws h =
    let kinds : kind (k * kind_unit + f) ≡ k = omega arith in
    let lows : low_bits (k * kind_unit + f) ≡ f = omega arith in
    let forces : (k * kind_unit + f) / 4 % 2 ≡ f / 4 % 2 = omega arith in
    rw (kinds, lows, forces)

-- ---- fields
pub bit_le : (b : Bool) → bit_number b ≤ 1
bit_le true = omega arith
bit_le false = omega arith

bit_back : (b : Bool) (n : ℕ) → n ≡ bit_number b → eqb n 1 ≡ b
bit_back true n h = rw h
bit_back false n h = rw h

pub modifiers_lt : (m : Modifiers) → modifiers_number m < 32
unfolding modifiers_number
modifiers_lt m = omega (arith, bit_le m.alt, bit_le m.ctrl, bit_le m.shift, bit_le m.mac_cmd, bit_le m.command)

pub modifiers_back : (m : Modifiers) (f rest : ℕ) → f ≡ modifiers_number m + 32 * rest → modifiers_of f ≡ m
unfolding modifiers_number modifiers_of
modifiers_back m f rest h =
    let a = bit_le m.alt in
    let b = bit_le m.ctrl in
    let c = bit_le m.shift in
    let d = bit_le m.mac_cmd in
    let e = bit_le m.command in
    rw (
      bit_back m.alt (f / 1 % 2) (omega arith),
      bit_back m.ctrl (f / 2 % 2) (omega arith),
      bit_back m.shift (f / 4 % 2) (omega arith),
      bit_back m.mac_cmd (f / 8 % 2) (omega arith),
      bit_back m.command (f / 16 % 2) (omega arith),
    )

pub button_le : (b : PointerButton) → button_number b ≤ 4
button_le Primary = omega arith
button_le Secondary = omega arith
button_le Middle = omega arith
button_le Extra1 = omega arith
button_le Extra2 = omega arith

pub button_back : (b : PointerButton) → button_of (button_number b) ≡ b
unfolding button_of
button_back Primary = refl
button_back Secondary = refl
button_back Middle = refl
button_back Extra1 = refl
button_back Extra2 = refl

pub phase_le : (p : TouchPhase) → phase_number p ≤ 3
phase_le Start = omega arith
phase_le Move = omega arith
phase_le End = omega arith
phase_le Cancel = omega arith

phase_back : (p : TouchPhase) → phase_of (phase_number p) ≡ p
unfolding phase_of
phase_back Start = refl
phase_back Move = refl
phase_back End = refl
phase_back Cancel = refl

pub unit_le : (u : MouseWheelUnit) → unit_number u ≤ 2
unit_le Point = omega arith
unit_le Line = omega arith
unit_le Page = omega arith

unit_back : (u : MouseWheelUnit) → unit_of (unit_number u) ≡ u
unfolding unit_of
unit_back Point = refl
unit_back Line = refl
unit_back Page = refl

pub source_le : (s : MouseWheelSource) → source_number s ≤ 3
source_le Unknown = omega arith
source_le Wheel = omega arith
source_le Trackpad = omega arith
source_le Momentum = omega arith

source_back : (s : MouseWheelSource) → source_of (source_number s) ≡ s
unfolding source_of
source_back Unknown = refl
source_back Wheel = refl
source_back Trackpad = refl
source_back Momentum = refl

-- ---- floats
float_back : (x : Float) → T (fits binary32 x) → float_of (float_word x) ≡ x
unfolding float_of float_word
float_back x h = of_bits-to_bits binary32 x h

within_fits : (lo hi x : Float) → T (within32 lo hi x) → T (fits binary32 x)
unfolding within32
within_fits lo hi x h = and_l (fits binary32 x) _ h

coordinate_back : (x : Float) → T (coordinate_ok x) → float_of (float_word x) ≡ x
unfolding coordinate_ok
coordinate_back x h = float_back x (within_fits _ _ x h)

pos_back : (p : Pos2) → T (pos_ok p) → pos_of (float_word p.x) (float_word p.y) ≡ p
unfolding pos_ok pos_of
pos_back p h =
    rw (coordinate_back p.x (and_l (coordinate_ok p.x) (coordinate_ok p.y) h), coordinate_back p.y (and_r (coordinate_ok p.x) (coordinate_ok p.y) h))

vec_back : (v : Vec2) → T (vec_ok v) → vec_of (float_word v.x) (float_word v.y) ≡ v
unfolding vec_ok vec_of
vec_back v h =
    rw (coordinate_back v.x (and_l (coordinate_ok v.x) (coordinate_ok v.y) h), coordinate_back v.y (and_r (coordinate_ok v.x) (coordinate_ok v.y) h))

id_back : (id : ℕ) → id_of (id % 0x1_0000_0000) (id / 0x1_0000_0000) ≡ id
unfolding id_of
id_back id = omega arith

-- ---- kinds that have fields

-- the topmost field
top_digit : (n d m : ℕ) → n ≡ d → d < m → n % m ≡ d
top_digit n d m e h = ap (λ (x : ℕ). x % m) e ∙ mod-eq_of_lt h

key_back : (place f : ℕ) (pressed : Bool) → place < key_count → f ≡ place + 256 * bit_number pressed → key_shape f ≡ Some (Key place pressed)
unfolding key_shape clean field_below
key_back place f pressed h e =
    let b = bit_le pressed in
    let p : f % 256 ≡ place = omega arith in
    rw (
      lt-ltb f 512 (omega arith),
      p,
      lt-ltb place key_count h,
      bit_back pressed (f / 256 % 2) (top_digit (f / 256) (bit_number pressed) 2 (omega arith) (omega arith)),
    )

changed_back : (m : Modifiers) (f : ℕ) → f ≡ modifiers_number m → modifiers_shape f ≡ Some (ModifiersChanged m)
unfolding modifiers_shape clean
changed_back m f e = rw (lt-ltb f 32 (omega (arith, modifiers_lt m)), modifiers_back m f 0 (omega arith))

pressed_back : (b : PointerButton) (pressed : Bool) (m : Modifiers) (f x y : ℕ) →
    f ≡ modifiers_number m + 32 * button_number b + 256 * bit_number pressed → button_shape f x y ≡ Some (Button (pos_of x y) b pressed m)
unfolding button_shape clean field_below
pressed_back b pressed m f x y e =
    let hb = button_le b in
    let hp = bit_le pressed in
    let hm = modifiers_lt m in
    let n : f / 32 % 8 ≡ button_number b = omega arith in
    rw (
      lt-ltb f 512 (omega arith),
      n,
      lt-ltb (button_number b) 5 (omega arith),
      button_back b,
      bit_back pressed (f / 256 % 2) (omega arith),
      modifiers_back m f (button_number b + 8 * bit_number pressed) (omega arith),
    )

wheel_back : (u : MouseWheelUnit) (p : TouchPhase) (s : MouseWheelSource) (m : Modifiers) (f x y : ℕ) →
    f ≡ modifiers_number m + 32 * unit_number u + 128 * phase_number p + 512 * source_number s → wheel_shape f x y ≡ Some (MouseWheel u (vec_of x y) p s m)
unfolding wheel_shape clean field_below
wheel_back u p s m f x y e =
    let hu = unit_le u in
    let hp = phase_le p in
    let hs = source_le s in
    let hm = modifiers_lt m in
    let n : f / 32 % 4 ≡ unit_number u = omega arith in
    let j : f / 128 ≡ phase_number p + 4 * source_number s = omega arith in
    let k : f / 128 % 4 ≡ phase_number p = omega arith in
    let l : f / 512 % 4 ≡ source_number s = top_digit (f / 512) (source_number s) 4 (omega arith) (omega arith) in
    rw (
      lt-ltb f 2048 (omega arith),
      n,
      lt-ltb (unit_number u) 3 (omega arith),
      unit_back u,
      k,
      phase_back p,
      l,
      source_back s,
      modifiers_back m f (unit_number u + 4 * phase_number p + 16 * source_number s) (omega arith),
    )

focused_back : (b : Bool) (f : ℕ) → f ≡ bit_number b → focus_shape f ≡ Some (WindowFocused b)
unfolding focus_shape clean
focused_back b f e = let h = bit_le b in rw (lt-ltb f 2 (omega arith), bit_back b (f / 1 % 2) (omega arith))

present_le : (x : Option Float) → force_present x ≤ 1
present_le None = omega arith
present_le (Some x) = omega arith

touched_back : (device id : ℕ) (p : TouchPhase) (pos : Pos2) (force : Option Float) (f : ℕ) → T (pos_ok pos) → T (maybe_force_ok force) →
    f ≡ phase_number p + 4 * force_present force → touch_shape f (words_after (Touch device id p pos force)) ≡ Some (Touch device id p pos force)
unfolding touch_shape clean words_after id_words pos_words force_words force_of maybe_force_ok force_ok
touched_back device id p pos None f h hf e =
    let hp = phase_le p in
    let k : f % 4 ≡ phase_number p = omega arith in
    let n : f / 4 % 2 ≡ 0 = omega arith in
    rw (lt-ltb f 8 (omega arith), k, phase_back p, n, id_back device, id_back id, pos_back pos h)
touched_back device id p pos (Some x) f h hf e =
    let hp = phase_le p in
    let k : f % 4 ≡ phase_number p = omega arith in
    let n : f / 4 % 2 ≡ 1 = top_digit (f / 4) 1 2 (omega arith) (omega arith) in
    rw (lt-ltb f 8 (omega arith), k, phase_back p, n, id_back device, id_back id, pos_back pos h, float_back x (within_fits _ _ x hf))

-- six words after the first, or seven
touch_back : (device id : ℕ) (p : TouchPhase) (pos : Pos2) (force : Option Float) → T (pos_ok pos) → T (maybe_force_ok force) →
    shape (encode (Touch device id p pos force)) ≡ Some (Touch device id p pos force)
unfolding encode fields words_after id_words pos_words force_words shape_by_kind
touch_back device id p pos None h hf =
    let hp = phase_le p in
    let n : (phase_number p + 0) / 4 % 2 ≡ 0 = omega arith in
    shape_head touch_kind (phase_number p + 0) _ (omega arith) ∙ rw n (touched_back device id p pos None (phase_number p + 0) h hf refl)
touch_back device id p pos (Some x) h hf =
    let hp = phase_le p in
    let n : (phase_number p + 4) / 4 % 2 ≡ 1 = top_digit ((phase_number p + 4) / 4) 1 2 (omega arith) (omega arith) in
    shape_head touch_kind (phase_number p + 4) _ (omega arith) ∙ rw n (touched_back device id p pos (Some x) (phase_number p + 4) h hf refl)

-- ---- every event
shape_back : (e : Event) → T (fields_ok e) → T (event_ok e) → shape (encode e) ≡ Some e
unfolding encode fields words_after fields_ok event_ok pos_words vec_words shape_by_kind clean moved_shape motion_shape zoom_shape rotate_shape zoom_ok radians_ok
shape_back (Key place pressed) h ok =
    let b = bit_le pressed in
    let l : place < key_count = ltb→lt place key_count h in
    shape_head key_kind (place % 256 + 256 * bit_number pressed) [] (omega arith)
    ∙ key_back place (place % 256 + 256 * bit_number pressed) pressed l (omega arith)
shape_back (ModifiersChanged m) h ok = shape_head modifiers_kind (modifiers_number m) [] (omega (arith, modifiers_lt m)) ∙ changed_back m (modifiers_number m) refl
shape_back (PointerMoved pos) h ok = shape_head moved_kind 0 _ (omega arith) ∙ rw (pos_back pos ok)
shape_back (MouseMoved delta) h ok = shape_head motion_kind 0 _ (omega arith) ∙ rw (vec_back delta ok)
shape_back (Button pos b pressed m) h ok =
    shape_head button_kind (modifiers_number m + 32 * button_number b + 256 * bit_number pressed) _ (omega (arith, modifiers_lt m, button_le b, bit_le pressed))
    ∙ pressed_back b pressed m _ _ _ refl
    ∙ rw (pos_back pos ok)
shape_back PointerGone h ok = shape_head gone_kind 0 [] (omega arith)
shape_back (Zoom factor) h ok = shape_head zoom_kind 0 _ (omega arith) ∙ rw (float_back factor (and_l (fits binary32 factor) _ ok))
shape_back (Rotate radians) h ok = shape_head rotate_kind 0 _ (omega arith) ∙ rw (float_back radians (within_fits _ _ radians ok))
shape_back (Touch device id p pos force) h ok = touch_back device id p pos force (and_l (pos_ok pos) _ ok) (and_r (pos_ok pos) _ ok)
shape_back (MouseWheel u delta p s m) h ok =
    shape_head wheel_kind (modifiers_number m + 32 * unit_number u + 128 * phase_number p + 512 * source_number s) _ (omega (arith, modifiers_lt m, unit_le u, phase_le p, source_le s))
    ∙ wheel_back u p s m _ _ _ refl
    ∙ rw (vec_back delta ok)
shape_back (WindowFocused b) h ok = shape_head focus_kind (bit_number b) [] (omega (arith, bit_le b)) ∙ focused_back b (bit_number b) refl
shape_back Other h ok = shape_head other_kind 0 [] (omega arith)

pub decode_after_encode : DecodeAfterEncode
unfolding decode check_floats
decode_after_encode e h ok = rw (shape_back e h ok, is_true (event_ok e) ok)
