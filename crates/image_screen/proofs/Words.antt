-- Group 2: the words put together are those of the record, and what its ranges ask of each field. Assumes nothing.
use Prim.Native.Nat.{ℕ, ◌/◌, ◌%◌}
use mathlib.Core.Path.{◌≡◌}
use mathlib.Core.List.{List, [], ◌∷◌}
use lib.Dec.{T}
use lib.ListN.{get_or}
use lib.Ieee.{binary32, binary64, to_bits}
use lib.Ieee.Fits.{and_l, and_r}
use Rattle.data.specs.Bits.{bit_number}
use Rattle.data.specs.Limits.{coordinate_ok, length_ok, unit_interval_ok, duration_ok, pos_ok, rect_ok, options_ok}
use Rattle.data.specs.Modifiers.{modifiers_number}
use Rattle.model.specs.Types.{Rect, InputOptions}
use Rattle.model.specs.Pass.{Screen}
use Rattle.image.specs.Codes.{write, size, half}
use Rattle.image_screen.specs.Screen.{rect_code, rect_el, options_code, options_el, screen_code, screen_el}

pub options_list : (o : InputOptions) (line speed dist long delay h l k n z x v : ℕ)
    → line ≡ to_bits binary32 o.line_scroll_speed → speed ≡ to_bits binary32 o.scroll_zoom_speed → dist ≡ to_bits binary32 o.max_click_dist
    → long ≡ to_bits binary64 o.max_click_duration → delay ≡ to_bits binary64 o.max_double_click_delay
    → h ≡ long / half → l ≡ long % half → k ≡ delay / half → n ≡ delay % half
    → z ≡ modifiers_number o.zoom_modifier → x ≡ modifiers_number o.horizontal_scroll_modifier → v ≡ modifiers_number o.vertical_scroll_modifier
    → line ∷ speed ∷ dist ∷ h ∷ l ∷ k ∷ n ∷ z ∷ x ∷ v ∷ [] ≡ write options_code (options_el o)
unfolding write
options_list o line speed dist long delay h l k n z x v a b c d e f g i j p q r = rw (a, b, c, f, g, i, j, d, e, p, q, r)

pub screen_list : (s : Screen) (r o : List ℕ) (points focused : ℕ)
    → r ≡ write rect_code (rect_el s.viewport_rect) → o ≡ write options_code (options_el s.options)
    → points ≡ to_bits binary32 s.pixels_per_point → focused ≡ bit_number s.focused
    → 0x2000_0010 ∷ get_or r 0 0 ∷ get_or r 1 0 ∷ get_or r 2 0 ∷ get_or r 3 0 ∷ points ∷ focused
    ∷ get_or o 0 0 ∷ get_or o 1 0 ∷ get_or o 2 0 ∷ get_or o 3 0 ∷ get_or o 4 0 ∷ get_or o 5 0 ∷ get_or o 6 0 ∷ get_or o 7 0 ∷ get_or o 8 0 ∷ get_or o 9 0 ∷ []
    ≡ write screen_code (screen_el s)
unfolding write size
screen_list s r o points focused a b c d = rw (a, b, c, d)

-- ---- 01's domain, field by field
rect_two : (r : Rect) → T (rect_ok r) → T (pos_ok r.min) × T (pos_ok r.max)
unfolding rect_ok
rect_two r h = (and_l (pos_ok r.min) (pos_ok r.max) h, and_r (pos_ok r.min) (pos_ok r.max) h)

pub rect_parts : (r : Rect) → T (rect_ok r) → T (coordinate_ok r.min.x) × T (coordinate_ok r.min.y) × T (coordinate_ok r.max.x) × T (coordinate_ok r.max.y)
unfolding pos_ok
rect_parts r h =
    let k = rect_two r h in (
      and_l (coordinate_ok r.min.x) (coordinate_ok r.min.y) k.0,
      and_r (coordinate_ok r.min.x) (coordinate_ok r.min.y) k.0,
      and_l (coordinate_ok r.max.x) (coordinate_ok r.max.y) k.1,
      and_r (coordinate_ok r.max.x) (coordinate_ok r.max.y) k.1,
    )

pub options_parts : (o : InputOptions) → T (options_ok o)
    → T (length_ok o.line_scroll_speed) × T (unit_interval_ok o.scroll_zoom_speed) × T (length_ok o.max_click_dist) × T (duration_ok o.max_click_duration)
    × T (duration_ok o.max_double_click_delay)
unfolding options_ok
options_parts o h =
    let a = and_r (length_ok o.line_scroll_speed) _ h in
    let b = and_r (unit_interval_ok o.scroll_zoom_speed) _ a in
    let c = and_r (length_ok o.max_click_dist) _ b in (
      and_l (length_ok o.line_scroll_speed) _ h,
      and_l (unit_interval_ok o.scroll_zoom_speed) _ a,
      and_l (length_ok o.max_click_dist) _ b,
      and_l (duration_ok o.max_click_duration) _ c,
      and_r (duration_ok o.max_click_duration) _ c,
    )
