-- The ways through could_any_button_be_click and is_decidedly_dragging. Assumes nothing.
use mathlib.Core.Path.{◌≡◌, refl, sym}
use mathlib.Core.Bool.{Bool, true, false, not, ◌&&◌, ◌||◌, and-false}
use lib.Ieee.{Float}
use Rattle.model.specs.Types.{InputOptions}
use Rattle.model.specs.Pointer.{Held, any_down, any, is_press, is_release, is_click, press_too_long}
use Rattle.model.specs.Pointer.{could_any_button_be_click, is_decidedly_dragging}

-- ---- `&&`, where one part fails, and where all but the first hold
fails_second : (a b : Bool) → false ≡ (a && false && b)
fails_second true b = refl
fails_second false b = refl

fails_first : (a b c : Bool) → false ≡ (a && false && b && c)
fails_first true b c = refl
fails_first false b c = refl

two_hold : (a : Bool) → a ≡ (a && true && true)
two_hold true = refl
two_hold false = refl

three_hold : (a : Bool) → a ≡ (a && true && true && true)
three_hold true = refl
three_hold false = refl

module _ (o : InputOptions) (time : Float) (h : Held) where
  abbrev released : Bool
  released = any is_release h.pointer_events

  abbrev active : Bool
  active = any_down h.down || released

  abbrev long : Bool
  long = press_too_long o time h.press_start_time

  pub could_moved : false ≡ could_any_button_be_click o time h true
  unfolding could_any_button_be_click
  could_moved = fails_second active (not long)

  pub could_long : (m : Bool) → long ≡ true → false ≡ could_any_button_be_click o time h m
  unfolding could_any_button_be_click
  could_long m e = rw e (sym (and-false (active && not m)))

  pub could_down : long ≡ false → any_down h.down ≡ true → true ≡ could_any_button_be_click o time h false
  unfolding could_any_button_be_click
  could_down e d = rw (e, d)

  pub could_released : long ≡ false → any_down h.down ≡ false → released ≡ could_any_button_be_click o time h false
  unfolding could_any_button_be_click
  could_released e d = rw (e, d) (two_hold released)

  module _ (m : Bool) where
    abbrev pressed : Bool
    pressed = any is_press h.pointer_events

    abbrev clicked : Bool
    clicked = any is_click h.pointer_events

    abbrev could : Bool
    could = could_any_button_be_click o time h m

    pub dragging_could : could ≡ true → false ≡ is_decidedly_dragging o time h m
    unfolding is_decidedly_dragging
    dragging_could e = rw e (fails_second (active && not pressed) (not clicked))

    pub dragging_pressed : pressed ≡ true → false ≡ is_decidedly_dragging o time h m
    unfolding is_decidedly_dragging
    dragging_pressed e = rw e (fails_first active (not could) (not clicked))

    pub dragging_clicked : clicked ≡ true → false ≡ is_decidedly_dragging o time h m
    unfolding is_decidedly_dragging
    dragging_clicked e = rw e (sym (and-false (active && not pressed && not could)))

    pub dragging_down : could ≡ false → pressed ≡ false → clicked ≡ false → any_down h.down ≡ true → true ≡ is_decidedly_dragging o time h m
    unfolding is_decidedly_dragging
    dragging_down a b c d = rw (a, b, c, d)

    pub dragging_released : could ≡ false → pressed ≡ false → clicked ≡ false → any_down h.down ≡ false → released ≡ is_decidedly_dragging o time h m
    unfolding is_decidedly_dragging
    dragging_released a b c d = rw (a, b, c, d) (three_hold released)
