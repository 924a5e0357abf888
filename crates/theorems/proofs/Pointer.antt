-- What an event is to the buttons and clicks: a move, a press, a release, or nothing. Assumes nothing.
use Rattle.std.specs.Prelude.{None}
use mathlib.Core.Path.{◌≡◌, refl}
use mathlib.Core.Bool.{true, false}
use lib.Ieee.{Float}
use Rattle.model.specs.Types.{Pos2, Modifiers, InputOptions, PointerButton}
use Rattle.model.specs.Types.{Event, Key, ModifiersChanged, PointerMoved, MouseMoved, Button, PointerGone, Zoom, Rotate, Touch, MouseWheel, WindowFocused, Other}
use Rattle.model.specs.Pointer.{Press, press_event}
use Rattle.theorems.specs.Clearing.{button_event}

pub data PointerView : Event → Type 0 where
  a_move : (v : Pos2) → PointerView (PointerMoved v)
  a_press : (v : Pos2) (b : PointerButton) (m : Modifiers) → PointerView (Button v b true m)
  a_release : (v : Pos2) (b : PointerButton) (m : Modifiers) → PointerView (Button v b false m)
  nothing : {e : Event} → ((o : InputOptions) (time : Float) (s : Press) → press_event o time e s ≡ s) → button_event e ≡ None → PointerView e

pub pointer_view : (e : Event) → PointerView e
unfolding press_event button_event
pointer_view (Key k b) = nothing (λ o time s. refl) refl
pointer_view (ModifiersChanged m) = nothing (λ o time s. refl) refl
pointer_view (PointerMoved v) = a_move v
pointer_view (MouseMoved v) = nothing (λ o time s. refl) refl
pointer_view (Button v b true m) = a_press v b m
pointer_view (Button v b false m) = a_release v b m
pointer_view PointerGone = nothing (λ o time s. refl) refl
pointer_view (Zoom x) = nothing (λ o time s. refl) refl
pointer_view (Rotate x) = nothing (λ o time s. refl) refl
pointer_view (Touch d i ph p f) = nothing (λ o time s. refl) refl
pointer_view (MouseWheel u v ph s m) = nothing (λ o time s. refl) refl
pointer_view (WindowFocused b) = nothing (λ o time s. refl) refl
pointer_view Other = nothing (λ o time s. refl) refl
