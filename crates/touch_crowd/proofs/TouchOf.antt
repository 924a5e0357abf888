-- An event by the parts of a touch event. Assumes nothing.
use Rattle.std.specs.Prelude.{Option, None, Some}
use mathlib.Core.Path.{◌≡◌, refl, ap}
use mathlib.Core.List.{List}
use Prim.Native.Nat.{ℕ}
use native.Mathlib.Omega.{arith}
use lib.ListN.{length}
use Rattle.data.specs.Kinds.{touch_kind}
use Rattle.data.specs.Numbers.{kind_number}
use Rattle.model.specs.Types.{Event, Key, ModifiersChanged, PointerMoved, MouseMoved, Button, PointerGone, Zoom, Rotate, Touch, MouseWheel, WindowFocused, Other}
use Rattle.model.specs.Touch.{TouchState, no_place, find_device}
use Rattle.model.specs.Pass.{crowded}
use Rattle.touch_state.specs.View.{fits_touch}
use Rattle.survey.specs.Survey.{fits_event}
use Rattle.touch_crowd.specs.Touch.{touch_of}
use Rattle.touch_crowd.specs.declared.touch.TouchEvent.{TouchEvent}

no : {P : Type 0} → ◌≡◌ {A = ℕ} 0 1 → P
no z = absurd (omega arith)

or_this : TouchEvent → Option TouchEvent → TouchEvent
or_this t None = t
or_this t (Some u) = u

pub touch_is : (e : Event) (t : TouchEvent) → touch_of e ≡ Some t → e ≡ Touch t.device_id t.touch.id t.phase t.touch.pos t.touch.force
unfolding touch_of or_this
touch_is (Key k b) t h = no (cc)
touch_is (ModifiersChanged m) t h = no (cc)
touch_is (PointerMoved v) t h = no (cc)
touch_is (MouseMoved v) t h = no (cc)
touch_is (Button v b d m) t h = no (cc)
touch_is PointerGone t h = no (cc)
touch_is (Zoom x) t h = no (cc)
touch_is (Rotate x) t h = no (cc)
touch_is (Touch d i ph v f) t h = ap (λ (u : TouchEvent). Touch u.device_id u.touch.id u.phase u.touch.pos u.touch.force) (ap (or_this t) h)
touch_is (MouseWheel u v ph s m) t h = no (cc)
touch_is (WindowFocused b) t h = no (cc)
touch_is Other t h = no (cc)

pub no_touch_of : (e : Event) → (kind_number e ≡ touch_kind → ⊥) → touch_of e ≡ None
unfolding touch_of
no_touch_of (Key k b) h = refl
no_touch_of (ModifiersChanged m) h = refl
no_touch_of (PointerMoved v) h = refl
no_touch_of (MouseMoved v) h = refl
no_touch_of (Button v b d m) h = refl
no_touch_of PointerGone h = refl
no_touch_of (Zoom x) h = refl
no_touch_of (Rotate x) h = refl
no_touch_of (Touch d i ph v f) h = absurd (h refl)
no_touch_of (MouseWheel u v ph s m) h = refl
no_touch_of (WindowFocused b) h = refl
no_touch_of Other h = refl

pub not_9 : (e : Event) → touch_of e ≡ None → kind_number e ≡ touch_kind → ⊥
unfolding touch_of
not_9 (Key k b) h q = absurd (omega arith)
not_9 (ModifiersChanged m) h q = absurd (omega arith)
not_9 (PointerMoved v) h q = absurd (omega arith)
not_9 (MouseMoved v) h q = absurd (omega arith)
not_9 (Button v b d m) h q = absurd (omega arith)
not_9 PointerGone h q = absurd (omega arith)
not_9 (Zoom x) h q = absurd (omega arith)
not_9 (Rotate x) h q = absurd (omega arith)
not_9 (Touch d i ph v f) h q = no (cc)
not_9 (MouseWheel u v ph s m) h q = absurd (omega arith)
not_9 (WindowFocused b) h q = absurd (omega arith)
not_9 Other h q = absurd (omega arith)

-- ---- the event at a place by its parts
module _ (e : Event) (t : TouchEvent) (is : touch_of e ≡ Some t) where
  pub crowded_is : (vs : List TouchState) → no_place t.phase t.touch.id (length vs) (find_device t.device_id vs) ≡ crowded e vs
  unfolding crowded
  crowded_is vs = rw (touch_is e t is)

  pub fits_is : (vs : List TouchState) → fits_touch t.device_id t.phase t.touch vs ≡ fits_event e vs
  unfolding fits_event
  fits_is vs = rw (touch_is e t is)
