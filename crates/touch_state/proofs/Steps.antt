-- A touch event that finds a place fits, so it is the model's. Assumes nothing.
use mathlib.Core.Path.{◌≡◌}
use mathlib.Core.Bool.{Bool, true, false, cond}
use mathlib.Core.List.{List, [], ◌∷◌}
use Prim.Native.Nat.{ℕ}
use borrow.Author.Tests.{le-leb}
use lib.Dec.{ltb, eqb}
use lib.ListN.{length}
use Rattle.data.specs.Limits.{max_devices}
use Rattle.model.specs.Types.{TouchPhase, ActiveTouch}
use Rattle.model.specs.Touch.{TouchState, on_touch, new_device, touch_device, at_device, TouchesWithin, AllTouchesWithin, InOrder}
use Rattle.model.proofs.InOrder.{touch_in_order}
use Rattle.touches.specs.Touches.{on_touch_if_room}
use Rattle.touches.proofs.Upsert.{fits}
use Rattle.touch_device.specs.View.{fits_device}
use Rattle.touch_state.specs.View.{fits_touch}
use Rattle.touch_state.specs.Laws.{StepLaw}

module _ (ph : TouchPhase) (t : ActiveTouch) where
  -- a device whose touches are within the limit after the event
  device_fits : (v : TouchState) → TouchesWithin (touch_device ph t v) → fits_device ph t v ≡ touch_device ph t v
  unfolding fits_device touch_device on_touch_if_room
  device_fits v w = rw (fits (on_touch ph t v.active_touches) v.active_touches w.limit)

  at_by : (d : ℕ) (v : TouchState) (vs : List TouchState) (less same : Bool) →
      AllTouchesWithin (cond less (touch_device ph t (new_device d) ∷ v ∷ vs) (cond same (touch_device ph t v ∷ vs) (v ∷ at_device d (touch_device ph t) vs))) →
      (AllTouchesWithin (at_device d (touch_device ph t) vs) → at_device d (fits_device ph t) vs ≡ at_device d (touch_device ph t) vs) →
      cond less (fits_device ph t (new_device d) ∷ v ∷ vs) (cond same (fits_device ph t v ∷ vs) (v ∷ at_device d (fits_device ph t) vs))
      ≡ cond less (touch_device ph t (new_device d) ∷ v ∷ vs) (cond same (touch_device ph t v ∷ vs) (v ∷ at_device d (touch_device ph t) vs))
  at_by d v vs true same w ih = rw (device_fits (new_device d) w.0)
  at_by d v vs false true w ih = rw (device_fits v w.0)
  at_by d v vs false false w ih = rw (ih w.1)

  at_fits : (d : ℕ) (vs : List TouchState) → AllTouchesWithin (at_device d (touch_device ph t) vs) → at_device d (fits_device ph t) vs ≡ at_device d (touch_device ph t) vs
  unfolding at_device
  at_fits d [] w = rw (device_fits (new_device d) w.0)
  at_fits d (v ∷ vs) w = at_by d v vs (ltb d v.device_id) (eqb d v.device_id) w (at_fits d vs)

fits_is : (d : ℕ) (ph : TouchPhase) (t : ActiveTouch) (vs : List TouchState) → InOrder (at_device d (touch_device ph t) vs) → fits_touch d ph t vs ≡ at_device d (touch_device ph t) vs
unfolding fits_touch
fits_is d ph t vs o = rw (at_fits ph t d vs o.touches, le-leb (length (at_device d (touch_device ph t) vs)) max_devices o.limit)

pub step_law : StepLaw
step_law d ph t vs o free =
    let new : InOrder (at_device d (touch_device ph t) vs) = touch_in_order d ph t vs o free in
    let is = fits_is d ph t vs new in
    (is, rw is new)
