use native.Mathlib.Omega.{arith}
use lib.Seq.{length-sets}
use mathlib.Core.Path.{◌≡◌, sym, ap, ◌∙◌}
use mathlib.Core.List.{[]}
use lib.ListN.{length}
use Rattle.data.specs.Limits.{max_events, max_devices, max_touches}
use Rattle.emath_history.specs.Ring.{view}
use Rattle.pointer_events.specs.Events.{events}
use Rattle.touch_state.specs.View as devices
use Rattle.image.specs.Codes.{write}
use Rattle.image_history.specs.History.{history_code, history_el}
use Rattle.image_history.proofs.Fill.{is_count, history_length}
use Rattle.image_events.specs.Events.{events_code, events_el}
use Rattle.image_devices.specs.Devices.{devices_code, devices_el}
use Rattle.image_devices.proofs.Back.{in_order_devices}
use Rattle.parking.specs.Parked.{words_of}
use Rattle.parking.proofs.Writes.{events_count, events_length, three_lists}
use Rattle.parking.proofs.park.lists_put.Goals as goal

pub overflow_mul-events : goal.overflow_mul-events
overflow_mul-events c = let e = is_count _ c.args.panel.input.pointer.place.history [] [] (c.len.ensures [] []) in omega arith

pub overflow_add-events-2 : goal.overflow_add-events-2
overflow_add-events-2 c = let e = is_count _ c.args.panel.input.pointer.place.history [] [] (c.len.ensures [] []) in omega arith

pub history_put-requires : goal.history_put-requires
unfolding words_of
history_put-requires c = let e = is_count _ c.args.panel.input.pointer.place.history [] [] (c.len.ensures [] []) in let h = c.requires in omega (arith, e, h)

pub events_put-requires : goal.events_put-requires
unfolding words_of
events_put-requires c = let e = is_count _ c.args.panel.input.pointer.place.history [] [] (c.len.ensures [] []) in let h = c.requires in let l = (simp length-sets at (ap length c.history_put.ensures.0)) in omega (arith, e, h, l)

pub overflow_add-events-3 : goal.overflow_add-events-3
overflow_add-events-3 c = let e = is_count _ c.args.panel.input.pointer.place.history [] [] (c.len.ensures [] []) in omega arith

pub overflow_add-events-4 : goal.overflow_add-events-4
overflow_add-events-4 c = let e = is_count _ c.args.panel.input.pointer.place.history [] [] (c.len.ensures [] []) in let v = c.counted.ensures in omega arith

pub devices_put-requires : goal.devices_put-requires
unfolding words_of
devices_put-requires c = let e = is_count _ c.args.panel.input.pointer.place.history [] [] (c.len.ensures [] []) in let v = c.counted.ensures in let h = c.requires in let l = (simp length-sets at (ap length c.history_put.ensures.0)) in let m = (simp length-sets at (ap length c.events_put.ensures.0)) in omega (arith, e, v, h, l, m)

pub returns : goal.returns
unfolding write
returns c =
    let a = c.args in
    let h = a.panel.input.pointer.place.history in
    let n = c.len.ensures a.ring.times.now a.ring.positions.now in
    let es = events a.stored.codes.now a.stored.positions.now a.panel.input.pointer.press.held.event_count in
    let v = c.counted.ensures in
    let x = c.history_put.ensures in
    let y = c.events_put.ensures in
    let z = c.devices_put.ensures in
    let j = history_length (view a.ring.times.now a.ring.positions.now h) in
    let k = events_length max_events es in
    let w : length es ≡ c.counted.result = events_count a.stored.codes.now a.stored.positions.now a.panel.input.pointer.press.held.event_count ∙ sym v in (
      three_lists a.out.now _ _ _ (write history_code (history_el (view a.ring.times.now a.ring.positions.now h))) (write (events_code max_events) (events_el es)) (write (devices_code max_devices max_touches) (devices_el (devices.view a.panel.devices))) _ _ x.0 y.0 z.0
          (omega (arith, n, j)) (omega (arith, w, k)),
      λ o. (x.1, (y.1, in_order_devices (devices.view a.panel.devices) o z.1)),
    )
