use native.Mathlib.Omega.{arith}
use Prim.Native.Nat.{◌+◌, ◌*◌}
use mathlib.Core.Path.{◌≡◌, ◌∙◌}
use mathlib.Core.List.{[]}
use lib.ListN.{length, length-take}
use Rattle.image_history.proofs.Fill.{is_count}
use Rattle.parking.specs.Parked.{words_of}
use Rattle.parking.proofs.Writes.{image_length}
use Rattle.parking.proofs.park.words_of.Goals as goal

pub overflow_mul-result : goal.overflow_mul-result
overflow_mul-result c = let e = is_count _ c.args.panel.input.pointer.place.history [] [] (c.len-samples.ensures [] []) in omega arith

pub overflow_add-result : goal.overflow_add-result
overflow_add-result c = let e = is_count _ c.args.panel.input.pointer.place.history [] [] (c.len-samples.ensures [] []) in omega arith

pub overflow_add-result-2 : goal.overflow_add-result-2
overflow_add-result-2 c = let e = is_count _ c.args.panel.input.pointer.place.history [] [] (c.len-samples.ensures [] []) in let v = c.counted-events.ensures in omega arith

pub overflow_add-result-3 : goal.overflow_add-result-3
overflow_add-result-3 c = let few = length-take c.args.panel.devices.count c.args.panel.devices.places in let four : length c.args.panel.devices.places ≡ 4 = c.well_formed.0.1.1.1.0.1.1.1.0.1.0.1 in let d = c.devices_words.ensures.0 in let e = is_count _ c.args.panel.input.pointer.place.history [] [] (c.len-samples.ensures [] []) in let v = c.counted-events.ensures in omega (arith, few, four, d, e, v)

pub returns : goal.returns
unfolding words_of
returns c =
    let x = c.args.panel in
    let w = c.devices_words.ensures in
    let e = is_count _ x.input.pointer.place.history [] [] (c.len-samples.ensures [] []) in
    let v = c.counted-events.ensures in
    let r : 245 + c.len-samples.result * 4 + c.counted-events.result * 6 + c.devices_words.result ≡ words_of x = omega (arith, e, v, w.0) in
    (r, λ l. r ∙ image_length l x _ w.0 w.1)
