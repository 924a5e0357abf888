use mathlib.Core.Path.{refl, ◌∙◌}
use Rattle.event_loop.specs.Shaped.{shaped_events}
use Rattle.input_state.specs.View.{lent, panel, input}
use Rattle.model.specs.Pass.{time_of, decidedly_dragging}
use Rattle.input_state.proofs.Whole.{acted, stored, place_all, press_all, wheel_all, keys_all, sums_all}
use Rattle.input_state.proofs.state.act.Goals as goal

pub returns : goal.returns
unfolding time_of decidedly_dragging
returns c =
    let a = c.args in
    let ws = a.feed.now in
    let ps = a.lists.now in
    let ls = c.requires.lists in
    let time = c.time_of-time.ensures in
    let pointer = c.pointer_pass-pointer.ensures in
    let placed = place_all ws ps ls (rw time at pointer.place_is) in
    let pressed = press_all ws ps ls (rw time at pointer.press_is) in
    let keys = c.keys_pass.ensures in
    let old = lent a.times.now a.positions.now a.codes.now a.places.now a.presses.now in
    record {
      result =
          λ vs us n t.
          acted (shaped_events ws) us (panel old a.s vs n t) (input ws a.i) _ _ _ _ _ _ _ _ _
          (rw time at (c.clock_pass.ensures ws))
          (c.screen_pass.ensures ws)
          placed.result
          pressed.result
          (rw time at pointer.started_is)
          (rw time at pointer.moved_is)
          (rw time at c.wheel_part-wheel.ensures ∙ wheel_all ws ps ls _ _ _ _ _)
          (keys.result ∙ keys_all ws ps ls _)
          (rw c.places-zooms.ensures.listed at c.sums_of.ensures ∙ sums_all ws ps ls _ _);
      storage =
          λ vs us n t.
          stored (shaped_events ws) us (panel old a.s vs n t) (input ws a.i) old _ a.s _ _ refl refl placed pressed
          (keys.presses_after ∙ rw (keys_all ws ps ls _));
    }
