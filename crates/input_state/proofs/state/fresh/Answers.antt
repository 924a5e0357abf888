use Rattle.input_state.proofs.Whole.{fresh_is}
use Rattle.input_state.proofs.state.fresh.Goals as goal

pub returns : goal.returns
returns c l zeros =
    fresh_is _ _ _ _ _ _ _ c.fresh_clock-clock.ensures c.fresh_screen-screen.ensures (c.fresh-place.ensures l.times l.positions)
    (c.fresh-press.ensures l.codes l.places) c.default-wheel.ensures (c.fresh-keys.ensures l.presses zeros) c.fresh_sums-sums.ensures
