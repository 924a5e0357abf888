use lib.Ieee.{of_bits, neg, div}
use Rattle.model.specs.Pass.{fresh_press}
use Rattle.model.specs.Pointer.{no_buttons, buttons}
use Rattle.pointer_events.specs.Events.{events, events_from}
use Rattle.pointer_state.proofs.press.Press.fresh.Goals as goal

pub returns : goal.returns
unfolding fresh_press no_buttons buttons events events_from of_bits neg div
returns c cs ps = rw c.buttons.ensures
