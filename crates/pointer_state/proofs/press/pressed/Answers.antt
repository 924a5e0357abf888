use Rattle.model.specs.Pointer.{press_event, press_button, with_moved}
use Rattle.pointer_events.proofs.Stored.{pushed_room, codes_written, positions_written}
use Rattle.pointer_state.proofs.press.pressed.Goals as goal

pub returns : goal.returns
unfolding press_event press_button with_moved
returns c options modifiers =
    let p = c.push-count.ensures in
    let d = c.set_down-down.ensures in
    record { result = rw (p.result, d); room = λ h. rw (pushed_room p h, d); codes_after = codes_written p; positions_after = positions_written p }
