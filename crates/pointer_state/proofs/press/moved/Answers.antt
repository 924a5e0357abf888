use Rattle.model.specs.Pointer.{press_event, add_event, with_moved}
use Rattle.pointer_events.proofs.Stored.{pushed_room, codes_written, positions_written}
use Rattle.pointer_state.proofs.press.moved.Goals as goal

pub returns : goal.returns
unfolding press_event add_event with_moved
returns c time =
    let p = c.push-count.ensures in
    let m = c.moved_too_much-spoilt.ensures in
    record { result = rw (p.result, m); room = λ h. rw (pushed_room p h, m); codes_after = codes_written p; positions_after = positions_written p }
