use lib.ListN.{take}
use Rattle.event_loop.specs.Lists.{listed_events}
use Rattle.press_loop.proofs.Loops.{Walked}
use Rattle.press_loop.proofs.press_pass.Given as goal

abbrev pub invariant-loop-at : goal.invariant-loop-at
invariant-loop-at l = Walked l.options l.time (listed_events l.feed (take l.at-index l.events)) l.at-index l.initial.codes l.initial.positions l.initial.t l.codes l.positions l.t
