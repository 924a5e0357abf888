use Rattle.touch_state.specs.View.{view}
use Rattle.survey.specs.Survey.{option}
use Rattle.survey.proofs.Places.{Holds}
use Rattle.touch_crowd.proofs.Apart.{current, Apart}
use Rattle.touch_crowd.proofs.crowd.crowd.Given as goal

abbrev pub invariant-loop-place : goal.invariant-loop-place
invariant-loop-place l = Apart l.held l.k l.device × Holds l.feed l.places (option l.later) l.place-index (view l.initial.held) (view (current l.held l.k l.device))
