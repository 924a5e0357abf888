use Rattle.hit_refusals.specs.Refusals.{refusal_of, input}
use Rattle.model.specs.Interact.{buffers_refusal}
use borrow.Author.Tests.{lt-leb, le-leb}
use Rattle.hit_refusals.proofs.buffers_refusal.Goals as goal
use Rattle.hit_refusals.proofs.buffers_refusal.Goals.{then-hovered-lt-ID_PLACES-via-then-hovered-lt-ID_PLACES, then-hovered-lt-ID_PLACES-via-else-hovered-lt-ID_PLACES+then-contains-lt-ID_PLACES}

pub returns-then-hovered-lt-ID_PLACES : goal.returns-then-hovered-lt-ID_PLACES
unfolding buffers_refusal refusal_of input
returns-then-hovered-lt-ID_PLACES c =
    elim c.then-hovered-lt-ID_PLACES.branch [
      | then-hovered-lt-ID_PLACES-via-then-hovered-lt-ID_PLACES w ↦ rw (lt-leb _ _ w.if-hovered-lt-ID_PLACES.true)
      | then-hovered-lt-ID_PLACES-via-else-hovered-lt-ID_PLACES+then-contains-lt-ID_PLACES w ↦ rw (le-leb _ _ w.if-hovered-lt-ID_PLACES.false, lt-leb _ _ w.if-contains-lt-ID_PLACES.true)
    ]

pub returns : goal.returns
unfolding buffers_refusal refusal_of input
returns c = rw (le-leb _ _ c.if-hovered-lt-ID_PLACES.false, le-leb _ _ c.if-contains-lt-ID_PLACES.false)
