use Rattle.image.specs.Places.{value_at}
use Rattle.image_events.proofs.Rows.{read_there}
use Rattle.image_events.proofs.event_at.Goals as goal

pub returns : goal.returns
unfolding value_at
returns c =
    rw (c.event_of.ensures, c.word_at-4.ensures, c.word_at-3.ensures, c.word_at-2.ensures, c.word_at.ensures, c.single_at-2.ensures, c.single_at.ensures) (read_there _ _ _)
