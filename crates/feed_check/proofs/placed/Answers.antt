use Rattle.data.specs.Limits.{pos_ok}
use Rattle.feed.specs.Shape.{pos_of}
use Rattle.feed_check.proofs.placed.Goals as goal

pub returns : goal.returns
unfolding pos_ok pos_of
returns c = rw (c.by_tests.ensures, c.coordinate_word_ok-x_ok.ensures, c.coordinate_word_ok-y_ok.ensures)
