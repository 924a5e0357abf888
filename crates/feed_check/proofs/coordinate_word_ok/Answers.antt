use Rattle.feed.specs.Shape.{float_of}
use Rattle.feed_check.proofs.Coordinate.{word_is}
use Rattle.feed_check.proofs.coordinate_word_ok.Goals as goal

pub returns : goal.returns
unfolding float_of
returns c = word_is _
