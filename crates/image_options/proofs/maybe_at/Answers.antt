use Rattle.image.specs.Places.{value_at}
use Rattle.image_options.proofs.Arrays.{held}
use Rattle.image_options.proofs.maybe_at.Goals as goal

pub returns : goal.returns
unfolding value_at
returns g c = λ a f e. rw (c.then_some.ensures, c.word_at.ensures, e) (held f _ _)
