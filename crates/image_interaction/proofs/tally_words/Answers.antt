use Rattle.image.specs.Codes.{write, size}
use mathlib.Core.Path.{refl}
use lib.Dec.{le→leb}
use native.Mathlib.Omega.{arith}
use Rattle.image_interaction.proofs.tally_words.Goals as goal

pub returns : goal.returns
unfolding write size
returns c = (refl, le→leb c.args.tally 0xFFFF_FFFF (omega arith))
