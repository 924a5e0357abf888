use Rattle.image_pointer.specs.Press.{buttons_number}
use borrow.Author.Rules.{rules}
use Rattle.image_pointer.proofs.press.buttons_number.Goals as goal

pub returns : goal.returns
unfolding buttons_number
returns c = (rw (c.bit_number-extra2.ensures.0, c.bit_number-extra1.ensures.0, c.bit_number-middle.ensures.0, c.bit_number-secondary.ensures.0, c.bit_number-primary.ensures.0), search rules)
