use Rattle.trace_machine.specs.Given.{pass_input}
use borrow.Author.Rules.{rules}
use Rattle.trace_machine.proofs.given.pass_input.Goals as goal

pub returns : goal.returns
unfolding pass_input
returns c =
    rw (
      c.time_given-time.ensures,
      c.rect_given-screen_rect.ensures,
      c.options-options.ensures,
      c.float.ensures,
      c.float-2.ensures,
      c.float-3.ensures,
      c.bit.ensures,
      c.bit-2.ensures,
      c.at-bits.ensures,
    )
