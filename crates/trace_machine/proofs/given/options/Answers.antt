use Rattle.trace_machine.specs.Given.{options_given}
use borrow.Author.Rules.{rules}
use Rattle.trace_machine.proofs.given.options.Goals as goal

pub returns : goal.returns
unfolding options_given
returns c =
    rw (
      c.float.ensures,
      c.float-2.ensures,
      c.float-3.ensures,
      c.seconds.ensures,
      c.seconds-2.ensures,
      c.of-zoom_modifier.ensures,
      c.of-horizontal_scroll_modifier.ensures,
      c.of-vertical_scroll_modifier.ensures,
      c.at-patterns.ensures,
    )
