use mathlib.Core.Path.{sym, ◌∙◌}
use Rattle.data.specs.Sense.{interactive}
use Rattle.id_lists.specs.Ids.{on_top}
use Rattle.id_lists.proofs.on_top.Goals as goal

pub returns-then-not-interactive : goal.returns-then-not-interactive
unfolding on_top interactive
returns-then-not-interactive c = rw (sym c.interactive.ensures ∙ c.if-not-interactive.true, c.lies_from.ensures)

pub returns-else-not-interactive : goal.returns-else-not-interactive
unfolding on_top interactive
returns-else-not-interactive c = rw (c.if-not-interactive.false, sym c.interactive.ensures ∙ c.if-not-interactive.false)
