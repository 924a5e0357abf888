use mathlib.Core.Bool.{and-true, and-false}
use Rattle.model.specs.Questions.{reply, shown}
use Rattle.model.specs.Interact.{long_press}
use Rattle.scroll_questions.proofs.touching.is_long_touch.Goals as goal

pub returns-then-is_long_press : goal.returns-then-is_long_press
unfolding reply shown long_press
returns-then-is_long_press c cs ps p e s o t d = rw (e, s, o, t, d, ← c.is_long_press.ensures cs ps, c.if-is_long_press.true, and-true, c.any_touches.ensures)

pub returns-else-is_long_press : goal.returns-else-is_long_press
unfolding reply shown long_press
returns-else-is_long_press c cs ps p e s o t d = rw (e, s, o, t, d, ← c.is_long_press.ensures cs ps, c.if-is_long_press.false, and-false)
