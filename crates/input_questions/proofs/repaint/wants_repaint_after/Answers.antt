use lib.Ieee.{of_bits}
use Rattle.model.specs.Questions.{reply, shown, repaint_after}
use Rattle.model.specs.Pass.{decidedly_dragging}
use Rattle.input_questions.proofs.repaint.wants_repaint_after.Goals as goal

pub returns-then-pointer_wants_repaint-wheel_wants_repaint : goal.returns-then-pointer_wants_repaint-wheel_wants_repaint
unfolding reply shown repaint_after of_bits
returns-then-pointer_wants_repaint-wheel_wants_repaint c ts hs ps p l s w k e o t u =
    rw (l, s, w, k, ← c.pointer_wants_repaint.ensures, ← c.wheel_wants_repaint.ensures, c.if-pointer_wants_repaint-wheel_wants_repaint.true)

pub returns-then-any_touches-is_decidedly_dragging : goal.returns-then-any_touches-is_decidedly_dragging
unfolding reply shown repaint_after decidedly_dragging
returns-then-any_touches-is_decidedly_dragging c ts hs ps p l s w k e o t u =
    rw (
      l,
      s,
      w,
      k,
      e,
      o,
      t,
      u,
      ← c.pointer_wants_repaint.ensures,
      ← c.wheel_wants_repaint.ensures,
      c.if-pointer_wants_repaint-wheel_wants_repaint.false,
      ← c.any_touches.ensures,
      ← c.is_decidedly_dragging.ensures,
      c.if-any_touches-is_decidedly_dragging.true,
      c.until_menu.ensures,
    )

pub returns : goal.returns
unfolding reply shown repaint_after decidedly_dragging
returns c ts hs ps p l s w k e o t u =
    rw (
      l,
      s,
      w,
      k,
      e,
      o,
      t,
      u,
      ← c.pointer_wants_repaint.ensures,
      ← c.wheel_wants_repaint.ensures,
      c.if-pointer_wants_repaint-wheel_wants_repaint.false,
      ← c.any_touches.ensures,
      ← c.is_decidedly_dragging.ensures,
      c.if-any_touches-is_decidedly_dragging.false,
    )
