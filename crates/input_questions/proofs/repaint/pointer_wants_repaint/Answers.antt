use Prim.Native.Nat.{◌≤◌, ◌<◌}
use mathlib.Core.List.{List, [], ◌∷◌}
use mathlib.Core.Bool.{true, false}
use mathlib.Core.Path.{◌≡◌, refl}
use native.Mathlib.Omega.{arith}
use lib.ListN.{length}
use Rattle.emath.proofs.Parts.{not_equal}
use Rattle.model.specs.Questions.{some_event}
use Rattle.model.specs.Types.{PointerEvent}
use Rattle.pointer_clicks.specs.View.{held}
use Rattle.pointer_events.proofs.Stored.{events_length}
use Rattle.input_questions.proofs.repaint.pointer_wants_repaint.Goals as goal

some : (es : List PointerEvent) → 0 < length es → some_event es ≡ true
unfolding some_event
some [] h = absurd (omega arith)
some (e ∷ es) h = refl

none : (es : List PointerEvent) → length es ≤ 0 → some_event es ≡ false
unfolding some_event
none [] h = refl
none (e ∷ es) h = absurd (omega arith)

pub returns-then-counted-gt0 : goal.returns-then-counted-gt0
returns-then-counted-gt0 c cs ps =
    rw (some (held cs ps c.args.h).pointer_events (rw (events_length, ← c.counted.ensures) c.if-counted-gt0.true))

pub returns : goal.returns
returns c cs ps =
    rw (
      none (held cs ps c.args.h).pointer_events (rw (events_length, ← c.counted.ensures) c.if-counted-gt0.false),
      c.ne.ensures,
      not_equal c.args.delta c.zero.result,
      c.zero.ensures,
    )
