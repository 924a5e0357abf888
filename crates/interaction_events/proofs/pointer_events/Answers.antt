use Prim.Native.Nat.{◌-◌, min}
use mathlib.Core.Path.{◌≡◌, sym, ◌∙◌}
use native.Mathlib.Omega.{arith}
use Rattle.data.specs.Limits.{max_events}
use Rattle.pointer_events.specs.Events.{event_of, entry_at, events}
use Rattle.interaction_events.proofs.Walk.{one_event, no_event}
use Rattle.interaction_events.proofs.pointer_events.Goals as goal

pub loop-i-init : goal.loop-i-init
unfolding events
loop-i-init c ps x l =
    let z : c.counted-i-end.result - 0 ≡ min c.args.count max_events = omega (arith, c.counted-i-end.ensures) in
    rw z

pub loop-i-preserved : goal.loop-i-preserved
loop-i-preserved c ps x l =
    rw (c.pointer_event-h.ensures x l (event_of (entry_at c.args.codes.now ps c.loop-i.i)) (sym (c.kind_at.ensures ps)))
    (sym (one_event _ ps x _ _ _ c.loop-i-test.true _) ∙ c.loop-i.invariant ps x l)

pub returns : goal.returns
returns c ps x l = sym (no_event _ ps x _ _ _ c.loop-i-test.false _) ∙ c.loop-i.invariant ps x l
