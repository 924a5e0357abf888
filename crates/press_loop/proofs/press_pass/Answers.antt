use Prim.Native.Nat.{◌<◌}
use mathlib.Core.Path.{ap}
use native.Mathlib.Omega.{arith}
use Rattle.data.specs.Limits.{max_events}
use Rattle.model.specs.Pointer.{Held, clear_events}
use Rattle.event_loop.proofs.Loops.{ended}
use Rattle.pointer_clicks.specs.View.{past}
use Rattle.press_loop.proofs.Loops.{press_loop, walk_begins, walked_on, walk_ends}
use Rattle.press_loop.proofs.press_pass.Goals as goal

pub loop-at-init : goal.loop-at-init
unfolding clear_events
loop-at-init c = walk_begins _ _ _ _ _ _ ((press_loop _ _).begins _ _) (λ cs ps. ap (λ (h : Held). h.pointer_events) (c.clear_events-held.ensures cs ps))

pub loop-at-preserved : goal.loop-at-preserved
loop-at-preserved c =
    let a = c.args in
    let room : c.loop-at.at-index < max_events = omega (arith, c.places-events.ensures.within) in
    walked_on a.options a.time _ _ _ c.loop-at.at-index c.loop-at.invariant c.press_at-t.ensures room ((press_loop _ _).goes_on _ _ _ _ (omega arith))

pub returns : goal.returns
returns c =
    let a = c.args in
    let cleared = c.clear_events-held.ensures a.codes.now a.positions.now in
    walk_ends _ _ _ _ a.s (rw (ended a.feed.now c.loop-at.at-index c.places-events.ensures.listed (omega arith)) at c.loop-at.invariant) (ap (λ (h : Held). record { held = h; past = past a.s.past }) cleared)
