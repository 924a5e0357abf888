use Prim.Native.Nat.{ℕ}
use mathlib.Core.Path.{◌≡◌, refl, sym, ap, ◌∙◌}
use native.Mathlib.Omega.{arith}
use lib.ListN.{length, replicate, length-replicate}
use Rattle.data.specs.Limits.{key_count}
use Rattle.model.specs.Pass.{is_empty, key_events}
use Rattle.model.specs.Pass as Shown
use Rattle.event_loop.specs.Shaped.{shaped_events}
use Rattle.event_loop.specs.Lists.{listed, listed_events, keys_list}
use Rattle.event_loop.proofs.Loops.{ended}
use Rattle.key_state.specs.View.{keys, begun}
use Rattle.key_state.proofs.Idle.{key_loop}
use Rattle.key_state.proofs.Steps.{cleared, no_more, start, more, all_numbers}
use Rattle.key_state.proofs.keys.keys_pass.Goals as goal

pub loop-at-init : goal.loop-at-init
loop-at-init c = (λ j. no_more _ (cleared j), sym (key_loop.begins _ _), refl)

pub loop-at-preserved : goal.loop-at-preserved
loop-at-preserved c =
    let before = c.loop-at.invariant in
    let step = c.key_at-s.ensures in (
      more _ (keys c.loop-at.presses c.loop-at.s) _ c.loop-at.at-index before.0 step.result,
      step.result ∙ rw before.1 (sym (key_loop.goes_on _ _ _ _ (omega arith))),
      step.places ∙ before.2,
    )

pub returns : goal.returns
returns c =
    let a = c.args in
    let begins = start a.feed.now a.presses.now (replicate key_count 0) a.k cleared in
    let es = listed_events a.feed.now (listed a.lists.now keys_list) in
    let is : keys c.loop-at.presses c.loop-at.s ≡ key_events es (begun (is_empty (shaped_events a.feed.now)) (keys a.presses.now a.k)) =
    rw (ended a.feed.now c.loop-at.at-index c.places-places.ensures.listed (omega arith)) at c.loop-at.invariant.1 ∙ rw begins in
    let long : length c.loop-at.presses ≡ key_count = c.loop-at.invariant.2 ∙ length-replicate {A = ℕ} key_count 0 in
    record { result = is; presses_after = all_numbers c.loop-at.presses _ long (λ j. ap (λ (k : Shown.Keys). k.presses j) is) }
