use mathlib.Core.Path.{ap, ◌∙◌}
use borrow.Author.Rules.{rules}
use borrow.Author.Tests.{lt-ltb, le-ltb}
use Rattle.pointer_events.specs.Events.{event_of}
use Rattle.pointer_events.proofs.Stored.{event_back, pushed, full}
use Rattle.pointer_events.proofs.push.Goals as goal

pub returns-then-count-lt-MAX_EVENTS : goal.returns-then-count-lt-MAX_EVENTS
returns-then-count-lt-MAX_EVENTS c =
    let v = c.args in
    let x = c.entry_of-x.ensures in
    let k = c.set_codes.ensures in
    let q = c.set_position.ensures in
    let t = c.if-count-lt-MAX_EVENTS.true in
    record {
      result =
          rw (k, q)
          (pushed v.codes.now v.positions.now v.count c.entry_of-x.result (search rules) (search rules) t v.e (ap event_of x ∙ event_back v.e));
      count = rw (lt-ltb _ _ t);
      codes_after = rw (lt-ltb _ _ t, k, x);
      positions_after = rw (lt-ltb _ _ t, q, x);
    }

pub returns : goal.returns
returns c =
    record {
      result = full _ _ _ _ c.if-count-lt-MAX_EVENTS.false;
      count = rw (le-ltb _ _ c.if-count-lt-MAX_EVENTS.false);
      codes_after = rw (le-ltb _ _ c.if-count-lt-MAX_EVENTS.false);
      positions_after = rw (le-ltb _ _ c.if-count-lt-MAX_EVENTS.false);
    }
