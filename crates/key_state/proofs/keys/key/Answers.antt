use mathlib.Core.Path.{◌≡◌, refl}
use lib.ListN.{length, length-set}
use native.Mathlib.Omega.{arith}
use Rattle.data.specs.Limits.{key_count}
use Rattle.key_state.proofs.Steps.{is_pressed, released}
use borrow.Author.Rules.{rules}
use Rattle.key_state.proofs.keys.key.Goals as goal

pub returns-then-pressed : goal.returns-then-pressed
returns-then-pressed c =
    let a = c.args in
    let long : length a.presses.now ≡ key_count = search rules in
    let counted = c.count_press.ensures in
    record {
      result =
          rw counted
          (is_pressed a.presses.now a.k _ a.place _ (omega arith) c.set-down.ensures (omega arith) (c.requires.room a.place) c.if-pressed.true);
      places = rw counted (length-set a.presses.now a.place _);
    }

pub returns : goal.returns
returns c =
    let a = c.args in
    record {
      result = released a.presses.now a.k _ a.place _ (omega arith) c.set-down.ensures c.if-pressed.false;
      places = refl;
    }
