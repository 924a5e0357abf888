use native.Mathlib.Omega.{arith}
use Prim.Native.Nat.{◌+◌, ◌^◌, ◌<◌}
use mathlib.Core.Path.{sym, ◌∙◌}
use Rattle.key_state.proofs.Members.{at_least, room}
use Rattle.key_state.specs.Bits.{word_with}
use Rattle.key_state.proofs.bits.word_with.Goals as goal

pub returns-then-present : goal.returns-then-present
unfolding word_with
returns-then-present c = rw (← c.bit.ensures, c.if-bit.true, c.if-present.true)

pub overflow_sub-result : goal.overflow_sub-result
overflow_sub-result c = rw c.power-p.ensures (at_least _ _ (sym c.bit.ensures ∙ c.if-bit.true))

pub returns-then-bit : goal.returns-then-bit
unfolding word_with
returns-then-bit c = rw (← c.bit.ensures, c.if-bit.true, c.if-present.false, c.power-p.ensures)

pub overflow_add-result : goal.overflow_add-result
overflow_add-result c =
    let w = c.args.w in
    let i = c.args.i in
    let fits : w < 18446744073709551616 = omega arith in
    let r : w + 2 ^ i < 18446744073709551616 = room 64 i w c.requires fits (sym c.bit.ensures ∙ c.if-bit.false) in
    rw c.power-p.ensures (omega arith)

pub returns-then-present-2 : goal.returns-then-present-2
unfolding word_with
returns-then-present-2 c = rw (← c.bit.ensures, c.if-bit.false, c.if-present-2.true, c.power-p.ensures)

pub returns : goal.returns
unfolding word_with
returns c = rw (← c.bit.ensures, c.if-bit.false, c.if-present-2.false)
