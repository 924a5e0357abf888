use borrow.Author.Rules.{rules}
use Rattle.std.specs.Prelude.{Some}
use Prim.Native.Nat.{◌+◌}
use mathlib.Core.Path.{◌≡◌, sym, ap, ◌∙◌}
use native.Mathlib.Omega.{arith}
use Rattle.image.specs.Places.{or_else}
use Rattle.image_words.specs.Leaves.{found}
use Rattle.image_devices.proofs.Rows.{bad_device}
use Rattle.image_devices.proofs.device_bad.Goals as goal

pub returns-in_err-key_bad : goal.returns-in_err-key_bad
unfolding found or_else
returns-in_err-key_bad c =
    let e : found c.from_residual.result ≡ Some c.in_err-key_bad.field-0.0 = search rules in
    rw (e, ← c.in_err-key_bad.ensures)

pub returns-in_err-touches_bad : goal.returns-in_err-touches_bad
unfolding found or_else
returns-in_err-touches_bad c =
    let a = c.args in
    let k = sym c.key_bad.ensures ∙ ap found c.in_ok-key_bad.was in
    let e : found c.from_residual-in_err-touches_bad.result ≡ Some c.in_err-touches_bad.field-0.0 = search rules in
    rw (e, k, bad_device a.words.now (a.at + 2), ← c.in_err-touches_bad.ensures)

pub returns : goal.returns
unfolding found or_else
returns c =
    let a = c.args in
    let k = sym c.key_bad.ensures ∙ ap found c.in_ok-key_bad.was in
    let t = sym c.touches_bad.ensures ∙ ap found c.in_ok-touches_bad.was in
    let e : a.at + 2 + 61 ≡ a.at + 63 = omega arith in
    rw (k, bad_device a.words.now (a.at + 2), t, c.gesture_bad.ensures, e)
