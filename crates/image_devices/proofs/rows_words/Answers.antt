use mathlib.Core.Path.{◌≡◌, sym, ◌∙◌}
use native.Mathlib.Omega.{arith}
use lib.ListN.{length}
use Rattle.image_devices.proofs.Rows.{none_length, more_length}
use borrow.Author.Rules.{rules}
use Rattle.image_devices.proofs.rows_words.Goals as goal

pub loop-i-init : goal.loop-i-init
loop-i-init c = (omega arith, omega arith, none_length c.args.places)

pub loop-i-preserved : goal.loop-i-preserved
loop-i-preserved c =
    let w = c.device_words-words.ensures in
    let l = c.loop-i in
    let a = c.args in
    let t : length a.places ≡ 4 = search rules in
    (omega arith, omega (arith, w.0), more_length a.places l.i _ (omega arith) l.invariant.2 (sym w.1 ∙ w.0))
