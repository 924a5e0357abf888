use mathlib.Core.Path.{◌≡◌, sym, ◌∙◌, ap}
use mathlib.Core.List.{map}
use lib.ListN.{length}
use borrow.Author.Tests.{eqb-true}
use Rattle.std.proofs.lemmas.Result.{err_from_is_err_and}
use Rattle.survey.specs.Survey.{option}
use Rattle.touch_ends.proofs.Passed.{none, nothing_refused, nothing}
use Rattle.touch_ends.proofs.pass.touch_pass.Goals as goal

pub returns-in_err-later : goal.returns-in_err-later
returns-in_err-later c =
    let places = c.args.places.now in
    let zero : length places ≡ 0 = eqb-true _ 0 (sym c.is_empty.ensures ∙ c.if-is_empty.true) in
    let q = err_from_is_err_and c.from_residual.result c.from_residual.ensures.1 in
    rw (q.1, q.2, c.in_err-later.was) (nothing_refused _ places _ _ c.args.ds (none places zero) _)

pub returns-then-ds-eq0 : goal.returns-then-ds-eq0
returns-then-ds-eq0 c =
    let places = c.args.places.now in
    let zero : length places ≡ 0 = eqb-true _ 0 (sym c.is_empty.ensures ∙ c.if-is_empty.true) in
    rw c.in_ok-later.was (nothing _ places _ _ c.args.ds (none places zero) c.if-ds-eq0.true)

pub returns-in_err-held : goal.returns-in_err-held
returns-in_err-held c =
    let q = err_from_is_err_and c.from_residual-in_err-held.result c.from_residual-in_err-held.ensures.1 in
    rw (q.1, q.2) (record { refusal = c.in_err-held.ensures.refusal; devices = tt })

pub returns : goal.returns
unfolding option
returns c = let s = c.in_ok-held.ensures in record { refusal = s.refusal; devices = c.end_devices.ensures ∙ ap (map _) s.devices }
