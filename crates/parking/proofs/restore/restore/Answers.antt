use borrow.Author.Rules.{rules}
use Rattle.std.specs.Prelude.{Result, Ok, Err, ⊤}
use mathlib.Core.Path.{◌≡◌, sym, subst}
use Rattle.input_state.specs.View.{lent}
use Rattle.panel.specs.declared.state.Panel.{Panel}
use Rattle.parking.specs.declared.check.ImageRefusal.{ImageRefusal}
use Rattle.parking.specs.Restored.{Checked, RestoredAs}
use Rattle.parking.proofs.Whole.{image_sound, is_taken, is_refused}
use Rattle.parking.proofs.restore.restore.Goals as goal

pub returns-in_err-check : goal.returns-in_err-check
returns-in_err-check c =
    let a = c.args in
    let ws = a.words.now in
    let l = lent a.times.now a.positions.now a.codes.now a.places.now a.presses.now in
    let e : c.from_residual.result ≡ Err c.in_err-check.field-0.0 = search rules in
    let f : c.check.result ≡ Err c.in_err-check.field-0.0 = search rules in
    let h = is_refused ws l c.in_err-check.field-0.0 (subst (λ (r : Result ⊤ ImageRefusal). Checked r ws) f c.check.ensures) in
    subst (λ (r : Result Panel ImageRefusal). RestoredAs ws l r l) (sym e) h

pub panel_at-requires : goal.panel_at-requires
panel_at-requires c =
    let ws = c.args.words.now in
    let e : c.check.result ≡ Ok tt = search rules in
    image_sound ws (subst (λ (r : Result ⊤ ImageRefusal). Checked r ws) e c.check.ensures).1

pub returns : goal.returns
returns c =
    let ws = c.args.words.now in
    let e : c.check.result ≡ Ok tt = search rules in
    let h = subst (λ (r : Result ⊤ ImageRefusal). Checked r ws) e c.check.ensures in
    record { answered = is_taken ws _ h c.panel_at.ensures.state; written = c.panel_at.ensures.written }
