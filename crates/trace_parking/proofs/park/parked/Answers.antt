use mathlib.Core.Path.{◌≡◌, ap, ◌∙◌}
use Rattle.std.specs.Prelude.{Err}
use Rattle.parking.specs.declared.park.ParkRefusal.TheVariants.{ShortBuffer}
use Rattle.trace_machine.specs.declared.machine.Step.{Step}
use borrow.Author.Rules.{rules}
use Rattle.trace_parking.proofs.park.parked.Goals as goal

pub returns-in-Err-ShortBuffer : goal.returns-in-Err-ShortBuffer
returns-in-Err-ShortBuffer c =
    let e = c.kept.ensures in
    let told : c.args.done ≡ Err ShortBuffer = search rules in
    rw told (ap (λ (s : Step). s.reply.code) e ∙ c.refused.ensures.0, ap (λ (s : Step). s.machine) e)

pub returns-in-Ok : goal.returns-in-Ok
returns-in-Ok c =
    let e = c.kept-in-Ok.ensures in
    let told = c.in-Ok.is in
    rw told (ap (λ (s : Step). s.reply.code) e ∙ c.taken.ensures.0, ap (λ (s : Step). s.machine) e)
