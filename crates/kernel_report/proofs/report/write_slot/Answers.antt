use mathlib.Core.Path.{◌≡◌, sym, ap, ◌∙◌}
use mathlib.Core.List.{◌++◌}
use borrow.Author.Rules.{rules}
use native.Mathlib.Omega.{arith}
use mir.Syntax.{w32}
use mir.Val.{SFits}
use mir.Facts.{to_z-of_z}
use Rattle.feed.specs.Types.{Start, End}
use Rattle.feed.specs.Encode.{encode, encode_all}
use Rattle.kernel_report.specs.declared.change.Change.{Change}
use Rattle.kernel_report.specs.Report.{touch, slot_events}
use Rattle.kernel_report.proofs.Written.{words_by, slot_is, slot_length, touch_length, put_two}
use Rattle.kernel_report.proofs.report.write_slot.Goals as goal

pub returns-in-Replaced : goal.returns-in-Replaced
returns-in-Replaced c =
    let d = c.args.device in
    let s = c.args.s in
    let ended : SFits w32 s.acted.id = search rules in
    let started : SFits w32 s.now.id = search rules in
    let lifted = rw (to_z-of_z ended) at c.write_touch-next.ensures in
    let wrote = rw (to_z-of_z started) at c.write_touch-in-Replaced.ensures in
    let words : encode_all (slot_events d s) ≡ encode (touch d End s.acted.id s.now) ++ encode (touch d Start s.now.id s.now) =
    slot_is d s ∙ ap (λ (ch : Change). words_by d ch s) (sym c.change_of.ensures ∙ c.in-Replaced.is) in (
      grind (arith, slot_length),
      put_two c.args.at c.write_touch-next.result _ _ _ c.args.feed.now _ _ (omega (arith, lifted.0, touch_length d End s.acted.id s.now)) lifted.1 wrote.1 words,
    )
