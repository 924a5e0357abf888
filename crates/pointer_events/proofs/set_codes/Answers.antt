use mathlib.Core.Path.{sym, ◌∙◌}
use mathlib.Core.List.{[]}
use native.Mathlib.Omega.{arith}
use Rattle.pointer_events.proofs.Stored.{put_row, codes_stored}
use Rattle.pointer_events.proofs.set_codes.Goals as goal

pub returns : goal.returns
returns c = put_row _ _ _ _ _ c.copy_from_slice.ensures.after (omega arith) (omega arith) ∙ sym (codes_stored c.args.codes.now [] c.args.i c.args.x)
