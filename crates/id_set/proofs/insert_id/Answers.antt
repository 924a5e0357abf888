use mathlib.Core.Path.{sym, ◌∙◌}
use Rattle.id_set.proofs.Written.{found, put}
use native.Mathlib.Omega.{arith}
use Rattle.id_set.proofs.insert_id.Goals as goal

pub returns-then-stands_at : goal.returns-then-stands_at
returns-then-stands_at c =
    found _ _ _ _ c.place_of-at.ensures (omega arith) (sym c.stands_at.ensures ∙ c.if-stands_at.true)

pub returns : goal.returns
returns c =
    put _ _ _ _ c.place_of-at.ensures (omega arith) (sym c.stands_at.ensures ∙ c.if-stands_at.false) _ c.shift_in.ensures
