use mathlib.Core.Path.{refl, sym, ◌∙◌}
use Rattle.model.specs.Touch.{touch_id_of}
use Rattle.touches.proofs.Places.{set_first}
use Rattle.touches.proofs.Upsert.{move_at, move_out}
use Rattle.touches.proofs.Found.{index_found, index_lost}
use Rattle.touches.proofs.move_to.Goals as goal

pub returns-in-Some : goal.returns-in-Some
returns-in-Some c =
    let f = index_found touch_id_of _ _ _ (sym (rw c.held.ensures at c.find.ensures) ∙ c.in-Some.is) in
    set_first _ _ _ _ f.1 ∙ move_at _ _ _ f.0

pub returns-in_default : goal.returns-in_default
returns-in_default c = move_out _ _ _ refl (index_lost touch_id_of _ _ (sym (rw c.held.ensures at c.find.ensures) ∙ c.in_default.is))
