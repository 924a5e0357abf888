use mathlib.Core.Path.{◌∙◌, refl, sym, ap}
use Rattle.model.specs.Touch.{any_touches_at}
use Rattle.touches.proofs.Found.{index_found, index_lost}
use Rattle.touch_state.specs.View.{device_id}
use Rattle.touch_state.proofs.Known.{found_at, lost_at}
use Rattle.touch_questions.proofs.any_touches_of.Goals as goal

pub returns-in-None : goal.returns-in-None
unfolding any_touches_at
returns-in-None c = rw (lost_at _ c.args.ds.count _ c.args.ds.places refl (index_lost device_id _ _ (sym c.index_of.ensures ∙ c.in-None.is)))

pub returns-in-Some : goal.returns-in-Some
unfolding any_touches_at
returns-in-Some c =
    let f = index_found device_id _ _ _ (sym c.index_of.ensures ∙ c.in-Some.is) in
    c.any_touches.ensures ∙ sym (ap any_touches_at (found_at _ c.args.ds.count _ c.args.ds.places _ f.0 f.1))
