use mathlib.Core.Path.{◌∙◌, refl, sym, ap}
use Rattle.model.specs.Touch.{info_at}
use Rattle.touches.proofs.Found.{index_found, index_lost}
use Rattle.touch_state.specs.View.{device_id}
use Rattle.touch_state.proofs.Known.{found_at, lost_at}
use Rattle.touch_questions.proofs.info.Goals as goal

pub returns-in_err-i : goal.returns-in_err-i
unfolding info_at
returns-in_err-i c =
    c.from_residual.ensures ∙ rw (lost_at _ c.args.ds.count _ c.args.ds.places refl (index_lost device_id _ _ (sym c.index_of.ensures ∙ c.in_err-i.was)))

pub returns : goal.returns
unfolding info_at
returns c =
    let f = index_found device_id _ _ _ (sym c.index_of.ensures ∙ c.in_ok-i.was) in
    c.info.ensures ∙ sym (ap info_at (found_at _ c.args.ds.count _ c.args.ds.places _ f.0 f.1))
