use mathlib.Core.Path.{refl}
use Rattle.model.specs.Pass.{fresh, no_interaction}
use Rattle.key_state.proofs.Steps.{cleared}
use Rattle.interaction_state.specs.View.{interaction_of}
use Rattle.panel.proofs.state.fresh.Goals as goal

pub returns : goal.returns
unfolding fresh no_interaction interaction_of
returns c =
    let none = c.default.ensures in
    record {
      no_press = refl;
      shows_fresh = λ l e. rw (c.none.ensures, none.0, none.1.0, none.1.1) (c.fresh.ensures l (λ key. rw e (cleared key)));
    }
