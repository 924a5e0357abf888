-- What the records of src/ and the lent arrays show: the model's panel. And the panel that a fresh start, a pass and an interact leave.
use Rattle.std.specs.Prelude.{ℕ, ◌≡◌, List, replicate, Ok, Err, Result}
use Rattle.data.specs.Limits.{key_count}
use Rattle.model.specs.Pass.{fresh}
use Rattle.model.specs.Pass as Model
use Rattle.touch_state.specs.View.{view}
use Rattle.interaction_state.specs.declared.state.Answer.{Answer}
use Rattle.data.specs.declared.refusal.InteractRefusal.{InteractRefusal}
use Rattle.data.specs.declared.refusal.PassRefusal.{PassRefusal}
use Rattle.interaction_state.specs.View.{interaction_of}
use Rattle.input_state.specs.View.{Lent, panel}
use Rattle.input_pass.specs.declared.begin.Begun.{Begun}
use Rattle.panel.specs.declared.state.Panel.{Panel}

abbrev pub shown_by : Lent → Panel → Model.Panel
shown_by l p = panel l p.input (view p.devices) (interaction_of p.interaction) p.tally

-- 01: "a fresh panel: egui's initial state, no drag, tally 0". `presses` is what the lent presses hold then.
pub record Fresh (presses : List ℕ) (r : Panel) : Type 0 where
  -- every place of the presses is 0, whatever it was
  pub no_press : presses ≡ replicate key_count 0
  -- over any lent arrays with these presses, whatever the others hold
  pub shows_fresh : (l : Lent) → l.presses ≡ presses → shown_by l r ≡ fresh

-- after a pass: refused, all is as before; taken, its state and its devices. Interaction and tally are not its to change
abbrev pub after_pass : Panel → Result Begun PassRefusal → Panel
after_pass p (Err why) = p
after_pass p (Ok b) = record { input = b.state; devices = b.devices; interaction = p.interaction; tally = p.tally }

-- after an interact: refused, all is as before; taken, the interaction and the tally are those that it answers
abbrev pub after_interact : Panel → Result Answer InteractRefusal → Panel
after_interact p (Err why) = p
after_interact p (Ok a) = record { input = p.input; devices = p.devices; interaction = a.interaction; tally = a.tally }
