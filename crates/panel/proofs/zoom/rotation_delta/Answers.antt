use Rattle.panel.proofs.Numbered.{same_rotation}
use Rattle.model.specs.Questions.{ask, reply, shown}
use Rattle.panel.proofs.zoom.rotation_delta.Goals as goal

pub returns : goal.returns
unfolding ask reply shown
returns c = record {
  of_gesture = λ p d s. c.rotation_delta.ensures p d (rw s);
  numbered = λ p d s x h. same_rotation (c.rotation_delta.ensures p d (rw s)) h;
}
