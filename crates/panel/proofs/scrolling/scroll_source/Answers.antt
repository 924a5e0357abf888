use Rattle.panel.proofs.Numbered.{same_source}
use Rattle.model.specs.Questions.{ask, reply, shown}
use Rattle.panel.proofs.scrolling.scroll_source.Goals as goal

pub returns : goal.returns
unfolding ask reply shown
returns c = record {
  of_wheel = λ p e. c.scroll_source.ensures p e;
  numbered = λ p e x h s k. same_source (c.scroll_source.ensures p e) h k;
}
