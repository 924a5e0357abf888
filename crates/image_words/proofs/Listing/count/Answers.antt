use Rattle.image_words.proofs.Laws.{table_most, passed}
use Rattle.image.specs.Codes.{table_ok, count_of}
use mathlib.Core.Path.{ap, ◌∙◌}
use native.Mathlib.Omega.{arith}
use Rattle.image_words.proofs.Listing.count.Goals as goal

pub returns : goal.returns
returns c = (
  omega arith,
  λ e.
      let s = c.args.self in
      let w = c.word_at.ensures in
      let m = table_most s.name s.size _ s.most (passed (table_ok s.name s.most s.size) _ _ e) in
      let n = c.announced-n.ensures ∙ ap (count_of s.name s.size) w in
      absurd (omega (arith, m, n)),
)
