use Rattle.image.specs.Codes.{zeros}
use Rattle.image.proofs.Lists.{zeros_length}
use Rattle.image_words.proofs.Laws.{filled, put_part}
use mathlib.Core.Path.{◌≡◌, ◌∙◌}
use native.Mathlib.Omega.{arith}
use borrow.Author.Rules.{rules}
use Rattle.image_words.proofs.zeros_put.Goals as goal

pub returns : goal.returns
returns c =
    let n = c.args.n in
    let l = zeros_length n in
    let z : c.fill.new.self ≡ zeros n = c.fill.ensures.after (λ y h. h) ∙ filled n _ (search rules) in
    put_part _ _ _ (zeros n) _ z (omega (arith, l)) (omega (arith, l, c.requires))
