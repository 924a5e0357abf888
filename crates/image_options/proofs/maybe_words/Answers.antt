use Prim.Native.Nat.{ℕ}
use mathlib.Core.Path.{◌≡◌, ap, ◌∙◌}
use mathlib.Core.List.{List, ◌∷◌}
use lib.ListN.{length}
use Rattle.image.specs.Codes.{write, option_words, zeros, size}
use Rattle.image_options.proofs.Arrays.{spread_2}
use Rattle.image_options.proofs.maybe_words.Goals as goal

pub returns-in-None : goal.returns-in-None
unfolding write option_words zeros size
returns-in-None g c = let e = c.in-None.is in (rw (e, g.met.T.TwoWords.two), rw e tt)

pub returns-in-Some : goal.returns-in-Some
unfolding write option_words zeros size
returns-in-Some g c =
    let e = c.in-Some.is in
    let w = c.words-w.ensures in
    let n : length c.words-w.result ≡ 2 = ap length w.0 ∙ g.met.T.TwoWords.long c.in-Some.v in
    (rw e (ap (λ (z : List ℕ). 1 ∷ z) (spread_2 _ n ∙ w.0)), rw e w.1)
