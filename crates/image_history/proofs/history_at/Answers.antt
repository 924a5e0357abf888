use Rattle.image_history.proofs.Fill.{moved_filled}
use Rattle.image_history.specs.History.{sample_code}
use Rattle.image.specs.Places.{bad_at, value_at, rows_at}
use Rattle.image.specs.Codes.{size}
use Rattle.image.proofs.Lists.{or_else_none}
use native.Mathlib.Numerals.{add-one}
use mathlib.Core.Path.{sym, ap₂}
use Prim.Native.Nat.{ℕ}
use native.Mathlib.Omega.{arith}
use Rattle.image_history.proofs.history_at.Goals as goal

pub returns : goal.returns
unfolding bad_at value_at size
returns c =
    let k = c.count-n.ensures in
    let n = k.1 (or_else_none _ _ c.requires.1).0 in
    let v = ap₂ (λ (n i : ℕ). rows_at 4 (value_at sample_code) n c.args.words.now i) n (add-one c.args.at) in
    (omega (arith, c.samples_at.ensures.1, k.0), moved_filled _ _ _ _ _ _ _ _ _ (sym c.samples_at.ensures.1) v c.samples_at.ensures.0)
