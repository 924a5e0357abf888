use Rattle.std.specs.Prelude.{Option, None, Some}
use Rattle.std.specs.Option as now
use Rattle.std.specs.Int.{from_bool}
use mathlib.Core.Path.{◌≡◌, ◌∙◌, refl, ap}
use mathlib.Core.Bool.{false, ◌&&◌}
use Prim.Native.Nat.{ℕ, ◌+◌, ◌<◌}
use lib.Dec.{leb}
use native.Mathlib.Omega.{arith}
use borrow.Author.Tests.{leb-false}
use Rattle.model.specs.Interact.{is_some, one_if}
use Rattle.interaction.proofs.interact.tally_after.Goals as goal

counted : (o : Option ℕ) → from_bool (now.is_some o) ≡ one_if o
unfolding one_if
counted None = refl
counted (Some d) = refl

fits : (o : Option ℕ) (t : ℕ) → (is_some o && leb 4294967295 t) ≡ false → t < 4294967296 → t + one_if o < 4294967296
unfolding is_some one_if
fits None t q h = omega (arith, h)
fits (Some d) t q h = omega (arith, leb-false 4294967295 t q)

pub overflow_add-result : goal.overflow_add-result
overflow_add-result c =
    let e : c.from.result ≡ one_if c.args.started = c.from.ensures ∙ (ap from_bool c.is_some.ensures ∙ counted c.args.started) in
    let f : c.args.tally + one_if c.args.started < 4294967296 = fits c.args.started c.args.tally c.requires c.ranges.tally.fits in
    omega (arith, e, f)

pub returns : goal.returns
returns c = ap (λ (n : ℕ). c.args.tally + n) (c.from.ensures ∙ (ap from_bool c.is_some.ensures ∙ counted c.args.started))
