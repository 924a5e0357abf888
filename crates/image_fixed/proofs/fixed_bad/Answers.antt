use borrow.Author.Rules.{rules}
use Rattle.std.specs.Prelude.{Some}
use mathlib.Core.Path.{◌≡◌}
use Rattle.image.specs.Places.{or_else}
use Rattle.image_words.specs.Leaves.{found}
use Rattle.image_fixed.proofs.Chain.{fixed_chain}
use Rattle.image_fixed.proofs.fixed_bad.Goals as goal

pub returns-in_err-clock_bad : goal.returns-in_err-clock_bad
unfolding found or_else
returns-in_err-clock_bad c =
    let e : found c.from_residual.result ≡ Some c.in_err-clock_bad.field-0.0 = search rules in
    rw (e, fixed_chain, ← c.in_err-clock_bad.ensures)

pub returns-in_err-screen_bad : goal.returns-in_err-screen_bad
unfolding found or_else
returns-in_err-screen_bad c =
    let e : found c.from_residual-in_err-screen_bad.result ≡ Some c.in_err-screen_bad.field-0.0 = search rules in
    rw (e, fixed_chain, ← c.in_ok-clock_bad.ensures, ← c.in_err-screen_bad.ensures)

pub returns-in_err-place_bad : goal.returns-in_err-place_bad
unfolding found or_else
returns-in_err-place_bad c =
    let e : found c.from_residual-in_err-place_bad.result ≡ Some c.in_err-place_bad.field-0.0 = search rules in
    rw (e, fixed_chain, ← c.in_ok-clock_bad.ensures, ← c.in_ok-screen_bad.ensures, ← c.in_err-place_bad.ensures)

pub returns-in_err-press_bad : goal.returns-in_err-press_bad
unfolding found or_else
returns-in_err-press_bad c =
    let e : found c.from_residual-in_err-press_bad.result ≡ Some c.in_err-press_bad.field-0.0 = search rules in
    rw (e, fixed_chain, ← c.in_ok-clock_bad.ensures, ← c.in_ok-screen_bad.ensures, ← c.in_ok-place_bad.ensures, ← c.in_err-press_bad.ensures)

pub returns-in_err-wheel_bad : goal.returns-in_err-wheel_bad
unfolding found or_else
returns-in_err-wheel_bad c =
    let e : found c.from_residual-in_err-wheel_bad.result ≡ Some c.in_err-wheel_bad.field-0.0 = search rules in
    rw (e, fixed_chain, ← c.in_ok-clock_bad.ensures, ← c.in_ok-screen_bad.ensures, ← c.in_ok-place_bad.ensures, ← c.in_ok-press_bad.ensures, ← c.in_err-wheel_bad.ensures)

pub returns-in_err-keys_bad : goal.returns-in_err-keys_bad
unfolding found or_else
returns-in_err-keys_bad c =
    let e : found c.from_residual-in_err-keys_bad.result ≡ Some c.in_err-keys_bad.field-0.0 = search rules in
    rw (e, fixed_chain, ← c.in_ok-clock_bad.ensures, ← c.in_ok-screen_bad.ensures, ← c.in_ok-place_bad.ensures, ← c.in_ok-press_bad.ensures, ← c.in_ok-wheel_bad.ensures, ← c.in_err-keys_bad.ensures)

pub returns-in_err-sums_bad : goal.returns-in_err-sums_bad
unfolding found or_else
returns-in_err-sums_bad c =
    let e : found c.from_residual-in_err-sums_bad.result ≡ Some c.in_err-sums_bad.field-0.0 = search rules in
    rw (e, fixed_chain, ← c.in_ok-clock_bad.ensures, ← c.in_ok-screen_bad.ensures, ← c.in_ok-place_bad.ensures, ← c.in_ok-press_bad.ensures, ← c.in_ok-wheel_bad.ensures, ← c.in_ok-keys_bad.ensures, ← c.in_err-sums_bad.ensures)

pub returns-in_err-interaction_bad : goal.returns-in_err-interaction_bad
unfolding found or_else
returns-in_err-interaction_bad c =
    let e : found c.from_residual-in_err-interaction_bad.result ≡ Some c.in_err-interaction_bad.field-0.0 = search rules in
    rw (e, fixed_chain, ← c.in_ok-clock_bad.ensures, ← c.in_ok-screen_bad.ensures, ← c.in_ok-place_bad.ensures, ← c.in_ok-press_bad.ensures, ← c.in_ok-wheel_bad.ensures, ← c.in_ok-keys_bad.ensures, ← c.in_ok-sums_bad.ensures, ← c.in_err-interaction_bad.ensures)

pub returns : goal.returns
unfolding found or_else
returns c = rw (fixed_chain, ← c.in_ok-clock_bad.ensures, ← c.in_ok-screen_bad.ensures, ← c.in_ok-place_bad.ensures, ← c.in_ok-press_bad.ensures, ← c.in_ok-wheel_bad.ensures, ← c.in_ok-keys_bad.ensures, ← c.in_ok-sums_bad.ensures, ← c.in_ok-interaction_bad.ensures, c.tally_bad.ensures)
