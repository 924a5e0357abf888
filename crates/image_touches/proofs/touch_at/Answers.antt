use lib.Ieee.{Float, binary32, of_bits}
use lib.ListN.{get_or}
use Rattle.image.specs.Codes.{single}
use Rattle.image.specs.Places.{value_at, span}
use Rattle.image_words.specs.Leaves.{any}
use Rattle.image_options.proofs.Arrays.{as_it_is}
use mathlib.Core.Path.{◌≡◌, ap, ◌∙◌}
use Prim.Native.Nat.{ℕ, suc, ◌+◌}
use native.Mathlib.Omega.{arith}
use Rattle.image_touches.proofs.touch_at.Goals as goal

pub returns : goal.returns
unfolding value_at span
returns c =
    let at = c.args.at in
    let e : at + 2 + 1 ≡ at + 3 = omega arith in
    let f : at + 3 + 1 ≡ at + 4 = omega arith in
    let g : at + 5 ≡ suc (at + 4) = omega arith in
    let o = c.maybe_at-force.ensures (single any) (λ (x : Float). x) (c.single_at.ensures ∙ ap (λ (i : ℕ). of_bits binary32 (get_or c.args.words.now i 0)) g) ∙ as_it_is _ in
    rw (o, c.single_at-y.ensures, c.single_at-x.ensures, c.two_at-id.ensures, e, f)
