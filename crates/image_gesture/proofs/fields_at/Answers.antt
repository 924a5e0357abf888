use Prim.Native.Nat.{ℕ, suc, ◌+◌}
use mathlib.Core.Path.{◌≡◌, ap, ◌∙◌}
use native.Mathlib.Numerals.{add-one}
use native.Mathlib.Omega.{arith}
use Rattle.image.specs.Codes.{size}
use Rattle.image.specs.Places.{value_at, span}
use Rattle.image_gesture.specs.Gesture.{averages_code, averages_of, previous_of}
use Rattle.image_gesture.proofs.fields_at.Goals as goal

pub returns : goal.returns
unfolding value_at span size previous_of
returns c =
    let at = c.args.at in
    let e : at + 2 + 2 ≡ at + 4 = omega arith in
    let f : at + 5 + 9 ≡ at + 14 = omega arith in
    let p = c.maybe_at-previous.ensures averages_code averages_of (c.averages_at.ensures ∙ ap (λ (i : ℕ). averages_of (value_at averages_code c.args.words.now i)) (add-one (at + 5))) in
    rw (c.averages_at-current.ensures, p, c.pinch_of-pinch_type.ensures, c.word_at.ensures, c.pos_at-start_pointer_pos.ensures, c.double_at-start_time.ensures, e, f)
