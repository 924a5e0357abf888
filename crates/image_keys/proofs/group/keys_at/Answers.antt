use Rattle.image_keys.proofs.Rows.{presses_sound}
use Rattle.key_state.specs.View.{presses_of}
use Rattle.key_state.proofs.Steps.{alike}
use Rattle.image.specs.Places.{value_at, span}
use Rattle.image.specs.Codes.{size}
use mathlib.Core.List.{List}
use mathlib.Core.Path.{ap}
use Prim.Native.Nat.{ℕ}
use borrow.Author.Rules.{rules}
use Rattle.image_keys.proofs.group.keys_at.Goals as goal

pub presses_at-requires : goal.presses_at-requires
presses_at-requires c = (search rules, search rules, presses_sound c.args.words.now c.requires)

pub returns : goal.returns
unfolding value_at span size
returns c =
    rw (c.word_at-2.ensures, c.of-modifiers.ensures, c.word_at.ensures)
    (alike _ _ c.down_at-down.ensures (λ j. ap (λ (ps : List ℕ). presses_of ps j) c.presses_at.ensures))
