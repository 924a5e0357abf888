use Rattle.image_keys.proofs.Bits.{set_bit}
use Rattle.image_keys.specs.Keys.{down_code, down_place}
use Rattle.image.specs.Places.{value_at, span}
use Rattle.image_keys.proofs.down.down_at.Goals as goal

pub returns : goal.returns
unfolding value_at span
returns c = set_bit (value_at down_code c.args.words.now down_place) _ (rw c.word_at.ensures at c.joined-a.ensures.1) (rw c.word_at-3.ensures at c.joined-b.ensures.1)
    (rw (c.word_at.ensures, c.word_at-2.ensures) at c.joined-a.ensures.0) (rw (c.word_at-3.ensures, c.word_at-4.ensures) at c.joined-b.ensures.0) c.word_at-c.ensures
