-- A set of numbers below 256, a bit each in four 64-bit words.
use Rattle.std.specs.Prelude.{ℕ, zero, suc, ◌+◌, ◌-◌, ◌/◌, ◌%◌, ◌^◌, Bool, cond, eqb, ltb, get_or}
use Rattle.model.specs.Pass.{set_key}
use Rattle.key_state.specs.declared.bits.Set256.{Set256}

-- bit i of a word
unfoldable pub bit : ℕ → ℕ → Bool
bit zero w = eqb (w % 2) 1
bit (suc i) w = bit i (w / 2)

-- the word whose bit i is `present`, and whose others are w's
unfoldable pub word_with : ℕ → Bool → ℕ → ℕ
word_with i present w = cond (bit i w) (cond present w (w - 2 ^ i)) (cond present (w + 2 ^ i) w)

-- is k a member
unfoldable pub has : Set256 → ℕ → Bool
has s k = bit (k % 64) (get_or s.words (k / 64) 0)

-- k put in or taken out, where it is below 256
unfoldable pub with_member : ℕ → Bool → Set256 → ℕ → Bool
with_member k present s j = cond (ltb k 256) (set_key k present (has s) j) (has s j)
