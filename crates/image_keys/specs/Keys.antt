-- Group 6, the keys: its code, the value that stands for the model's record, and back.
use Rattle.std.specs.Prelude.{ℕ, zero, suc, ◌+◌, ◌*◌, ◌/◌, ◌%◌, ◌≤◌, ◌≡◌, Bool, false, cond, List, [], ◌∷◌, ◌++◌, T, ltb, get_or}
use Rattle.data.specs.Bits.{bit_number}
use Rattle.data.specs.Limits.{key_count}
use Rattle.data.specs.Modifiers.{modifiers_number, modifiers_of}
use Rattle.model.specs.Pass.{Keys}
use Rattle.key_state.specs.Bits.{bit}
use Rattle.key_state.specs.View.{presses_of, numbers_of}
use Rattle.image.specs.Codes.{Code, word, both, array, group, El, In, write, size, header}
use Rattle.image_words.specs.Leaves.{flag, upto}
use Rattle.image_options.specs.Options.{boolean, boolean_of, flags, five_bits}

-- the places of the leading word, of the keys that are down and of the presses
abbrev pub keys_place : ℕ
keys_place = 72

-- and the place after the group
abbrev pub keys_end : ℕ
keys_end = 225

abbrev pub down_place : ℕ
down_place = 73

abbrev pub presses_place : ℕ
presses_place = 80

-- ---- keys that are down: bit k of word w is key 32 w + k; four whole words and one of 17 keys
abbrev pub max_word : ℕ
max_word = 0xFFFF_FFFF

abbrev pub last_word : ℕ
last_word = 0x2_0000

abbrev pub max_last : ℕ
max_last = 0x1_FFFF

abbrev pub down_code : Code
down_code = both (word (upto max_word)) (both (word (upto max_word)) (both (word (upto max_word)) (both (word (upto max_word)) (word (upto max_last)))))

-- n keys from key k on, the first as bit 0
unfoldable pub bits_number : ℕ → (ℕ → Bool) → ℕ → ℕ
bits_number zero f k = 0
bits_number (suc n) f k = bit_number (f k) + 2 * bits_number n f (suc k)

abbrev pub down_el : (ℕ → Bool) → El down_code
down_el f = (bits_number 32 f 0, (bits_number 32 f 32, (bits_number 32 f 64, (bits_number 32 f 96, bits_number 17 f 128))))

abbrev pub down_words : El down_code → List ℕ
down_words v = v.0 ∷ v.1.0 ∷ v.1.1.0 ∷ v.1.1.1.0 ∷ v.1.1.1.1 ∷ []

unfoldable pub keys_down_of : El down_code → ℕ → Bool
keys_down_of v k = cond (ltb k key_count) (bit (k % 32) (get_or (down_words v) (k / 32) 0)) false

-- ---- "presses per key": a byte each
abbrev pub max_presses : ℕ
max_presses = 255

abbrev pub press_code : Code
press_code = word (upto max_presses)

-- ---- the group
abbrev pub keys_code : Code
keys_code = group 6 (both down_code (both flags (both boolean (array key_count press_code))))

abbrev pub keys_el : Keys → El keys_code
keys_el s = (down_el s.keys_down, (modifiers_number s.modifiers, (bit_number s.feed_empty, numbers_of s.presses key_count)))

abbrev pub keys_of : El keys_code → Keys
keys_of v =
    record { keys_down = keys_down_of v.0; modifiers = modifiers_of v.1.0; presses = presses_of v.1.1.1; feed_empty = boolean_of v.1.1.0 }

-- the words before the presses
unfoldable pub keys_head : Keys → List ℕ
keys_head s = header 6 (size (both down_code (both flags (both boolean (array key_count press_code))))) ∷ (write down_code (down_el s.keys_down) ++ (modifiers_number s.modifiers ∷ bit_number s.feed_empty ∷ []))

abbrev pub KeysHead : Keys → Type 0
KeysHead s = In down_code (down_el s.keys_down) × T (upto five_bits (modifiers_number s.modifiers)) × T (flag (bit_number s.feed_empty))

-- beyond the keys none is down, none was pressed
pub record NoKeyBeyond (s : Keys) : Type 0 where
  pub up : (k : ℕ) → key_count ≤ k → s.keys_down k ≡ false
  pub unpressed : (k : ℕ) → key_count ≤ k → s.presses k ≡ 0
