-- egui's sense.rs, on the number of its bits: 1 CLICK, 2 DRAG, 4 FOCUSABLE.
use Rattle.std.specs.Prelude.{ℕ, ◌+◌, ◌*◌, Bool, ◌||◌, ltb}
use Rattle.data.specs.Bits.{bit_number, bit_of}

-- no "sense bit that `sense.rs` doesn't name"
unfoldable pub sense_ok : ℕ → Bool
sense_ok s = ltb s 8

-- `senses_click`, `senses_drag`, `is_focusable`
unfoldable pub senses_click : ℕ → Bool
senses_click s = bit_of 1 s

unfoldable pub senses_drag : ℕ → Bool
senses_drag s = bit_of 2 s

unfoldable pub is_focusable : ℕ → Bool
is_focusable s = bit_of 4 s

-- `interactive`: clicks or drags
unfoldable pub interactive : ℕ → Bool
interactive s = senses_click s || senses_drag s

-- "the union of sense": `bitor`, of the bits that sense.rs names
unfoldable pub sense_or : ℕ → ℕ → ℕ
sense_or s t =
    bit_number (senses_click s || senses_click t) + 2 * bit_number (senses_drag s || senses_drag t) + 4 * bit_number (is_focusable s || is_focusable t)
