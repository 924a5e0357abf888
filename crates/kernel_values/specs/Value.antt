-- The values of kernel records: 02's A.1, and 01's named form "Kernel record values become i32". `ℤ` is what an i32 is in a contract.
use Rattle.std.specs.Prelude.{ℕ, ◌-◌, Bool, false, cond, ◌&&◌, ℤ, pos, negsuc, ◌==◌, int_le, nat_le, nat_lt, unsigned_abs}
use Rattle.std.specs.Int.Signed.{non_neg}

-- "a slot outside 0 to 9": so many slots
abbrev pub max_slots : ℕ
max_slots = 10

-- "a position over 65,536 in size"
abbrev pub max_position : ℕ
max_position = 65536

-- "a signed 32-bit value", of its 32 bits: two's complement
unfoldable pub signed : ℕ → ℤ
signed w = cond (nat_lt w 0x8000_0000) (pos w) (negsuc (0xffff_ffff - w))

unfoldable pub slot_ok : ℤ → Bool
slot_ok v = non_neg v && nat_lt (unsigned_abs v) max_slots

unfoldable pub position_ok : ℤ → Bool
position_ok v = nat_le (unsigned_abs v) max_position

-- "a tracking id below -1" is refused
unfoldable pub tracking_id_ok : ℤ → Bool
tracking_id_ok v = int_le (negsuc 0) v

-- "-1 lifts the finger": whether an id is a finger's
unfoldable pub is_finger : ℤ → Bool
is_finger id = non_neg id

unfoldable pub same_number : ℤ → ℤ → Bool
same_number (pos a) (pos b) = a == b
same_number (pos a) (negsuc b) = false
same_number (negsuc a) (pos b) = false
same_number (negsuc a) (negsuc b) = a == b
