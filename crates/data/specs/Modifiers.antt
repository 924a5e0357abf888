-- egui's modifiers.rs, as far as it is ported: or, `matches_any`, and 01's five bits.
use Rattle.std.specs.Prelude.{ℕ, ◌+◌, ◌*◌, Bool, false, ◌&&◌, ◌||◌}
use Rattle.data.specs.Bits.{bit_number, bit_of}
use Rattle.data.specs.Types.{Modifiers}

-- `Modifiers::NONE`
unfoldable pub no_modifiers : Modifiers
no_modifiers = record { alt = false; ctrl = false; shift = false; mac_cmd = false; command = false }

-- "Or is per flag": `bitor`
unfoldable pub modifiers_or : Modifiers → Modifiers → Modifiers
modifiers_or a b =
    record
    { alt = a.alt || b.alt; ctrl = a.ctrl || b.ctrl; shift = a.shift || b.shift; mac_cmd = a.mac_cmd || b.mac_cmd; command = a.command || b.command }

-- "alt, shift, ctrl, mac_cmd meet themselves; a command pattern also meets ctrl or mac_cmd": `matches_any`
unfoldable pub matches_any : Modifiers → Modifiers → Bool
matches_any self pattern =
    (self.alt && pattern.alt)
    || ((self.shift && pattern.shift)
    || ((self.ctrl && pattern.ctrl)
    || ((self.mac_cmd && pattern.mac_cmd) || ((self.mac_cmd || (self.command || self.ctrl)) && pattern.command))))

-- "Flags (5 bits, from bit 0): alt, ctrl, shift, mac_cmd, command"
unfoldable pub modifiers_number : Modifiers → ℕ
modifiers_number m =
    bit_number m.alt + 2 * bit_number m.ctrl + 4 * bit_number m.shift + 8 * bit_number m.mac_cmd + 16 * bit_number m.command

unfoldable pub modifiers_of : ℕ → Modifiers
modifiers_of w = record { alt = bit_of 1 w; ctrl = bit_of 2 w; shift = bit_of 4 w; mac_cmd = bit_of 8 w; command = bit_of 16 w }
