-- An input state read back from what was written of it is the state. Assumes nothing.
use Prim.Native.Nat.{ℕ}
use mathlib.Core.Path.{◌≡◌, refl, sym}
use mathlib.Core.Bool.{Bool}
use mathlib.Core.List.{List}
use lib.Ieee.{Float}
use Rattle.model.specs.Types.{ButtonsDown}
use Rattle.model.specs.Pointer.{buttons, flags_down, CountTrue}
use Rattle.emath.specs.Vec.{pos_zero, vec_zero}
use Rattle.input_state.specs.declared.state.InputState.{InputState}
use Rattle.host_values.proofs.Back.{given_back, status_back, source_back}
use Rattle.host_input.specs.Held.{input_of}
use Rattle.host_input.specs.Kept.{seconds_of, floats_of, counts_of, flags_of, keys_of}

-- the number of buttons down is worked out: where it was that of the flags, the record is the one that was written
buttons_back : (d : ButtonsDown) → CountTrue d → buttons d.primary d.secondary d.middle d.extra1 d.extra2 ≡ d
unfolding buttons flags_down
buttons_back d h i = record { primary = d.primary; secondary = d.secondary; middle = d.middle; extra1 = d.extra1; extra2 = d.extra2; count = sym h i }

-- and whatever the memory holds, it is
pub held_true : (ts fs : List Float) (ns : List ℕ) (bs : List Bool) (ks : List ℕ) → CountTrue (input_of ts fs ns bs ks).pointer.press.held.down
unfolding buttons flags_down
held_true ts fs ns bs ks = refl

pub input_back : (s : InputState) (n : ℕ) → CountTrue s.pointer.press.held.down → input_of (seconds_of s) (floats_of s) (counts_of s n) (flags_of s) (keys_of s) ≡ s
input_back s n h =
    rw (
      buttons_back s.pointer.press.held.down h,
      given_back s.pointer.place.latest_pos pos_zero,
      given_back s.pointer.place.interact_pos pos_zero,
      given_back s.pointer.place.motion vec_zero,
      given_back s.pointer.press.held.press_origin pos_zero,
      given_back s.pointer.press.held.press_start_time s.clock.time,
      given_back s.pointer.press.past.last_click_pos pos_zero,
      given_back s.pointer.last_move_time s.clock.time,
      status_back s.wheel.status,
      source_back s.wheel.source,
    )
