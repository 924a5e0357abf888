-- Flags as a number, from the last to the first. Assumes nothing.
use mathlib.Core.Path.{◌≡◌, refl, sym, ap, ◌∙◌}
use mathlib.Core.Bool.{Bool, true, false}
use mathlib.Core.List.{List, [], ◌∷◌, ◌++◌, append_assoc, append-nil}
use Prim.Native.Nat.{ℕ, ◌+◌, ◌*◌, ◌%◌}
use native.Mathlib.Omega.{arith}
use Rattle.std.specs.List.{push}
use Rattle.data.specs.Bits.{bit_number}
use Rattle.trace_words.specs.Words.{bits_number}

-- the flags after the `ahead` ones are counted
pub record Counting (flags ahead : List Bool) (w : ℕ) : Type 0 where
  pub after : List Bool
  pub parts : ahead ++ after ≡ flags
  pub number : w ≡ bits_number after % 0x1_0000_0000

pub all_ahead : (flags ahead : List Bool) → ahead ≡ flags → Counting flags ahead 0
unfolding bits_number
all_ahead flags ahead e = record { after = []; parts = append-nil ahead ∙ e; number = refl }

one_more : (b : Bool) (after : List Bool) (w : ℕ) → w ≡ bits_number after % 0x1_0000_0000 →
    w % 0x8000_0000 * 2 + bit_number b ≡ bits_number (b ∷ after) % 0x1_0000_0000
unfolding bits_number
one_more true after w e = omega (arith, e)
one_more false after w e = omega (arith, e)

-- the last of those ahead is counted
pub one_behind : (flags ahead ahead' : List Bool) (b : Bool) (w bit : ℕ) → ahead ≡ push ahead' b → bit ≡ bit_number b →
    Counting flags ahead w → Counting flags ahead' (w % 0x8000_0000 * 2 + bit)
one_behind flags ahead ahead' b w bit e f h =
    record {
      after = b ∷ h.after;
      parts = sym (append_assoc ahead' (b ∷ []) h.after) ∙ ap (λ (l : List Bool). l ++ h.after) (sym e) ∙ h.parts;
      number = ap (λ (n : ℕ). w % 0x8000_0000 * 2 + n) f ∙ one_more b h.after w h.number;
    }
