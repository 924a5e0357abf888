-- What it means to be the nearest value of a format. `proofs/NearestNarrow.antt` and `proofs/NearestRoot.antt` show it of `narrow f x` and `sqrt f x`, for every format f.
-- The size of a finite value x is num x / den x. Each fact is one of fractions, with the denominators multiplied out.
use Rattle.std.specs.Prelude.{ℕ, ◌+◌, ◌-◌, ◌*◌, ◌%◌, ◌^◌, ◌≤◌, ◌<◌, Bool, false, cond, ◌≡◌, T, Float}
use Rattle.std.specs.Bool.{beq}
use Rattle.std.specs.Float.{nan, inf, fin, Format}
use Rattle.std.specs.Float.Ieee.{prec, emax, fits, lt, ne, to_bits}
use Rattle.std.specs.Float.Ieee.Positive.{num, den, positive}
use Rattle.std.specs.Float.Ieee.Scale.{finite}

abbrev pub negative : Float → Bool
negative nan = false
negative (inf s) = s
negative (fin s m e) = s

-- ---- narrowing

-- |a - b|
abbrev pub dist : ℕ → ℕ → ℕ
dist a b = (a - b) + (b - a)

-- |x - y| is gap x y / (den x * den y)
abbrev pub gap : Float → Float → ℕ
gap x y = cond (beq (negative x) (negative y)) (dist (num x * den y) (num y * den x)) (num x * den y + num y * den x)

-- |x| is at least 2 ^ (emax + 1) less half a step of the format's largest values
abbrev pub Overflows : Format → Float → Type 0
Overflows f x = (2 ^ (prec f + 1) - 1) * 2 ^ (emax f - prec f) * den x ≤ num x

-- r is an infinity where x overflows, and only there. Else no value y of the format is nearer to x than r is, and if another one is as near, then r is the even one: the last digit of its significand, and so of its pattern, is 0.
pub record NearestNarrow (f : Format) (x r : Float) : Type 0 where
  pub overflow : Overflows f x → r ≡ inf (negative x)
  pub within : (Overflows f x → ⊥) → T (finite r) × (negative r ≡ negative x)
  pub nearest : T (finite r) → (y : Float) → T (fits f y) → T (finite y) → gap x r * den y ≤ gap x y * den r
  pub even : T (finite r) → (y : Float) → T (fits f y) → T (finite y) → T (ne r y) → gap x r * den y ≡ gap x y * den r → to_bits f r % 2 ≡ 0

-- ---- the root

abbrev pub sq : ℕ → ℕ
sq n = n * n

-- r + y is total r y / (den r * den y), for an r with the sign clear, or is below 0 and total r y is 0
abbrev pub total : Float → Float → ℕ
total r y = cond (negative y) (num r * den y - num y * den r) (num r * den y + num y * den r)

-- r is nearer to √x than any other value y of the format, so that no tie occurs: √x is above the middle of r and a y below r, and below the middle of r and a y above r.
-- Squared, that compares ((r + y) / 2) ^ 2 with x.
pub record NearestRoot (f : Format) (x r : Float) : Type 0 where
  pub held : T (fits f r)
  pub above_zero : T (positive r)
  pub below : (y : Float) → T (fits f y) → T (finite y) → T (lt y r) → sq (total r y) * den x < 4 * num x * sq (den r * den y)
  pub above : (y : Float) → T (fits f y) → T (finite y) → T (lt r y) → 4 * num x * sq (den r * den y) < sq (total r y) * den x
