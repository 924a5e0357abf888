-- What `zoom_factor` answers.
use Rattle.std.specs.Prelude.{ℕ, ◌+◌, ◌-◌, ◌*◌, ◌≤◌, ◌<◌, Bool, not, ◌&&◌, ◌≡◌, T, Float, None, Ok, Err, Result}
use Rattle.std.specs.Float.{binary32}
use Rattle.std.specs.Float.Ieee.{le, of_bits}
use Rattle.std.specs.Float.Ieee.Positive.{num, den, positive}
use Rattle.data.specs.Numbers.{Row}
use Rattle.zoom_factor.specs.Series.{negative, plus_terms, minus_terms, numerator, denominator}
use Rattle.zoom_factor.specs.declared.ZoomRefusal.{ZoomRefusal}
use Rattle.zoom_factor.specs.declared.ZoomRefusal.TheVariants.{ExponentOutside}

-- "an f32 exponent e of size at most 1": from -1 to 1, which no not-a-number is
unfoldable pub unit_sized : Float → Bool
unit_sized e = le (of_bits binary32 0xbf80_0000) e && le e (of_bits binary32 0x3f80_0000)

-- |a - b|
abbrev pub dist : ℕ → ℕ → ℕ
dist a b = (a - b) + (b - a)

-- "an f32 within one part in 1,000,000 of the sum": |r - S| * 1,000,000 ≤ S, with the denominators multiplied out
pub record Close (e r : Float) : Type 0 where
  -- r is above 0
  pub above_zero : T (positive r)
  -- and so is S
  pub sum_above_zero : minus_terms (negative e) (num e) (den e) 13 < plus_terms (negative e) (num e) (den e) 13
  pub within : dist (num r * denominator e) (numerator e * den r) * 1000000 ≤ numerator e * den r

-- "Answers: 13 for any other e, not-a-number included"
abbrev pub zoom_refusal_number : ZoomRefusal → ℕ
zoom_refusal_number ExponentOutside = 13

-- "Numbers from 11 on join 01's table: returned alone"
abbrev pub zoom_row : ZoomRefusal → Row
zoom_row q = record { number = zoom_refusal_number q; index = None }

-- the answer to every f32: a factor where e is of size at most 1, else the row of 13
abbrev pub Answers : Float → Result Float ZoomRefusal → Type 0
Answers e (Ok r) = T (unit_sized e) × Close e r
Answers e (Err q) = T (not (unit_sized e)) × (zoom_row q ≡ record { number = 13; index = None })
