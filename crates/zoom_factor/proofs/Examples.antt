-- The sum at some exponents, evaluated.
use mathlib.Core.Path.{◌≡◌, refl}
use mathlib.Core.Bool.{true, false}
use lib.IntN.{pos, negsuc}
use lib.Ieee.{fin}
use Rattle.zoom_factor.specs.Series.{below_zero, bottom, plus_terms, minus_terms, numerator, denominator}

-- 1: 13! / 0! + 13! / 1! + .. + 13! / 13!, over 13!
at_one : (numerator (fin false 1 (pos 0)) ≡ 16926797486) × (denominator (fin false 1 (pos 0)) ≡ 6227020800)
unfolding numerator denominator plus_terms minus_terms bottom below_zero
at_one = (refl, refl)

-- -1
at_minus_one : (numerator (fin true 1 (pos 0)) ≡ 2290792932) × (denominator (fin true 1 (pos 0)) ≡ 6227020800)
unfolding numerator denominator plus_terms minus_terms bottom below_zero
at_minus_one = (refl, refl)

-- -3 / 4
at_minus_three_quarters : (numerator (fin true 3 (negsuc 1)) ≡ 197396451919185633) × (denominator (fin true 3 (negsuc 1)) ≡ 417888291992371200)
unfolding numerator denominator plus_terms minus_terms bottom below_zero
at_minus_three_quarters = (refl, refl)

-- -0.0 and 0.0
at_zero : (numerator (fin true 0 (pos 0)) ≡ 6227020800) × (numerator (fin false 0 (pos 0)) ≡ 6227020800)
unfolding numerator plus_terms minus_terms bottom below_zero
at_zero = (refl, refl)
