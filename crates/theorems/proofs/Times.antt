-- Times of the domain, and clicks that are not later than a time. Assumes nothing.
use mathlib.Core.Path.{◌≡◌, refl}
use mathlib.Core.Bool.{true, false, ◌&&◌}
use lib.Dec.{T}
use lib.Ieee.{Float, nan, inf, fin, binary64, le, fits, of_bits}
use lib.Ieee.Fits.{and_l, and_r}
use lib.Ieee.Scale.{finite}
use Rattle.ieee_laws.proofs.Order.{le_trans}
use Rattle.data.specs.Limits.{zero64, max_time, within64, time_ok}
use Rattle.model.specs.Numbers.{+0}
use Rattle.theorems.specs.Reach.{NotAfter, never, by}

pub bounded : (x y : Float) → T (finite y) → T (le +0 x) → T (le x y) → T (finite x)
unfolding le
bounded nan y f h k = k
bounded (inf true) y f h k = h
bounded (inf false) nan f h k = k
bounded (inf false) (inf s) f h k = absurd f
bounded (inf false) (fin s m e) f h k = k
bounded (fin s m e) y f h k = tt

pub zero64_is : zero64 ≡ +0
unfolding zero64 of_bits
zero64_is = refl

-- of a range from 0 on: what lies in it fits, is not negative, and is finite
pub record InRange (x : Float) : Type 0 where
  pub fits_64 : T (fits binary64 x)
  pub from_zero : T (le +0 x)
  pub is_finite : T (finite x)

pub in_range : (hi x : Float) → T (finite hi) → T (within64 zero64 hi x) → InRange x
unfolding within64
in_range hi x f h =
    let a = fits binary64 x in
    let b = le zero64 x in
    let c = le x hi in
    let r = and_r a (b && c) h in
    let lo : T (le +0 x) = rw zero64_is at (and_l b c r) in
    record { fits_64 = and_l a (b && c) h; from_zero = lo; is_finite = bounded x hi f lo (and_r b c r) }

max_time_finite : T (finite max_time)
unfolding max_time of_bits
max_time_finite = tt

pub time_in_range : (t : Float) → T (time_ok t) → InRange t
unfolding time_ok
time_in_range t h = in_range max_time t max_time_finite h

pub +0-time-ok : T (time_ok +0)
unfolding time_ok within64 zero64 max_time of_bits fits le
+0-time-ok = tt

pub not_after_later : (tc now t : Float) → T (le tc now) → NotAfter tc t → NotAfter now t
not_after_later tc now t h (never e) = never e
not_after_later tc now t h (by f l) = by f (le_trans t tc now l h)
