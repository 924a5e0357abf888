-- A value narrowed to a format, as IEEE 754's convertFormat does it: the nearest value of the format, a tie to the even one.
use Rattle.std.specs.Prelude.{◌*◌, Float}
use Rattle.std.specs.Float.{nan, inf, fin, Format}
use Rattle.std.specs.Float.Ieee.{up, down, round}

-- Rust's `as f32` of an `f64`, at binary32. `round` takes the exact value, as a fraction. `Nearest.NearestNarrow` of crate `ieee_laws` says what that gives.
unfoldable pub narrow : Format → Float → Float
unfolding round
narrow f nan = nan
narrow f (inf s) = inf s
narrow f (fin s m e) = round f s (m * up e) (down e)
