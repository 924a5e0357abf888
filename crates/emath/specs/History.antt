-- `History` of positions as a list of samples, the oldest first, after 01 item 1. Times are f64.
use Rattle.std.specs.Prelude.{ℕ, ◌-◌, ◌&&◌, cond, List, [], ◌∷◌, ◌++◌, ltb, length, drop, Float, Option, Some, None}
use Rattle.std.specs.Float.{binary32, binary64}
use Rattle.std.specs.Float.Ieee.{sub, lt, of_bits}
use Rattle.ieee_narrow.specs.Narrow.{narrow}
use Rattle.emath.specs.Types.{Pos2, Vec2}
use Rattle.emath.specs.Vec.{+0, pos_sub, vec_div}

pub record Sample : Type 0 where
  pub time : Float
  pub pos : Pos2

-- "at least 2, at most 1,000, age 0.1 (an f32, widened)"
abbrev pub min_len : ℕ
min_len = 2

abbrev pub max_len : ℕ
max_len = 1000

unfoldable pub max_age : Float
max_age = of_bits binary32 0x3dcc_cccd

-- drops from the front "while over 2 and the front time is below" the limit
unfoldable pub drop_old : Float → List Sample → List Sample
drop_old limit [] = []
drop_old limit (s ∷ h) = cond (ltb min_len (length (s ∷ h)) && lt s.time limit) (drop_old limit h) (s ∷ h)

-- "Flush drops from the front while over 1,000, then while over 2 and the front time is below now - age"
unfoldable pub flush : Float → List Sample → List Sample
flush now h = drop_old (sub binary64 now max_age) (drop (length h - max_len) h)

-- "Add appends, then flushes"
unfoldable pub add : Float → Pos2 → List Sample → List Sample
add now p h = flush now (h ++ (record { time = now; pos = p } ∷ []))

-- the last of s and the samples after it
unfoldable pub last : Sample → List Sample → Sample
last s [] = s
last s (t ∷ h) = last t h

-- "Duration is last time - first time, narrowed, or 0 if empty"
unfoldable pub duration : List Sample → Float
duration [] = +0
duration (s ∷ h) = narrow binary32 (sub binary64 (last s h).time s.time)

-- "Velocity is the position difference divided by that duration, or none if it is not above 0"
unfoldable pub velocity : List Sample → Option Vec2
velocity [] = None
velocity (s ∷ h) =
    let d = duration (s ∷ h) in
    cond (lt +0 d) (Some (vec_div (pos_sub (last s h).pos s.pos) d)) None
