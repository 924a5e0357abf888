-- Positions, vectors and rectangles of f32 parts, after 01 item 1: each step is rounded to an f32, but for those of a length (A.3).
use Rattle.std.specs.Prelude.{Bool, ◌||◌, cond, false, pos, Float}
use Rattle.std.specs.Float.{nan, inf, fin, binary32, binary64}
use Rattle.std.specs.Float.Ieee.{add, sub, mul, div, lt, ne}
use Rattle.ieee_narrow.specs.Narrow.{narrow}
use Rattle.ieee_sqrt.specs.Sqrt.{sqrt}
use Rattle.emath.specs.Types.{Pos2, Vec2, Rect}

abbrev pub +0 : Float
+0 = fin false 0 (pos 0)

-- `Vec2::ZERO`
unfoldable pub vec_zero : Vec2
vec_zero = record { x = +0; y = +0 }

-- `Pos2::ZERO`
unfoldable pub pos_zero : Pos2
pos_zero = record { x = +0; y = +0 }

-- v + w
unfoldable pub vec_add : Vec2 → Vec2 → Vec2
vec_add v w = record { x = add binary32 v.x w.x; y = add binary32 v.y w.y }

-- k * v, and v * k: which factor is the first does not show
unfoldable pub vec_scale : Float → Vec2 → Vec2
vec_scale k v = record { x = mul binary32 k v.x; y = mul binary32 k v.y }

-- v / k
unfoldable pub vec_div : Vec2 → Float → Vec2
vec_div v k = record { x = div binary32 v.x k; y = div binary32 v.y k }

-- p - q
unfoldable pub pos_sub : Pos2 → Pos2 → Vec2
pos_sub p q = record { x = sub binary32 p.x q.x; y = sub binary32 p.y q.y }

-- v != w
unfoldable pub vec_ne : Vec2 → Vec2 → Bool
vec_ne v w = ne v.x w.x || ne v.y w.y

-- x·x + y·y
unfoldable pub length_sq : Vec2 → Float
length_sq v = add binary32 (mul binary32 v.x v.x) (mul binary32 v.y v.y)

-- x·x + y·y in f64, where both squares are exact. A value widened is the same value.
unfoldable pub length_sq64 : Vec2 → Float
length_sq64 v = add binary64 (mul binary64 v.x v.x) (mul binary64 v.y v.y)

-- A.3: "Length shall widen both parts to f64, square and add there, take the f64 root and narrow once". The one definition that every distance goes through
unfoldable pub length : Vec2 → Float
length v = narrow binary32 (sqrt binary64 (length_sq64 v))

-- "distance is the length of the difference"
unfoldable pub distance : Pos2 → Pos2 → Float
distance p q = length (pos_sub p q)

-- "squared distance has no root"
unfoldable pub distance_sq : Pos2 → Pos2 → Float
distance_sq p q = length_sq (pos_sub p q)

-- "Normalized divides both parts by the length, or returns the vector if the length is not above 0"
unfoldable pub normalized : Vec2 → Vec2
normalized v = cond (lt +0 (length v)) (vec_div v (length v)) v

-- "Height is the bottom edge less the top edge"
unfoldable pub height : Rect → Float
height r = sub binary32 r.max.y r.min.y

-- the sign cleared
unfoldable pub abs : Float → Float
abs nan = nan
abs (inf s) = inf false
abs (fin s m e) = fin false m e

-- `Vec2::abs`
unfoldable pub vec_abs : Vec2 → Vec2
vec_abs v = record { x = abs v.x; y = abs v.y }

-- "The larger of two parts is the other one where one is not a number"
unfoldable pub larger : Float → Float → Float
larger x y = cond (ne x x) y (cond (ne y y) x (cond (lt x y) y x))

-- `Vec2::max_elem`
unfoldable pub max_elem : Vec2 → Float
max_elem v = larger v.x v.y
