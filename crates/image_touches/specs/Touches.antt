-- The touches of a device in an image: their description, and the list as its value and back.
use Rattle.std.specs.Prelude.{ℕ, List, map}
use Rattle.data.specs.declared.touch.ActiveTouch.{ActiveTouch}
use Rattle.image.specs.Codes.{Code, single, both, maybe, keyed, El}
use Rattle.image_words.specs.Leaves.{any}
unfoldable pub use Rattle.image_words.specs.Leaves.{ascending, seen_of}

-- a force or none
abbrev pub force_code : Code
force_code = maybe (single any)

-- what belongs to an id: a position and a force
abbrev pub touch_code : Code
touch_code = both (single any) (both (single any) force_code)

-- a count, so many by ascending id, zeros up to the most that a form holds
abbrev pub touches_code : ℕ → Code
touches_code most = keyed most ascending touch_code

-- a touch as a value, and back
abbrev pub touch_el : ActiveTouch → ℕ × El touch_code
touch_el t = (t.id, (t.pos.x, (t.pos.y, t.force)))

abbrev pub touch_of : ℕ × El touch_code → ActiveTouch
touch_of v = record { id = v.0; pos = record { x = v.1.0; y = v.1.1.0 }; force = v.1.1.1 }

-- the touches as a value, and back
unfoldable pub touches_el : List ActiveTouch → List (ℕ × El touch_code)
touches_el us = map touch_el us

unfoldable pub touches_of : List (ℕ × El touch_code) → List ActiveTouch
touches_of vs = map touch_of vs
