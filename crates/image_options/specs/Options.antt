-- Fields that several groups share: the code of each, the value that stands for a record, and back.
use Rattle.std.specs.Prelude.{ℕ, ◌<◌, Bool, eqb, Option, Float}
use Rattle.std.specs.Option.{option_map}
use Rattle.model.specs.Types.{Pos2, Vec2}
use Rattle.image.specs.Codes.{Code, word, single, double, id, both, maybe, El}
use Rattle.image_words.specs.Leaves.{flag, upto, any, any_id}

-- places behind it can be asked without a sum that wraps; an image has fewer words
abbrev pub Near : ℕ → Type 0
Near at = at < 0x1_0000_0000

-- false 0, true 1
abbrev pub boolean : Code
boolean = word flag

abbrev pub boolean_of : ℕ → Bool
boolean_of w = eqb w 1

-- 01's "Flags (5 bits, from bit 0)", and the buttons 0 to 4
abbrev pub five_bits : ℕ
five_bits = 31

abbrev pub flags : Code
flags = word (upto five_bits)

-- a position, a vector
abbrev pub pair : Code
pair = both (single any) (single any)

abbrev pub pos_el : Pos2 → El pair
pos_el p = (p.x, p.y)

abbrev pub pos_of : El pair → Pos2
pos_of v = record { x = v.0; y = v.1 }

abbrev pub vec_el : Vec2 → El pair
vec_el p = (p.x, p.y)

abbrev pub vec_of : El pair → Vec2
vec_of v = record { x = v.0; y = v.1 }

-- a position or none, a vector or none
abbrev pub maybe_pair : Code
maybe_pair = maybe pair

unfoldable pub maybe_pos_el : Option Pos2 → El maybe_pair
maybe_pos_el p = option_map pos_el p

unfoldable pub maybe_pos_of : El maybe_pair → Option Pos2
maybe_pos_of v = option_map pos_of v

unfoldable pub maybe_vec_el : Option Vec2 → El maybe_pair
maybe_vec_el p = option_map vec_el p

unfoldable pub maybe_vec_of : El maybe_pair → Option Vec2
maybe_vec_of v = option_map vec_of v

-- a time or none
abbrev pub maybe_time : Code
maybe_time = maybe (double any)

unfoldable pub maybe_time_el : Option Float → El maybe_time
maybe_time_el t = option_map (λ t. t) t

unfoldable pub maybe_time_of : El maybe_time → Option Float
maybe_time_of t = option_map (λ t. t) t

-- an id or none, which the model keeps as it stands
abbrev pub maybe_id : Code
maybe_id = maybe (id any_id)
