-- The words of an event: what `decode` reads.
use Rattle.std.specs.Prelude.{ℕ, ◌+◌, ◌*◌, ◌/◌, ◌%◌, Bool, true, List, [], ◌∷◌, ◌++◌, map, ltb, Float, Option, None, Some}
use Rattle.std.specs.Float.{binary32}
use Rattle.std.specs.Float.Ieee.{to_bits}
use Rattle.data.specs.Kinds.{kind_unit}
use Rattle.data.specs.Limits.{key_count}
use Rattle.data.specs.Numbers.{button_number, phase_number, unit_number, source_number, kind_number}
use Rattle.data.specs.Bits.{bit_number}
use Rattle.data.specs.Modifiers.{modifiers_number}
use Rattle.feed.specs.Types.{Pos2, Vec2}
use Rattle.feed.specs.Types.{Event, Key, ModifiersChanged, PointerMoved, MouseMoved, Button, PointerGone, Zoom, Rotate, Touch, MouseWheel, WindowFocused, Other}

-- "A float is one word of f32 bits"; NaN is 7FC00000
unfoldable pub float_word : Float → ℕ
float_word x = to_bits binary32 x

unfoldable pub pos_words : Pos2 → List ℕ
pos_words p = float_word p.x ∷ float_word p.y ∷ []

unfoldable pub vec_words : Vec2 → List ℕ
vec_words v = float_word v.x ∷ float_word v.y ∷ []

-- low, high
unfoldable pub id_words : ℕ → List ℕ
id_words id = id % 0x1_0000_0000 ∷ id / 0x1_0000_0000 ∷ []

abbrev pub force_present : Option Float → ℕ
force_present None = 0
force_present (Some x) = 1

unfoldable pub force_words : Option Float → List ℕ
force_words None = []
force_words (Some x) = float_word x ∷ []

-- the low bits of the first word
unfoldable pub fields : Event → ℕ
fields (Key place pressed) = place % 256 + 256 * bit_number pressed
fields (ModifiersChanged m) = modifiers_number m
fields (PointerMoved pos) = 0
fields (MouseMoved delta) = 0
fields (Button pos b pressed m) = modifiers_number m + 32 * button_number b + 256 * bit_number pressed
fields PointerGone = 0
fields (Zoom factor) = 0
fields (Rotate radians) = 0
fields (Touch device id phase pos force) = phase_number phase + 4 * force_present force
fields (MouseWheel unit delta phase source m) = modifiers_number m + 32 * unit_number unit + 128 * phase_number phase + 512 * source_number source
fields (WindowFocused focused) = bit_number focused
fields Other = 0

-- the words after the first
unfoldable pub words_after : Event → List ℕ
words_after (Key place pressed) = []
words_after (ModifiersChanged m) = []
words_after (PointerMoved pos) = pos_words pos
words_after (MouseMoved delta) = vec_words delta
words_after (Button pos b pressed m) = pos_words pos
words_after PointerGone = []
words_after (Zoom factor) = float_word factor ∷ []
words_after (Rotate radians) = float_word radians ∷ []
words_after (Touch device id phase pos force) = id_words device ++ (id_words id ++ (pos_words pos ++ force_words force))
words_after (MouseWheel unit delta phase source m) = vec_words delta
words_after (WindowFocused focused) = []
words_after Other = []

unfoldable pub encode : Event → List ℕ
encode e = (kind_number e * kind_unit + fields e) ∷ words_after e

-- lists of words, one after the other
unfoldable pub join : List (List ℕ) → List ℕ
join [] = []
join (ws ∷ rest) = ws ++ join rest

-- the words of a feed that holds these events
unfoldable pub encode_all : List Event → List ℕ
encode_all es = join (map encode es)

-- a Key's place is one of egui's Key; every other field of an event can be said in a feed
unfoldable pub fields_ok : Event → Bool
fields_ok (Key place pressed) = ltb place key_count
fields_ok (ModifiersChanged m) = true
fields_ok (PointerMoved pos) = true
fields_ok (MouseMoved delta) = true
fields_ok (Button pos b pressed m) = true
fields_ok PointerGone = true
fields_ok (Zoom factor) = true
fields_ok (Rotate radians) = true
fields_ok (Touch device id phase pos force) = true
fields_ok (MouseWheel unit delta phase source m) = true
fields_ok (WindowFocused focused) = true
fields_ok Other = true
