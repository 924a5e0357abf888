-- An answer's words, as one word more is written, and rows of them.
use Rattle.std.specs.Prelude.{ℕ, zero, suc, ◌+◌, ◌*◌, ◌/◌, ◌%◌, ◌≡◌, Bool, cond, ltb, set, List, [], ◌∷◌, ◌++◌, Option, None, Some, Float}
use Rattle.std.specs.Float.{binary32, binary64}
use Rattle.std.specs.Float.Ieee.{to_bits}
use Rattle.emath.specs.declared.pos2.Pos2.{Pos2}
use Rattle.emath.specs.declared.vec2.Vec2.{Vec2}
use Rattle.emath.specs.declared.rect.Rect.{Rect}
use Rattle.data.specs.declared.widget.WidgetRect.{WidgetRect}
use Rattle.data.specs.Bits.{bit_number}
use Rattle.trace_words.specs.declared.words.Answer.{Answer}

-- how many words the array holds
abbrev pub room : ℕ
room = 65536

-- the next word is written, and every other place keeps its contents; past the end none is
pub record Written (w : ℕ) (a b : Answer) : Type 0 where
  pub count : b.len ≡ cond (ltb a.len room) (a.len + 1) a.len
  pub words : b.words ≡ cond (ltb a.len room) (set a.words a.len w) a.words

-- an answer as what it holds: how many words, and the array's places
pub record Held : Type 0 where
  pub len : ℕ
  pub words : List ℕ

abbrev pub held : Answer → Held
held a = record { len = a.len; words = a.words }

-- after one word more: `Written`, as a value
unfoldable pub put_word : ℕ → Held → Held
put_word w h = record { len = cond (ltb h.len room) (h.len + 1) h.len; words = cond (ltb h.len room) (set h.words h.len w) h.words }

-- after a row of words, one after the other
unfoldable pub put_words : List ℕ → Held → Held
put_words [] h = h
put_words (w ∷ ws) h = put_words ws (put_word w h)

-- the row is written
abbrev pub Says : List ℕ → Answer → Answer → Type 0
Says ws a b = held b ≡ put_words ws (held a)

-- ---- the rows of values, of compare/FORMAT.md

unfoldable pub zero_words : ℕ → List ℕ
zero_words zero = []
zero_words (suc n) = 0 ∷ zero_words n

-- "An f64, an id, a device or a touch id is two words, low then high."
abbrev pub id_words : ℕ → List ℕ
id_words d = d % 0x1_0000_0000 ∷ d / 0x1_0000_0000 ∷ []

-- "An f32 is one word (its bits)."
abbrev pub float_words : Float → List ℕ
float_words x = to_bits binary32 x ∷ []

abbrev pub seconds_words : Float → List ℕ
seconds_words t = id_words (to_bits binary64 t)

abbrev pub pos_words : Pos2 → List ℕ
pos_words p = to_bits binary32 p.x ∷ to_bits binary32 p.y ∷ []

abbrev pub vec_words : Vec2 → List ℕ
vec_words v = to_bits binary32 v.x ∷ to_bits binary32 v.y ∷ []

abbrev pub rect_words : Rect → List ℕ
rect_words r = pos_words r.min ++ pos_words r.max

-- bits, the first in bit 0
unfoldable pub bits_number : List Bool → ℕ
bits_number [] = 0
bits_number (b ∷ bs) = bit_number b + 2 * bits_number bs

-- "the set's record of the widget (17 words ..)": id, parent id, layer order, layer id, rect, interact rect, sense, "bit 0 enabled, 1 visible"
abbrev pub widget_words : WidgetRect → List ℕ
widget_words w =
    id_words w.id
    ++ id_words w.parent_id
    ++ (w.layer_id.order ∷ [])
    ++ id_words w.layer_id.id
    ++ rect_words w.rect
    ++ rect_words w.interact_rect
    ++ (w.sense ∷ bits_number (w.enabled ∷ w.visible ∷ []) % 0x1_0000_0000 ∷ [])

-- "`opt(n)` is a word 1 and n words, or a word 0 and n zeros."
abbrev pub maybe_words : {A : Type 0} → (A → List ℕ) → ℕ → Option A → List ℕ
maybe_words row n None = 0 ∷ zero_words n
maybe_words row n (Some x) = 1 ∷ row x

-- an id, or 0 for none
abbrev pub maybe_id_words : Option ℕ → List ℕ
maybe_id_words None = 0 ∷ 0 ∷ []
maybe_id_words (Some d) = id_words d
