-- Where a number stands in the three lent arrays: `words` (u64), `numbers` (u32) and `edges` (f32).
-- A slot is a widget's place in the order of first insertion. An entry is a slot plus one, and 0 is no slot.
use Rattle.std.specs.Prelude.{ℕ, suc, ◌+◌, ◌*◌, ◌/◌, ◌%◌, Bool, true, false, cond, List, [], ◌∷◌, leb, eqb, Float, Option, None, Some, get_or, set}
use Rattle.std.specs.Float.{nan}

-- stores, one after the other, each an index and what is put there
abbrev pub stores : {A : Type 0} → List A → List (ℕ × A) → List A
stores xs [] = xs
stores xs (i-a ∷ rest) = stores (set xs i-a.0 i-a.1) rest

-- the entry of a slot, if there is one
abbrev pub entry_of : Option ℕ → ℕ
entry_of None = 0
entry_of (Some s) = suc s

-- ids fall into as many buckets
abbrev pub buckets : ℕ
buckets = 2048

-- positions and counts are kept below this
abbrev pub span : ℕ
span = 2048

-- ---- words: 1,024 ids, 1,024 parent ids, 32 layer ids
abbrev pub parents : ℕ
parents = 1024

abbrev pub layer_ids : ℕ
layer_ids = 2048

abbrev pub id_at : List ℕ → ℕ → ℕ
id_at words s = get_or words s 0

abbrev pub parent_at : List ℕ → ℕ → ℕ
parent_at words s = get_or words (parents + s) 0

-- ---- numbers: 2,048 heads of buckets, then for each slot its link, place and traits, then 32 layer orders and 32 counts
abbrev pub links : ℕ
links = 2048

abbrev pub places : ℕ
places = 3072

abbrev pub traits : ℕ
traits = 4096

abbrev pub orders : ℕ
orders = 5120

abbrev pub counts : ℕ
counts = 5152

-- the last entry of a bucket, and the one before an entry in its bucket: it never rises
abbrev pub head_at : List ℕ → ℕ → ℕ
head_at numbers b = get_or numbers b 0

unfoldable pub link_at : List ℕ → ℕ → ℕ
link_at numbers s = cond (leb (get_or numbers (links + s) 0) s) (get_or numbers (links + s) 0) 0

-- a place is the number of the layer and the position in it
abbrev pub place_at : List ℕ → ℕ → ℕ
place_at numbers s = get_or numbers (places + s) 0

abbrev pub layer_of : ℕ → ℕ
layer_of place = place / span % 32

abbrev pub position_of : ℕ → ℕ
position_of place = place % span

abbrev pub place : ℕ → ℕ → ℕ
place layer position = layer * span + position

abbrev pub count_at : List ℕ → ℕ → ℕ
count_at numbers l = get_or numbers (counts + l) 0 % span

-- ---- traits: sense, enabled and visible in one number
unfoldable pub bit : Bool → ℕ
bit true = 1
bit false = 0

abbrev pub packed : ℕ → Bool → Bool → ℕ
packed sense enabled visible = sense % 8 * 4 + bit enabled * 2 + bit visible

abbrev pub sense_of : ℕ → ℕ
sense_of t = t / 4

abbrev pub enabled_of : ℕ → Bool
enabled_of t = eqb (t / 2 % 2) 1

abbrev pub visible_of : ℕ → Bool
visible_of t = eqb (t % 2) 1

-- ---- edges: 8 for each slot
abbrev pub edge_at : List Float → ℕ → ℕ → Float
edge_at edges s j = get_or edges (s * 8 + j) nan
