-- What the leaves test and answer. Definitions only.
use Rattle.std.specs.Prelude.{ℕ, Bool, true, leb, ltb, Float, List, [], ◌∷◌, Option, None, Some, Ok, Err, Result, ⊤}

-- the code's answer
unfoldable pub found : Result ⊤ ℕ → Option ℕ
found (Ok tt) = None
found (Err i) = Some i

-- ---- ranges

-- up to the most
abbrev pub upto : ℕ → ℕ → Bool
upto m w = leb w m

-- absent or present, false or true
abbrev pub flag : ℕ → Bool
flag w = ltb w 2

-- every value in its one form
abbrev pub any : Float → Bool
any x = true

-- every id
abbrev pub any_id : ℕ → Bool
any_id d = true

-- "touch ids out of ascending order or .. twice": each id is above the one before it
unfoldable pub ascending : List ℕ → ℕ → Bool
ascending [] d = true
ascending (b ∷ seen) d = ltb b d

-- the ids before, as a loop keeps them: none, or the last
unfoldable pub seen_of : Option ℕ → List ℕ
seen_of None = []
seen_of (Some b) = b ∷ []
