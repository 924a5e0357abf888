-- What the structs of src/ and the lent presses mean: the model's records.
use Rattle.std.specs.Prelude.{ℕ, zero, suc, ◌+◌, ◌<◌, ◌≡◌, List, [], ◌∷◌, ◌++◌, Bool, false, cond, ltb, get_or, length}
use Rattle.data.specs.Limits.{key_count}
use Rattle.model.specs.Types.{Event}
use Rattle.model.specs.Pass.{no_presses, is_empty, key_event, key_events}
use Rattle.model.specs.Pass as Pass
use Rattle.event_loop.specs.Shaped.{shaped_events}
use Rattle.key_state.specs.declared.bits.Set256.{Set256}
use Rattle.key_state.specs.declared.keys.Keys.{Keys}
use Rattle.key_state.specs.Bits.{has}

-- `presses` are the lent places: how often each of egui's keys was pressed in the pass
abbrev pub presses_of : List ℕ → ℕ → ℕ
presses_of presses j = cond (ltb j key_count) (get_or presses j 0) 0

-- one press more, as far as a byte goes
unfoldable pub one_more : ℕ → ℕ
one_more n = cond (ltb n 255) (n + 1) n

-- 01's keys are 0 to 144: a bit beyond stands for none
abbrev pub down_of : Set256 → ℕ → Bool
down_of s j = cond (ltb j key_count) (has s j) false

abbrev pub keys : List ℕ → Keys → Pass.Keys
keys presses k = record { keys_down = down_of k.down; modifiers = k.modifiers; presses = presses_of presses; feed_empty = k.feed_empty }

-- a byte has room for one press more of each key
abbrev pub Room : List ℕ → Type 0
Room presses = (j : ℕ) → presses_of presses j < 255

-- An event's effect.
pub record Stepped (e : Event) (presses : List ℕ) (k : Keys) (presses' : List ℕ) (r : Keys) : Type 0 where
  -- the model's
  pub result : keys presses' r ≡ key_event e (keys presses k)
  -- there are as many lent places as before
  pub places : length presses' ≡ length presses

-- before the events of a pass; `empty` tells whether its feed holds none
abbrev pub begun : Bool → Pass.Keys → Pass.Keys
begun empty s = record { keys_down = s.keys_down; modifiers = s.modifiers; presses = no_presses; feed_empty = empty }

-- the numbers of the first n keys, in their order
unfoldable pub numbers_of : (ℕ → ℕ) → ℕ → List ℕ
numbers_of f zero = []
numbers_of f (suc n) = numbers_of f n ++ (f n ∷ [])

-- A pass's effect, by the events `es` of the feed `ws`.
pub record Passed (ws : List ℕ) (es : List Event) (presses : List ℕ) (k : Keys) (presses' : List ℕ) (r : Keys) : Type 0 where
  -- the model's
  pub result : keys presses' r ≡ key_events es (begun (is_empty (shaped_events ws)) (keys presses k))
  -- every lent place is written: it holds how often its key was pressed in the pass
  pub presses_after : presses' ≡ numbers_of (key_events es (begun (is_empty (shaped_events ws)) (keys presses k))).presses key_count
