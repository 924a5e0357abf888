-- The laws of loops along a list, over the state and the step.
use Rattle.std.specs.Prelude.{◌≡◌, Bool, true, false, ◌||◌, List, [], ◌∷◌, length, take, ℕ, ◌+◌, ◌<◌, get_or}
use Rattle.feed.specs.Types.{Event}
use Rattle.event_loop.specs.Shaped.{shaped_at}
use Rattle.event_loop.specs.Lists.{listed_events, reads, own}

-- Event by event, what a loop has made of the events at the first n places is what `run` makes of them.
pub record Loop {S : Type 0} (run : List Event → S → S) (step : Event → S → S) : Type 0 where
  pub begins : (ws : List ℕ) (s : S) → run (listed_events ws []) s ≡ s
  pub goes_on : (ws ps : List ℕ) (n : ℕ) (s : S) → n < length ps →
      run (listed_events ws (take (n + 1) ps)) s ≡ step (shaped_at ws (get_or ps n 0)) (run (listed_events ws (take n ps)) s)

-- The same of a question whether there is an event of some sort.
pub record Any (any : List Event → Bool) : Type 0 where
  pub begins : (ws : List ℕ) → any (listed_events ws []) ≡ false
  pub goes_on : (ws ps : List ℕ) (n : ℕ) → n < length ps →
      any (listed_events ws (take (n + 1) ps)) ≡ (any (listed_events ws (take n ps)) || any (shaped_at ws (get_or ps n 0) ∷ []))
  -- once there is one
  pub stays : (ws ps : List ℕ) (n : ℕ) → any (listed_events ws (take n ps)) ≡ true → any (listed_events ws ps) ≡ true

-- Of a component that events of other lists leave as it is, all events make what its own events make.
abbrev pub OwnLaw : {S : Type 0} → ℕ → (List Event → S → S) → (Event → S → S) → Type 0
OwnLaw {S} l run step = ((e : Event) (s : S) → reads l e ≡ false → step e s ≡ s) → (es : List Event) (s : S) → run (own l es) s ≡ run es s

abbrev pub OwnAnyLaw : ℕ → (List Event → Bool) → Type 0
OwnAnyLaw l any = ((e : Event) → reads l e ≡ false → any (e ∷ []) ≡ false) → (es : List Event) → any (own l es) ≡ any es
