-- Demand 3, first half: drag starts and drag stops balance, and the tally counts the starts. Definitions only.
use Rattle.std.specs.Prelude.{ℕ, ◌+◌, ◌≤◌, ◌≡◌, cond, List, [], ◌∷◌, eqb, Option, None, Some}
use Rattle.data.specs.Limits.{max_tally}
use Rattle.model.specs.Pass.{fresh}
use Rattle.model.specs.Interact.{one_if}
use Rattle.model.specs.Calls.{Call, Outcome, refused_pass, refused_interact, passed, answered, run, outcomes}

-- 1 if the id is the widget's, else 0
unfoldable pub one_if_is : ℕ → Option ℕ → ℕ
one_if_is w None = 0
one_if_is w (Some id) = cond (eqb w id) 1 0

-- 01: "A drag start of a widget is a taken interact that answers its id as drag_started": their number in a list
unfoldable pub starts : ℕ → List Outcome → ℕ
starts w [] = 0
starts w (refused_pass r ∷ os) = starts w os
starts w (refused_interact r ∷ os) = starts w os
starts w (passed p ∷ os) = starts w os
starts w (answered s p ∷ os) = one_if_is w s.drag_started + starts w os

-- 01: "a drag stop one that answers it as drag_stopped"
unfoldable pub stops : ℕ → List Outcome → ℕ
stops w [] = 0
stops w (refused_pass r ∷ os) = stops w os
stops w (refused_interact r ∷ os) = stops w os
stops w (passed p ∷ os) = stops w os
stops w (answered s p ∷ os) = one_if_is w s.drag_stopped + stops w os

-- 01: "it is dragged while the last taken interact answers it as dragged": whom that one answers, or, where there is none, `before`
unfoldable pub last_dragged : Option ℕ → List Outcome → Option ℕ
last_dragged before [] = before
last_dragged before (refused_pass r ∷ os) = last_dragged before os
last_dragged before (refused_interact r ∷ os) = last_dragged before os
last_dragged before (passed p ∷ os) = last_dragged before os
last_dragged before (answered s p ∷ os) = last_dragged s.dragged os

-- the drag starts of all widgets
unfoldable pub all_starts : List Outcome → ℕ
all_starts [] = 0
all_starts (refused_pass r ∷ os) = all_starts os
all_starts (refused_interact r ∷ os) = all_starts os
all_starts (passed p ∷ os) = all_starts os
all_starts (answered s p ∷ os) = one_if s.drag_started + all_starts os

pub record Balanced (calls : List Call) (widget : ℕ) : Type 0 where
  -- "after the list its drag starts less its drag stops are one if it is dragged and zero otherwise"; 01: "and none is before the first"
  pub starts_less_stops : starts widget (outcomes fresh calls) ≡ stops widget (outcomes fresh calls) + one_if_is widget (last_dragged None (outcomes fresh calls))
  -- the widget that the panel itself keeps as dragged is that one
  pub dragged_is_last : (run fresh calls).interaction.dragged ≡ last_dragged None (outcomes fresh calls)
  -- 01: "The tally counts the list's drag starts."
  pub tally_counts_starts : (run fresh calls).tally ≡ all_starts (outcomes fresh calls)
  -- 01 item 7: "one 32-bit tally"
  pub tally_fits : (run fresh calls).tally ≤ max_tally

-- Demand 3: "For every list of passes and interacts from a fresh panel, refused ones included, and every widget"
abbrev pub Balance : Type 0
Balance = (calls : List Call) (widget : ℕ) → Balanced calls widget
