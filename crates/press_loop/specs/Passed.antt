-- The presses' part of a pass, on the lent arrays.
use Rattle.std.specs.Prelude.{ℕ, ◌≡◌, List, Float}
use Rattle.std.proofs.lemmas.List.Edits.{sets}
use Rattle.model.specs.Types.{InputOptions, Event}
use Rattle.model.specs.Pointer.{press_pass}
use Rattle.pointer_events.specs.Events.{codes_of, positions_of}
use Rattle.pointer_state.specs.declared.press.Press.{Press}
use Rattle.pointer_state.specs.View.{press}

-- Of the pass's events in the pointer's list.
pub record PressPassed (o : InputOptions) (time : Float) (es : List Event) (codes : List ℕ) (positions : List Float) (s : Press)
    (codes' : List ℕ) (positions' : List Float) (r : Press) : Type 0 where
  -- the model's
  pub result : press codes' positions' r ≡ press_pass o time es (press codes positions s)
  -- the numbers of the pass's pointer events stand from the first place on; every other place keeps its contents
  pub codes_after : codes' ≡ sets codes 0 (codes_of (press_pass o time es (press codes positions s)).held.pointer_events)
  -- and so their positions
  pub positions_after : positions' ≡ sets positions 0 (positions_of (press_pass o time es (press codes positions s)).held.pointer_events)
