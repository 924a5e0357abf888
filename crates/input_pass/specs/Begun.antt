-- What a pass promises.
use Rattle.std.specs.Prelude.{ℕ, ◌≡◌, List, Float, Option, None, Some, Result, Ok, Err}
use Rattle.std.specs.Option.{option_map}
use Rattle.data.specs.Limits.{max_events}
use Rattle.data.specs.Numbers.{pass_row}
use Rattle.feed.specs.Decode.{items}
use Rattle.model.specs.Types.{PassRefusal}
use Rattle.model.specs.Touch.{TouchState, InOrder}
use Rattle.model.specs.Pass.{Panel, Interaction, or_else, own_refusal, pass_events, pass}
use Rattle.model.specs.Pass as Pass
use Rattle.touch_state.specs.View.{view}
use Rattle.touch_state.specs.declared.devices.Devices.{Devices}
use Rattle.survey.specs.Survey.{option, fits_events, fits_survey}
use Rattle.input_state.specs.declared.input.PassInput.{PassInput}
use Rattle.input_state.specs.declared.state.InputState.{InputState}
use Rattle.input_pass.specs.declared.begin.Begun as declared
use Rattle.input_state.specs.View.{Lent, panel, input, begin_by, Storage}

-- 01's refusals in their order, on the devices that the arrays hold
unfoldable pub refusal_of : PassInput → List ℕ → Float → List TouchState → Option PassRefusal
refusal_of i ws old vs = or_else (own_refusal (input ws i) old) (fits_survey max_events (items ws) vs)

-- the outcome of a pass in the model's terms
unfoldable pub outcome : Option PassRefusal → Panel → Pass.Passed
outcome None p = Pass.taken p
outcome (Some q) p = Pass.refused q

-- the state and the devices after a pass: where it is refused, those that the caller has
abbrev pub left_by : InputState → Devices → Result declared.Begun PassRefusal → declared.Begun
left_by s ds (Ok b) = b
left_by s ds (Err q) = record { state = s; devices = ds }

-- A pass of any state: refused, then all is as before; taken, then the state is the model's `begin_pass` of the feed's events, on the devices that the arrays hold.
-- Of devices in order, as every pass leaves them, it is the model's `pass`, for any interaction and tally beside it.
pub record Begun (i : PassInput) (ws : List ℕ) (l : Lent) (s : InputState) (ds : Devices) (l' : Lent) (r : Result declared.Begun PassRefusal) : Type 0 where
  -- the refusal of 01's table, or none
  pub refusal : option r ≡ refusal_of i ws s.clock.time (view ds)
  -- what 01's row of it returns: "number, word index", or the number alone
  pub answer : option_map pass_row (option r) ≡ option_map pass_row (refusal_of i ws s.clock.time (view ds))
  -- refused: "all as before"
  pub refused : (refusal_of i ws s.clock.time (view ds) ≡ None → ⊥) → ((left_by s ds r).state ≡ s) × ((left_by s ds r).devices ≡ ds) × (l' ≡ l)
  -- taken: the model's `begin_pass` of the feed's events
  pub taken : refusal_of i ws s.clock.time (view ds) ≡ None → (n : Interaction) (t : ℕ) →
      panel l' (left_by s ds r).state (view (left_by s ds r).devices) n t
      ≡ begin_by (pass_events (input ws i)) (fits_events (pass_events (input ws i)) (view ds)) (panel l s (view ds) n t) (input ws i)
  -- and "every place of lent storage"
  pub storage : refusal_of i ws s.clock.time (view ds) ≡ None → (n : Interaction) (t : ℕ) →
      Storage (pass_events (input ws i))
      (begin_by (pass_events (input ws i)) (fits_events (pass_events (input ws i)) (view ds)) (panel l s (view ds) n t) (input ws i)) l s l'
  -- of devices in order, refused or taken: the model's `pass`
  pub whole : InOrder (view ds) → (n : Interaction) (t : ℕ) →
      outcome (option r) (panel l' (left_by s ds r).state (view (left_by s ds r).devices) n t) ≡ pass (panel l s (view ds) n t) (input ws i)
  -- and it leaves them in order
  pub in_order : InOrder (view ds) → InOrder (view (left_by s ds r).devices)
