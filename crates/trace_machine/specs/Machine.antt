-- What a call makes of the machine and of the lent arrays. A reply of code 0 says that the call is taken.
use Rattle.std.specs.Prelude.{ℕ, ◌≡◌, cond, List, eqb, length, drop, None, Result}
use Rattle.survey.specs.Survey.{option}
use Rattle.kernel_touch.specs.declared.slots.KernelTouches.{KernelTouches}
use Rattle.kernel_touch.specs.Slots as Slots
use Rattle.widget_index.specs.declared.table.WidgetRects.{WidgetRects}
use Rattle.widget_rect.specs.Questions.{Empty}
use Rattle.input_state.specs.View.{Lent, lent}
use Rattle.trace_state.specs.declared.lent.Arrays.{Arrays}
use Rattle.data.specs.declared.refusal.PassRefusal.{PassRefusal}
use Rattle.input_pass.specs.declared.begin.Begun.{Begun}
use Rattle.input_pass.specs.Begun as Contract
use Rattle.panel.specs.declared.state.Panel.{Panel}
use Rattle.panel.specs.View.{Fresh, after_pass}
use Rattle.trace_words.specs.declared.reply.Reply.{Reply}
use Rattle.trace_machine.specs.declared.machine.Machine.{Machine}
use Rattle.trace_machine.specs.declared.machine.Step.{Step}
use Rattle.trace_machine.specs.Given.{pass_words, pass_input}

abbrev pub machine : Panel → WidgetRects → KernelTouches → ℕ → Machine
machine p s k n = record { panel = p; «set» = s; kernel = k; parked = n }

-- another panel, set, slots or image
abbrev pub with_panel : Machine → Panel → Machine
with_panel m p = machine p m.«set» m.kernel m.parked

abbrev pub with_set : Machine → WidgetRects → Machine
with_set m s = machine m.panel s m.kernel m.parked

abbrev pub with_kernel : Machine → KernelTouches → Machine
with_kernel m k = machine m.panel m.«set» k m.parked

abbrev pub with_parked : Machine → ℕ → Machine
with_parked m n = machine m.panel m.«set» m.kernel n

abbrev pub step : Machine → Reply → Step
step m reply = record { machine = m; reply = reply }

-- a call leaves the machine `after`; refused, the one before
unfoldable pub stepped : Machine → Machine → Reply → Step
stepped m after reply = step (cond (eqb reply.code 0) after m) reply

-- the lent arrays
abbrev pub lent_of : Arrays → Lent
lent_of a = lent a.times a.positions a.codes a.places a.presses

-- ---- RESET

-- a fresh panel over these presses, an empty set and empty slots
pub record Starts (presses : List ℕ) (m : Machine) : Type 0 where
  pub fresh_panel : Fresh presses m.panel
  pub empty_set : Empty m.«set»
  pub empty_slots : m.kernel ≡ Slots.fresh

pub record Resets (m : Machine) (w presses presses' : List ℕ) (r : Step) : Type 0 where
  -- with any word it is refused: the machine and every place of the presses are as before
  pub refused : (length w ≡ 0 → ⊥) → (r.reply.code ≡ 255) × (r.machine ≡ m) × (presses' ≡ presses)
  -- with none it is taken; the last image stays
  pub taken : length w ≡ 0 → (r.reply.code ≡ 0) × Starts presses' r.machine × (r.machine.parked ≡ m.parked)

-- ---- PASS

-- the machine after a pass that returned b
pub record AfterPass (m : Machine) (b : Result Begun PassRefusal) (r : Step) : Type 0 where
  -- the call is refused only where the pass is
  pub refused : (r.reply.code ≡ 0 → ⊥) → (option b ≡ None → ⊥) × (r.machine ≡ m)
  pub taken : r.reply.code ≡ 0 → r.machine ≡ with_panel m (after_pass m.panel b)

-- a pass of what the words say, over the lent arrays l, which are l' after it: the machine then is `after`
pub record TakesPass (m : Machine) (w : List ℕ) (l l' : Lent) (after : Machine) : Type 0 where
  -- what panel's `pass` returned, by its contract
  pub begun : Result Begun PassRefusal
  pub is_begun : Contract.Begun (pass_input w) (drop pass_words w) l m.panel.input m.panel.devices l' begun
  pub machine_is : after ≡ with_panel m (after_pass m.panel begun)

pub record Passes (m : Machine) (w : List ℕ) (l l' : Lent) (r : Step) : Type 0 where
  -- refused, by its format or by the pass: the machine and every place of the lent arrays are as before
  pub refused : (r.reply.code ≡ 0 → ⊥) → (r.machine ≡ m) × (l' ≡ l)
  pub taken : r.reply.code ≡ 0 → TakesPass m w l l' r.machine
