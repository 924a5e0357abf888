-- What a step says of the machine, refused and taken. Assumes nothing.
use Rattle.std.specs.Prelude.{Result}
use mathlib.Core.Path.{◌≡◌, sym, ◌∙◌, ap}
use borrow.Author.Tests.{eq-eqb, ne_eqb}
use mathlib.Core.List.{List}
use Prim.Native.Nat.{ℕ}
use Rattle.touch_state.specs.declared.devices.Devices.{Devices}
use Rattle.input_state.specs.declared.input.PassInput.{PassInput}
use Rattle.input_state.specs.declared.state.InputState.{InputState}
use Rattle.input_state.specs.View.{Lent}
use Rattle.data.specs.declared.refusal.PassRefusal.{PassRefusal}
use Rattle.input_pass.specs.declared.begin.Begun.{Begun}
use Rattle.input_pass.specs.Begun as Contract
use Rattle.widget_index.specs.declared.table.WidgetRects.{WidgetRects}
use Rattle.kernel_touch.specs.declared.slots.KernelTouches.{KernelTouches}
use Rattle.panel.specs.declared.state.Panel.{Panel}
use Rattle.trace_words.specs.declared.reply.Reply.{Reply}
use Rattle.trace_machine.specs.declared.machine.Machine.{Machine}
use Rattle.trace_machine.specs.declared.machine.Step.{Step}
use Rattle.trace_machine.specs.Machine.{machine, stepped}

module _ (m after : Machine) (reply : Reply) (r : Step) (e : r ≡ stepped m after reply) where
  pub same_code : r.reply.code ≡ reply.code
  unfolding stepped
  same_code = ap (λ (s : Step). s.reply.code) e

  pub when_refused : (r.reply.code ≡ 0 → ⊥) → r.machine ≡ m
  unfolding stepped
  when_refused is-not = ap (λ (s : Step). s.machine) e ∙ rw (ne_eqb reply.code 0 (λ z. is-not (same_code ∙ z)))

  pub when_taken : r.reply.code ≡ 0 → r.machine ≡ after
  unfolding stepped
  when_taken is = ap (λ (s : Step). s.machine) e ∙ rw (eq-eqb reply.code 0 (sym same_code ∙ is))

-- a pass of an equal input and an equal feed
pub carried : {i j : PassInput} {f g : List ℕ} {l l' : Lent} {s : InputState} {ds : Devices} {r : Result Begun PassRefusal} → i ≡ j → f ≡ g
    → Contract.Begun i f l s ds l' r → Contract.Begun j g l s ds l' r
carried p q h = rw (← p, ← q) h

-- machines with equal panels
pub same_panel : {p q : Panel} {s : WidgetRects} {k : KernelTouches} {n : ℕ} → p ≡ q → machine p s k n ≡ machine q s k n
same_panel e = rw e
