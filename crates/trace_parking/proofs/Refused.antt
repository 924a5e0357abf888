-- What a restore says of the machine, refused and taken. Assumes nothing.
use Rattle.std.specs.Prelude.{Result, Ok, Err}
use mathlib.Core.Path.{◌≡◌, refl}
use mathlib.Core.List.{List}
use Prim.Native.Nat.{ℕ}
use native.Mathlib.Omega.{arith}
use Rattle.input_state.specs.View.{Lent}
use Rattle.panel.specs.declared.state.Panel.{Panel}
use Rattle.parking.specs.declared.check.ImageRefusal.{ImageRefusal}
use Rattle.parking.specs.declared.check.ImageRefusal.TheVariants.{FirstWord, Word}
use Rattle.parking.specs.Restored.{RestoredAs}
use Rattle.trace_machine.specs.declared.machine.Machine.{Machine}
use Rattle.trace_machine.specs.declared.machine.Step.{Step}
use Rattle.trace_parking.specs.Calls.{code_of, AfterRestore, TakesImage}

-- refused, every lent place is as before
pub lent_kept : (ws : List ℕ) (l l' : Lent) (read : Result Panel ImageRefusal) → (code_of read ≡ 0 → ⊥) → RestoredAs ws l read l' → l' ≡ l
lent_kept ws l l' (Ok p) is-not h = absurd (is-not refl)
lent_kept ws l l' (Err FirstWord) is-not h = h.lent
lent_kept ws l l' (Err (Word i)) is-not h = h.lent

-- taken, the machine has the panel that was read
pub takes_image : (m : Machine) (ws : List ℕ) (l l' : Lent) (read : Result Panel ImageRefusal) (r : Step) → code_of read ≡ 0 → RestoredAs ws l read l' → AfterRestore m read r → TakesImage m ws l l' r.machine
takes_image m ws l l' (Ok p) r is h after = record { panel = p; is_restored = h; machine_is = after.taken p refl }
takes_image m ws l l' (Err FirstWord) r is h after = absurd (omega (arith, is))
takes_image m ws l l' (Err (Word i)) r is h after = absurd (omega (arith, is))
