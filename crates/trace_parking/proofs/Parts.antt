-- What a park says of the part that it is lent, said of the whole buffer and of the machine. Assumes nothing.
use Rattle.std.specs.Prelude.{Ok, Err, Result}
use Prim.Native.Nat.{ℕ, ◌≤◌}
use mathlib.Core.Path.{◌≡◌, ◌∙◌, ap, subst}
use mathlib.Core.List.{List, ◌++◌}
use native.Mathlib.Omega.{arith}
use lib.ListN.{length, take, drop, take-append-drop, length-take}
use lib.Seq.{take-append-le}
use Rattle.model.specs.Pass as Model
use Rattle.input_state.specs.View.{Lent}
use Rattle.panel.specs.View.{shown_by}
use Rattle.image_form.specs.Form.{image}
use Rattle.parking.specs.declared.park.ParkRefusal.{ParkRefusal}
use Rattle.parking.specs.declared.park.ParkRefusal.TheVariants.{ShortBuffer}
use Rattle.parking.specs.Parked.{ParkedAs}
use Rattle.trace_machine.specs.declared.machine.Machine.{Machine}
use Rattle.trace_machine.specs.declared.machine.Step.{Step}
use Rattle.trace_machine.specs.Machine.{with_parked}
use Rattle.trace_parking.specs.Calls.{Kept, AfterPark, Parks}

-- as many words as were taken are there
there : (n : ℕ) (part ws : List ℕ) → n ≡ length ws → take n part ≡ ws → n ≤ length part
there n part ws e t = omega (arith, e, length-take n part, ap (λ (l : List ℕ). length l) t)

-- the first k places of a buffer were lent
pub part_kept : (p : Model.Panel) (k : ℕ) (out part : List ℕ) (done : Result ℕ ParkRefusal) → ParkedAs p (take k out) part done → Kept p out (part ++ drop k out) done
part_kept p k out part (Err ShortBuffer) h = ap (λ (l : List ℕ). l ++ drop k out) h.1 ∙ take-append-drop k out
part_kept p k out part (Ok n) h = (h.0, take-append-le n part (drop k out) (there n part (image p) h.0 h.1) ∙ h.1)

pub parks : (m : Machine) (l : Lent) (out out' : List ℕ) (r : Step) (done : Result ℕ ParkRefusal) → AfterPark m r done → Kept (shown_by l m.panel) out out' done → Parks m l out out' r
parks m l out out' r (Err ShortBuffer) h k = record { refused = λ is-not. (h.1, k); taken = λ is. absurd (omega (arith, h.0)) }
parks m l out out' r (Ok n) h k =
    record {
      refused = λ is-not. absurd (is-not h.0);
      taken = λ is. (h.1 ∙ ap (λ (n : ℕ). with_parked m n) k.0, subst (λ (z : ℕ). take z out' ≡ image (shown_by l m.panel)) k.0 k.1);
    }
