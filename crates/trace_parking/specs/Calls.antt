-- What PARK, RESTORE_LAST and RESTORE make of the machine, of the pass's arrays and of the place for the last image. A reply of code 0 says that the call is taken.
use Rattle.std.specs.Prelude.{ℕ, ◌≡◌, List, length, take, Ok, Err, Result}
use Rattle.model.specs.Pass as Model
use Rattle.input_state.specs.View.{Lent}
use Rattle.panel.specs.View.{shown_by}
use Rattle.image_form.specs.Form.{image}
use Rattle.parking.specs.declared.check.ImageRefusal.{ImageRefusal}
use Rattle.parking.specs.declared.check.ImageRefusal.TheVariants.{FirstWord, Word}
use Rattle.parking.specs.declared.park.ParkRefusal.{ParkRefusal}
use Rattle.parking.specs.declared.park.ParkRefusal.TheVariants.{ShortBuffer}
use Rattle.panel.specs.declared.state.Panel.{Panel}
use Rattle.parking.specs.Restored.{RestoredAs}
use Rattle.trace_machine.specs.declared.machine.Machine.{Machine}
use Rattle.trace_machine.specs.declared.machine.Step.{Step}
use Rattle.trace_machine.specs.Machine.{with_panel, with_parked}

-- ---- PARK

-- a buffer after a park: as before, or the panel's image in its first places
abbrev pub Kept : Model.Panel → List ℕ → List ℕ → Result ℕ ParkRefusal → Type 0
Kept p out out' (Err ShortBuffer) = out' ≡ out
Kept p out out' (Ok n) = (n ≡ length (image p)) × (take n out' ≡ image p)

-- the machine after such a park: refused with 8, or the image's length is kept
abbrev pub AfterPark : Machine → Step → Result ℕ ParkRefusal → Type 0
AfterPark m r (Err ShortBuffer) = (r.reply.code ≡ 8) × (r.machine ≡ m)
AfterPark m r (Ok n) = (r.reply.code ≡ 0) × (r.machine ≡ with_parked m n)

pub record Parks (m : Machine) (l : Lent) (out out' : List ℕ) (r : Step) : Type 0 where
  -- refused: the machine, and every place of the last image
  pub refused : (r.reply.code ≡ 0 → ⊥) → (r.machine ≡ m) × (out' ≡ out)
  -- taken: the last image is the panel's, and of its length
  pub taken : r.reply.code ≡ 0 → (r.machine ≡ with_parked m (length (image (shown_by l m.panel)))) × (take (length (image (shown_by l m.panel))) out' ≡ image (shown_by l m.panel))

-- ---- RESTORE, and RESTORE_LAST with the words of the last image

-- 0, or 02's number
abbrev pub code_of : Result Panel ImageRefusal → ℕ
code_of (Ok p) = 0
code_of (Err FirstWord) = 14
code_of (Err (Word i)) = 15

-- the machine after a restore that returned this
pub record AfterRestore (m : Machine) (read : Result Panel ImageRefusal) (r : Step) : Type 0 where
  pub code : r.reply.code ≡ code_of read
  pub refused : (r.reply.code ≡ 0 → ⊥) → r.machine ≡ m
  pub taken : (p : Panel) → read ≡ Ok p → r.machine ≡ with_panel m p

-- a restore from these words, over the lent arrays l, which are l' after it: the machine then is `after`
pub record TakesImage (m : Machine) (ws : List ℕ) (l l' : Lent) (after : Machine) : Type 0 where
  -- the panel that parking's `restore` returned, by its contract
  pub panel : Panel
  pub is_restored : RestoredAs ws l (Ok panel) l'
  pub machine_is : after ≡ with_panel m panel

pub record Restores (m : Machine) (ws : List ℕ) (l l' : Lent) (r : Step) : Type 0 where
  -- refused, by its format or by the words: the machine and every place of the lent arrays are as before
  pub refused : (r.reply.code ≡ 0 → ⊥) → (r.machine ≡ m) × (l' ≡ l)
  pub taken : r.reply.code ≡ 0 → TakesImage m ws l l' r.machine
