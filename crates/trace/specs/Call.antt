-- What one request makes of the machine and of every lent array. A reply of code 0 says that it is taken.
use Rattle.std.specs.Prelude.{ℕ, ◌≡◌, List, Float, take}
use Rattle.input_state.specs.View.{Lent}
use Rattle.trace_machine.specs.declared.machine.Machine.{Machine}
use Rattle.trace_machine.specs.declared.machine.Step.{Step}
use Rattle.trace_machine.specs.Machine.{lent_of, Resets, Passes}
use Rattle.trace_parking.specs.Calls.{Parks, Restores}
use Rattle.trace_widgets.specs.declared.lent.SetArrays.{SetArrays}
use Rattle.trace.specs.declared.memory.Memory.{Memory}

-- what is lent: the pass's arrays; the set's three; the records of the widgets, 17 words each; the last image
pub record Arrays : Type 0 where
  pub lent : Lent
  pub words : List ℕ
  pub numbers : List ℕ
  pub edges : List Float
  pub records : List ℕ
  pub image : List ℕ

abbrev pub arrays : Lent → List ℕ → List ℕ → List Float → List ℕ → List ℕ → Arrays
arrays l words numbers edges records image = record { lent = l; words = words; numbers = numbers; edges = edges; records = records; image = image }

abbrev pub arrays_of : Memory → Arrays
arrays_of m = arrays (lent_of m.lent) m.«set».words m.«set».numbers m.«set».edges m.«set».lent m.image

-- compare/FORMAT.md: "0 RESET", "1 PASS", "12 PARK", "13 RESTORE_LAST", "14 RESTORE"
abbrev pub reset_kind : ℕ
reset_kind = 0

abbrev pub pass_kind : ℕ
pass_kind = 1

abbrev pub park_kind : ℕ
park_kind = 12

abbrev pub restore_last_kind : ℕ
restore_last_kind = 13

abbrev pub restore_kind : ℕ
restore_kind = 14

-- a call that is none of these: refused, every place of the set's arrays and of the records is as before
pub record Changes (k : SetArrays) (r : Step) (k' : SetArrays) : Type 0 where
  pub refused : (r.reply.code ≡ 0 → ⊥) → (k'.words ≡ k.words) × (k'.numbers ≡ k.numbers) × (k'.edges ≡ k.edges) × (k'.lent ≡ k.lent)

-- one request of this kind with these words, over the arrays a, which are a' after it
pub record Called (m : Machine) (kind : ℕ) (w : List ℕ) (a a' : Arrays) (r : Step) : Type 0 where
  -- refused, whatever its kind: the machine and every place of every lent array are as before
  pub refused : (r.reply.code ≡ 0 → ⊥) → (r.machine ≡ m) × (a' ≡ a)
  -- RESET: by its own contract, of the presses
  pub reset : kind ≡ reset_kind → Resets m w a.lent.presses a'.lent.presses r
  -- PASS: by its own contract, of the pass's arrays
  pub pass : kind ≡ pass_kind → Passes m w a.lent a'.lent r
  -- PARK: the last image is the panel's
  pub park : kind ≡ park_kind → Parks m a.lent a.image a'.image r
  -- RESTORE_LAST: from the words of the last image
  pub restore_last : kind ≡ restore_last_kind → Restores m (take m.parked a.image) a.lent a'.lent r
  -- RESTORE: from the request's words
  pub restore : kind ≡ restore_kind → Restores m w a.lent a'.lent r
