-- What an interact of the host's memory promises: `panel`'s, of what the memory holds.
use Rattle.std.specs.Prelude.{ℕ, ◌≡◌, Bool, List, get_or, Option, Ok, Err, Result}
use Rattle.model.specs.Types.{InteractRefusal}
use Rattle.model.specs.Touch.{TouchState}
use Rattle.touch_state.specs.declared.devices.Devices.{Devices}
use Rattle.touch_state.specs.View.{view}
use Rattle.input_state.specs.declared.clock.Clock.{Clock}
use Rattle.input_state.specs.declared.screen.Screen.{Screen}
use Rattle.input_state.specs.declared.pointer.Pointer.{Pointer}
use Rattle.hit_lists.specs.declared.Hit.{Hit}
use Rattle.widget_index.specs.declared.table.WidgetRects.{WidgetRects}
use Rattle.interaction_state.specs.declared.state.Answer.{Answer}
use Rattle.data.specs.declared.refusal.InteractRefusal.{InteractRefusal}
use Rattle.panel.specs.Steps as Panel
use Rattle.host_interact.specs.declared.HostSnapshot.{HostSnapshot}
use Rattle.host_interact.specs.Held.{interaction_at}
use Rattle.host_interact.specs.Answers.{refusal_of, snapshot_of}

-- the arrays that an interact writes: the interaction's ids and flags, the tally, and the two id buffers
pub record Holding : Type 0 where
  pub ids : List ℕ
  pub flags : List Bool
  pub tally : List ℕ
  pub top : List ℕ
  pub all : List ℕ

abbrev pub holding : List ℕ → List Bool → List ℕ → List ℕ → List ℕ → Holding
holding ids flags tally top all = record { ids = ids; flags = flags; tally = tally; top = top; all = all }

abbrev pub set_of : ℕ → ℕ → WidgetRects
set_of widgets layers = record { widgets = widgets; layers = layers }

-- refused: 01's number and index, and every place of the interaction and the tally as before
pub record Refuses (q : InteractRefusal) (h : Holding) (r : HostSnapshot) (h' : Holding) : Type 0 where
  pub answer : r ≡ refusal_of q
  pub ids_kept : h'.ids ≡ h.ids
  pub flags_kept : h'.flags ≡ h.flags
  pub tally_kept : h'.tally ≡ h.tally

-- taken: the snapshot, and the interaction and the tally for the next interact
pub record Takes (a : Answer) (r : HostSnapshot) (h' : Holding) : Type 0 where
  pub number : r.number ≡ 0
  pub snapshot : snapshot_of r ≡ a.snapshot
  pub interaction : interaction_at h'.ids h'.flags ≡ a.interaction
  pub tally : get_or h'.tally 0 0 ≡ a.tally

abbrev pub Leaves : Result Answer InteractRefusal → Holding → HostSnapshot → Holding → Type 0
Leaves (Err q) h r h' = Refuses q h r h'
Leaves (Ok a) h r h' = Takes a r h'

-- An interact of what the memory holds: `panel`'s, of devices that show those of the memory, with its answer, and what is left of that answer.
pub record Interacts (c : Clock) (s : Screen) (x : Pointer) (vs : List TouchState) (codes presses : List ℕ)
    (set : WidgetRects) (words numbers close within : List ℕ) (click drag : Option Hit) (h : Holding) (r : HostSnapshot) (h' : Holding) : Type 0 where
  pub devices : Devices
  pub devices_are : view devices ≡ vs
  pub answer : Result Answer InteractRefusal
  pub panels : Panel.Interacts c s x devices codes presses (interaction_at h.ids h.flags) (get_or h.tally 0 0) set words numbers close within click drag
      h.top h.all answer h'.top h'.all
  pub leaves : Leaves answer h r h'
