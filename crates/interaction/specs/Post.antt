-- What an interact promises.
use Rattle.std.specs.Prelude.{ℕ, ◌≡◌, List, drop, Option, None, Some, Ok, Err, Result}
use Rattle.data.specs.Numbers.{Row, interact_row}
use Rattle.model.specs.Types.{InteractRefusal}
use Rattle.model.specs.Pass as Pass
use Rattle.model.specs.Interact as Model
use Rattle.id_set.specs.Ids.{Written}
use Rattle.id_lists.specs.Ids.{hovered_ids, contains_ids}
use Rattle.interaction.specs.Types.{Hit, Outcome, Answer, InteractRefusal}
use Rattle.interaction_state.specs.View.{interaction_of, snapshot_of}

-- the snapshot but for the two id sets, and the interaction state after it
pub record Answers (v : Model.Seen) (x : Model.InteractInput) (s : Pass.Interaction) (r : Outcome) : Type 0 where
  pub clicked : r.clicked ≡ (Model.snapshot v x s).clicked
  pub long_touched : r.long_touched ≡ (Model.snapshot v x s).long_touched
  pub drag_started : r.drag_started ≡ (Model.snapshot v x s).drag_started
  pub drag_stopped : r.drag_stopped ≡ (Model.snapshot v x s).drag_stopped
  pub interaction : interaction_of r.interaction ≡ Model.interaction_after v x s

-- the answer with the two id sets written
pub record Answered (o : Outcome) (tally : ℕ) (close within : List ℕ) (click drag : Option Hit) (hovered contains : List ℕ) (r : Answer) (hovered' contains' : List ℕ)
    : Type 0 where
  pub clicked : r.snapshot.clicked ≡ o.clicked
  pub long_touched : r.snapshot.long_touched ≡ o.long_touched
  pub drag_started : r.snapshot.drag_started ≡ o.drag_started
  pub dragged : r.snapshot.dragged ≡ o.interaction.dragged
  pub drag_stopped : r.snapshot.drag_stopped ≡ o.drag_stopped
  pub interaction : r.interaction ≡ o.interaction
  pub tally_is : r.tally ≡ tally
  pub hovered_written : Written (hovered_ids close within click drag o.clicked o.interaction.dragged o.long_touched) hovered r.snapshot.hovered hovered'
  pub contains_written : Written (contains_ids within click drag) contains r.snapshot.contains_pointer contains'

-- 01's number and index of a refused interact; a taken one has none
abbrev pub row_of : Model.Interacted → Option Row
row_of (Model.refused why) = Some (interact_row why)
row_of (Model.answered a p) = None

-- Refused, with the model's refusal: both id buffers are as before. The panel, the tally and the widget set are not written by any interact.
pub record Refuses (model : Model.Interacted) (why : InteractRefusal) (hovered contains hovered' contains' : List ℕ) : Type 0 where
  pub answer : model ≡ Model.refused why
  -- 01's number and index of this answer are those of the model's
  pub row : row_of model ≡ Some (interact_row why)
  pub hovered_kept : hovered' ≡ hovered
  pub contains_kept : contains' ≡ contains

-- Taken, with the model's snapshot, interaction state and tally: the places beyond the lists written keep their contents.
pub record Takes (p : Pass.Panel) (model : Model.Interacted) (a : Answer) (hovered contains hovered' contains' : List ℕ) : Type 0 where
  pub answer : model ≡ Model.answered (snapshot_of a.snapshot hovered' contains') (Model.with_interaction p (interaction_of a.interaction) a.tally)
  -- no row of 01's refusals
  pub row : row_of model ≡ None
  pub hovered_kept : drop a.snapshot.hovered hovered' ≡ drop a.snapshot.hovered hovered
  pub contains_kept : drop a.snapshot.contains_pointer contains' ≡ drop a.snapshot.contains_pointer contains

-- an interact of panel p that the model answers so
abbrev pub Interacts : Pass.Panel → Model.Interacted → Result Answer InteractRefusal → List ℕ → List ℕ → List ℕ → List ℕ → Type 0
Interacts p model (Err why) hovered contains hovered' contains' = Refuses model why hovered contains hovered' contains'
Interacts p model (Ok a) hovered contains hovered' contains' = Takes p model a hovered contains hovered' contains'
