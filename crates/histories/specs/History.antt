-- Histories of the code: what its passes and interacts answer, call after call, with parkings anywhere between. By their contracts alone every history is the model's,
-- and demand 3 holds of it.
use Rattle.std.specs.Prelude.{ℕ, ◌+◌, ◌≤◌, ◌≡◌, Bool, false, ◌||◌, List, [], ◌∷◌, Float, length, take, Option, None, Ok, Err, Result}
use Rattle.data.specs.Limits.{max_tally}
use Rattle.model.specs.Pass as Model
use Rattle.model.specs.Interact.{InteractInput, InteractionSnapshot}
use Rattle.model.specs.Calls.{Call, passes, interacts, Outcome, refused_interact, passed, answered, of_pass, after, run, outcomes}
use Rattle.theorems.specs.Balance.{one_if_is, starts, stops, last_dragged, all_starts}
use Rattle.theorems.specs.Reach.{Reached}
use Rattle.theorems.specs.Clearing.{Clears, Fair, Since, nothing_since, then_since, Same, When, is_passed, twice}
use Rattle.survey.specs.Survey.{option}
use Rattle.hit_lists.specs.declared.Hit.{Hit}
use Rattle.hit_refusals.specs.Refusals.{input}
use Rattle.widget_index.specs.declared.table.WidgetRects.{WidgetRects}
use Rattle.widget_rect.specs.WellFormed.{WellFormed}
use Rattle.interaction_state.specs.declared.state.Answer.{Answer}
use Rattle.data.specs.declared.refusal.InteractRefusal.{InteractRefusal}
use Rattle.data.specs.declared.refusal.PassRefusal.{PassRefusal}
use Rattle.interaction_state.specs.View.{snapshot_of}
use Rattle.interaction_state.specs.Lookup.{lookup}
use Rattle.input_pass.specs.declared.begin.Begun.{Begun}
use Rattle.input_state.specs.declared.input.PassInput.{PassInput}
use Rattle.input_state.specs.View.{Lent}
use Rattle.input_pass.specs.Begun.{outcome}
use Rattle.input_state.specs.View as Shown
use Rattle.input_pass.specs.Begun as Contract
use Rattle.panel.specs.declared.state.Panel.{Panel}
use Rattle.panel.specs.View.{shown_by, Fresh, after_pass, after_interact}
use Rattle.panel.specs.Steps.{Interacts, widgets_of}
use Rattle.image_form.specs.Form.{taken, read_image, Parkable}
use Rattle.parking.specs.declared.check.ImageRefusal.{ImageRefusal}
use Rattle.parking.specs.Parked.{ParkedAs}
use Rattle.parking.specs.Restored.{RestoredAs}

-- ---- a panel that runs: its records, and what the lent arrays hold
pub record Running : Type 0 where
  pub panel : Panel
  pub lent : Lent

abbrev pub shows : Running → Model.Panel
shows x = shown_by x.lent x.panel

-- as panel's `fresh` returns it, whatever the arrays held before
abbrev pub Starts : Running → Type 0
Starts x = Fresh x.lent.presses x.panel

-- ---- one pass: given these, the call returned r and left the arrays so
abbrev pub Passes : Running → PassInput → List ℕ → Result Begun PassRefusal → Lent → Type 0
Passes x given feed r l = Contract.Begun given feed x.lent x.panel.input x.panel.devices l r

-- then the panel is as panel's `after_pass` returns it
abbrev pub passed_on : Running → Result Begun PassRefusal → Lent → Running
passed_on x r l = record { panel = after_pass x.panel r; lent = l }

-- what it answers: its refusal, or that it is taken
abbrev pub pass_answer : Running → Result Begun PassRefusal → Lent → Outcome
pass_answer x r l = of_pass (outcome (option r) (shows (passed_on x r l)))

-- ---- one interact, with its own widgets, hits and id buffers
pub record Given : Type 0 where
  pub set : WidgetRects
  pub words : List ℕ
  pub numbers : List ℕ
  pub edges : List Float
  pub close : List ℕ
  pub within : List ℕ
  pub click : Option Hit
  pub drag : Option Hit
  pub hovered : List ℕ
  pub contains : List ℕ

abbrev pub interact_input : Given → InteractInput
interact_input g =
    input (lookup g.set g.words g.numbers g.edges) g.close g.within g.click g.drag (length g.hovered) (length g.contains)

-- of a set that the operations made, these widgets are the model's
abbrev pub WidgetsAreTheModels : Type 0
WidgetsAreTheModels =
    (g : Given) → WellFormed g.set g.words g.numbers g.edges → lookup g.set g.words g.numbers g.edges ≡ widgets_of g.set g.words g.numbers g.edges

abbrev pub InteractsAs : Running → Given → Result Answer InteractRefusal → List ℕ → List ℕ → Type 0
InteractsAs x g r hovered contains =
    Interacts x.panel.input.clock x.panel.input.screen x.panel.input.pointer x.panel.devices x.lent.codes x.lent.presses x.panel.interaction
    x.panel.tally g.set g.words g.numbers g.close g.within g.click g.drag g.hovered g.contains r hovered contains

-- then the panel is as panel's `after_interact` returns it
abbrev pub interacted_on : Running → Result Answer InteractRefusal → Running
interacted_on x r = record { panel = after_interact x.panel r; lent = x.lent }

-- what it answers: its refusal, or the snapshot with the ids written
abbrev pub interact_answer : Running → Result Answer InteractRefusal → List ℕ → List ℕ → Outcome
interact_answer x (Err why) hovered contains = refused_interact why
interact_answer x (Ok a) hovered contains = answered (snapshot_of a.snapshot hovered contains) (shows (interacted_on x (Ok a)))

-- ---- one parking: the words that parking's `park` wrote of panel x into a buffer that was long enough
pub record Parks (x : Running) (words : List ℕ) : Type 0 where
  pub before : List ℕ
  pub buffer : List ℕ
  pub count : ℕ
  pub ensured : ParkedAs (shows x) before buffer (Ok count)
  pub written : words ≡ take count buffer

-- ---- one restoring: given these words and panel x's arrays, `restore` returned r and left the arrays so
abbrev pub Restores : Running → List ℕ → Result Panel ImageRefusal → Lent → Type 0
Restores x words r l = RestoredAs words x.lent r l

-- then the panel is the one that it returned; refused, the one before
abbrev pub restored_on : Running → Result Panel ImageRefusal → Lent → Running
restored_on x (Ok p) l = record { panel = p; lent = l }
restored_on x (Err why) l = record { panel = x.panel; lent = l }

-- ---- a history: panel x gets the calls, gives the answers and is then y
pub data History : Running → List Call → List Outcome → Running → Type 0 where
  rests : {x : Running} → History x [] [] x
  then_pass : {x y : Running} {calls : List Call} {answers : List Outcome} (given : PassInput) (feed : List ℕ) (r : Result Begun PassRefusal) (l : Lent)
      → Passes x given feed r l → History (passed_on x r l) calls answers y
      → History x (passes (Shown.input feed given) ∷ calls) (pass_answer x r l ∷ answers) y
  then_interact : {x y : Running} {calls : List Call} {answers : List Outcome} (g : Given) (r : Result Answer InteractRefusal) (hovered contains : List ℕ)
      → InteractsAs x g r hovered contains → History (interacted_on x r) calls answers y
      → History x (interacts (interact_input g) ∷ calls) (interact_answer x r hovered contains ∷ answers) y
  -- 02 A.6: "A panel restored from an image that parking wrote has the past of the parked one". Neither is a call; the panel that is restored, on this
  -- board or on another, may be any
  then_parked : {x y : Running} {calls : List Call} {answers : List Outcome} (words : List ℕ) (other : Running) (r : Result Panel ImageRefusal) (p : Panel) (l : Lent)
      → Parks x words → Restores other words r l → r ≡ Ok p → History (restored_on other r l) calls answers y → History x calls answers y
  -- a refused restoring, of any words
  then_refused : {x y : Running} {calls : List Call} {answers : List Outcome} (words : List ℕ) (r : Result Panel ImageRefusal) (why : ImageRefusal) (l : Lent)
      → Restores x words r l → r ≡ Err why → History (restored_on x r l) calls answers y → History x calls answers y

-- ---- every history is the model's
pub record IsRun (x : Running) (calls : List Call) (answers : List Outcome) (y : Running) : Type 0 where
  pub answers_are : answers ≡ outcomes (shows x) calls
  pub panel_is : shows y ≡ run (shows x) calls

abbrev pub EveryHistoryIsRun : Type 0
EveryHistoryIsRun = (x y : Running) (calls : List Call) (answers : List Outcome) → Starts x → History x calls answers y → IsRun x calls answers y

-- so a running panel has what every panel reached has: theorems' `Reached`
abbrev pub HistoriesReach : Type 0
HistoriesReach = (x y : Running) (calls : List Call) (answers : List Outcome) → Starts x → History x calls answers y → Reached (shows y)

-- 02 A.6: what the operations gave is within an image's ranges
abbrev pub EveryRunIsParkable : Type 0
EveryRunIsParkable = (calls : List Call) → Parkable (run Model.fresh calls)

-- "Reading back what was written of a panel that the operations gave yields that state"
abbrev pub HistoriesReadBack : Type 0
HistoriesReadBack =
    (x y : Running) (calls : List Call) (answers : List Outcome) → Starts x → History x calls answers y
    → (words : List ℕ) → Parks y words → read_image words ≡ taken (shows y)

-- ---- demand 3, first half, of what the code answers and keeps
pub record Balanced (answers : List Outcome) (y : Running) (widget : ℕ) : Type 0 where
  pub starts_less_stops : starts widget answers ≡ stops widget answers + one_if_is widget (last_dragged None answers)
  pub dragged_is_last : y.panel.interaction.dragged ≡ last_dragged None answers
  pub tally_counts_starts : y.panel.tally ≡ all_starts answers
  pub tally_fits : y.panel.tally ≤ max_tally

-- For every history of a panel from `fresh` on, refused calls included, and every widget.
abbrev pub HistoriesBalance : Type 0
HistoriesBalance = (x y : Running) (calls : List Call) (answers : List Outcome) → Starts x → History x calls answers y → (widget : ℕ) → Balanced answers y widget

-- ---- demand 3, second half: one of the two panels, with its past, the clearing pass and its interact, both taken, and the later list
pub record Life (past : List Call) (c : Model.PassInput) (x : InteractInput) (later : List Call) : Type 0 where
  pub start : Running
  pub starts : Starts start
  pub past_answers : List Outcome
  pub before : Running
  pub past_history : History start past past_answers before
  pub cleared_panel : Model.Panel
  pub snapshot : InteractionSnapshot
  pub panel : Model.Panel
  pub cleared : Running
  pub clearing_history : History before (passes c ∷ interacts x ∷ []) (passed cleared_panel ∷ answered snapshot panel ∷ []) cleared
  pub answers : List Outcome
  pub end : Running
  pub later_history : History cleared later answers end

-- "from the next taken pass on all their later answers are equal", and so are the replies to every question asked after them: theorems' `Alike`, of what
-- the two panels answered
abbrev pub AnswerAlike : Bool → Since → Model.Panel → Model.Panel → List Outcome → List Outcome → Type 0
AnswerAlike came since p q [] [] = Unit {0}
AnswerAlike came since p q [] (b ∷ more) = ⊥
AnswerAlike came since p q (a ∷ more) [] = ⊥
AnswerAlike came since p q (a ∷ more) (b ∷ more') =
    When (is_passed a || came) (Same (then_since a since) p q a b) × AnswerAlike (is_passed a || came) (then_since a since) (after p a) (after q b) more more'

-- Two panels with any two pasts, the same clearing pass, the same interact and the same later list.
abbrev pub HistoriesClear : Type 0
HistoriesClear =
    (past₁ past₂ later : List Call) (c : Model.PassInput) (x : InteractInput) (one : Life past₁ c x later) (two : Life past₂ c x later)
    (clears : Clears c (shows one.before) (shows two.before))
    → Fair (λ o. o ≡ c.options) (twice c.options.max_double_click_delay) clears.time false (shows one.cleared) (shows two.cleared) later
    → AnswerAlike false nothing_since (shows one.cleared) (shows two.cleared) one.answers two.answers
