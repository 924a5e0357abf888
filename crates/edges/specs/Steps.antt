-- A case is a list of steps, each with what is expected there; one check computes them on the model. Definitions only.
use Rattle.std.specs.Prelude.{ℕ, Bool, true, false, ◌&&◌, List, [], ◌∷◌, map, eqb, take, drop, Option, None, Some}
use Rattle.std.specs.Float.{binary64}
use Rattle.data.specs.Numbers.{Row, pass_row, insert_row, interact_row}
use Rattle.feed.specs.Encode.{vec_words}
use Rattle.model.specs.Types.{Vec2, WidgetRect}
use Rattle.model.specs.Pass.{Panel, PassInput, Passed, pass}
use Rattle.model.specs.Pass as P
use Rattle.model.specs.Interact.{InteractInput, InteractionSnapshot, Interacted, interact, same_id, is_some, with_interaction}
use Rattle.model.specs.Interact as I
use Rattle.model.specs.Widgets.{WidgetRects, Known, Inserted, insert, find_known}
use Rattle.model.specs.Widgets as W
use Rattle.model.specs.Questions.{Question, Settled, settled, Reply, ask}
use Rattle.edges.specs.Words.{same, reply_words, snapshot_words, widget_words, widgets_words}

-- what an interact answers of drags
pub record Drags : Type 0 where
  pub drag_started : Option ℕ
  pub dragged : Option ℕ
  pub drag_stopped : Option ℕ

pub data Step : Type 0 where
  -- a pass that is taken
  passes : PassInput → Step
  -- a pass that is refused, by 01's row
  refuses_pass : PassInput → Row → Step
  -- a question and its answer
  answers : Settled → Reply → Step
  -- one of the other questions, and its answer
  replies : Question → Reply → Step
  -- the wheel's unprocessed delta, which no question shows
  unprocessed : Vec2 → Step
  -- how many buttons are down, which no question shows
  are_down : ℕ → Step
  -- an interact that is taken, and what it answers of drags; and the whole of its answer
  interacts : InteractInput → Drags → Step
  snapshots : InteractInput → InteractionSnapshot → Step
  -- an interact that is refused
  refuses_interact : InteractInput → Row → Step
  -- the tally is so high from here on: no list that can be evaluated has as many starts
  tallies : ℕ → Step
  -- an insertion that is taken, moved to top or not, and the ids in the lent slice after it
  inserts : Bool → WidgetRect → List ℕ → Step
  -- an insertion that is refused
  refuses_insert : WidgetRect → Row → Step
  -- a widget's id, and its position in its layer
  stands_at : ℕ → ℕ → Step
  -- a widget's record, in the set and in the lent slice
  records : WidgetRect → Step
  -- another slice is lent from here on; the set is another one
  lends : List WidgetRect → Step
  keeps : WidgetRects → Step

-- a panel, and a widget set with the slice that is lent
pub record State : Type 0 where
  pub panel : Panel
  pub widgets : WidgetRects
  pub slice : List WidgetRect

unfoldable pub with_panel : State → Panel → State
with_panel s p = record { panel = p; widgets = s.widgets; slice = s.slice }

unfoldable pub with_widgets : State → WidgetRects → List WidgetRect → State
with_widgets s ws slice = record { panel = s.panel; widgets = ws; slice = slice }

unfoldable pub same_row : Row → Row → Bool
same_row a b = eqb a.number b.number && same_id a.index b.index

unfoldable pub kept_if : Bool → State → Option State
kept_if false s = None
kept_if true s = Some s

-- the state after a step, or none where the step is not as expected
unfoldable pub if_taken : State → Passed → Option State
if_taken s (P.refused r) = None
if_taken s (P.taken p) = Some (with_panel s p)

unfoldable pub if_pass_refused : State → Row → Passed → Option State
if_pass_refused s r (P.refused q) = kept_if (same_row r (pass_row q)) s
if_pass_refused s r (P.taken p) = None

unfoldable pub drags_as : Drags → InteractionSnapshot → Bool
drags_as d a = same_id d.drag_started a.drag_started && (same_id d.dragged a.dragged && same_id d.drag_stopped a.drag_stopped)

unfoldable pub if_drags : State → Drags → Interacted → Option State
if_drags s d (I.refused r) = None
if_drags s d (I.answered a p) = kept_if (drags_as d a) (with_panel s p)

unfoldable pub if_answered : State → InteractionSnapshot → Interacted → Option State
if_answered s b (I.refused r) = None
if_answered s b (I.answered a p) = kept_if (same (snapshot_words a) (snapshot_words b)) (with_panel s p)

unfoldable pub if_interact_refused : State → Row → Interacted → Option State
if_interact_refused s r (I.refused q) = kept_if (same_row r (interact_row q)) s
if_interact_refused s r (I.answered a p) = None

unfoldable pub if_inserted : State → List ℕ → Inserted → Option State
if_inserted s ids (W.refused r) = None
if_inserted s ids (W.inserted i) = kept_if (same (map (λ (w : WidgetRect). w.id) i.slice) ids) (with_widgets s i.widgets i.slice)

unfoldable pub if_insert_refused : State → Row → Inserted → Option State
if_insert_refused s r (W.refused q) = kept_if (same_row r (insert_row q)) s
if_insert_refused s r (W.inserted i) = None

unfoldable pub is_at : ℕ → Option Known → Bool
is_at n None = false
is_at n (Some k) = eqb n k.position

unfoldable pub is_record : WidgetRect → List WidgetRect → Option Known → Bool
is_record w slice None = false
is_record w slice (Some k) = same (widget_words w) (widget_words k.widget) && same (widget_words w) (widgets_words (take 1 (drop k.position slice)))

unfoldable pub is_reply : Question → Reply → Panel → Bool
is_reply q r p = same (reply_words binary64 (ask q p)) (reply_words binary64 r)

unfoldable pub step : State → Step → Option State
step s (passes i) = if_taken s (pass s.panel i)
step s (refuses_pass i r) = if_pass_refused s r (pass s.panel i)
step s (answers q r) = kept_if (is_reply (settled q) r s.panel) s
step s (replies q r) = kept_if (is_reply q r s.panel) s
step s (unprocessed v) = kept_if (same (vec_words s.panel.wheel.unprocessed_wheel_delta) (vec_words v)) s
step s (are_down n) = kept_if (eqb n s.panel.press.held.down.count) s
step s (interacts x d) = if_drags s d (interact s.panel x)
step s (snapshots x a) = if_answered s a (interact s.panel x)
step s (refuses_interact x r) = if_interact_refused s r (interact s.panel x)
step s (tallies n) = Some (with_panel s (with_interaction s.panel s.panel.interaction n))
step s (inserts top w ids) = if_inserted s ids (insert top s.widgets s.slice w)
step s (refuses_insert w r) = if_insert_refused s r (insert false s.widgets s.slice w)
step s (stands_at d n) = kept_if (is_at n (find_known d s.widgets.by_id)) s
step s (records w) = kept_if (is_record w s.slice (find_known w.id s.widgets.by_id)) s
step s (lends slice) = Some (with_widgets s s.widgets slice)
step s (keeps ws) = Some (with_widgets s ws s.slice)

-- once a step is not as expected, the case fails
unfoldable pub go_on : Option State → Step → Option State
go_on None t = None
go_on (Some s) t = step s t

unfoldable pub steps : Option State → List Step → Bool
steps s [] = is_some s
steps s (t ∷ ts) = steps (go_on s t) ts

-- every case, each from the same state
unfoldable pub check_all : State → List (List Step) → Bool
check_all s [] = true
check_all s (c ∷ cs) = steps (Some s) c && check_all s cs
