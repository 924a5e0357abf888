-- What the parts of an interact come to, in the model's terms. Assumes nothing.
use Rattle.std.specs.Prelude.{Option, None, Some}
use Rattle.std.specs.Option as now
use Prim.Native.Nat.{ℕ, ◌+◌, ◌≤◌}
use mathlib.Core.Path.{◌≡◌, refl, sym, ap, ◌∙◌}
use mathlib.Core.Bool.{Bool, true, false, cond, ◌&&◌}
use mathlib.Core.List.{List}
use native.Mathlib.Omega.{arith}
use lib.Dec.{leb}
use lib.ListN.{length, take}
use borrow.Author.Tests.{leb-true}
use Rattle.data.specs.Limits.{max_tally, max_hits, id_places}
use Rattle.model.specs.Types.{WidgetRect, PointerEvent, InteractRefusal}
use Rattle.model.specs.Types.interaction.{ShortBuffer, TallyFull}
use Rattle.model.specs.Pass.{Panel, or_else}
use Rattle.model.specs.Interact as Model
use Rattle.model.specs.Interact.{InteractInput, is_some, one_if, if_changed, walked, interaction_after, snapshot, tallied, tallied_by, tally_after, tally_refusal, interact_by, interact_seen, refused, answered, with_interaction}
use Rattle.model.specs.Interact.{input_refusal, buffers_refusal, hits_refusal, hit_refusal, hovered_of, contains_pointer_of}
use Rattle.hit_lists.specs.Hits.{hits_of}
use Rattle.hit_refusals.specs.Refusals.{input, unknown}
use Rattle.hit_refusals.proofs.Entries.{not_too_many}
use Rattle.id_lists.specs.Ids.{hovered_ids, contains_ids}
use Rattle.id_set.proofs.Written.{list}
use lib.Ieee.{Float}
use Rattle.interaction_state.specs.Lookup.{lookup}
use Rattle.interaction.specs.Types.{WidgetRects, Hit, Interaction, Seen, Going, Outcome, Answer}
use Rattle.interaction_state.specs.View.{interaction_of, snapshot_of, kept_after}
use Rattle.interaction_events.specs.View.{going_of, seen_of, Looks}
use Rattle.interaction.specs.Post.{Answers, Answered}

-- ---- the answer before anything is written

module _ (u : Seen) (es : List PointerEvent) (x : InteractInput) (s : Interaction) (r : Outcome) (g : Going)
    (walks : going_of g ≡ walked (seen_of u es) x (interaction_of s))
    (keeps : interaction_of r.interaction ≡ kept_after u x (interaction_of g.interaction)) where
  after : interaction_of r.interaction ≡ interaction_after (seen_of u es) x (interaction_of s)
  unfolding interaction_after kept_after seen_of going_of
  after = keeps ∙ ap (λ (t : Model.Going). kept_after u x t.interaction) walks

  dragged_is : r.interaction.dragged ≡ (interaction_after (seen_of u es) x (interaction_of s)).dragged
  unfolding interaction_of
  dragged_is = ap (λ t. t.dragged) after

  pub answers : r.clicked ≡ g.clicked → r.long_touched ≡ g.long_touched
      → r.drag_started ≡ if_changed s.dragged r.interaction.dragged r.interaction.dragged
      → r.drag_stopped ≡ if_changed s.dragged r.interaction.dragged s.dragged
      → Answers (seen_of u es) x (interaction_of s) r
  unfolding snapshot going_of interaction_of
  answers a b c d =
      record {
        clicked = a ∙ ap (λ (t : Model.Going). t.clicked) walks;
        long_touched = b ∙ ap (λ (t : Model.Going). t.long_touched) walks;
        drag_started = c ∙ ap (λ (n : Option ℕ). if_changed s.dragged n n) dragged_is;
        drag_stopped = d ∙ ap (λ (n : Option ℕ). if_changed s.dragged n s.dragged) dragged_is;
        interaction = after;
      }

-- ---- refusal 10, or taken

module _ (u : Seen) (es : List PointerEvent) (p : Panel) (x : InteractInput) (s : Interaction) (tally : ℕ) (o : Outcome)
    (state : p.interaction ≡ interaction_of s) (counts : p.tally ≡ tally)
    (a : Answers (seen_of u es) x (interaction_of s) o) where
  started : (snapshot (seen_of u es) x p.interaction).drag_started ≡ o.drag_started
  started = cc a.drag_started

  pub refuses : (is_some o.drag_started && leb max_tally tally) ≡ true → interact_by None (seen_of u es) p x ≡ refused TallyFull
  unfolding interact_by tallied tallied_by tally_after tally_refusal
  refuses h = rw (started, counts, h)

  pub takes : (is_some o.drag_started && leb max_tally tally) ≡ false
      → interact_by None (seen_of u es) p x
      ≡ answered (snapshot (seen_of u es) x p.interaction)
      (with_interaction p (interaction_after (seen_of u es) x p.interaction) (tally + one_if o.drag_started))
  unfolding interact_by tallied tallied_by tally_after tally_refusal
  takes h = rw (started, counts, h)

-- a snapshot is its seven parts
same_snapshot : (a b : Model.InteractionSnapshot) → a.clicked ≡ b.clicked → a.long_touched ≡ b.long_touched → a.drag_started ≡ b.drag_started
    → a.dragged ≡ b.dragged → a.drag_stopped ≡ b.drag_stopped → a.hovered ≡ b.hovered → a.contains_pointer ≡ b.contains_pointer → a ≡ b
same_snapshot a b c d e f g h i =
    let q : make a.clicked a.long_touched a.drag_started a.dragged a.drag_stopped a.hovered a.contains_pointer
    ≡ make b.clicked b.long_touched b.drag_started b.dragged b.drag_stopped b.hovered b.contains_pointer = cc in q
  where
    make : Option ℕ → Option ℕ → Option ℕ → Option ℕ → Option ℕ → List ℕ → List ℕ → Model.InteractionSnapshot
    make c d e f g h i =
        record { clicked = c; long_touched = d; drag_started = e; dragged = f; drag_stopped = g; hovered = h; contains_pointer = i }

module _ (widgets : ℕ → Option WidgetRect) (close within : List ℕ) (click drag : Option Hit) (h c : ℕ) where
  abbrev x : InteractInput
  x = input widgets close within click drag h c

  -- the sets read only these parts of the input
  hovered_is : (k d t : Option ℕ) → hovered_of x k d t ≡ hovered_ids close within click drag k d t
  unfolding hovered_of input
  hovered_is k d t = refl

  contains_is : contains_pointer_of x ≡ contains_ids within click drag
  unfolding contains_pointer_of input
  contains_is = refl

  module _ (v : Model.Seen) (s : Interaction) (o : Outcome) (a : Answers v x (interaction_of s) o) (n : ℕ)
      (top all : List ℕ) (r : Answer) (top' all' : List ℕ) (w : Answered o n close within click drag top all r top' all') where
    now_dragged : (interaction_after v x (interaction_of s)).dragged ≡ o.interaction.dragged
    unfolding interaction_of
    now_dragged = ap (λ t. t.dragged) (sym a.interaction)

    hovered_part : (snapshot v x (interaction_of s)).hovered ≡ take r.snapshot.hovered top'
    unfolding snapshot
    hovered_part =
        let k : (walked v x (interaction_of s)).clicked ≡ o.clicked = sym a.clicked in
        let t : (walked v x (interaction_of s)).long_touched ≡ o.long_touched = sym a.long_touched in
        let e : hovered_of x (walked v x (interaction_of s)).clicked (interaction_after v x (interaction_of s)).dragged (walked v x (interaction_of s)).long_touched
        ≡ hovered_of x o.clicked o.interaction.dragged o.long_touched = cc now_dragged in
        e ∙ (hovered_is o.clicked o.interaction.dragged o.long_touched ∙ sym (list _ _ _ _ w.hovered_written))

    contains_part : (snapshot v x (interaction_of s)).contains_pointer ≡ take r.snapshot.contains_pointer all'
    unfolding snapshot
    contains_part = contains_is ∙ sym (list _ _ _ _ w.contains_written)

    dragged_part : (snapshot v x (interaction_of s)).dragged ≡ o.interaction.dragged
    unfolding snapshot
    dragged_part = now_dragged

    pub snapshot_is : snapshot v x (interaction_of s) ≡ snapshot_of r.snapshot top' all'
    unfolding snapshot_of
    snapshot_is =
        same_snapshot _ _
        (sym a.clicked ∙ (sym w.clicked))
        (sym a.long_touched ∙ (sym w.long_touched))
        (sym a.drag_started ∙ (sym w.drag_started))
        (dragged_part ∙ (sym w.dragged))
        (sym a.drag_stopped ∙ (sym w.drag_stopped))
        hovered_part
        contains_part

    pub state_is : interaction_after v x (interaction_of s) ≡ interaction_of r.interaction
    state_is = sym a.interaction ∙ ap interaction_of (sym w.interaction)

  -- ---- the first refusals

  same_refusal : input_refusal x ≡ input_refusal (input unknown close within click drag h c)
  unfolding input_refusal buffers_refusal input
  same_refusal = refl

  pub refused_by : (v : Model.Seen) (p : Panel) (r : InteractRefusal) → input_refusal (input unknown close within click drag h c) ≡ Some r → interact_seen v p x ≡ refused r
  unfolding interact_seen interact_by
  refused_by v p r e = rw (same_refusal, e)

  pub accepted : (v : Model.Seen) (p : Panel) → input_refusal (input unknown close within click drag h c) ≡ None → interact_seen v p x ≡ interact_by None v p x
  unfolding interact_seen
  accepted v p e = rw (same_refusal, e)

-- a taken interact, with what was written
pub taken : (u : Seen) (es : List PointerEvent) (p : Panel) (widgets : ℕ → Option WidgetRect) (close within : List ℕ) (click drag : Option Hit) (h c : ℕ)
    (s : Interaction) (tally : ℕ) (o : Outcome) → p.interaction ≡ interaction_of s → p.tally ≡ tally
    → Answers (seen_of u es) (input widgets close within click drag h c) (interaction_of s) o
    → (is_some o.drag_started && leb max_tally tally) ≡ false → (n : ℕ) → n ≡ tally + one_if o.drag_started
    → (top all : List ℕ) (r : Answer) (top' all' : List ℕ) → Answered o n close within click drag top all r top' all'
    → interact_by None (seen_of u es) p (input widgets close within click drag h c)
    ≡ answered (snapshot_of r.snapshot top' all') (with_interaction p (interaction_of r.interaction) r.tally)
taken u es p widgets close within click drag h c s tally o state counts a f n q top all r top' all' w =
    let y = input widgets close within click drag h c in
    let e₁ : snapshot (seen_of u es) y p.interaction ≡ snapshot_of r.snapshot top' all' =
    cc (snapshot_is widgets close within click drag h c (seen_of u es) s o a n top all r top' all' w) in
    let e₂ : interaction_after (seen_of u es) y p.interaction ≡ interaction_of r.interaction =
    cc (state_is widgets close within click drag h c (seen_of u es) s o a n top all r top' all' w) in
    let e₃ : tally + one_if o.drag_started ≡ r.tally = sym q ∙ sym w.tally_is in
    takes u es p y s tally o state counts a f ∙ cc

both_none : {A : Type 0} (a b : Option A) → or_else a b ≡ None → (a ≡ None) × (b ≡ None)
unfolding or_else
both_none None b e = (refl, e)
both_none (Some r) b e = let z : ◌≡◌ {A = ℕ} 0 1 = cc in absurd (omega arith)

long_enough : (t u : Bool) → cond (t && u) None (Some ShortBuffer) ≡ None → (t ≡ true) × (u ≡ true)
long_enough true true e = (refl, refl)
long_enough true false e = let z : ◌≡◌ {A = ℕ} 0 1 = cc in absurd (omega arith)
long_enough false u e = let z : ◌≡◌ {A = ℕ} 0 1 = cc in absurd (omega arith)

pub sized : (close within : List ℕ) (click drag : Option Hit) (h c : ℕ) → input_refusal (input unknown close within click drag h c) ≡ None
    → (id_places ≤ h) × (id_places ≤ c) × (length (hits_of within) ≤ max_hits)
unfolding input_refusal buffers_refusal input
sized close within click drag h c e =
    let f = both_none _ _ e in
    let b = long_enough (leb id_places h) (leb id_places c) f.0 in
    let g = both_none _ _ (both_none _ _ f.1).1 in
    (leb-true _ _ b.0, leb-true _ _ b.1, not_too_many max_hits 0 (hits_of within) g.0)

-- the model's input that is the one given
pub looks : (set : WidgetRects) (words numbers : List ℕ) (edges : List Float) (close within : List ℕ) (click drag : Option Hit) (h c : ℕ)
    → Looks (input (lookup set words numbers edges) close within click drag h c) set words numbers click drag
unfolding input
looks set words numbers edges close within click drag h c = record { edges = edges; widgets = refl; click_hit = refl; drag_hit = refl }

pub within_is : (widgets : ℕ → Option WidgetRect) (close within : List ℕ) (click drag : Option Hit) (h c : ℕ)
    → (input widgets close within click drag h c).contains_pointer ≡ hits_of within
unfolding input
within_is widgets close within click drag h c = refl

pub same_is_some : {A : Type 0} (o : Option A) → now.is_some o ≡ is_some o
unfolding is_some
same_is_some None = refl
same_is_some (Some a) = refl
