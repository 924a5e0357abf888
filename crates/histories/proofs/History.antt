-- Every history of the code is the model's, and demand 3 holds of it. Assumes nothing.
use Rattle.std.specs.Prelude.{Option, None, Some, Ok, Err, Result}
use Prim.Native.Nat.{ℕ, ◌≤◌}
use mathlib.Core.Path.{◌≡◌, refl, sym, ◌∙◌, ap, ap₂, subst, subst₂}
use mathlib.Core.Bool.{Bool, false, ◌||◌}
use mathlib.Core.List.{List, [], ◌∷◌}
use native.Mathlib.Omega.{arith}
use borrow.Author.Rules.{rules}
use Rattle.data.specs.Limits.{max_tally}
use Rattle.model.specs.Types.{PassRefusal}
use Rattle.model.specs.Touch.{InOrder}
use Rattle.model.specs.Pointer.{CountTrue}
use Rattle.model.specs.Pass.{Panel, PassInput, fresh}
use Rattle.model.specs.Interact.{InteractInput, InteractionSnapshot, with_interaction}
use Rattle.model.specs.Calls.{Call, passes, interacts, Outcome, passed, answered, of_pass, of_interact, call, after, run, outcomes}
use Rattle.theorems.specs.Balance as Model
use Rattle.theorems.specs.Clearing.{Clears, Takes, Fair, Since, nothing_since, then_since, is_passed, Alike, twice}
use Rattle.theorems.specs.Reach.{Reached}
use Rattle.theorems.proofs.Reach.{reach, runs_keep_count}
use Rattle.theorems.proofs.Balance.{balance}
use Rattle.theorems.proofs.Clearing.{clearing}
use Rattle.survey.specs.Survey.{option}
use Rattle.touch_state.specs.declared.devices.Devices.{Devices}
use Rattle.touch_state.specs.View.{view}
use Rattle.interaction_state.specs.declared.state.Answer.{Answer}
use Rattle.data.specs.declared.refusal.InteractRefusal.{InteractRefusal}
use Rattle.interaction_state.specs.View.{interaction_of}
use Rattle.input_pass.specs.declared.begin.Begun.{Begun}
use Rattle.input_state.specs.declared.input.PassInput as Declared
use Rattle.panel.specs.declared.state.Panel as Restored
use Rattle.input_state.specs.declared.state.InputState.{InputState}
use Rattle.input_state.specs.View.{Lent}
use Rattle.input_pass.specs.Begun.{outcome}
use Rattle.input_state.specs.View as Shown
use Rattle.input_pass.specs.Begun as Contract
use Rattle.panel.specs.View.{shown_by}
use Rattle.panel.specs.Steps.{ShowsInput}
use Rattle.panel.proofs.Lookup.{looked_up}
use Rattle.image_ranges.specs.Ranges.{Ranged}
use Rattle.image_ranges.proofs.Ranges.{runs_stay_in_range, every_run_is_in_range}
use Rattle.image_form.specs.Form.{taken, read_image, Parkable}
use Rattle.image_form.proofs.Whole.{same_panel}
use Rattle.parking.specs.declared.check.ImageRefusal.{ImageRefusal}
use Rattle.parking.specs.declared.check.ImageRefusal.TheVariants.{FirstWord, Word}
use Rattle.histories.specs.History.{Running, shows, Starts, Passes, passed_on, pass_answer, Given, interact_input, InteractsAs, interacted_on, interact_answer, Parks, Restores, restored_on}
use Rattle.histories.specs.History.{History, rests, then_pass, then_interact, then_parked, then_refused, WidgetsAreTheModels, IsRun, EveryHistoryIsRun, HistoriesReach, EveryRunIsParkable, HistoriesReadBack}
use Rattle.histories.specs.History.{Balanced, HistoriesBalance, Life, AnswerAlike, HistoriesClear}

-- ---- one call of the code is the model's call
record Stepped (x : Running) (c : Call) (a : Outcome) (y : Running) : Type 0 where
  answer : a ≡ call (shows x) c
  panel : shows y ≡ after (shows x) a
  in_order : InOrder (view y.panel.devices)

refuses : (x : Running) (given : Declared.PassInput) (feed : List ℕ) (why : PassRefusal) (l : Lent) → Passes x given feed (Err why) l
    → Contract.refusal_of given feed x.panel.input.clock.time (view x.panel.devices) ≡ None → ⊥
unfolding option
refuses x given feed why l h n = let z : ◌≡◌ {A = ℕ} 0 1 = cc h.refusal in omega arith

pass_step : (x : Running) (given : Declared.PassInput) (feed : List ℕ) (r : Result Begun PassRefusal) (l : Lent) → InOrder (view x.panel.devices) → Passes x given feed r l
    → Stepped x (passes (Shown.input feed given)) (pass_answer x r l) (passed_on x r l)
unfolding call of_pass outcome after option
pass_step x given feed (Ok b) l o h =
    record { answer = ap of_pass (h.whole o (interaction_of x.panel.interaction) x.panel.tally); panel = refl; in_order = h.in_order o }
pass_step x given feed (Err why) l o h =
    record {
      answer = ap of_pass (h.whole o (interaction_of x.panel.interaction) x.panel.tally);
      panel = ap (λ (m : Lent). shown_by m x.panel) (h.refused (refuses x given feed why l h)).2;
      in_order = o;
    }

shows_itself : (x : Running)
    → ShowsInput x.panel.input.clock x.panel.input.screen x.panel.input.pointer x.panel.devices x.lent.codes x.lent.presses (shows x)
shows_itself x =
    record {
      clock_is = refl;
      screen_is = refl;
      times = x.lent.times;
      positions = x.lent.positions;
      place_is = refl;
      places = x.lent.places;
      press_is = refl;
      started_is = refl;
      devices_are = refl;
      other_keys = x.panel.input.keys;
      keys_are = refl;
    }

interact_step : (x : Running) (g : Given) (r : Result Answer InteractRefusal) (hovered contains : List ℕ) → InOrder (view x.panel.devices) → InteractsAs x g r hovered contains
    → Stepped x (interacts (interact_input g)) (interact_answer x r hovered contains) (interacted_on x r)
unfolding call of_interact after with_interaction
interact_step x g (Err why) hovered contains o h =
    record { answer = sym (ap of_interact (h.own (shows x) (shows_itself x) refl refl g.edges).answer); panel = refl; in_order = o }
interact_step x g (Ok a) hovered contains o h =
    record { answer = sym (ap of_interact (h.own (shows x) (shows_itself x) refl refl g.edges).answer); panel = refl; in_order = o }

pub widgets_are_the_models : WidgetsAreTheModels
widgets_are_the_models g wf = sym (looked_up g.set g.words g.numbers g.edges wf)

-- ---- a panel that is restored shows what the parked one showed
reads_back : (x : Running) (words : List ℕ) → Parkable (shows x) → Parks x words → read_image words ≡ taken (shows x)
reads_back x words o p = ap read_image p.written ∙ p.ensured.3 o

no_error : {why : ImageRefusal} {p : Restored.Panel} → ◌≡◌ {A = Result Restored.Panel ImageRefusal} (Err why) (Ok p) → ⊥
no_error e = search rules

restored_shows : (x other : Running) (words : List ℕ) (r : Result Restored.Panel ImageRefusal) (p : Restored.Panel) (l : Lent) → Parkable (shows x) → Parks x words → Restores other words r l → r ≡ Ok p
    → shows (restored_on other r l) ≡ shows x
restored_shows x other words (Ok q) p l o k h e = same_panel (shows (restored_on other (Ok q) l)) (shows x) (sym h.answered ∙ reads_back x words o k)
restored_shows x other words (Err why) p l o k h e = absurd (no_error e)

-- refused, it shows what it showed
refused_shows : (x : Running) (words : List ℕ) (r : Result Restored.Panel ImageRefusal) (why : ImageRefusal) (l : Lent) → Restores x words r l → r ≡ Err why → shows (restored_on x r l) ≡ shows x
refused_shows x words (Ok q) why l h e = absurd (no_error (sym e))
refused_shows x words (Err FirstWord) why l h e = ap (λ (m : Lent). shown_by m x.panel) h.lent
refused_shows x words (Err (Word i)) why l h e = ap (λ (m : Lent). shown_by m x.panel) h.lent

-- ---- a whole history
joins : (p p' q : Panel) (c : Call) (a : Outcome) (calls : List Call) (answers : List Outcome) → a ≡ call p c → p' ≡ after p a → answers ≡ outcomes p' calls → q ≡ run p' calls
    → (a ∷ answers ≡ outcomes p (c ∷ calls)) × (q ≡ run p (c ∷ calls))
unfolding outcomes run
joins p p' q c a calls answers e f g h = (ap₂ (λ (b : Outcome) (l : List Outcome). b ∷ l) e (g ∙ ap (λ (r : Panel). outcomes r calls) on), h ∙ ap (λ (r : Panel). run r calls) on)
  where
    on : p' ≡ after p (call p c)
    on = f ∙ ap (after p) e

-- a call leaves a panel that can be parked
stepped_parkable : (x y : Running) (c : Call) (a : Outcome) → Parkable (shows x) → Stepped x c a y → Parkable (shows y)
unfolding run
stepped_parkable x y c a o s =
    let e : shows y ≡ after (shows x) (call (shows x) c) = s.panel ∙ ap (after (shows x)) s.answer in
    record {
      in_range = subst Ranged (sym e) (runs_stay_in_range (shows x) o.in_range (c ∷ []));
      in_order = s.in_order;
      count_true = subst (λ (q : Panel). CountTrue q.press.held.down) (sym e) (runs_keep_count (shows x) o.count_true (c ∷ []));
    }

record Followed (x : Running) (calls : List Call) (answers : List Outcome) (y : Running) : Type 0 where
  is_run : IsRun x calls answers y
  parkable : Parkable (shows y)

extended : {x y z : Running} {c : Call} {a : Outcome} {calls : List Call} {answers : List Outcome} → Stepped x c a y → Followed y calls answers z → Followed x (c ∷ calls) (a ∷ answers) z
extended {x} {y} {z} {c} {a} {calls} {answers} s f =
    record { is_run = record { answers_are = both.0; panel_is = both.1 }; parkable = f.parkable }
  where
    both : (a ∷ answers ≡ outcomes (shows x) (c ∷ calls)) × (shows z ≡ run (shows x) (c ∷ calls))
    both = joins (shows x) (shows y) (shows z) c a calls answers s.answer s.panel f.is_run.answers_are f.is_run.panel_is

-- a panel that shows the same goes on the same
shown_again : {x y z : Running} {calls : List Call} {answers : List Outcome} → shows y ≡ shows x → Followed y calls answers z → Followed x calls answers z
shown_again {x} {y} {z} {calls} {answers} e f =
    record {
      is_run = record { answers_are = f.is_run.answers_are ∙ ap (λ (p : Panel). outcomes p calls) e; panel_is = f.is_run.panel_is ∙ ap (λ (p : Panel). run p calls) e };
      parkable = f.parkable;
    }

follows : {x y : Running} {calls : List Call} {answers : List Outcome} → Parkable (shows x) → History x calls answers y → Followed x calls answers y
unfolding run outcomes
follows o rests = record { is_run = record { answers_are = refl; panel_is = refl }; parkable = o }
follows {x} o (then_pass given feed r l h rest) =
    let s = pass_step x given feed r l o.in_order h in
    extended s (follows (stepped_parkable x _ _ _ o s) rest)
follows {x} o (then_interact g r hovered contains h rest) =
    let s = interact_step x g r hovered contains o.in_order h in
    extended s (follows (stepped_parkable x _ _ _ o s) rest)
follows {x} o (then_parked words other r p l k h e rest) =
    let s = restored_shows x other words r p l o k h e in
    shown_again s (follows (subst Parkable (sym s) o) rest)
follows {x} o (then_refused words r why l h e rest) = let s = refused_shows x words r why l h e in shown_again s (follows (subst Parkable (sym s) o) rest)

pub every_run_is_parkable : EveryRunIsParkable
every_run_is_parkable calls = record { in_range = every_run_is_in_range calls; in_order = (reach calls).devices; count_true = (reach calls).count_true }

module _ (x : Running) (start : Starts x) where
  shows_fresh : shows x ≡ fresh
  shows_fresh = start.shows_fresh x.lent refl

  starts_parkable : Parkable (shows x)
  unfolding run
  starts_parkable = subst Parkable (sym shows_fresh) (every_run_is_parkable [])

  module _ (y : Running) (calls : List Call) (answers : List Outcome) (h : History x calls answers y) where
    followed : Followed x calls answers y
    followed = follows starts_parkable h

    answers_from_fresh : answers ≡ outcomes fresh calls
    answers_from_fresh = followed.is_run.answers_are ∙ ap (λ (p : Panel). outcomes p calls) shows_fresh

    pub run_from_fresh : shows y ≡ run fresh calls
    run_from_fresh = followed.is_run.panel_is ∙ ap (λ (p : Panel). run p calls) shows_fresh

pub every_history_is_run : EveryHistoryIsRun
every_history_is_run x y calls answers start h = (followed x start y calls answers h).is_run

pub histories_reach : HistoriesReach
histories_reach x y calls answers start h = subst (λ (p : Panel). Reached p) (sym (run_from_fresh x start y calls answers h)) (reach calls)

pub histories_read_back : HistoriesReadBack
histories_read_back x y calls answers start h words p = reads_back y words (followed x start y calls answers h).parkable p

pub histories_balance : HistoriesBalance
unfolding interaction_of
histories_balance x y calls answers start h widget =
    record {
      starts_less_stops = rw e b.starts_less_stops;
      dragged_is_last = rw e (ap (λ (p : Panel). p.interaction.dragged) f ∙ b.dragged_is_last);
      tally_counts_starts = rw e (ap (λ (p : Panel). p.tally) f ∙ b.tally_counts_starts);
      tally_fits = subst (λ (n : ℕ). n ≤ max_tally) (sym (ap (λ (p : Panel). p.tally) f)) b.tally_fits;
    }
  where
    b : Model.Balanced calls widget
    b = balance calls widget

    e : answers ≡ outcomes fresh calls
    e = answers_from_fresh x start y calls answers h

    f : shows y ≡ run fresh calls
    f = run_from_fresh x start y calls answers h

-- ---- the clearing pass

-- a clearing pass and its interact, both taken
both_taken : (b p q r : Panel) (s : InteractionSnapshot) (c : PassInput) (x : InteractInput) → passed p ∷ answered s q ∷ [] ≡ outcomes b (passes c ∷ interacts x ∷ []) → r ≡ run b (passes c ∷ interacts x ∷ [])
    → (call b (passes c) ≡ passed p) × (call p (interacts x) ≡ answered s r)
unfolding outcomes run after
both_taken b p q r s c x e f = (first, second ∙ ap (λ (u : Panel). answered s u) (sym is_q))
  where
    first : call b (passes c) ≡ passed p
    first = cc

    second : call p (interacts x) ≡ answered s q
    second = let g : passed p ∷ answered s q ∷ [] ≡ passed p ∷ call p (interacts x) ∷ [] = (rw first at e) in cc

    is_q : r ≡ q
    is_q = rw (first, second) at f

module _ (past : List Call) (c : PassInput) (x : InteractInput) (later : List Call) (one : Life past c x later) where
  abbrev b : Running
  b = one.before

  past_run : shows b ≡ run fresh past
  past_run = run_from_fresh one.start one.starts b past one.past_answers one.past_history

  to_clear : Followed b (passes c ∷ interacts x ∷ []) (passed one.cleared_panel ∷ answered one.snapshot one.panel ∷ []) one.cleared
  to_clear = follows (followed one.start one.starts b past one.past_answers one.past_history).parkable one.clearing_history

  takes : Takes past c x (shows one.cleared)
  takes =
      record {
        cleared = one.cleared_panel;
        takes_pass = ap (λ (p : Panel). call p (passes c)) (sym past_run) ∙ taken.0;
        snapshot = one.snapshot;
        takes_interact = taken.1;
      }
    where
      taken : (call (shows b) (passes c) ≡ passed one.cleared_panel) × (call one.cleared_panel (interacts x) ≡ answered one.snapshot (shows one.cleared))
      taken = both_taken (shows b) one.cleared_panel one.panel (shows one.cleared) one.snapshot c x to_clear.is_run.answers_are to_clear.is_run.panel_is

  later_answers : one.answers ≡ outcomes (shows one.cleared) later
  later_answers = (follows to_clear.parkable one.later_history).is_run.answers_are

answer_alike : (came : Bool) (since : Since) (p q : Panel) (later : List Call) → Alike came since p q later → AnswerAlike came since p q (outcomes p later) (outcomes q later)
unfolding outcomes
answer_alike came since p q [] h = tt
answer_alike came since p q (c ∷ calls) h = (h.0, answer_alike (is_passed (call p c) || came) (then_since (call p c) since) (after p (call p c)) (after q (call q c)) calls h.1)

pub histories_clear : HistoriesClear
histories_clear past₁ past₂ later c x one two clears fair =
    subst₂ (AnswerAlike false nothing_since p q) (sym (later_answers past₁ c x later one)) (sym (later_answers past₂ c x later two)) (answer_alike false nothing_since p q later (alike clears fair))
  where
    p : Panel
    p = shows one.cleared

    q : Panel
    q = shows two.cleared

    alike : (cl : Clears c (shows one.before) (shows two.before)) → Fair (λ o. o ≡ c.options) (twice c.options.max_double_click_delay) cl.time false p q later
        → Alike false nothing_since p q later
    alike =
        subst₂ (λ (s t : Panel). (cl : Clears c s t) → Fair (λ o. o ≡ c.options) (twice c.options.max_double_click_delay) cl.time false p q later → Alike false nothing_since p q later)
        (sym (past_run past₁ c x later one)) (sym (past_run past₂ c x later two))
        (λ cl f. clearing past₁ past₂ later c x p q cl (takes past₁ c x later one) (takes past₂ c x later two) f)
