-- A running panel shows its own records, so what a question's function ensures of every panel that shows them holds of it. Assumes nothing.
use Prim.Native.Nat.{ℕ, zero, suc}
use mathlib.Core.Path.{◌≡◌, refl, sym, ◌∙◌, ap, subst}
use mathlib.Core.List.{List, [], ◌∷◌}
use Rattle.model.specs.Types.{PointerEvent}
use Rattle.model.specs.Pass.{Panel, fresh}
use Rattle.model.specs.Calls.{run}
use Rattle.model.specs.Questions as Q
use Rattle.model.specs.Questions.{Question, settled, Reply, bool, events, ask, reply, shown}
use Rattle.pointer_events.specs.Events.{event_or_none}
use Rattle.theorems.specs.Reach.{FromZero}
use Rattle.theorems.proofs.Counts.{count_laws}
use Rattle.theorems.proofs.Reach.{rested_from_zero}
use Rattle.histories.specs.History.{Running, shows}
use Rattle.histories.specs.Asked.{Reads, by_clock, by_screen, by_sums, by_wheel, by_devices, by_interaction, by_keys, by_presses, by_place, by_events, by_press}
use Rattle.histories.specs.Asked.{by_wheel_at, by_click_past, by_last_move, by_gesture, by_gesture_by_axis, by_place_and_press, by_pressing, by_long_press, by_long_touch, by_waiting, by_tally, by_event_list}
use Rattle.histories.specs.Asked.{reads, ReadsEvents, ensured, EveryAnswerIsTheModels, HistoriesAnswer, HistoriesRested, HistoriesAnyDown}
use Rattle.histories.proofs.History.{run_from_fresh, histories_reach}

-- two lists of events with the same event, or none, at each place
same_list : (l m : List PointerEvent) → ((i : ℕ) → event_or_none l i ≡ event_or_none m i) → l ≡ m
unfolding event_or_none
same_list [] [] h = refl
same_list [] (e ∷ m) h = let z = h zero in cc
same_list (d ∷ l) [] h = let z = h zero in cc
same_list (d ∷ l) (e ∷ m) h = let z = h zero in let t : l ≡ m = same_list l m (λ i. h (suc i)) in cc

list_answer : (x : Running) (q : Question) (a : Reply) → ReadsEvents x q a → ask q (shows x) ≡ a
unfolding ask reply shown
list_answer x q a h = ap (λ (p : Question). ask p (shows x)) h.question_is ∙ ap events (sym (same_list h.list _ (λ i. h.each i (shows x) refl _ refl))) ∙ sym h.reply_is

answer_by : (r : Reads) (x : Running) (q : Question) (a : Reply) → ensured x q a r → ask q (shows x) ≡ a
answer_by by_clock x q a h = h (shows x) refl
answer_by by_screen x q a h = h (shows x) refl
answer_by by_sums x q a h = h (shows x) refl
answer_by by_wheel x q a h = h (shows x) refl
answer_by by_devices x q a h = h (shows x) refl
answer_by by_interaction x q a h = h (shows x) refl
answer_by by_keys x q a h = h x.lent.presses (shows x) refl
answer_by by_presses x q a h = h x.panel.input.keys (shows x) refl
answer_by by_place x q a h = h x.lent.times x.lent.positions (shows x) refl
answer_by by_events x q a h = h x.lent.places (shows x) refl
answer_by by_press x q a h = h x.lent.codes x.lent.places (shows x) refl
answer_by by_wheel_at x q a h = h (shows x) refl refl
answer_by by_click_past x q a h = h x.lent.codes x.lent.places (shows x) refl refl
answer_by by_last_move x q a h = h (shows x) refl refl
answer_by by_gesture x q a h = h (shows x) refl refl
answer_by by_gesture_by_axis x q a h = h x.lent.presses (shows x) refl refl refl refl
answer_by by_place_and_press x q a h = h x.lent.times x.lent.positions x.lent.codes x.lent.places (shows x) refl refl
answer_by by_pressing x q a h = h x.lent.places (shows x) refl refl refl
answer_by by_long_press x q a h = h x.lent.codes x.lent.places (shows x) refl refl refl refl
answer_by by_long_touch x q a h = h x.lent.codes x.lent.places (shows x) refl refl refl refl refl
answer_by by_waiting x q a h = h x.lent.times x.lent.positions x.lent.places x.lent.presses (shows x) refl refl refl refl refl refl refl
answer_by by_tally x q a h = h x.lent
answer_by by_event_list x q a h = list_answer x q a h

pub every_answer_is_the_models : EveryAnswerIsTheModels
every_answer_is_the_models x q a h = answer_by (reads q) x q a h

pub histories_answer : HistoriesAnswer
histories_answer x y calls answers start history q a h =
    ap (λ (p : Panel). ask q p) (sym (run_from_fresh x start y calls answers history)) ∙ every_answer_is_the_models y q a h

pub histories_rested : HistoriesRested
histories_rested x y calls answers start history a h =
    subst (λ (r : Reply). FromZero r) (histories_answer x y calls answers start history Q.time_since_last_movement a h) (rested_from_zero calls)

pub histories_any_down : HistoriesAnyDown
unfolding ask reply shown
histories_any_down x y calls answers start history a h =
    let d = y.panel.input.pointer.press.held.down in
    sym (every_answer_is_the_models y (settled Q.any_down) a h) ∙ ap bool (count_laws.scans d (histories_reach x y calls answers start history).count_true)
