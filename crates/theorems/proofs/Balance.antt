-- Drag starts and drag stops balance: one invariant of a call, then the list. Assumes nothing.
use Rattle.std.specs.Prelude.{Option, None, Some}
use Prim.Native.Nat.{ℕ, ◌+◌, ◌≤◌, ◌<◌}
use native.Mathlib.Omega.{arith}
use mathlib.Core.Path.{◌≡◌, refl, sym, ap}
use mathlib.Core.Bool.{Bool, true, false, not, ◌&&◌, cond}
use mathlib.Core.List.{List, [], ◌∷◌}
use lib.Dec.{T, leb, eqb→eq, nleb→lt}
use Rattle.data.specs.Limits.{max_tally}
use Rattle.model.specs.Types.{PassRefusal, InteractRefusal}
use Rattle.model.specs.Types.interaction.{TallyFull}
use Rattle.model.specs.Pass.{Panel, PassInput, Interaction, fresh, pass, pass_by, pass_refusal, begin_pass, no_interaction}
use Rattle.model.specs.Interact.{InteractInput, InteractionSnapshot, seen, interact, interact_seen, interact_by, input_refusal, tally_after, tally_refusal, tallied, tallied_by, snapshot, interaction_after, with_interaction, if_changed, same_id, one_if, is_some}
use Rattle.model.specs.Calls.{Call, passes, interacts, Outcome, refused_pass, refused_interact, passed, answered, of_pass, of_interact, call, after, run, outcomes}
use Rattle.theorems.specs.Balance.{one_if_is, starts, stops, last_dragged, all_starts, Balance}

-- ---- what a taken call does to the widget dragged and to the tally
pub record Unchanged (p q : Panel) : Type 0 where
  pub dragged : q.interaction.dragged ≡ p.interaction.dragged
  pub tally : q.tally ≡ p.tally

pub record Dragged (p : Panel) (s : InteractionSnapshot) (q : Panel) : Type 0 where
  pub now : s.dragged ≡ q.interaction.dragged
  pub started : s.drag_started ≡ if_changed p.interaction.dragged q.interaction.dragged q.interaction.dragged
  pub stopped : s.drag_stopped ≡ if_changed p.interaction.dragged q.interaction.dragged p.interaction.dragged
  pub tally : q.tally ≡ tally_after s p.tally

abbrev Done : Panel → Outcome → Type 0
Done p (refused_pass r) = Unit {0}
Done p (refused_interact r) = Unit {0}
Done p (passed q) = Unchanged p q
Done p (answered s q) = Dragged p s q

pass_done : (p : Panel) (i : PassInput) → Done p (of_pass (pass p i))
unfolding of_pass pass pass_by begin_pass
pass_done p i = go (pass_refusal p i)
  where
    go : (r : Option PassRefusal) → Done p (of_pass (pass_by r p i))
    go (Some r) = tt
    go None = record { dragged = refl; tally = refl }

interact_done : (p : Panel) (x : InteractInput) → Done p (of_interact (interact p x))
unfolding of_interact interact interact_seen interact_by tallied tallied_by snapshot interaction_after with_interaction
interact_done p x = go (input_refusal x)
  where
    s : InteractionSnapshot
    s = snapshot (seen p) x p.interaction

    d : Interaction
    d = interaction_after (seen p) x p.interaction

    full : (r : Option InteractRefusal) → Done p (of_interact (tallied_by r p s d))
    full (Some r) = tt
    full None = record { now = refl; started = refl; stopped = refl; tally = refl }

    go : (r : Option InteractRefusal) → Done p (of_interact (interact_by r (seen p) p x))
    go (Some r) = tt
    go None = full (tally_refusal s p.tally)

call_done : (p : Panel) (c : Call) → Done p (call p c)
unfolding call
call_done p (passes i) = pass_done p i
call_done p (interacts x) = interact_done p x

-- ---- one interact
same_id_eq : (a b : Option ℕ) → T (same_id a b) → a ≡ b
unfolding same_id
same_id_eq None None t = refl
same_id_eq None (Some b) t = absurd t
same_id_eq (Some a) None t = absurd t
same_id_eq (Some a) (Some b) t = ap Some (eqb→eq a b t)

-- of the widget dragged before and the one dragged now
balance_step : (w : ℕ) (before now : Option ℕ) → one_if_is w (if_changed before now now) + one_if_is w before ≡ one_if_is w (if_changed before now before) + one_if_is w now
unfolding if_changed one_if_is
balance_step w before now = go (same_id now before) (same_id_eq now before)
  where
    go : (b : Bool) → (T b → now ≡ before) → one_if_is w (cond b None now) + one_if_is w before ≡ one_if_is w (cond b None before) + one_if_is w now
    go true h = rw (h tt)
    go false h = omega arith

-- ---- the list
pub record BalancedFrom (w : ℕ) (p : Panel) (os : List Outcome) (q : Panel) : Type 0 where
  pub counts : starts w os + one_if_is w p.interaction.dragged ≡ stops w os + one_if_is w q.interaction.dragged
  pub last : last_dragged p.interaction.dragged os ≡ q.interaction.dragged
  pub tally : p.tally + all_starts os ≡ q.tally

balanced_from : (w : ℕ) (p : Panel) (cs : List Call) → BalancedFrom w p (outcomes p cs) (run p cs)
unfolding outcomes starts stops run last_dragged all_starts after tally_after
balanced_from w p [] = record { counts = refl; last = refl; tally = omega arith }
balanced_from w p (c ∷ cs) = go (call p c) (call_done p c) (λ q. balanced_from w q cs)
  where
    go : (o : Outcome) → Done p o → ((q : Panel) → BalancedFrom w q (outcomes q cs) (run q cs)) → BalancedFrom w p (o ∷ outcomes (after p o) cs) (run (after p o) cs)
    go (refused_pass r) d ih = record { counts = (ih p).counts; last = (ih p).last; tally = (ih p).tally }
    go (refused_interact r) d ih = record { counts = (ih p).counts; last = (ih p).last; tally = (ih p).tally }
    go (passed q) d ih = record { counts = rw (← d.dragged) (ih q).counts; last = rw (← d.dragged) (ih q).last; tally = rw (← d.tally) (ih q).tally }
    go (answered s q) d ih =
        let e = balance_step w p.interaction.dragged q.interaction.dragged in
        record { counts = rw (d.started, d.stopped) (omega (arith, (ih q).counts)); last = rw d.now (ih q).last; tally = omega (arith, d.tally, (ih q).tally) }

-- ---- the tally fits 32 bits
abbrev Fits : Panel → Type 0
Fits p = p.tally ≤ max_tally

pass_fits : (p : Panel) (i : PassInput) → Fits p → Fits (after p (of_pass (pass p i)))
unfolding of_pass pass pass_by begin_pass after
pass_fits p i h = go (pass_refusal p i)
  where
    go : (r : Option PassRefusal) → Fits (after p (of_pass (pass_by r p i)))
    go (Some r) = h
    go None = h

interact_fits : (p : Panel) (x : InteractInput) → Fits p → Fits (after p (of_interact (interact p x)))
unfolding of_interact interact interact_seen interact_by tallied tallied_by tally_after tally_refusal with_interaction after is_some one_if
interact_fits p x h = go (input_refusal x)
  where
    s : InteractionSnapshot
    s = snapshot (seen p) x p.interaction

    d : Interaction
    d = interaction_after (seen p) x p.interaction

    full : (o : Option ℕ) (b : Bool) → (T (not b) → p.tally < max_tally) → s.drag_started ≡ o → Fits (after p (of_interact (tallied_by (cond (is_some o && b) (Some TallyFull) None) p s d)))
    full None b k e = rw e (omega arith)
    full (Some w) true k e = h
    full (Some w) false k e = let z = k tt in rw e (omega arith)

    go : (r : Option InteractRefusal) → Fits (after p (of_interact (interact_by r (seen p) p x)))
    go (Some r) = h
    go None = full s.drag_started (leb max_tally p.tally) (nleb→lt max_tally p.tally) refl

call_fits : (p : Panel) (c : Call) → Fits p → Fits (after p (call p c))
unfolding call
call_fits p (passes i) h = pass_fits p i h
call_fits p (interacts x) h = interact_fits p x h

run_fits : (p : Panel) (cs : List Call) → Fits p → Fits (run p cs)
unfolding run
run_fits p [] h = h
run_fits p (c ∷ cs) h = run_fits (after p (call p c)) cs (call_fits p c h)

-- ---- demand 3, first half
pub balance : Balance
unfolding fresh no_interaction one_if_is
balance cs w =
    let h = balanced_from w fresh cs in
    let last : last_dragged None (outcomes fresh cs) ≡ (run fresh cs).interaction.dragged = h.last in
    record { starts_less_stops = omega (arith, h.counts, ap (one_if_is w) last); dragged_is_last = sym last; tally_counts_starts = omega (arith, h.tally); tally_fits = run_fits fresh cs (omega arith) }
