-- The example meets what Clearing supposes: evaluated. Assumes nothing.
use Rattle.std.specs.Prelude.{Option, None, Some}
use mathlib.Core.Path.{◌≡◌, refl, sym, ap, subst}
use mathlib.Core.Bool.{Bool, true, false}
use mathlib.Core.List.{List, [], ◌∷◌, ◌++◌, map}
use lib.Dec.{T}
use lib.Ieee.{binary64, of_bits}
use Rattle.emath.specs.Vec.{vec_zero}
use Rattle.data.specs.Modifiers.{no_modifiers}
use Rattle.model.specs.Types.{Point, Unknown}
use Rattle.model.specs.Pass.{Panel, PassInput, fresh, pass_events, pass, pass_by, pass_refusal, begin_pass, Tally}
use Rattle.model.specs.Interact.{InteractInput, InteractionSnapshot, interact, interact_seen, interact_by, input_refusal, tally_after, tally_refusal, tallied, tallied_by, seen, snapshot, interaction_after, with_interaction}
use Rattle.model.specs.Questions.{ask, settled, dragged, widget, tally, count}
use Rattle.model.specs.Calls.{Call, passes, interacts, passed, answered, of_pass, of_interact, call, run}
use Rattle.theorems.specs.Clearing.{TouchEnd, end_event, is_ended, EndsAll, Rest, rest_events, Clears, FirstIsPress, button_event, first_button, button_came, is_refused, twice, Fair, done, both_refused, both_passed, both_answered}
use Rattle.theorems.specs.Example.{Example, two_seconds, hundred, zero32, corner, screen, pass_at, on_widget, on_nothing, drag_without_end, clearing_pass, press_pass, malformed_pass, release_pass, later}
use Rattle.theorems.proofs.Opened.{opened}

-- ---- a call that is not refused
pass_is_taken : (p : Panel) (i : PassInput) → pass_refusal p i ≡ None → call p (passes i) ≡ passed (begin_pass p i)
unfolding call of_pass pass pass_by
pass_is_taken p i e = rw e

abbrev answer : Panel → InteractInput → InteractionSnapshot
answer p x = snapshot (seen p) x p.interaction

abbrev then : Panel → InteractInput → Panel
then p x = with_interaction p (interaction_after (seen p) x p.interaction) (tally_after (answer p x) p.tally)

interact_is_answered : (p : Panel) (x : InteractInput) → input_refusal x ≡ None → tally_refusal (answer p x) p.tally ≡ None → call p (interacts x) ≡ answered (answer p x) (then p x)
unfolding call of_interact interact interact_seen interact_by tallied tallied_by
interact_is_answered p x e f = rw (e, f)

abbrev NotFull : Panel → InteractInput → Type 0
NotFull p x = tally_refusal (answer p x) p.tally ≡ None

-- ---- the example
unfoldable pub example : Type 1
unfolding hundred zero32 corner screen pass_at on_widget on_nothing drag_without_end clearing_pass press_pass malformed_pass release_pass later
example = Type 0

p₀ : Panel
p₀ = run fresh drag_without_end

p₁ : Panel
p₁ = begin_pass p₀ clearing_pass

q₁ : Panel
q₁ = begin_pass fresh clearing_pass

p₂ : Panel
p₂ = then p₁ on_nothing

q₂ : Panel
q₂ = then q₁ on_nothing

taken_p : pass_refusal p₀ clearing_pass ≡ None
unfolding opened example p₀
taken_p = refl

taken_q : pass_refusal fresh clearing_pass ≡ None
unfolding opened example
taken_q = refl

nothing_refused : input_refusal on_nothing ≡ None
unfolding opened example
nothing_refused = refl

widget_not_refused : input_refusal on_widget ≡ None
unfolding opened example
widget_not_refused = refl

-- the clearing pass's feed, read
rest : Rest
rest =
    record {
      pos = corner;
      primary_modifiers = no_modifiers;
      secondary_modifiers = no_modifiers;
      middle_modifiers = no_modifiers;
      extra1_modifiers = no_modifiers;
      extra2_modifiers = no_modifiers;
      motion = vec_zero;
      wheel_unit = Point;
      wheel_delta = vec_zero;
      wheel_source = Unknown;
      wheel_modifiers = no_modifiers;
    }

ends : List TouchEnd
ends = record { device_id = 7; id = 1; pos = corner; force = None } ∷ []

feed_is : pass_events clearing_pass ≡ map end_event ends ++ rest_events rest
unfolding opened example rest ends
feed_is = refl

ends_touch : EndsAll ends p₀.touch_states
unfolding opened example p₀ ends is_ended
ends_touch = ((tt, tt), tt)

clears_both : Clears clearing_pass p₀ fresh
unfolding example p₀ fresh
clears_both =
    record { time = of_bits binary64 two_seconds; gives_time = refl; screen_rect = screen; gives_rect = refl; ends = ends; rest = rest; feed = feed_is; ends_p = ends_touch; ends_q = tt }

-- ---- the later list
p₃ : Panel
p₃ = begin_pass p₂ press_pass

q₃ : Panel
q₃ = begin_pass q₂ press_pass

p₄ : Panel
p₄ = then p₃ on_widget

q₄ : Panel
q₄ = then q₃ on_widget

p₅ : Panel
p₅ = begin_pass p₄ release_pass

q₅ : Panel
q₅ = begin_pass q₄ release_pass

tally_p : p₂.tally ≡ 1
unfolding opened example p₀ p₁ p₂
tally_p = refl

tally_q : q₂.tally ≡ 0
unfolding opened example q₁ q₂
tally_q = refl

-- what is evaluated: no pass is refused but the malformed one, by either panel, and no tally is full
unfoldable pub states : Type 1
unfolding p₀ p₁ q₁ p₂ q₂ p₃ q₃ p₄ q₄ p₅ q₅
states = Type 0

press_p : pass_refusal p₂ press_pass ≡ None
unfolding opened example states
press_p = refl

press_q : pass_refusal q₂ press_pass ≡ None
unfolding opened example states
press_q = refl

release_p : pass_refusal p₄ release_pass ≡ None
unfolding opened example states
release_p = refl

release_q : pass_refusal q₄ release_pass ≡ None
unfolding opened example states
release_q = refl

malformed_p : T (is_refused (call p₄ (passes malformed_pass)))
unfolding opened example states
malformed_p = tt

malformed_q : T (is_refused (call q₄ (passes malformed_pass)))
unfolding opened example states
malformed_q = tt

tallies : NotFull p₁ on_nothing × NotFull q₁ on_nothing × NotFull p₃ on_widget × NotFull q₃ on_widget × NotFull p₅ on_widget × NotFull q₅ on_widget
unfolding opened example states
tallies = (refl, refl, refl, refl, refl, refl)

-- "a press no sooner than twice the double-click delay"
waits : FirstIsPress (twice clearing_pass.options.max_double_click_delay) (of_bits binary64 two_seconds) p₃.clock.time (first_button (pass_events press_pass))
unfolding opened example states first_button button_event
waits = tt

press_first : first_button (pass_events press_pass) ≡ Some true
unfolding opened example first_button button_event
press_first = refl

abbrev FairFrom : Bool → Panel → Panel → List Call → Type 0
FairFrom b p q cs = Fair (λ o. o ≡ clearing_pass.options) (twice clearing_pass.options.max_double_click_delay) (of_bits binary64 two_seconds) b p q cs

-- after the press
fair_after : FairFrom true p₃ q₃ (interacts on_widget ∷ passes malformed_pass ∷ passes release_pass ∷ interacts on_widget ∷ [])
unfolding example p₃ q₃ p₄ q₄ p₅ q₅
fair_after =
    both_answered (answer p₃ on_widget) (answer q₃ on_widget) p₄ q₄ (interact_is_answered p₃ on_widget widget_not_refused tallies.2) (interact_is_answered q₃ on_widget widget_not_refused tallies.3)
    (both_refused malformed_p malformed_q
    (both_passed p₅ q₅ (pass_is_taken p₄ release_pass release_p) (pass_is_taken q₄ release_pass release_q) refl tt
    (both_answered (answer p₅ on_widget) (answer q₅ on_widget) (then p₅ on_widget) (then q₅ on_widget) (interact_is_answered p₅ on_widget widget_not_refused tallies.4)
    (interact_is_answered q₅ on_widget widget_not_refused tallies.5) done)))

fair_later : FairFrom false p₂ q₂ later
unfolding later p₃ q₃
fair_later =
    both_passed p₃ q₃ (pass_is_taken p₂ press_pass press_p) (pass_is_taken q₂ press_pass press_q) (unfold press_pass clearing_pass pass_at in refl) waits
    (subst (λ (f : Option Bool). FairFrom (button_came false f) p₃ q₃ (interacts on_widget ∷ passes malformed_pass ∷ passes release_pass ∷ interacts on_widget ∷ [])) (sym press_first) fair_after)

dragged_p : ask (settled dragged) p₀ ≡ widget (Some 5)
unfolding opened example states
dragged_p = refl

dragged_q : ask (settled dragged) fresh ≡ widget None
unfolding opened
dragged_q = refl

asked_tally : (p : Panel) (n : Tally) → p.tally ≡ n → ask tally p ≡ count n
unfolding ask
asked_tally p n e = ap count e

pub example_meets : Example
unfolding run p₀ p₁ q₁ p₂ q₂ clears_both
example_meets =
    record {
      p = p₂;
      q = q₂;
      clears = clears_both;
      takes_p = record { cleared = p₁; takes_pass = pass_is_taken p₀ clearing_pass taken_p; snapshot = answer p₁ on_nothing; takes_interact = interact_is_answered p₁ on_nothing nothing_refused tallies.0 };
      takes_q = record { cleared = q₁; takes_pass = pass_is_taken fresh clearing_pass taken_q; snapshot = answer q₁ on_nothing; takes_interact = interact_is_answered q₁ on_nothing nothing_refused tallies.1 };
      fair = fair_later;
      p_drags = dragged_p;
      q_drags_none = dragged_q;
      p_tally = asked_tally p₂ 1 tally_p;
      q_tally = asked_tally q₂ 0 tally_q;
    }
