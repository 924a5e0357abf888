-- What a taken pass and a taken interact are, and what both-refused calls answer. Assumes nothing.
use Rattle.std.specs.Prelude.{Option, None, Some}
use mathlib.Core.Path.{◌≡◌, refl, sym, ap, ◌∙◌}
use mathlib.Core.Bool.{Bool, true, false, not, ◌&&◌, cond}
use lib.Dec.{T, leb}
use lib.Ieee.{Float, lt}
use lib.Ieee.Fits.{and_l, and_r}
use Rattle.data.specs.Limits.{max_events, max_tally, time_ok, unit_interval_ok, scale_ok, options_ok}
use Rattle.feed.specs.Decode.{items}
use Rattle.model.specs.Types.{PassRefusal, OutsideDomain, TimeBelow, InteractRefusal}
use Rattle.model.specs.Types.interaction.{TallyFull}
use Rattle.model.specs.Pass.{Panel, PassInput, Interaction, Tally, Passed, pass, pass_by, pass_refusal, own_refusal, own_numbers_ok, rect_given_ok, or_else, survey, begin_pass, time_of}
use Rattle.model.specs.Pass as P
use Rattle.model.specs.Interact.{InteractInput, InteractionSnapshot, Interacted, seen, interact, interact_seen, interact_by, input_refusal, tally_after, tally_refusal, tallied, tallied_by, snapshot, interaction_after, with_interaction, is_some}
use Rattle.model.specs.Interact as I
use Rattle.model.specs.Calls.{Call, passes, interacts, Outcome, refused_pass, refused_interact, passed, answered, of_pass, of_interact, call}
use Rattle.model.proofs.Ids.{impossible}

-- ---- a taken pass
pub record Taken (p : Panel) (i : PassInput) (q : Panel) : Type 0 where
  pub is : q ≡ begin_pass p i
  pub in_domain : T (time_ok (time_of i p.clock.time))
  pub options : T (options_ok i.options)
  pub not_before : T (not (lt (time_of i p.clock.time) p.clock.time))
  pub surveyed : survey max_events (items i.feed) p.touch_states ≡ None

own_options : (i : PassInput) (t : Float) → T (own_numbers_ok i t) → T (time_ok t) × T (options_ok i.options)
unfolding own_numbers_ok
own_options i t h =
    let a = time_ok t in
    let b = unit_interval_ok i.predicted_dt in
    let c = unit_interval_ok i.smoothing_factor in
    let d = scale_ok i.pixels_per_point in
    let e = rect_given_ok i.screen_rect in
    let f = options_ok i.options in
    (and_l a (b && (c && (d && (e && f)))) h, and_r e f (and_r d (e && f) (and_r c (d && (e && f)) (and_r b (c && (d && (e && f))) (and_r a (b && (c && (d && (e && f)))) h)))))

taken_is : (p : Panel) (i : PassInput) (q : Panel) → pass p i ≡ P.taken q → Taken p i q
unfolding pass pass_by pass_refusal own_refusal or_else
taken_is p i q h = own (own_numbers_ok i t) (lt t p.clock.time) (λ x. x) (λ x. x) h
  where
    t : Float
    t = time_of i p.clock.time

    fed : (r : Option PassRefusal) → survey max_events (items i.feed) p.touch_states ≡ r → T (own_numbers_ok i t) → T (not (lt t p.clock.time)) → pass_by r p i ≡ P.taken q → Taken p i q
    fed (Some r) e a b k = impossible (cc)
    fed None e a b k = let z = own_options i t a in record { is = cc; in_domain = z.0; options = z.1; not_before = b; surveyed = e }

    own : (a b : Bool) → (T a → T (own_numbers_ok i t)) → (T (not b) → T (not (lt t p.clock.time)))
        → pass_by (or_else (cond a (cond b (Some TimeBelow) None) (Some (OutsideDomain 0))) (survey max_events (items i.feed) p.touch_states)) p i ≡ P.taken q → Taken p i q
    own false b x y k = impossible (cc)
    own true true x y k = impossible (cc)
    own true false x y k = fed (survey max_events (items i.feed) p.touch_states) refl (x tt) (y tt) k

pub passed_is : (p : Panel) (i : PassInput) (q : Panel) → call p (passes i) ≡ passed q → Taken p i q
unfolding call of_pass
passed_is p i q h = taken_is p i q (go (pass p i) h)
  where
    go : (r : Passed) → of_pass r ≡ passed q → r ≡ P.taken q
    go (P.refused r) k = impossible (cc)
    go (P.taken x) k = cc

-- ---- a taken interact writes the interaction and the tally
pub record Answered (p : Panel) (x : InteractInput) (s : InteractionSnapshot) (q : Panel) : Type 0 where
  pub answer : s ≡ snapshot (seen p) x p.interaction
  pub is : q ≡ with_interaction p (interaction_after (seen p) x p.interaction) (tally_after s p.tally)

interacted_is : (p : Panel) (x : InteractInput) (s : InteractionSnapshot) (q : Panel) → interact p x ≡ I.answered s q → Answered p x s q
unfolding interact interact_seen interact_by tallied tallied_by
interacted_is p x s q h = go (input_refusal x) h
  where
    t : InteractionSnapshot
    t = snapshot (seen p) x p.interaction

    d : Interaction
    d = interaction_after (seen p) x p.interaction

    full : (r : Option InteractRefusal) → tallied_by r p t d ≡ I.answered s q → Answered p x s q
    full (Some r) k = impossible (cc)
    full None k =
        let a : s ≡ t = cc in
        let b : q ≡ with_interaction p d (tally_after t p.tally) = cc in
        record { answer = a; is = b ∙ ap (λ (z : InteractionSnapshot). with_interaction p d (tally_after z p.tally)) (sym a) }

    go : (r : Option InteractRefusal) → interact_by r (seen p) p x ≡ I.answered s q → Answered p x s q
    go (Some r) k = impossible (cc)
    go None k = full (tally_refusal t p.tally) k

pub answered_is : (p : Panel) (x : InteractInput) (s : InteractionSnapshot) (q : Panel) → call p (interacts x) ≡ answered s q → Answered p x s q
unfolding call of_interact
answered_is p x s q h = interacted_is p x s q (go (interact p x) h)
  where
    go : (r : Interacted) → of_interact r ≡ answered s q → r ≡ I.answered s q
    go (I.refused r) k = impossible (cc)
    go (I.answered t y) k = cc

-- the tally refuses with 10 alone
pub tally_refuses : (s : InteractionSnapshot) (n : Tally) (r : InteractRefusal) → tally_refusal s n ≡ Some r → r ≡ TallyFull
unfolding tally_refusal
tally_refuses s n r e = go (is_some s.drag_started && leb max_tally n) e
  where
    go : (b : Bool) → cond b (Some TallyFull) None ≡ Some r → r ≡ TallyFull
    go true k = cc
    go false k = impossible (cc)

-- ---- a call
-- its refusal: a pass's is what the panel makes of it, an interact's is decided by its input, or else by the tally
pub data CallView (p : Panel) : Call → Outcome → Type 0 where
  pass_refused : (i : PassInput) (r : PassRefusal) → pass_refusal p i ≡ Some r → CallView p (passes i) (refused_pass r)
  pass_taken : (i : PassInput) (q : Panel) → Taken p i q → CallView p (passes i) (passed q)
  interact_refused : (x : InteractInput) (r : InteractRefusal) → input_refusal x ≡ Some r → CallView p (interacts x) (refused_interact r)
  interact_full : (x : InteractInput) (r : InteractRefusal) → input_refusal x ≡ None → tally_refusal (snapshot (seen p) x p.interaction) p.tally ≡ Some r → CallView p (interacts x) (refused_interact r)
  interact_taken : (x : InteractInput) (s : InteractionSnapshot) (q : Panel) → Answered p x s q → CallView p (interacts x) (answered s q)

pub call_view : (p : Panel) (c : Call) → CallView p c (call p c)
unfolding call of_pass of_interact pass pass_by interact interact_seen interact_by tallied tallied_by
call_view p (passes i) = go (pass p i) refl
  where
    refusal : (o : Option PassRefusal) (r : PassRefusal) → pass_by o p i ≡ P.refused r → o ≡ Some r
    refusal None r k = impossible (cc)
    refusal (Some s) r k = cc

    go : (r : Passed) → pass p i ≡ r → CallView p (passes i) (of_pass r)
    go (P.refused r) k = pass_refused i r (refusal (pass_refusal p i) r k)
    go (P.taken q) k = pass_taken i q (taken_is p i q k)
call_view p (interacts x) = go (interact p x) refl
  where
    t : InteractionSnapshot
    t = snapshot (seen p) x p.interaction

    full : (o : Option InteractRefusal) (r : InteractRefusal) → tallied_by o p t (interaction_after (seen p) x p.interaction) ≡ I.refused r → o ≡ Some r
    full None r k = impossible (cc)
    full (Some s) r k = cc

    refusal : (o : Option InteractRefusal) (r : InteractRefusal) → input_refusal x ≡ o → interact_by o (seen p) p x ≡ I.refused r → CallView p (interacts x) (refused_interact r)
    refusal None r e k = interact_full x r e (full (tally_refusal t p.tally) r k)
    refusal (Some s) r e k = interact_refused x r (cc)

    go : (r : Interacted) → interact p x ≡ r → CallView p (interacts x) (of_interact r)
    go (I.refused r) k = refusal (input_refusal x) r refl k
    go (I.answered s q) k = interact_taken x s q (interacted_is p x s q k)
