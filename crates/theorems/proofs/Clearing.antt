-- Demand 3, second half: the later list, call by call. Assumes nothing.
use Rattle.std.specs.Prelude.{Option, None, Some}
use Prim.Native.Nat.{ℕ, zero, suc}
use mathlib.Core.Path.{◌≡◌, refl, sym, ap, ◌∙◌, subst}
use mathlib.Core.Bool.{Bool, true, false, not, ◌&&◌, ◌||◌, cond}
use mathlib.Core.List.{List, [], ◌∷◌}
use lib.Dec.{T}
use lib.Ieee.{Float, binary64, sub, le, of_bits}
use lib.Ieee.Fits.{and_r}
use lib.Ieee.Scale.{finite}
use Rattle.ieee_laws.proofs.Order.{le_trans, le_refl}
use Rattle.ieee_laws.proofs.Monotone.{add_up}
use Rattle.data.specs.Limits.{max_events, max_duration, length_ok, unit_interval_ok, duration_ok, options_ok}
use Rattle.feed.specs.Decode.{Decoded, good, malformed, outside_domain, Item, items}
use Rattle.model.specs.Types.{Rect, InputOptions, PassRefusal, NoPlace, InteractRefusal}
use Rattle.model.specs.Touch.{TouchState, touch_event}
use Rattle.model.specs.Pass.{Panel, PassInput, fresh, pass_events, time_of, crowded, item_refusal, item_devices, or_else, survey, own_refusal, pass_refusal}
use Rattle.model.specs.Interact.{InteractInput, InteractionSnapshot}
use Rattle.model.specs.Questions.{Question, ask}
use Rattle.model.specs.Calls.{Call, passes, interacts, Outcome, refused_pass, refused_interact, passed, answered, call, after, run}
use Rattle.theorems.specs.Reach.{Reached}
use Rattle.theorems.specs.Clearing.{Rest, Clears, TakesFrom, FirstIsPress, Unless, first_button, button_came, is_refused, Fair, done, both_refused, both_passed, both_answered}
use Rattle.theorems.specs.Clearing.{is_no_place, SameAnswer, same_pass_refusal, same_interact_refusal, both_taken, same_snapshot, Same, is_passed, Since, nothing_since, then_since, When, Alike, may_differ, twice, ClearingReached, Clearing}
use Rattle.model.proofs.Ids.{impossible}
use Rattle.theorems.proofs.Times.{InRange, in_range, time_in_range}
use Rattle.theorems.proofs.Taken.{passed_is, answered_is, CallView, pass_refused, pass_taken, interact_refused, interact_full, interact_taken, call_view, tally_refuses}
use Rattle.theorems.proofs.Reach.{pass_later, pass_reaches, interact_reaches, reach}
use Rattle.theorems.proofs.ClearingPass.{time_is}
use Rattle.theorems.proofs.Cleared.{Cleared, clears, cleared_interact, cleared_pass, cleared_time}
use Rattle.theorems.proofs.Agreeing.{Agreeing, agreeing_pass, agreeing_interact, agreeing_replies, agreeing_time}

-- ---- two refusals of one call: the same, unless one is 5
abbrev Agree : PassRefusal → PassRefusal → Type 0
Agree r s = T (not (is_no_place r)) → T (not (is_no_place s)) → r ≡ s

no_place_left : (w : ℕ) (r s : PassRefusal) → r ≡ NoPlace w → Agree r s
unfolding is_no_place
no_place_left w r s e = rw e (λ p q. absurd p)

no_place_right : (w : ℕ) (r s : PassRefusal) → s ≡ NoPlace w → Agree r s
unfolding is_no_place
no_place_right w r s e = rw e (λ p q. absurd q)

survey_agrees : (left : ℕ) (is : List Item) (vs ws : List TouchState) (r s : PassRefusal) → survey left is vs ≡ Some r → survey left is ws ≡ Some s → Agree r s
unfolding survey item_refusal item_devices or_else
survey_agrees left [] vs ws r s h k = impossible (cc)
survey_agrees zero (i ∷ is) vs ws r s h k = λ _ _. cc
survey_agrees (suc left) (i ∷ is) vs ws r s h k = go i.what h k (λ us ts a b. survey_agrees left is us ts r s a b)
  where
    placed : (a b : Bool) (us ts : List TouchState) → or_else (cond a (Some (NoPlace i.index)) None) (survey left is us) ≡ Some r → or_else (cond b (Some (NoPlace i.index)) None) (survey left is ts) ≡ Some s
        → ((us ts : List TouchState) → survey left is us ≡ Some r → survey left is ts ≡ Some s → Agree r s) → Agree r s
    placed true b us ts x y ih = no_place_left i.index r s (cc)
    placed false true us ts x y ih = no_place_right i.index r s (cc)
    placed false false us ts x y ih = ih us ts x y

    go : (w : Decoded) → or_else (item_refusal i.index w vs) (survey left is (item_devices w vs)) ≡ Some r → or_else (item_refusal i.index w ws) (survey left is (item_devices w ws)) ≡ Some s
        → ((us ts : List TouchState) → survey left is us ≡ Some r → survey left is ts ≡ Some s → Agree r s) → Agree r s
    go malformed a b ih = λ _ _. cc
    go outside_domain a b ih = λ _ _. cc
    go (good e) a b ih = placed (crowded e vs) (crowded e ws) (touch_event e vs) (touch_event e ws) a b ih

pass_agrees : (p q : Panel) (i : PassInput) (r s : PassRefusal) → p.clock.time ≡ q.clock.time → pass_refusal p i ≡ Some r → pass_refusal q i ≡ Some s → Agree r s
unfolding pass_refusal or_else
pass_agrees p q i r s e h k = own (own_refusal i p.clock.time) h (subst (λ (z : Float). or_else (own_refusal i z) (survey max_events (items i.feed) q.touch_states) ≡ Some s) (sym e) k)
  where
    own : (o : Option PassRefusal) → or_else o (survey max_events (items i.feed) p.touch_states) ≡ Some r → or_else o (survey max_events (items i.feed) q.touch_states) ≡ Some s → Agree r s
    own (Some a) m n = λ _ _. cc
    own None m n = survey_agrees max_events (items i.feed) p.touch_states q.touch_states r s m n

same_refusal : (p q : Panel) (c : Call) → p.clock.time ≡ q.clock.time → T (is_refused (call p c)) → T (is_refused (call q c)) → SameAnswer (call p c) (call q c)
same_refusal p q c e = go (call_view p c) (call_view q c)
  where
    go : {c : Call} {a b : Outcome} → CallView p c a → CallView q c b → T (is_refused a) → T (is_refused b) → SameAnswer a b
    go (pass_refused i r h) (pass_refused j s k) x y = same_pass_refusal r s (pass_agrees p q i r s e h k)
    go (pass_refused i r h) (pass_taken j q' t) x y = absurd y
    go (pass_taken i p' t) v x y = absurd x
    go (interact_refused z r h) (interact_refused w s k) x y = subst (λ (u : InteractRefusal). SameAnswer (refused_interact r) (refused_interact u)) (cc) (same_interact_refusal r)
    go (interact_refused z r h) (interact_full w s k l) x y = impossible (cc)
    go (interact_refused z r h) (interact_taken w u q' t) x y = absurd y
    go (interact_full z r h l) (interact_refused w s k) x y = impossible (cc)
    go (interact_full z r h l) (interact_full w s k m) x y =
        let e : r ≡ s = tally_refuses _ _ r l ∙ sym (tally_refuses _ _ s m) in subst (λ (u : InteractRefusal). SameAnswer (refused_interact r) (refused_interact u)) e (same_interact_refusal r)
    go (interact_full z r h l) (interact_taken w u q' t) x y = absurd y
    go (interact_taken z u p' t) v x y = absurd x

-- ---- one call of the list
abbrev From : Bool → Since → Panel → Panel → List Call → Outcome → Outcome → Type 0
From n k p q cs a b = When (is_passed a || n) (Same (then_since a k) p q a b) × Alike (is_passed a || n) (then_since a k) (after p a) (after q b) cs

from : (n : Bool) (k : Since) (p q : Panel) (c : Call) (cs : List Call) (a b : Outcome) → call p c ≡ a → call q c ≡ b → From n k p q cs a b → Alike n k p q (c ∷ cs)
from n k p q c cs a b e f h = subst (λ (z : Outcome). From n k p q cs z (call q c)) (sym e) (subst (λ (z : Outcome). From n k p q cs a z) (sym f) h)

abbrev Replies : Since → Panel → Panel → Type 0
Replies k p q = (question : Question) → T (not (may_differ k question)) → ask question p ≡ ask question q

-- refused calls leave both panels
refused_on : (n : Bool) (k : Since) (p q : Panel) (cs : List Call) (a b : Outcome) → T (is_refused a) → T (is_refused b) → When n (SameAnswer a b × Replies k p q) → Alike n k p q cs → From n k p q cs a b
unfolding after
refused_on n k p q cs a b x y w h = go a b x y w
  where
    same : (n : Bool) (a b : Outcome) → after p a ≡ p → after q b ≡ q → When n (SameAnswer a b × Replies k p q) → When n (Same k p q a b)
    same true a b e f w = record { answers = w.0; replies = λ question t. ap (ask question) e ∙ w.1 question t ∙ sym (ap (ask question) f) }
    same false a b e f w = tt

    go : (a b : Outcome) → T (is_refused a) → T (is_refused b) → When n (SameAnswer a b × Replies k p q) → From n k p q cs a b
    go (refused_pass r) (refused_pass s) x y w = (same n (refused_pass r) (refused_pass s) refl refl w, h)
    go (refused_pass r) (refused_interact s) x y w = (same n (refused_pass r) (refused_interact s) refl refl w, h)
    go (refused_pass r) (passed q') x y w = absurd y
    go (refused_pass r) (answered t q') x y w = absurd y
    go (refused_interact r) (refused_pass s) x y w = (same n (refused_interact r) (refused_pass s) refl refl w, h)
    go (refused_interact r) (refused_interact s) x y w = (same n (refused_interact r) (refused_interact s) refl refl w, h)
    go (refused_interact r) (passed q') x y w = absurd y
    go (refused_interact r) (answered t q') x y w = absurd y
    go (passed p') b x y w = absurd x
    go (answered s p') b x y w = absurd x

-- ---- the list, from the next taken pass on
module _ (D tc : Float) where
  abbrev Within : InputOptions → Type 0
  Within o = T (le o.max_double_click_delay D)

  agree_on : (pr : Bool) (k : Since) (p q : Panel) (cs : List Call) → Reached p → Agreeing D tc pr k p q → Fair Within D tc pr p q cs → Alike true k p q cs
  unfolding after
  agree_on pr k p q cs r g done = tt
  agree_on pr k p q cs r g (both_refused {c = c} {cs = ds} x y f) =
      refused_on true k p q ds (call p c) (call q c) x y
      (same_refusal p q c (agreeing_time D tc pr k p q g) x y, agreeing_replies D tc pr k p q g) (agree_on pr k p q ds r g f)
  agree_on pr k p q cs r g (both_passed {i = i} {cs = ds} p' q' x y e u f) =
      let tp = passed_is p i p' x in
      let pr' = button_came pr (first_button (pass_events i)) in
      let k' = then_since (passed p') k in
      let h : Agreeing D tc pr' k' p' q' = agreeing_pass i D tc pr k p q p' q' g tp (passed_is q i q' y) e (pass_later p i p' r tp) u in
      from true k p q (passes i) ds (passed p') (passed q') x y
      (record { answers = both_taken p' q'; replies = agreeing_replies D tc pr' k' p' q' h }, agree_on pr' k' p' q' ds (pass_reaches p i p' r tp) h f)
  agree_on pr k p q cs r g (both_answered {x = i} {cs = ds} s t p' q' x y f) =
      let ip = answered_is p i s p' x in
      let h = agreeing_interact D tc pr k p q g i s t p' q' ip (answered_is q i t q' y) in
      let a : SameAnswer (answered s p') (answered t q') = subst (λ (z : InteractionSnapshot). SameAnswer (answered s p') (answered z q')) h.0 (same_snapshot s p' q') in
      from true k p q (interacts i) ds (answered s p') (answered t q') x y
      (record { answers = a; replies = agreeing_replies D tc pr k p' q' h.1 }, agree_on pr k p' q' ds (interact_reaches p i s p' r ip) h.1 f)

  -- ---- and up to it
  cleared_on : (c : PassInput) (rect : Rect) (rest : Rest) (p q : Panel) (cs : List Call) → T (finite tc) → Reached p → Cleared c tc rect rest p → Cleared c tc rect rest q
      → Fair Within D tc false p q cs → Alike false nothing_since p q cs
  unfolding after
  cleared_on c rect rest p q cs fin r hp hq done = tt
  cleared_on c rect rest p q cs fin r hp hq (both_refused {c = d} {cs = ds} x y f) =
      refused_on false nothing_since p q ds (call p d) (call q d) x y tt (cleared_on c rect rest p q ds fin r hp hq f)
  cleared_on c rect rest p q cs fin r hp hq (both_passed {i = i} {cs = ds} p' q' x y e u f) =
      let tp = passed_is p i p' x in
      let pr' = button_came false (first_button (pass_events i)) in
      let k' = then_since (passed p') nothing_since in
      let later : T (le tc (time_of i p.clock.time)) = subst (λ (z : Float). T (le z (time_of i p.clock.time))) (cleared_time c tc rect rest p hp) (pass_later p i p' r tp) in
      let h : Agreeing D tc pr' k' p' q' = cleared_pass c tc rect rest i D p q p' q' fin hp hq tp (passed_is q i q' y) e later u in
      from false nothing_since p q (passes i) ds (passed p') (passed q') x y
      (record { answers = both_taken p' q'; replies = agreeing_replies D tc pr' k' p' q' h }, agree_on pr' k' p' q' ds (pass_reaches p i p' r tp) h f)
  cleared_on c rect rest p q cs fin r hp hq (both_answered {x = i} {cs = ds} s t p' q' x y f) =
      let ip = answered_is p i s p' x in
      from false nothing_since p q (interacts i) ds (answered s p') (answered t q') x y
      (tt, cleared_on c rect rest p' q' ds fin (interact_reaches p i s p' r ip) (cleared_interact c tc rect rest p p' i s hp ip) (cleared_interact c tc rect rest q q' i t hq (answered_is q i t q' y)) f)

-- More than demand 3 asks: later passes may bring any options whose delay is at most D, and a gap of D is enough.
pub clearing_within : (D : Float) (p₀ q₀ : Panel) → Reached p₀ → Reached q₀ → (later : List Call) (c : PassInput) (x : InteractInput) (p q : Panel) (h : Clears c p₀ q₀)
    → TakesFrom p₀ c x p → TakesFrom q₀ c x q → Fair (λ o. T (le o.max_double_click_delay D)) D h.time false p q later → Alike false nothing_since p q later
clearing_within D p₀ q₀ rp rq later c x p q h tp tq f =
    let takes_p = passed_is p₀ c tp.cleared tp.takes_pass in
    let takes_q = passed_is q₀ c tq.cleared tq.takes_pass in
    let answers_p = answered_is tp.cleared x tp.snapshot p tp.takes_interact in
    let answers_q = answered_is tq.cleared x tq.snapshot q tq.takes_interact in
    let fin : T (finite h.time) =
    subst (λ (z : Float). T (finite z)) (time_is p₀ c h.time h.screen_rect h.ends h.rest h.gives_time h.gives_rect h.feed)
    (time_in_range (time_of c p₀.clock.time) takes_p.in_domain).is_finite in
    cleared_on D h.time c h.screen_rect h.rest p q later fin (interact_reaches tp.cleared x tp.snapshot p (pass_reaches p₀ c tp.cleared rp takes_p) answers_p)
    (clears c h.time h.screen_rect h.rest h.ends h.gives_time h.gives_rect h.feed p₀ tp.cleared p x tp.snapshot rp h.ends_p takes_p answers_p)
    (clears c h.time h.screen_rect h.rest h.ends h.gives_time h.gives_rect h.feed q₀ tq.cleared q x tq.snapshot rq h.ends_q takes_q answers_q) f

-- ---- twice the delay is no sooner than the delay
max_duration_finite : T (finite max_duration)
unfolding max_duration of_bits
max_duration_finite = tt

delay_in_range : (o : InputOptions) → T (options_ok o) → InRange o.max_double_click_delay
unfolding options_ok duration_ok
delay_in_range o h =
    let a = length_ok o.line_scroll_speed in
    let b = unit_interval_ok o.scroll_zoom_speed in
    let c = length_ok o.max_click_dist in
    let d = duration_ok o.max_click_duration in
    let e = duration_ok o.max_double_click_delay in
    in_range max_duration o.max_double_click_delay max_duration_finite (and_r d e (and_r c (d && e) (and_r b (c && (d && e)) (and_r a (b && (c && (d && e))) h))))

nearer : (D tc time : Float) (f : Option Bool) → T (le D (twice D)) → FirstIsPress (twice D) tc time f → FirstIsPress D tc time f
nearer D tc time None d h = tt
nearer D tc time (Some false) d h = h
nearer D tc time (Some true) d h = le_trans D (twice D) (sub binary64 time tc) d h

-- options fixed are options within their own delay
fixed_within : (o : InputOptions) (tc : Float) (b : Bool) (p q : Panel) (cs : List Call) → InRange o.max_double_click_delay
    → Fair (λ z. z ≡ o) (twice o.max_double_click_delay) tc b p q cs → Fair (λ z. T (le z.max_double_click_delay o.max_double_click_delay)) o.max_double_click_delay tc b p q cs
fixed_within o tc b p q cs n done = done
fixed_within o tc b p q cs n (both_refused {cs = ds} x y f) = both_refused x y (fixed_within o tc b p q ds n f)
fixed_within o tc b p q cs n (both_passed {i = i} {cs = ds} p' q' x y e u f) =
    let fb = first_button (pass_events i) in
    let D = o.max_double_click_delay in
    both_passed p' q' x y (subst (λ (z : InputOptions). T (le z.max_double_click_delay D)) (sym e) (le_refl D n.is_finite))
    (sooner b fb (add_up binary64 D D n.fits_64 n.is_finite n.from_zero) u) (fixed_within o tc (button_came b fb) p' q' ds n f)
  where
    sooner : (b : Bool) (f : Option Bool) → T (le o.max_double_click_delay (twice o.max_double_click_delay)) → Unless b (FirstIsPress (twice o.max_double_click_delay) tc p'.clock.time f)
        → Unless b (FirstIsPress o.max_double_click_delay tc p'.clock.time f)
    sooner true f d u = tt
    sooner false f d u = nearer o.max_double_click_delay tc p'.clock.time f d u
fixed_within o tc b p q cs n (both_answered {cs = ds} s t p' q' x y f) = both_answered s t p' q' x y (fixed_within o tc b p' q' ds n f)

-- ---- demand 3, second half
pub clearing_reached : ClearingReached
clearing_reached p₀ q₀ rp rq later c x p q h tp tq f =
    let taken = passed_is p₀ c tp.cleared tp.takes_pass in
    clearing_within c.options.max_double_click_delay p₀ q₀ rp rq later c x p q h tp tq
    (fixed_within c.options h.time false p q later (delay_in_range c.options taken.options) f)

pub clearing : Clearing
clearing past₁ past₂ = clearing_reached (run fresh past₁) (run fresh past₂) (reach past₁) (reach past₂)
