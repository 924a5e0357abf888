-- A pass with the words of a call: of its feed, only 4 and 5 refuse it. Assumes nothing.
use Rattle.std.specs.Prelude.{Option, None, Some}
use Prim.Native.Nat.{ℕ, zero, suc}
use native.Mathlib.Omega.{arith}
use mathlib.Core.Path.{◌≡◌, sym, ap, ◌∙◌}
use mathlib.Core.Bool.{Bool, true, false, cond}
use mathlib.Core.List.{List, [], ◌∷◌, map}
use mathlib.Core.Logic.{◌⊎◌, inl, inr}
use Rattle.data.specs.Limits.{max_events}
use Rattle.data.specs.Numbers.{pass_refusal_number}
use Rattle.feed.specs.Types.{Event, PassRefusal, TooManyEvents, NoPlace}
use Rattle.feed.specs.Decode.{Decoded, good, Item, items}
use Rattle.model.specs.Touch.{TouchState}
use Rattle.model.specs.Pass as Pass
use Rattle.model.specs.Pass.{Panel, PassInput, own_refusal, pass, crowded, item_refusal, item_devices, or_else, survey, pass_refusal, pass_by}
use Rattle.kernel_laws.specs.Laws.{LeftToPass}

abbrev FourOrFive : PassRefusal → Type 0
FourOrFive q = (pass_refusal_number q ≡ 4) ⊎ (pass_refusal_number q ≡ 5)

-- an event of the domain
good_refusal : (w : ℕ) (e : Event) (vs : List TouchState) (later : Option PassRefusal) (q : PassRefusal) →
    or_else (item_refusal w (good e) vs) later ≡ Some q → FourOrFive q ⊎ (later ≡ Some q)
unfolding or_else item_refusal
good_refusal w e vs later q = go (crowded e vs)
  where
    go : (b : Bool) → or_else (cond b (Some (NoPlace w)) None) later ≡ Some q → FourOrFive q ⊎ (later ≡ Some q)
    go true h = let same : NoPlace w ≡ q = cc in inl (inr (sym (ap pass_refusal_number same)))
    go false h = inr h

events_refusal : (left : ℕ) (is : List Item) (es : List Event) (vs : List TouchState) (q : PassRefusal) → map (λ (i : Item). i.what) is ≡ map good es →
    survey left is vs ≡ Some q → FourOrFive q
unfolding survey
events_refusal left [] es vs q e h = let z : ◌≡◌ {A = ℕ} 0 1 = cc in absurd (omega arith)
events_refusal zero (i ∷ is) es vs q e h = let same : TooManyEvents i.index ≡ q = cc in inl (sym (ap pass_refusal_number same))
events_refusal (suc left) (i ∷ is) [] vs q e h = let z : ◌≡◌ {A = ℕ} 0 1 = cc in absurd (omega arith)
events_refusal (suc left) (i ∷ is) (x ∷ es) vs q e h =
    let first : i.what ≡ good x = cc in
    let rest : map (λ (u : Item). u.what) is ≡ map good es = cc in
    let next = item_devices i.what vs in
    both (events_refusal left is es next q rest) (good_refusal i.index x vs (survey left is next) q (ap (λ (w : Decoded). or_else (item_refusal i.index w vs) (survey left is next)) (sym first) ∙ h))
  where
    both : {A B : Type 0} → (B → A) → A ⊎ B → A
    both f (inl a) = a
    both f (inr b) = f b

refused_by : (o : Option PassRefusal) (p : Panel) (i : PassInput) (q : PassRefusal) → pass_by o p i ≡ Pass.refused q → o ≡ Some q
unfolding pass_by
refused_by None p i q h = let z : ◌≡◌ {A = ℕ} 0 1 = cc in absurd (omega arith)
refused_by (Some r) p i q h = let same : r ≡ q = cc in ap Some same

own_first : (own later : Option PassRefusal) (q : PassRefusal) → or_else own later ≡ Some q → (own ≡ Some q) ⊎ (later ≡ Some q)
unfolding or_else
own_first None later q h = inr h
own_first (Some r) later q h = inl h

pub left_to_pass : LeftToPass
unfolding pass pass_refusal
left_to_pass p i es q s h =
    let events = survey max_events (items i.feed) p.touch_states in
    go (own_first (own_refusal i p.clock.time) events q (refused_by (or_else (own_refusal i p.clock.time) events) p i q h))
  where
    go : (own_refusal i p.clock.time ≡ Some q) ⊎ (survey max_events (items i.feed) p.touch_states ≡ Some q) →
        (own_refusal i p.clock.time ≡ Some q) ⊎ FourOrFive q
    go (inl a) = inl a
    go (inr b) = inr (events_refusal max_events (items i.feed) es p.touch_states q s.each_good b)
