-- The reader's answers as steps of the walk, and what an accepted event is known to be. Assumes nothing.
use Rattle.std.specs.Prelude.{Option, None, Some, Ok, Err}
use mathlib.Core.Path.{◌≡◌, refl, sym, ap, ◌∙◌, subst}
use mathlib.Core.Bool.{Bool, true, false, cond}
use mathlib.Core.List.{List, [], ◌∷◌}
use Prim.Native.Nat.{ℕ, suc, ◌+◌, ◌-◌, ◌%◌, ◌≤◌, ◌<◌}
use native.Mathlib.Omega.{arith}
use lib.Dec.{T, eqb, ltb, lt→ltb}
use lib.ListN.{get_or, length}
use borrow.Author.Tests.{ltb-true, ltb-false}
use Rattle.data.specs.Kinds.{key_kind, modifiers_kind, moved_kind, motion_kind, button_kind, gone_kind, zoom_kind, rotate_kind, touch_kind, wheel_kind, focus_kind, other_kind}
use Rattle.data.specs.Limits.{key_count, event_ok}
use Rattle.feed.specs.Types.{Event}
use Rattle.feed.specs.Types.fault as fault
use Rattle.feed.specs.Split.{kind, low_bits, following, piece_length}
use Rattle.feed.specs.Shape.{clean, field_below, key_shape, modifiers_shape, moved_shape, motion_shape, button_shape, zoom_shape, rotate_shape, touch_shape, wheel_shape, focus_shape, shape_by_kind, shape}
use Rattle.feed.specs.Decode.{Decoded, good, malformed, outside_domain, decode, check_floats, items_after, piece_at, found_at, event_at, found_refusal}
use Rattle.feed.specs.Encode.{fields_ok}
use Rattle.feed.specs.Feed.{then_refusal}
use Rattle.feed.specs.Laws.{Steps, DecodedInDomain}
use Rattle.feed.proofs.Reading.{items_next, event_at_short}

absurd_case : {X : Type 0} → ◌≡◌ {A = ℕ} 0 1 → X
absurd_case z = absurd (omega arith)

-- ---- what an answer says of what was decoded
found_event : (d : Decoded) (n next : ℕ) (e : Event) → found_at d n ≡ Ok (e, next) → (d ≡ good e) × (n ≡ next)
unfolding found_at
found_event (good e') n next e h = let p : (e', n) ≡ (e, next) = cc in (ap (λ (x : Event × ℕ). good x.0) p, ap (λ (x : Event × ℕ). x.1) p)
found_event malformed n next e h = absurd_case (cc)
found_event outside_domain n next e h = absurd_case (cc)

found_malformed : (d : Decoded) (n : ℕ) → found_at d n ≡ Err fault.Malformed → d ≡ malformed
unfolding found_at
found_malformed (good e) n h = absurd_case (cc)
found_malformed malformed n h = refl
found_malformed outside_domain n h = absurd_case (cc)

found_outside : (d : Decoded) (n : ℕ) → found_at d n ≡ Err fault.OutsideDomain → d ≡ outside_domain
unfolding found_at
found_outside (good e) n h = absurd_case (cc)
found_outside malformed n h = absurd_case (cc)
found_outside outside_domain n h = refl

-- the refusal of an answer is that of the item
pub refusal_is : (at n : ℕ) (d : Decoded) → found_refusal at (found_at d n) ≡ then_refusal at d None
unfolding found_refusal found_at then_refusal
refusal_is at n (good e) = refl
refusal_is at n malformed = refl
refusal_is at n outside_domain = refl

module _ (ws : List ℕ) (at : ℕ) (here : at < length ws) where
  -- a whole event
  whole : (next : ℕ) (e : Event) → event_at ws at ≡ Ok (e, next) → following (get_or ws at 0) < length ws - at
  whole next e h = go (ltb (following (get_or ws at 0)) (length ws - at)) refl
    where
      go : (b : Bool) → ltb (following (get_or ws at 0)) (length ws - at) ≡ b → following (get_or ws at 0) < length ws - at
      go true t = ltb-true _ _ t
      go false t =
          let short = event_at_short ws at here (ltb-false _ _ t) in
          absurd_case (cc)

  step_event : (next : ℕ) (e : Event) → event_at ws at ≡ Ok (e, next) →
      (items_after ws at ≡ record { index = at; what = good e } ∷ items_after ws next) × (at < next) × (next ≤ length ws)
  unfolding event_at piece_length
  step_event next e h =
      let both = found_event (decode (piece_at ws at)) (at + piece_length (get_or ws at 0)) next e h in
      let w = whole next e h in
      let n : at + suc (following (get_or ws at 0)) ≡ next = both.1 in
      (items_next ws at here ∙ rw (both.0, n), omega arith, omega arith)

  step_malformed : event_at ws at ≡ Err fault.Malformed →
      items_after ws at ≡ record { index = at; what = malformed } ∷ items_after ws (at + piece_length (get_or ws at 0))
  unfolding event_at
  step_malformed h = items_next ws at here ∙ rw (found_malformed (decode (piece_at ws at)) _ h)

  step_outside : event_at ws at ≡ Err fault.OutsideDomain →
      items_after ws at ≡ record { index = at; what = outside_domain } ∷ items_after ws (at + piece_length (get_or ws at 0))
  unfolding event_at
  step_outside h = items_next ws at here ∙ rw (found_outside (decode (piece_at ws at)) _ h)

pub steps : Steps
steps =
    record {
      event = λ ws at next e here h. step_event ws at here next e h;
      refused_1 = λ ws at here h. step_malformed ws at here h;
      refused_2 = λ ws at here h. step_outside ws at here h;
    }

-- ---- the domain
unfoldable fine : Option Event → Bool
fine None = true
fine (Some e) = fields_ok e

cond_fine : (b : Bool) (x y : Option Event) → (b ≡ true → T (fine x)) → T (fine y) → T (fine (cond b x y))
cond_fine true x y f g = f refl
cond_fine false x y f g = g

clean_fine : (limit low : ℕ) (e : Option Event) → T (fine e) → T (fine (clean limit low e))
unfolding clean fine
clean_fine limit low e h = cond_fine (ltb low limit) e None (λ t. h) tt

below_fine : (limit field : ℕ) (e : Option Event) → (field < limit → T (fine e)) → T (fine (field_below limit field e))
unfolding field_below fine
below_fine limit field e h = cond_fine (ltb field limit) e None (λ t. h (ltb-true field limit t)) tt

by_kind_fine : (k low : ℕ) (ws : List ℕ) → T (fine (shape_by_kind k low ws))
unfolding shape_by_kind key_shape modifiers_shape moved_shape motion_shape button_shape zoom_shape rotate_shape touch_shape wheel_shape focus_shape fine fields_ok
by_kind_fine k low ws =
    cond_fine (eqb k 0) _ _ (λ t. tt)
    (cond_fine (eqb k key_kind) _ _ (λ t. clean_fine 512 low _ (below_fine key_count (low % 256) _ (λ h. lt→ltb (low % 256) key_count h)))
    (cond_fine (eqb k modifiers_kind) _ _ (λ t. clean_fine 32 low _ tt)
    (cond_fine (eqb k moved_kind) _ _ (λ t. clean_fine 1 low _ tt)
    (cond_fine (eqb k motion_kind) _ _ (λ t. clean_fine 1 low _ tt)
    (cond_fine (eqb k button_kind) _ _ (λ t. clean_fine 512 low _ (below_fine 5 _ _ (λ h. tt)))
    (cond_fine (eqb k gone_kind) _ _ (λ t. clean_fine 1 low _ tt)
    (cond_fine (eqb k zoom_kind) _ _ (λ t. clean_fine 1 low _ tt)
    (cond_fine (eqb k rotate_kind) _ _ (λ t. clean_fine 1 low _ tt)
    (cond_fine (eqb k touch_kind) _ _ (λ t. clean_fine 8 low _ tt)
    (cond_fine (eqb k wheel_kind) _ _ (λ t. clean_fine 2048 low _ (below_fine 3 _ _ (λ h. tt)))
    (cond_fine (eqb k focus_kind) _ _ (λ t. clean_fine 2 low _ tt)
    (cond_fine (eqb k other_kind) _ _ (λ t. clean_fine 1 low _ tt)
    tt))))))))))))

shape_fine : (ws : List ℕ) → T (fine (shape ws))
unfolding shape fine
shape_fine [] = tt
shape_fine (w ∷ ws) = cond_fine (ltb (length ws) (following w)) None _ (λ t. tt) (by_kind_fine (kind w) (low_bits w) ws)

checked : (m : Option Event) (e : Event) → T (fine m) → check_floats m ≡ good e → T (fields_ok e) × T (event_ok e)
unfolding check_floats fine
checked None e f h = absurd_case (cc)
checked (Some e') e f h = go (event_ok e') refl h
  where
    go : (b : Bool) → event_ok e' ≡ b → cond b (good e') outside_domain ≡ good e → T (fields_ok e) × T (event_ok e)
    go true t h =
        let same : e' ≡ e = cc in
        (subst (λ (x : Event). T (fields_ok x)) same f, subst (λ (x : Event). T (event_ok x)) same (subst T (sym t) tt))
    go false t h = absurd_case (cc)

pub decoded_in_domain : DecodedInDomain
unfolding decode
decoded_in_domain ws e h = checked (shape ws) e (shape_fine ws) h
