-- An event that is shaped is of its first word's kind, or `Other`; a key's place is one of egui's; variants by their kinds. Assumes nothing.
use Rattle.std.specs.Prelude.{Option, None, Some}
use mathlib.Core.Path.{◌≡◌, refl, sym, ◌∙◌, subst}
use mathlib.Core.Bool.{Bool, true, false, cond, not}
use mathlib.Core.List.{List, [], ◌∷◌, ◌++◌}
use mathlib.Core.Logic.{◌⊎◌, inl, inr, ⊎_elim}
use Prim.Native.Nat.{ℕ, suc, ◌-◌, ◌≤◌, ◌<◌}
use native.Mathlib.Omega.{arith}
use lib.Dec.{T, eqb, ltb}
use lib.ListN.{get_or, length, take, drop}
use mir.Val.{has_key}
use types.Run.{OneOf, miss}
use denote.Enum.Declared.{tag_of}
use borrow.Author.Tests.{eqb-true, eqb-false, ltb-true, ltb-false}
use Rattle.data.specs.Kinds.{key_kind, modifiers_kind, moved_kind, motion_kind, button_kind, gone_kind, zoom_kind, rotate_kind, touch_kind, wheel_kind, focus_kind, other_kind}
use Rattle.data.specs.Limits.{key_count, button_count, unit_count}
use Rattle.data.specs.Numbers.{kind_number}
use Rattle.data.specs.contracts.event.Event.{the_type}
use Rattle.feed.specs.Types.{Event, Key, ModifiersChanged, PointerMoved, MouseMoved, Button, PointerGone, Zoom, Rotate, Touch, MouseWheel, WindowFocused, Other}
use Rattle.data.specs.declared.event.Event.{Event}
use Rattle.feed.specs.Encode.{fields_ok}
use Rattle.feed.specs.Split.{kind, low_bits, following}
use Rattle.feed.specs.Shape.{clean, field_below, key_shape, modifiers_shape, moved_shape, motion_shape, button_shape, zoom_shape, rotate_shape, touch_shape, wheel_shape, focus_shape, shape_by_kind, shape}
use Rattle.event_loop.specs.Shaped.{event_or_other, shaped_at}
use Rattle.event_loop.specs.Lists.{reader_of, list_of, reads}
use Rattle.event_loop.proofs.Rows.{number_small}
use Rattle.event_loop.proofs.Walk.{at_past, at_short, at_whole}

abbrev Of_kind : ℕ → Event → Type 0
Of_kind k e = ((kind_number e ≡ k) ⊎ (e ≡ Other)) × T (fields_ok e)

-- what is shaped is of kind k
abbrev Of : ℕ → Option Event → Type 0
Of k m = (e : Event) → m ≡ Some e → (kind_number e ≡ k) × T (fields_ok e)

none_of : (k : ℕ) → Of k None
none_of k e h = let z : ◌≡◌ {A = ℕ} 0 1 = cc in absurd (omega arith)

by_cond : (k : ℕ) (b : Bool) (x y : Option Event) → (b ≡ true → Of k x) → Of k y → Of k (cond b x y)
by_cond k true x y f g = f refl
by_cond k false x y f g = g

-- an event under the tests of its low bits
clean_of : (k limit low : ℕ) (m : Option Event) → Of k m → Of k (clean limit low m)
unfolding clean
clean_of k limit low m h = by_cond k (ltb low limit) m None (λ t. h) (none_of k)

below_of : (k limit field : ℕ) (m : Option Event) → (ltb field limit ≡ true → Of k m) → Of k (field_below limit field m)
unfolding field_below
below_of k limit field m h = by_cond k (ltb field limit) m None h (none_of k)

some_of : (k n : ℕ) (e : Event) → eqb k n ≡ true → kind_number e ≡ n → T (fields_ok e) → Of k (Some e)
some_of k n e t h f d p =
    let same : e ≡ d = cc in
    let both : (kind_number e ≡ k) × T (fields_ok e) = (h ∙ sym (eqb-true k n t), f) in
    rw same at both

by_kind : (k low : ℕ) (ws : List ℕ) → Of k (shape_by_kind k low ws)
unfolding shape_by_kind key_shape modifiers_shape moved_shape motion_shape button_shape zoom_shape rotate_shape touch_shape wheel_shape focus_shape fields_ok
by_kind k low ws =
    by_cond k (eqb k 0) _ _ (λ t. none_of k)
    (by_cond k (eqb k key_kind) _ _ (λ t. clean_of k 512 low _ (below_of k key_count _ _ (λ u. some_of k key_kind _ t refl (subst T (sym u) tt))))
    (by_cond k (eqb k modifiers_kind) _ _ (λ t. clean_of k 32 low _ (some_of k modifiers_kind _ t refl tt))
    (by_cond k (eqb k moved_kind) _ _ (λ t. clean_of k 1 low _ (some_of k moved_kind _ t refl tt))
    (by_cond k (eqb k motion_kind) _ _ (λ t. clean_of k 1 low _ (some_of k motion_kind _ t refl tt))
    (by_cond k (eqb k button_kind) _ _ (λ t. clean_of k 512 low _ (below_of k button_count _ _ (λ u. some_of k button_kind _ t refl tt)))
    (by_cond k (eqb k gone_kind) _ _ (λ t. clean_of k 1 low _ (some_of k gone_kind _ t refl tt))
    (by_cond k (eqb k zoom_kind) _ _ (λ t. clean_of k 1 low _ (some_of k zoom_kind _ t refl tt))
    (by_cond k (eqb k rotate_kind) _ _ (λ t. clean_of k 1 low _ (some_of k rotate_kind _ t refl tt))
    (by_cond k (eqb k touch_kind) _ _ (λ t. clean_of k 8 low _ (some_of k touch_kind _ t refl tt))
    (by_cond k (eqb k wheel_kind) _ _ (λ t. clean_of k 2048 low _ (below_of k unit_count _ _ (λ u. some_of k wheel_kind _ t refl tt)))
    (by_cond k (eqb k focus_kind) _ _ (λ t. clean_of k 2 low _ (some_of k focus_kind _ t refl tt))
    (by_cond k (eqb k other_kind) _ _ (λ t. clean_of k 1 low _ (some_of k other_kind _ t refl tt))
    (none_of k)))))))))))))

or_other : (k : ℕ) (m : Option Event) → Of k m → Of_kind k (event_or_other m)
unfolding event_or_other fields_ok
or_other k None h = (inr refl, tt)
or_other k (Some e) h =
    let f = h e refl in
    (inl f.0, f.1)

other_of : (k : ℕ) → Of_kind k Other
unfolding fields_ok
other_of k = (inr refl, tt)

module _ (ws : List ℕ) (at : ℕ) where
  pub OfKind : Of_kind (kind (get_or ws at 0)) (shaped_at ws at)
  OfKind = go (ltb at (length ws)) refl
    where
      go2 : (b : Bool) → ltb (following (get_or ws at 0)) (length ws - at) ≡ b → at < length ws → Of_kind (kind (get_or ws at 0)) (shaped_at ws at)
      go2 true t h = rw (at_whole ws at h (ltb-true _ _ t)) (or_other _ _ (by_kind (kind (get_or ws at 0)) (low_bits (get_or ws at 0)) (drop (suc at) ws)))
      go2 false t h = rw (at_short ws at h (ltb-false _ _ t)) (other_of _)

      go : (b : Bool) → ltb at (length ws) ≡ b → Of_kind (kind (get_or ws at 0)) (shaped_at ws at)
      go true t = go2 (ltb (following (get_or ws at 0)) (length ws - at)) refl (ltb-true _ _ t)
      go false t = rw (at_past ws at (ltb-false _ _ t)) (other_of _)

  -- what the first word excludes; `Other` is of the last kind
  pub not_of_kind : (k : ℕ) → (kind (get_or ws at 0) ≡ k → ⊥) → (k ≡ other_kind → ⊥) → kind_number (shaped_at ws at) ≡ k → ⊥
  not_of_kind k other not-other h = ⊎_elim (λ e. other (sym e ∙ h)) (λ e. not-other (sym h ∙ rw e)) OfKind.0

  pub fields : T (fields_ok (shaped_at ws at))
  fields = OfKind.1

-- words that say an event: it is of their kind
pub kind_of : (w : ℕ) (ws : List ℕ) (e : Event) → shape (w ∷ ws) ≡ Some e → kind_number e ≡ kind w
unfolding shape
kind_of w ws e h = go (ltb (length ws) (following w)) h
  where
    go : (b : Bool) → cond b None (shape_by_kind (kind w) (low_bits w) ws) ≡ Some e → kind_number e ≡ kind w
    go true h = (none_of (kind w) e h).0
    go false h = (by_kind (kind w) (low_bits w) ws e h).0

-- an event that list l does not read is of none of its kinds
pub not_read : (l : ℕ) (e : Event) (k : ℕ) → reads l e ≡ false → list_of k ≡ l → kind_number e ≡ k → ⊥
not_read l e k h own same = eqb-false (list_of (kind_number e)) l h (rw same own)

pub list_small : (k : ℕ) → list_of k ≤ 5
list_small k = omega (arith, number_small (reader_of k))

-- ---- the variants stand in the order of the kinds, which begin at 1
variant_kind : (e : Event) → kind_number e ≡ suc (tag_of the_type e)
variant_kind (Key k b) = refl
variant_kind (ModifiersChanged m) = refl
variant_kind (PointerMoved v) = refl
variant_kind (MouseMoved v) = refl
variant_kind (Button v b c m) = refl
variant_kind PointerGone = refl
variant_kind (Zoom x) = refl
variant_kind (Rotate x) = refl
variant_kind (Touch d i ph v f) = refl
variant_kind (MouseWheel u v ph g m) = refl
variant_kind (WindowFocused b) = refl
variant_kind Other = refl

-- all their places but k
abbrev pub others : ℕ → List ℕ
others k =
    let all : List ℕ = 0 ∷ 1 ∷ 2 ∷ 3 ∷ 4 ∷ 5 ∷ 6 ∷ 7 ∷ 8 ∷ 9 ∷ 10 ∷ 11 ∷ [] in
    take k all ++ drop (suc k) all

-- an event of one of these variants is of no other's kind
pub other_variant : (e : Event) (these : List ℕ) (k : ℕ) → OneOf these (tag_of the_type e) → T (not (has_key these k)) → kind_number e ≡ suc k → ⊥
other_variant e these k one other same =
    let is : tag_of the_type e ≡ k = omega (arith, variant_kind e) in
    miss these k other (rw is at one)

-- a reader's event that is not of the variant of its kind
pub is_other : (ws : List ℕ) (at k : ℕ) (e : Event) → kind (get_or ws at 0) ≡ suc k → e ≡ shaped_at ws at → OneOf (others k) (tag_of the_type e) → T (not (has_key (others k) k)) → shaped_at ws at ≡ Other
is_other ws at k e here same one other =
    ⊎_elim (λ h. absurd (other_variant e (others k) k one other (rw same (h ∙ here)))) (λ h. h) (OfKind ws at).0
