-- A record stored in a slot is read back, and the other slots keep theirs: rectangles and traits. Assumes nothing.
use Rattle.std.specs.Prelude.{None, Some}
use mathlib.Core.Path.{◌≡◌, refl, subst}
use Prim.Native.Nat.{ℕ, ◌+◌, ◌*◌, ◌<◌, ◌/◌, ◌%◌}
use native.Mathlib.Omega.{arith}
use mathlib.Core.Bool.{Bool, true, false}
use mathlib.Core.List.{List, [], ◌∷◌, ◌++◌}
use lib.Dec.{eqb, leb, ltb}
use lib.Ieee.{Float, nan}
use lib.ListN.{length, get_or, length-set}
use borrow.Author.Tests.{eq-eqb, ne_eqb, ltb-true}
use Rattle.emath.specs.declared.rect.Rect.{Rect}
use Rattle.data.specs.declared.layers.LayerId.{LayerId}
use Rattle.data.specs.declared.widget.WidgetRect.{WidgetRect}
use Rattle.data.specs.Limits.{max_order}
use Rattle.data.specs.Sense.{sense_ok}
use Rattle.data.specs.declared.refusal.InsertRefusal.{InsertRefusal}
use Rattle.data.specs.declared.refusal.InsertRefusal.TheVariants.{Malformed}
use Rattle.model.specs.Widgets.{Known, well_shaped, record_refusal}
use Rattle.widget_index.specs.Layout.{bit, packed, sense_of, enabled_of, visible_of, edge_at}
use Rattle.widget_index.specs.Table.{rect_at}
use Rattle.widget_append.specs.Append.{with_edges, appended_words, appended_numbers}
use Rattle.widget_rect.proofs.Lists.{kept, stored}

-- ---- rectangles

rect_parts : (a b c d a' b' c' d' : Float) → a ≡ a' → b ≡ b' → c ≡ c' → d ≡ d'
    → ◌≡◌ {A = Rect} (record { min = record { x = a; y = b }; max = record { x = c; y = d } }) (record { min = record { x = a'; y = b' }; max = record { x = c'; y = d' } })
rect_parts a b c d a' b' c' d' e f g i = rw (e, f, g, i)

module _ (t : ℕ) (w : WidgetRect) (edges : List Float) where
  abbrev low : List (ℕ × Float)
  low = (t * 8, w.rect.min.x) ∷ (t * 8 + 1, w.rect.min.y) ∷ (t * 8 + 2, w.rect.max.x) ∷ (t * 8 + 3, w.rect.max.y) ∷ []

  abbrev high : List (ℕ × Float)
  high = (t * 8 + 4, w.interact_rect.min.x) ∷ (t * 8 + 5, w.interact_rect.min.y) ∷ (t * 8 + 6, w.interact_rect.max.x) ∷ (t * 8 + 7, w.interact_rect.max.y) ∷ []

  edge_kept : (s j : ℕ) → j < 8 → (s ≡ t → ⊥) → edge_at (with_edges t w edges) s j ≡ edge_at edges s j
  edge_kept s j small other =
      kept nan edges (low ++ high) (s * 8 + j)
      (λ i. other (omega arith), (λ i. other (omega arith), (λ i. other (omega arith), (λ i. other (omega arith), (λ i. other (omega arith), (λ i. other (omega arith), (λ i. other (omega arith), (λ i. other (omega arith), tt))))))))

  pub rect_kept : (s : ℕ) → (s ≡ t → ⊥) → rect_at (with_edges t w edges) s 0 ≡ rect_at edges s 0
  rect_kept s other = rect_parts _ _ _ _ _ _ _ _ (edge_kept s 0 (omega arith) other) (edge_kept s 1 (omega arith) other) (edge_kept s 2 (omega arith) other) (edge_kept s 3 (omega arith) other)

  pub interact_rect_kept : (s : ℕ) → (s ≡ t → ⊥) → rect_at (with_edges t w edges) s 4 ≡ rect_at edges s 4
  interact_rect_kept s other = rect_parts _ _ _ _ _ _ _ _ (edge_kept s 4 (omega arith) other) (edge_kept s 5 (omega arith) other) (edge_kept s 6 (omega arith) other) (edge_kept s 7 (omega arith) other)

  module _ (within : t < 1024) (all : length edges ≡ 8192) where
    pub rect_new : rect_at (with_edges t w edges) t 0 ≡ w.rect
    rect_new =
        rect_parts _ _ _ _ _ _ _ _
        (subst (λ (i : ℕ). get_or (with_edges t w edges) i nan ≡ w.rect.min.x) first_edge
        (stored nan edges [] (t * 8) w.rect.min.x ((t * 8 + 1, w.rect.min.y) ∷ (t * 8 + 2, w.rect.max.x) ∷ (t * 8 + 3, w.rect.max.y) ∷ high) (omega arith) (λ i. omega arith, (λ i. omega arith, (λ i. omega arith, (λ i. omega arith, (λ i. omega arith, (λ i. omega arith, (λ i. omega arith, tt)))))))))
        (stored nan edges ((t * 8, w.rect.min.x) ∷ []) (t * 8 + 1) w.rect.min.y ((t * 8 + 2, w.rect.max.x) ∷ (t * 8 + 3, w.rect.max.y) ∷ high) (omega arith) (λ i. omega arith, (λ i. omega arith, (λ i. omega arith, (λ i. omega arith, (λ i. omega arith, (λ i. omega arith, tt)))))))
        (stored nan edges ((t * 8, w.rect.min.x) ∷ (t * 8 + 1, w.rect.min.y) ∷ []) (t * 8 + 2) w.rect.max.x ((t * 8 + 3, w.rect.max.y) ∷ high) (omega arith) (λ i. omega arith, (λ i. omega arith, (λ i. omega arith, (λ i. omega arith, (λ i. omega arith, tt))))))
        (stored nan edges ((t * 8, w.rect.min.x) ∷ (t * 8 + 1, w.rect.min.y) ∷ (t * 8 + 2, w.rect.max.x) ∷ []) (t * 8 + 3) w.rect.max.y high (omega arith) (λ i. omega arith, (λ i. omega arith, (λ i. omega arith, (λ i. omega arith, tt)))))
      where
        first_edge : t * 8 ≡ t * 8 + 0
        first_edge = omega arith

    pub interact_rect_new : rect_at (with_edges t w edges) t 4 ≡ w.interact_rect
    interact_rect_new =
        rect_parts _ _ _ _ _ _ _ _
        (stored nan edges low (t * 8 + 4) w.interact_rect.min.x ((t * 8 + 5, w.interact_rect.min.y) ∷ (t * 8 + 6, w.interact_rect.max.x) ∷ (t * 8 + 7, w.interact_rect.max.y) ∷ []) (omega arith) (λ i. omega arith, (λ i. omega arith, (λ i. omega arith, tt))))
        (stored nan edges (low ++ ((t * 8 + 4, w.interact_rect.min.x) ∷ [])) (t * 8 + 5) w.interact_rect.min.y ((t * 8 + 6, w.interact_rect.max.x) ∷ (t * 8 + 7, w.interact_rect.max.y) ∷ []) (omega arith) (λ i. omega arith, (λ i. omega arith, tt)))
        (stored nan edges (low ++ ((t * 8 + 4, w.interact_rect.min.x) ∷ (t * 8 + 5, w.interact_rect.min.y) ∷ [])) (t * 8 + 6) w.interact_rect.max.x ((t * 8 + 7, w.interact_rect.max.y) ∷ []) (omega arith) (λ i. omega arith, tt))
        (stored nan edges (low ++ ((t * 8 + 4, w.interact_rect.min.x) ∷ (t * 8 + 5, w.interact_rect.min.y) ∷ (t * 8 + 6, w.interact_rect.max.x) ∷ [])) (t * 8 + 7) w.interact_rect.max.y [] (omega arith) tt)

-- ---- traits

bit_small : (b : Bool) → bit b < 2
unfolding bit
bit_small true = omega arith
bit_small false = omega arith

is_bit : (b : Bool) → eqb (bit b) 1 ≡ b
unfolding bit
is_bit true = eq-eqb 1 1 refl
is_bit false = ne_eqb 0 1 (λ h. omega arith)

module _ (s : ℕ) (a b : Bool) where
  pub sense_back : s < 8 → sense_of (packed s a b) ≡ s
  sense_back small = omega (arith, bit_small a, bit_small b)

  pub enabled_back : enabled_of (packed s a b) ≡ a
  enabled_back = let e : packed s a b / 2 % 2 ≡ bit a = omega (arith, bit_small a, bit_small b) in rw e (is_bit a)

  pub visible_back : visible_of (packed s a b) ≡ b
  visible_back = let e : packed s a b % 2 ≡ bit b = omega (arith, bit_small b) in rw e (is_bit b)

-- ---- records from their parts

pub widget_parts : (i i' p p' : ℕ) (l l' : LayerId) (r r' x x' : Rect) (s s' : ℕ) (a a' v v' : Bool) → i ≡ i' → p ≡ p' → l ≡ l' → r ≡ r' → x ≡ x' → s ≡ s' → a ≡ a' → v ≡ v'
    → ◌≡◌ {A = WidgetRect}
    (record { id = i; parent_id = p; layer_id = l; rect = r; interact_rect = x; sense = s; enabled = a; visible = v })
    (record { id = i'; parent_id = p'; layer_id = l'; rect = r'; interact_rect = x'; sense = s'; enabled = a'; visible = v' })
widget_parts i i' p p' l l' r r' x x' s s' a a' v v' e₁ e₂ e₃ e₄ e₅ e₆ e₇ e₈ = rw (e₁, e₂, e₃, e₄, e₅, e₆, e₇, e₈)

pub known_parts : (p p' : ℕ) (w w' : WidgetRect) → p ≡ p' → w ≡ w' → ◌≡◌ {A = Known} (record { position = p; widget = w }) (record { position = p'; widget = w' })
known_parts p p' w w' e f = rw (e, f)

-- ---- a record that is not refused

pub sense_fits : (w : WidgetRect) → record_refusal w ≡ None → w.sense < 8
unfolding record_refusal well_shaped sense_ok
sense_fits w h = go (leb w.layer_id.order max_order) refl (ltb w.sense 8) refl
  where
    no_refusal : (x : InsertRefusal) → Some x ≡ None → ⊥
    no_refusal x e = let z : ◌≡◌ {A = ℕ} 0 1 = cc in omega arith

    go : (a : Bool) → leb w.layer_id.order max_order ≡ a → (b : Bool) → ltb w.sense 8 ≡ b → w.sense < 8
    go a f true t = ltb-true w.sense 8 t
    go true f false t = absurd (no_refusal Malformed (rw (f, t) at h))
    go false f false t = absurd (no_refusal Malformed (rw f at h))

-- ---- stores keep the arrays' lengths

pub length_with_edges : (t : ℕ) (w : WidgetRect) (edges : List Float) → length (with_edges t w edges) ≡ length edges
length_with_edges t w edges = simp length-set

pub length_appended_words : (s l : ℕ) (w : WidgetRect) (words : List ℕ) → length (appended_words s l w words) ≡ length words
length_appended_words s l w words = simp length-set

pub length_appended_numbers : (s l count e : ℕ) (w : WidgetRect) (numbers : List ℕ) → length (appended_numbers s l count e w numbers) ≡ length numbers
length_appended_numbers s l count e w numbers = simp length-set
