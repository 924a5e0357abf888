-- `shape_by_kind` of a known kind. Assumes nothing.
use Rattle.std.specs.Prelude.{Option, None, Some}
use mathlib.Core.Path.{◌≡◌}
use mathlib.Core.List.{List}
use Prim.Native.Nat.{ℕ, suc, ◌+◌}
use lib.ListN.{get_or, drop}
use borrow.Author.Tests.{ne_eqb}
use Rattle.data.specs.Kinds.{key_kind, modifiers_kind, moved_kind, motion_kind, button_kind, gone_kind, zoom_kind, rotate_kind, touch_kind, wheel_kind, focus_kind, other_kind}
use Rattle.data.specs.declared.event.Event.TheVariants.{PointerGone, Other}
use Rattle.data.specs.declared.event.Event.{Event}
use Rattle.feed.specs.Shape.{clean, key_shape, modifiers_shape, moved_shape, motion_shape, button_shape, zoom_shape, rotate_shape, touch_shape, wheel_shape, focus_shape, shape_by_kind}
use Rattle.feed.proofs.Words.{word_after}

module _ (k low : ℕ) (ws : List ℕ) (r : Option Event) where
  pub as_0 : k ≡ 0 → r ≡ None → r ≡ shape_by_kind k low ws
  unfolding shape_by_kind
  as_0 h e = rw h e

  pub as_1 : k ≡ key_kind → r ≡ key_shape low → r ≡ shape_by_kind k low ws
  unfolding shape_by_kind
  as_1 h e = rw h e

  pub as_2 : k ≡ modifiers_kind → r ≡ modifiers_shape low → r ≡ shape_by_kind k low ws
  unfolding shape_by_kind
  as_2 h e = rw h e

  pub as_6 : k ≡ gone_kind → r ≡ clean 1 low (Some PointerGone) → r ≡ shape_by_kind k low ws
  unfolding shape_by_kind
  as_6 h e = rw h e

  pub as_9 : k ≡ touch_kind → r ≡ touch_shape low ws → r ≡ shape_by_kind k low ws
  unfolding shape_by_kind
  as_9 h e = rw h e

  pub as_11 : k ≡ focus_kind → r ≡ focus_shape low → r ≡ shape_by_kind k low ws
  unfolding shape_by_kind
  as_11 h e = rw h e

  pub as_12 : k ≡ other_kind → r ≡ clean 1 low (Some Other) → r ≡ shape_by_kind k low ws
  unfolding shape_by_kind
  as_12 h e = rw h e

-- .. whose words after are those after `at`
module _ (ws : List ℕ) (at k low : ℕ) (r : Option Event) where
  pub as_3 : k ≡ moved_kind → r ≡ moved_shape low (get_or ws (at + 1) 0) (get_or ws (at + 2) 0) → r ≡ shape_by_kind k low (drop (suc at) ws)
  unfolding shape_by_kind
  as_3 h e = rw (h, word_after ws at 0, word_after ws at 1) e

  pub as_4 : k ≡ motion_kind → r ≡ motion_shape low (get_or ws (at + 1) 0) (get_or ws (at + 2) 0) → r ≡ shape_by_kind k low (drop (suc at) ws)
  unfolding shape_by_kind
  as_4 h e = rw (h, word_after ws at 0, word_after ws at 1) e

  pub as_5 : k ≡ button_kind → r ≡ button_shape low (get_or ws (at + 1) 0) (get_or ws (at + 2) 0) → r ≡ shape_by_kind k low (drop (suc at) ws)
  unfolding shape_by_kind
  as_5 h e = rw (h, word_after ws at 0, word_after ws at 1) e

  pub as_7 : k ≡ zoom_kind → r ≡ zoom_shape low (get_or ws (at + 1) 0) → r ≡ shape_by_kind k low (drop (suc at) ws)
  unfolding shape_by_kind
  as_7 h e = rw (h, word_after ws at 0) e

  pub as_8 : k ≡ rotate_kind → r ≡ rotate_shape low (get_or ws (at + 1) 0) → r ≡ shape_by_kind k low (drop (suc at) ws)
  unfolding shape_by_kind
  as_8 h e = rw (h, word_after ws at 0) e

  pub as_10 : k ≡ wheel_kind → r ≡ wheel_shape low (get_or ws (at + 1) 0) (get_or ws (at + 2) 0) → r ≡ shape_by_kind k low (drop (suc at) ws)
  unfolding shape_by_kind
  as_10 h e = rw (h, word_after ws at 0, word_after ws at 1) e

-- .. past the last
pub unknown : (k low : ℕ) (ws : List ℕ) → (k ≡ 0 → ⊥) → (k ≡ key_kind → ⊥) → (k ≡ modifiers_kind → ⊥) → (k ≡ moved_kind → ⊥) → (k ≡ motion_kind → ⊥) → (k ≡ button_kind → ⊥) → (k ≡ gone_kind → ⊥) → (k ≡ zoom_kind → ⊥) → (k ≡ rotate_kind → ⊥) → (k ≡ touch_kind → ⊥) → (k ≡ wheel_kind → ⊥) → (k ≡ focus_kind → ⊥) → (k ≡ other_kind → ⊥) →
    None ≡ shape_by_kind k low ws
unfolding shape_by_kind
unknown k low ws h0 h1 h2 h3 h4 h5 h6 h7 h8 h9 h10 h11 h12 =
    rw (ne_eqb _ _ h0, ne_eqb _ _ h1, ne_eqb _ _ h2, ne_eqb _ _ h3, ne_eqb _ _ h4, ne_eqb _ _ h5, ne_eqb _ _ h6, ne_eqb _ _ h7, ne_eqb _ _ h8, ne_eqb _ _ h9, ne_eqb _ _ h10, ne_eqb _ _ h11, ne_eqb _ _ h12)
