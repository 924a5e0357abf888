-- `event_at` by the words that follow a place, and the walk from place to place: `items`, one by one. Assumes nothing.
use Rattle.std.specs.Prelude.{Some, Err}
use mathlib.Core.Path.{◌≡◌, refl, ap, ◌∙◌}
use mathlib.Core.Bool.{Bool, true, false, cond}
use mathlib.Core.List.{List, [], ◌∷◌}
use Prim.Native.Nat.{ℕ, zero, suc, ◌+◌, ◌-◌, ◌/◌, ◌%◌, ◌≤◌, ◌<◌}
use native.Mathlib.Omega.{arith}
use native.Mathlib.Numerals.{add-one}
use lib.Dec.{eqb, ltb, lit<}
use lib.ListN.{get_or, length, take, drop, length-drop, drop_of_length-le}
use lib.Seq.{take_all, length-take-le, get_or-take, drop-cons, drop-drop}
use borrow.Author.Tests.{eqb-true, ltb-true, ltb-false, lt-ltb, le-ltb}
use Rattle.data.specs.Kinds.{key_kind, modifiers_kind, moved_kind, motion_kind, button_kind, gone_kind, zoom_kind, rotate_kind, touch_kind, wheel_kind}
use Rattle.feed.specs.Types.fault as fault
use Rattle.feed.specs.Split.{kind, low_bits, lengths, following, piece_length, pieces, pieces_from}
use Rattle.feed.specs.Shape.{float_of, force_of, touch_shape, shape_by_kind, shape}
use Rattle.feed.specs.Decode.{decode, check_floats, item_of, items, items_after, piece_at, found_at, event_at}
use Rattle.feed.proofs.Lengths.{length_least, touch_following}

cond_same : {X : Type 0} {x y u v : X} (b : Bool) → (b ≡ true → x ≡ u) → y ≡ v → cond b x y ≡ cond b u v
cond_same true f e = f refl
cond_same false f e = e

-- the shape goes by no word past those that the table counts
module _ (k low : ℕ) (us ws : List ℕ)
    (same : (i : ℕ) → i < get_or lengths k 0 → get_or us i 0 ≡ get_or ws i 0)
    (same-force : k ≡ touch_kind → low / 4 % 2 ≡ 1 → get_or us 6 0 ≡ get_or ws 6 0) where
  word : (j i : ℕ) → eqb k j ≡ true → i < get_or lengths j 0 → get_or us i 0 ≡ get_or ws i 0
  word j i t p = same i (rw (eqb-true k j t) p)

  force_same : eqb k touch_kind ≡ true → force_of (low / 4 % 2) (get_or us 6 0) ≡ force_of (low / 4 % 2) (get_or ws 6 0)
  unfolding force_of
  force_same t =
      cond_same (eqb (low / 4 % 2) 1) (λ p. ap (λ (w : ℕ). Some (float_of w)) (same-force (eqb-true k touch_kind t) (eqb-true (low / 4 % 2) 1 p))) refl

  touch_same : eqb k touch_kind ≡ true → touch_shape low us ≡ touch_shape low ws
  unfolding touch_shape
  touch_same t =
      rw (word touch_kind 0 t (lit< tt), word touch_kind 1 t (lit< tt), word touch_kind 2 t (lit< tt), word touch_kind 3 t (lit< tt), word touch_kind 4 t (lit< tt), word touch_kind 5 t (lit< tt), force_same t)

  by_kind_same : shape_by_kind k low us ≡ shape_by_kind k low ws
  unfolding shape_by_kind
  by_kind_same =
      cond_same (eqb k 0) (λ t. refl)
      (cond_same (eqb k key_kind) (λ t. refl)
      (cond_same (eqb k modifiers_kind) (λ t. refl)
      (cond_same (eqb k moved_kind) (λ t. rw (word moved_kind 0 t (lit< tt), word moved_kind 1 t (lit< tt)))
      (cond_same (eqb k motion_kind) (λ t. rw (word motion_kind 0 t (lit< tt), word motion_kind 1 t (lit< tt)))
      (cond_same (eqb k button_kind) (λ t. rw (word button_kind 0 t (lit< tt), word button_kind 1 t (lit< tt)))
      (cond_same (eqb k gone_kind) (λ t. refl)
      (cond_same (eqb k zoom_kind) (λ t. rw (word zoom_kind 0 t (lit< tt)))
      (cond_same (eqb k rotate_kind) (λ t. rw (word rotate_kind 0 t (lit< tt)))
      (cond_same (eqb k touch_kind) touch_same
      (cond_same (eqb k wheel_kind) (λ t. rw (word wheel_kind 0 t (lit< tt), word wheel_kind 1 t (lit< tt)))
      refl))))))))))

by_kind_taken : (w : ℕ) (ws : List ℕ) → shape_by_kind (kind w) (low_bits w) (take (following w) ws) ≡ shape_by_kind (kind w) (low_bits w) ws
by_kind_taken w ws =
    by_kind_same (kind w) (low_bits w) (take (following w) ws) ws
    (λ i h. get_or-take (following w) ws i 0 (omega (arith, length_least w (kind w) refl)))
    (λ h p. get_or-take (following w) ws 6 0 (omega (arith, touch_following w h)))

-- a piece is as good as all that follows
pub shape_taken : (w : ℕ) (ws : List ℕ) → shape (take (piece_length w) (w ∷ ws)) ≡ shape (w ∷ ws)
unfolding shape piece_length
shape_taken w ws = go (ltb (following w) (length ws)) refl
  where
    go : (b : Bool) → ltb (following w) (length ws) ≡ b → shape (w ∷ take (following w) ws) ≡ shape (w ∷ ws)
    go true t =
        let h : following w < length ws = ltb-true _ _ t in
        rw (length-take-le (following w) ws (omega arith), le-ltb (following w) (following w) (omega arith), le-ltb (length ws) (following w) (omega arith)) (by_kind_taken w ws)
    go false t = rw (take_all (following w) ws (ltb-false _ _ t))

-- the three ways of `event_at`
module _ (ws : List ℕ) (at : ℕ) where
  pub event_at_past : length ws ≤ at → event_at ws at ≡ Err fault.Malformed
  unfolding event_at piece_at piece_length decode shape check_floats found_at
  event_at_past h = rw (drop_of_length-le ws h)

  event_at_here : at < length ws →
      event_at ws at ≡ found_at (check_floats (shape (get_or ws at 0 ∷ drop (suc at) ws))) (at + (following (get_or ws at 0) + 1))
  unfolding event_at piece_at piece_length decode
  event_at_here h = rw (drop-cons ws at 0 h, shape_taken (get_or ws at 0) (drop (suc at) ws), add-one)

  after : at < length ws → length (drop (suc at) ws) + 1 ≡ length ws - at
  after h = rw (length-drop (suc at) ws) (omega arith)

  pub event_at_short : at < length ws → length ws - at ≤ following (get_or ws at 0) → event_at ws at ≡ Err fault.Malformed
  unfolding shape check_floats found_at
  event_at_short h short =
      event_at_here h ∙ rw (lt-ltb (length (drop (suc at) ws)) (following (get_or ws at 0)) (omega (arith, after h)))

  pub event_at_whole : at < length ws → following (get_or ws at 0) < length ws - at →
      event_at ws at
      ≡ found_at (check_floats (shape_by_kind (kind (get_or ws at 0)) (low_bits (get_or ws at 0)) (drop (suc at) ws))) (at + (following (get_or ws at 0) + 1))
  unfolding shape
  event_at_whole h whole =
      event_at_here h ∙ rw (le-ltb (length (drop (suc at) ws)) (following (get_or ws at 0)) (omega (arith, after h)))

-- a piece's words are skipped
skipped : (index skip : ℕ) (ws : List ℕ) → pieces_from index skip ws ≡ pieces_from (index + skip) 0 (drop skip ws)
unfolding pieces_from
skipped index zero ws = ap (λ (i : ℕ). pieces_from i 0 ws) (omega arith)
skipped index (suc skip) [] = refl
skipped index (suc skip) (w ∷ ws) = skipped (suc index) skip ws ∙ ap (λ (i : ℕ). pieces_from i 0 (drop skip ws)) (omega arith)

skipped_after : (at n : ℕ) (ws : List ℕ) → pieces_from (suc at) n (drop (suc at) ws) ≡ pieces_from (at + suc n) 0 (drop (at + suc n) ws)
skipped_after at n ws =
    let e : suc at + n ≡ at + suc n = omega arith in
    skipped (suc at) n (drop (suc at) ws) ∙ rw (drop-drop n (suc at) ws, e)

-- the walk: all items are those from word 0 on; ..
pub items_first : (ws : List ℕ) → items ws ≡ items_after ws 0
unfolding items items_after pieces
items_first ws = refl

module _ (ws : List ℕ) (at : ℕ) where
  -- .. past the end there are none; ..
  pub items_none : length ws ≤ at → items_after ws at ≡ []
  unfolding items_after pieces_from
  items_none h = rw (drop_of_length-le ws h)

  -- .. and before it, what `event_at` finds is the first, and the others are those from the place after it on
  pub items_next : at < length ws →
      items_after ws at ≡ record { index = at; what = decode (piece_at ws at) } ∷ items_after ws (at + piece_length (get_or ws at 0))
  unfolding items_after pieces_from item_of piece_at piece_length
  items_next h = rw (drop-cons ws at 0 h, skipped_after at (following (get_or ws at 0)) ws)
