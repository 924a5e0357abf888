-- The walk from event to event. Assumes nothing.
use mathlib.Core.Path.{◌≡◌, refl, ap, ◌∙◌}
use mathlib.Core.List.{List, [], ◌∷◌}
use Prim.Native.Nat.{ℕ, zero, suc, ◌+◌, ◌-◌, ◌≤◌, ◌<◌}
use native.Mathlib.Omega.{arith}
use lib.ListN.{get_or, length, drop, length-drop, drop_of_length-le}
use lib.Seq.{drop-cons, drop-drop}
use borrow.Author.Tests.{lt-ltb, le-ltb}
use Rattle.feed.specs.Types.{Other}
use Rattle.feed.specs.Split.{kind, low_bits, following, piece_length, pieces, pieces_from}
use Rattle.feed.specs.Shape.{shape_by_kind, shape}
use Rattle.feed.specs.Decode.{piece_at}
use Rattle.feed.proofs.Reading.{shape_taken}
use Rattle.event_loop.specs.Shaped.{event_or_other, shaped, shaped_piece, shaped_events, shaped_after, shaped_at}

-- ---- the three ways of `shaped_at`
module _ (ws : List ℕ) (at : ℕ) where
  pub at_past : length ws ≤ at → shaped_at ws at ≡ Other
  unfolding shaped_at shaped piece_at piece_length shape event_or_other
  at_past h = rw (drop_of_length-le ws h)

  at_here : at < length ws → shaped_at ws at ≡ event_or_other (shape (get_or ws at 0 ∷ drop (suc at) ws))
  unfolding shaped_at shaped piece_at
  at_here h = rw (drop-cons ws at 0 h, shape_taken (get_or ws at 0) (drop (suc at) ws))

  after : at < length ws → length (drop (suc at) ws) + 1 ≡ length ws - at
  after h = rw (length-drop (suc at) ws) (omega arith)

  pub at_short : at < length ws → length ws - at ≤ following (get_or ws at 0) → shaped_at ws at ≡ Other
  unfolding shape event_or_other
  at_short h short = at_here h ∙ rw (lt-ltb (length (drop (suc at) ws)) (following (get_or ws at 0)) (omega (arith, after h)))

  pub at_whole : at < length ws → following (get_or ws at 0) < length ws - at →
      shaped_at ws at ≡ event_or_other (shape_by_kind (kind (get_or ws at 0)) (low_bits (get_or ws at 0)) (drop (suc at) ws))
  unfolding shape
  at_whole h whole = at_here h ∙ rw (le-ltb (length (drop (suc at) ws)) (following (get_or ws at 0)) (omega (arith, after h)))

-- ---- from place to place
skipped : (index skip : ℕ) (ws : List ℕ) → pieces_from index skip ws ≡ pieces_from (index + skip) 0 (drop skip ws)
unfolding pieces_from
skipped index zero ws = ap (λ (i : ℕ). pieces_from i 0 ws) (omega arith)
skipped index (suc skip) [] = refl
skipped index (suc skip) (w ∷ ws) = skipped (suc index) skip ws ∙ ap (λ (i : ℕ). pieces_from i 0 (drop skip ws)) (omega arith)

skipped_after : (at n : ℕ) (ws : List ℕ) → pieces_from (suc at) n (drop (suc at) ws) ≡ pieces_from (at + suc n) 0 (drop (at + suc n) ws)
skipped_after at n ws =
    let e : suc at + n ≡ at + suc n = omega arith in
    skipped (suc at) n (drop (suc at) ws) ∙ rw (drop-drop n (suc at) ws, e)

pub first : (ws : List ℕ) → shaped_after ws 0 ≡ shaped_events ws
unfolding shaped_after shaped_events pieces
first ws = refl

module _ (ws : List ℕ) (at : ℕ) where
  pub past : length ws ≤ at → shaped_after ws at ≡ []
  unfolding shaped_after pieces_from
  past h = rw (drop_of_length-le ws h)

  pub after_piece : at < length ws → shaped_after ws at ≡ shaped_at ws at ∷ shaped_after ws (at + piece_length (get_or ws at 0))
  unfolding shaped_after pieces_from shaped_piece shaped_at piece_at piece_length
  after_piece h = rw (drop-cons ws at 0 h, skipped_after at (following (get_or ws at 0)) ws)
