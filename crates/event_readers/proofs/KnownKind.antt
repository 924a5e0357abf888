-- The event at a place whose kind is known. Assumes nothing.
use Rattle.std.specs.Prelude.{Option, None, Some}
use Rattle.std.specs.Option.{unwrap_or, MatchOption}
use mathlib.Core.Path.{◌≡◌, refl, sym, ◌∙◌}
use mathlib.Core.Bool.{Bool, true, false, not, cond}
use mathlib.Core.List.{List}
use Prim.Native.Nat.{ℕ, suc, ◌+◌, ◌-◌, ◌/◌, ◌%◌, ◌≤◌, ◌<◌}
use native.Mathlib.Omega.{arith}
use lib.Dec.{T, leb, eqb, leb→le, nleb→lt}
use lib.ListN.{get_or, length, drop}
use Rattle.data.specs.declared.event.Event.{Event}
use Rattle.feed.specs.Types.{Other}
use Rattle.feed.specs.Split.{kind, low_bits, lengths, following}
use Rattle.feed.specs.Shape.{shape_by_kind}
use Rattle.event_loop.specs.Shaped.{event_or_other, shaped_at}
use Rattle.event_loop.proofs.Walk.{at_past, at_short, at_whole}

pub or_other : (e : Option Event) → unwrap_or e Other ≡ event_or_other e
unfolding event_or_other
or_other None = refl
or_other (Some e) = refl

module _ (ws : List ℕ) (at k : ℕ) (is : kind (get_or ws at 0) ≡ k) where
  abbrev n : ℕ
  n = get_or lengths k 0 + cond (eqb k 9) (get_or ws at 0 / 4 % 2) 0

  follows : following (get_or ws at 0) ≡ n
  unfolding following
  follows = rw is

  pub whole_as : at < length ws → n < length ws - at → shaped_at ws at ≡ event_or_other (shape_by_kind k (low_bits (get_or ws at 0)) (drop (suc at) ws))
  whole_as here h = at_whole ws at here (rw follows h) ∙ rw is

  pub short_as : at < length ws → length ws - at ≤ n → shaped_at ws at ≡ Other
  short_as here h = at_short ws at here (rw follows h)

  -- cut short, or past the end
  pub part_as : length ws ≤ at + n → shaped_at ws at ≡ Other
  part_as h = go (leb (length ws) at) (leb→le (length ws) at) (nleb→lt (length ws) at)
    where
      go : (b : Bool) → (T b → length ws ≤ at) → (T (not b) → at < length ws) → shaped_at ws at ≡ Other
      go true past here = at_past ws at (past tt)
      go false past here = short_as (here tt) (omega arith)

  -- the event that a shape of the low bits gives, or `Other`, where `more` words have to follow
  pub read : (more : ℕ) (o : Option ℕ) (e : Option Event) (gives : ℕ → Type 0)
      → MatchOption o (length ws ≤ at + more) (λ low. (at + more < length ws) × (low ≡ low_bits (get_or ws at 0)))
      → MatchOption o (e ≡ None) gives
      → ((low : ℕ) → at + more < length ws → gives low → e ≡ shape_by_kind k low (drop (suc at) ws))
      → n ≡ more → unwrap_or e Other ≡ shaped_at ws at
  read more None e gives short none shaped m = rw none (sym (part_as (rw m short)))
  read more (Some low) e gives there given shaped m =
      let h : n < length ws - at = rw m (omega (arith, there.0)) in
      rw (whole_as (omega (arith, there.0)) h, shaped low there.0 given, there.1) (or_other _)
