-- A feed that the survey does not refuse: at most `max_events` events, and each is what its shape says. Assumes nothing.
use Rattle.std.specs.Prelude.{Option, None, Some}
use mathlib.Core.Path.{◌≡◌, refl, sym}
use mathlib.Core.Bool.{Bool, true, false, cond}
use mathlib.Core.List.{List, [], ◌∷◌, map}
use Prim.Native.Nat.{ℕ, zero, suc, ◌≤◌}
use native.Mathlib.Omega.{arith}
use lib.ListN.{length}
use Rattle.feed.specs.Split.{Piece, pieces}
use Rattle.feed.specs.Decode.{Decoded, good, malformed, outside_domain, item_of, items, decode}
use Rattle.feed.specs.Feed.{then_events, events_of}
use Rattle.model.specs.Types.{PassRefusal}
use Rattle.model.specs.Touch.{TouchState}
use Rattle.model.specs.Pass.{or_else, crowded, item_refusal}
use Rattle.event_loop.specs.Shaped.{shaped_piece, shaped_events}
use Rattle.survey.specs.Survey.{fits_item, fits_survey}
use Rattle.survey.proofs.Places.{agrees, none_some}

abbrev Fine : ℕ → List Piece → Type 0
Fine left ps = (map shaped_piece ps ≡ events_of (map item_of ps)) × (length (map shaped_piece ps) ≤ left)

some_first : {X : Type 0} (r : PassRefusal) (b : Option PassRefusal) → or_else (Some r) b ≡ None → X
unfolding or_else
some_first r b h = none_some (sym h)

free : (b : Bool) (r : PassRefusal) (later : Option PassRefusal) → or_else (cond b (Some r) None) later ≡ None → later ≡ None
unfolding or_else
free true r later h = none_some (sym h)
free false r later h = h

fine : (left : ℕ) (ps : List Piece) (vs : List TouchState) → fits_survey left (map item_of ps) vs ≡ None → Fine left ps
unfolding fits_survey events_of then_events item_of item_refusal fits_item shaped_piece
fine left [] vs h = (refl, omega arith)
fine zero (p ∷ ps) vs h = none_some (sym h)
fine (suc left) (p ∷ ps) vs h = go (decode p.words) refl h (λ us k. fine left ps us k)
  where
    go : (d : Decoded) → decode p.words ≡ d → or_else (item_refusal p.index d vs) (fits_survey left (map item_of ps) (fits_item d vs)) ≡ None →
        ((us : List TouchState) → fits_survey left (map item_of ps) us ≡ None → Fine left ps) →
        (shaped_piece p ∷ map shaped_piece ps ≡ then_events d (events_of (map item_of ps))) × (suc (length (map shaped_piece ps)) ≤ suc left)
    go (good e) q h later =
        let rest = later (fits_item (good e) vs) (free (crowded e vs) _ _ h) in
        (rw (agrees p.words e q, rest.0), omega (arith, rest.1))
    go malformed q h later = some_first _ _ h
    go outside_domain q h later = some_first _ _ h

pub accepted : (ws : List ℕ) (left : ℕ) (vs : List TouchState) → fits_survey left (items ws) vs ≡ None →
    (shaped_events ws ≡ events_of (items ws)) × (length (shaped_events ws) ≤ left)
unfolding items shaped_events
accepted ws left vs h = fine left (pieces ws) vs h
