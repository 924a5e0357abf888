-- Events of the kinds that are not read leave it as it is; and its loop along its list. Assumes nothing.
use Rattle.std.specs.Prelude.{Option}
use mathlib.Core.Path.{◌≡◌, refl, ap, ◌∙◌}
use mathlib.Core.Bool.{Bool, false, ◌||◌}
use mathlib.Core.List.{List, [], ◌∷◌}
use Prim.Native.Nat.{ℕ, ◌+◌}
use lib.ListN.{length}
use lib.Ieee.{Float}
use Rattle.data.specs.Kinds.{moved_kind, motion_kind, button_kind, gone_kind}
use Rattle.emath.specs.History.{Sample}
use Rattle.emath_history.specs.declared.history.History.{History}
use Rattle.emath_history.specs.Ring.{view, free}
use Rattle.emath_history.specs.Ring as Ring
use Rattle.emath_history.proofs.Samples.{view_count}
use Rattle.data.specs.Numbers.{kind_number}
use Rattle.model.specs.Types.{Pos2}
use Rattle.model.specs.Types.{Event, Key, ModifiersChanged, PointerMoved, MouseMoved, Button, PointerGone, Zoom, Rotate, Touch, MouseWheel, WindowFocused, Other}
use Rattle.model.specs.Pointer.{Place, start_place, place_event, place_events, place_pass, clear_history_after, end_place, finish_place}
use Rattle.pointer_place.specs.declared.Place.{Place as PlaceHeld}
use Rattle.pointer_place.specs.View.{Placed, Ended}
use Rattle.place_loop.specs.Passed.{PlacePassed}
use Rattle.event_loop.specs.Lists.{pointer_list, own}
use Rattle.event_loop.specs.Loop.{Loop, Any}
use Rattle.event_loop.proofs.Loops.{loop, own_law, any_loop, own_any_law}
use Rattle.event_loop.proofs.OfKind.{not_read}

-- ---- the pointer's place: kinds 3 to 6; whether it is gone: kind 6
pub place_idle : (e : Event) (s : Place) → (kind_number e ≡ moved_kind → ⊥) → (kind_number e ≡ motion_kind → ⊥) → (kind_number e ≡ button_kind → ⊥) → (kind_number e ≡ gone_kind → ⊥) → place_event e s ≡ s
unfolding place_event
place_idle (Key k b) s h3 h4 h5 h6 = refl
place_idle (ModifiersChanged m) s h3 h4 h5 h6 = refl
place_idle (PointerMoved v) s h3 h4 h5 h6 = absurd (h3 refl)
place_idle (MouseMoved v) s h3 h4 h5 h6 = absurd (h4 refl)
place_idle (Button v b c m) s h3 h4 h5 h6 = absurd (h5 refl)
place_idle PointerGone s h3 h4 h5 h6 = absurd (h6 refl)
place_idle (Zoom x) s h3 h4 h5 h6 = refl
place_idle (Rotate x) s h3 h4 h5 h6 = refl
place_idle (Touch d i ph v f) s h3 h4 h5 h6 = refl
place_idle (MouseWheel u v ph g m) s h3 h4 h5 h6 = refl
place_idle (WindowFocused b) s h3 h4 h5 h6 = refl
place_idle Other s h3 h4 h5 h6 = refl

pub place_loop : Loop place_events place_event
unfolding place_events
place_loop = loop place_events place_event (λ s. refl) (λ e es s. refl)

pub place_own : (es : List Event) (s : Place) → place_events (own pointer_list es) s ≡ place_events es s
unfolding place_events
place_own es s =
    own_law place_events place_event (λ s. refl) (λ e es s. refl) pointer_list
    (λ e s h. place_idle e s (not_read pointer_list e moved_kind h refl) (not_read pointer_list e motion_kind h refl) (not_read pointer_list e button_kind h refl) (not_read pointer_list e gone_kind h refl)) es s

-- ---- whether the pointer is gone: kind 6
pub gone_first : (e : Event) (es : List Event) → clear_history_after (e ∷ es) ≡ (clear_history_after (e ∷ []) || clear_history_after es)
unfolding clear_history_after
gone_first (Key k b) es = refl
gone_first (ModifiersChanged m) es = refl
gone_first (PointerMoved v) es = refl
gone_first (MouseMoved v) es = refl
gone_first (Button v b c m) es = refl
gone_first PointerGone es = refl
gone_first (Zoom x) es = refl
gone_first (Rotate x) es = refl
gone_first (Touch d i ph v f) es = refl
gone_first (MouseWheel u v ph g m) es = refl
gone_first (WindowFocused b) es = refl
gone_first Other es = refl

pub gone_idle : (e : Event) → (kind_number e ≡ gone_kind → ⊥) → clear_history_after (e ∷ []) ≡ false
unfolding clear_history_after
gone_idle (Key k b) h = refl
gone_idle (ModifiersChanged m) h = refl
gone_idle (PointerMoved v) h = refl
gone_idle (MouseMoved v) h = refl
gone_idle (Button v b c m) h = refl
gone_idle PointerGone h = absurd (h refl)
gone_idle (Zoom x) h = refl
gone_idle (Rotate x) h = refl
gone_idle (Touch d i ph v f) h = refl
gone_idle (MouseWheel u v ph g m) h = refl
gone_idle (WindowFocused b) h = refl
gone_idle Other h = refl

pub gone_loop : Any clear_history_after
unfolding clear_history_after
gone_loop = any_loop clear_history_after refl gone_first

pub gone_own : (es : List Event) → clear_history_after (own pointer_list es) ≡ clear_history_after es
unfolding clear_history_after
gone_own es = own_any_law clear_history_after refl gone_first pointer_list (λ e h. gone_idle e (not_read pointer_list e gone_kind h refl)) es

-- ---- its part of a pass, of its own events alone
pub place_pass_own : (time : Float) (es : List Event) (p : Place) → place_pass time (own pointer_list es) p ≡ place_pass time es p
unfolding place_pass
place_pass_own time es p = rw (gone_own es, place_own es (start_place p))

-- the end of a pass keeps the position
latest_kept : (time : Float) (old : Option Pos2) (gone : Bool) (p : Place) → (end_place time old gone p).latest_pos ≡ p.latest_pos
unfolding end_place finish_place
latest_kept time old gone p = refl

-- the place that the pass's sample takes
sample_at : (ts ps : List Float) (h : History) {start : ℕ} {xs : List Sample} → view ts ps h ≡ xs → h.start ≡ start → free h ≡ Ring.place (start + length xs)
sample_at ts ps h v s = rw (← s, ← v, view_count ts ps h)

-- the steps of a pass, from p by its events to m and to its end
pub place_passed : (time : Float) (es : List Event) (p m : PlaceHeld) (gone : Bool) {ts ps ts' ps' : List Float} {r : PlaceHeld} →
    Ended time p.latest_pos gone ts ps m ts' ps' r → Placed (λ s. place_events es (start_place s)) p m → gone ≡ clear_history_after es → PlacePassed time es ts ps p ts' ps' r
unfolding place_pass
place_passed time es p m gone {ts} {ps} {ts'} {ps'} {r} ended walked is-gone =
    let moved = walked.result ts ps in
    let at = sample_at ts ps m.history (ap (λ (q : Place). q.pos_history) moved) walked.start in
    let latest = ap (λ (q : Place). q.latest_pos) moved in
    record {
      result = ended.result ∙ rw (is-gone, moved);
      times_after = ended.times_after ∙ rw (at, latest, latest_kept _ _ _ _);
      positions_after = ended.positions_after ∙ rw (at, latest, latest_kept _ _ _ _);
    }
