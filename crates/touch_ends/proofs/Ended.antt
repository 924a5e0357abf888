-- Which devices a feed adds touches to or removes them from, event by event; and the end of a pass, device by device. Assumes nothing.
use Rattle.std.specs.Prelude.{Option}
use mathlib.Core.Path.{◌≡◌, refl, ap₂}
use mathlib.Core.Bool.{Bool, true, false, ◌&&◌, ◌||◌}
use mathlib.Core.List.{List, [], ◌∷◌, ◌++◌, map, map-append, append-nil}
use Prim.Native.Nat.{ℕ, suc, ◌+◌, ◌≤◌, ◌<◌}
use native.Mathlib.Numerals.{add-one}
use native.Mathlib.Omega.{arith}
use lib.Dec.{eqb}
use lib.ListN.{length, get_or, set, take, drop}
use lib.Seq.{append_snoc, take-suc-set, take-set-lt, drop-set-lt}
use lib.Ieee.{Float}
use Rattle.data.specs.Kinds.{touch_kind}
use Rattle.data.specs.Numbers.{kind_number}
use Rattle.model.specs.Types.{Pos2, Event, Key, ModifiersChanged, PointerMoved, MouseMoved, Button, PointerGone, Zoom, Rotate, Touch, MouseWheel, WindowFocused, Other}
use Rattle.model.specs.Touch.{TouchState, adds_or_removes, added_or_removed_touches, end_device, end_touches}
use Rattle.touch_device.specs.declared.Device.{Device}
use Rattle.touch_device.specs.View.{device_view}
use Rattle.touches.proofs.Places.{rest, done}
use Rattle.event_loop.specs.Lists.{touch_list, own}
use Rattle.event_loop.specs.Loop.{Any}
use Rattle.event_loop.proofs.Loops.{any_loop, own_any_law}
use Rattle.event_loop.proofs.OfKind.{not_read}

pub or_none : (b : Bool) → b ≡ (b || false)
or_none true = refl
or_none false = refl

or_assoc : (a b : Bool) → (a || b) ≡ ((a || false) || b)
or_assoc true b = refl
or_assoc false b = refl

module _ (d : ℕ) where
  pub adds_first : (e : Event) (es : List Event) →
      added_or_removed_touches d (e ∷ es) ≡ (added_or_removed_touches d (e ∷ []) || added_or_removed_touches d es)
  unfolding added_or_removed_touches
  adds_first (Key k b) es = refl
  adds_first (ModifiersChanged m) es = refl
  adds_first (PointerMoved v) es = refl
  adds_first (MouseMoved v) es = refl
  adds_first (Button v b c m) es = refl
  adds_first PointerGone es = refl
  adds_first (Zoom x) es = refl
  adds_first (Rotate x) es = refl
  adds_first (Touch c i ph v f) es = or_assoc (eqb c d && adds_or_removes ph) (added_or_removed_touches d es)
  adds_first (MouseWheel u v ph s m) es = refl
  adds_first (WindowFocused b) es = refl
  adds_first Other es = refl

  pub adds_idle : (e : Event) → (kind_number e ≡ touch_kind → ⊥) → added_or_removed_touches d (e ∷ []) ≡ false
  unfolding added_or_removed_touches
  adds_idle (Key k b) h = refl
  adds_idle (ModifiersChanged m) h = refl
  adds_idle (PointerMoved v) h = refl
  adds_idle (MouseMoved v) h = refl
  adds_idle (Button v b c m) h = refl
  adds_idle PointerGone h = refl
  adds_idle (Zoom x) h = refl
  adds_idle (Rotate x) h = refl
  adds_idle (Touch c i ph v f) h = absurd (h refl)
  adds_idle (MouseWheel u v ph s m) h = refl
  adds_idle (WindowFocused b) h = refl
  adds_idle Other h = refl

  pub adds_loop : Any (added_or_removed_touches d)
  unfolding added_or_removed_touches
  adds_loop = any_loop (added_or_removed_touches d) refl adds_first

  pub adds_own : (es : List Event) → added_or_removed_touches d (own touch_list es) ≡ added_or_removed_touches d es
  unfolding added_or_removed_touches
  adds_own es = own_any_law (added_or_removed_touches d) refl adds_first touch_list (λ e h. adds_idle e (not_read touch_list e touch_kind h refl)) es

-- ---- the end of a pass, a turn at a time: those that are done, and the rest
module _ (time : Float) (p : Option Pos2) (es : List Event) where
  unfoldable pub ended : ℕ → List Device → ℕ → List TouchState
  ended n a i = map device_view (take i a) ++ map (end_touches time p es) (map device_view (drop i (take n a)))

  pub ended_start : (n : ℕ) (a : List Device) → ended n a 0 ≡ map (end_touches time p es) (map device_view (take n a))
  unfolding ended
  ended_start n a = refl

  -- a device that is ended by what the events tell of it
  end_one : (b : Bool) (d x : Device) → b ≡ added_or_removed_touches d.id es → device_view x ≡ end_device time p b (device_view d) → device_view x ≡ end_touches time p es (device_view d)
  unfolding end_touches
  end_one b d x h k = rw h at k

  pub ended_step : (n i : ℕ) (a : List Device) (z x : Device) (b : Bool) → i < n → n ≤ length a → b ≡ added_or_removed_touches (get_or a i z).id es → device_view x ≡ end_device time p b (device_view (get_or a i z))
      → ended n (set a i x) (i + 1) ≡ ended n a i
  unfolding ended
  ended_step n i a z x b h l adds ends =
      let m : i < length a = omega arith in
      let s : i < suc i = omega arith in
      let one = end_one b (get_or a i z) x adds ends in
      rw (add-one, take-suc-set a i x m, map-append, append_snoc, take-set-lt n a i x h, drop-set-lt (suc i) (take n a) i x s, rest n i a z h l, one)

  pub ended_end : (n i : ℕ) (a : List Device) → i ≤ n → n ≤ i → n ≤ length a → map device_view (take n a) ≡ ended n a i
  unfolding ended
  ended_end n i a h k l =
      let e : i ≡ n = omega arith in
      rw (e, done n n a (omega arith) l, append-nil)

-- and of its touch events alone
pub ended_own : (time : Float) (p : Option Pos2) (es : List Event) (vs : List TouchState) → map (end_touches time p (own touch_list es)) vs ≡ map (end_touches time p es) vs
unfolding end_touches
ended_own time p es [] = refl
ended_own time p es (v ∷ vs) = ap₂ (λ (u : TouchState) (us : List TouchState). u ∷ us) (rw (adds_own v.device_id es)) (ended_own time p es vs)
