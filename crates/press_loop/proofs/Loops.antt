-- Events of the kinds that are not read leave it as it is; and its loop along its list. Assumes nothing.
use mathlib.Core.Path.{◌≡◌, refl, sym, ap, ◌∙◌}
use mathlib.Core.Bool.{true, false}
use mathlib.Core.List.{List, [], ◌∷◌, ◌++◌, append-nil}
use mathlib.Core.Logic.{◌⊎◌, inl, inr, ⊎_elim}
use Prim.Native.Nat.{ℕ, ◌+◌, ◌≤◌, ◌<◌}
use native.Mathlib.Omega.{arith}
use lib.ListN.{length, take, drop, length-append}
use lib.Seq.{drop-length, drop-append_seam, sets}
use lib.Ieee.{Float}
use Rattle.data.specs.Kinds.{moved_kind, button_kind}
use Rattle.data.specs.Limits.{max_events}
use Rattle.data.specs.Numbers.{kind_number}
use Rattle.model.specs.Types.{InputOptions, PointerEvent}
use Rattle.model.specs.Types.{Event, Key, ModifiersChanged, PointerMoved, MouseMoved, Button, PointerGone, Zoom, Rotate, Touch, MouseWheel, WindowFocused, Other}
use Rattle.model.specs.Pointer.{Press, clear_events, press_event, press_events, press_pass, add_event, press_button, release_button, release}
use Rattle.pointer_events.specs.Events.{events, codes_of, positions_of}
use Rattle.pointer_events.proofs.Stored.{capped_events, events_length, codes_after, positions_after}
use Rattle.pointer_state.specs.declared.press.Press.{Press as PressHeld}
use Rattle.pointer_state.specs.View.{press, Stepped}
use Rattle.press_loop.specs.Passed.{PressPassed}
use Rattle.event_loop.specs.Lists.{pointer_list, own}
use Rattle.event_loop.specs.Loop.{Loop}
use Rattle.event_loop.proofs.Loops.{loop, own_law}
use Rattle.event_loop.proofs.OfKind.{not_read}

-- ---- a list as it was, or with one element more
abbrev Grown : List PointerEvent → List PointerEvent → Type 0
Grown xs ys = (ys ≡ xs) ⊎ ((x : PointerEvent) × (ys ≡ xs ++ (x ∷ [])))

longer : (xs ys : List PointerEvent) → Grown xs ys → length ys ≤ length xs + 1
longer xs ys g = ⊎_elim (λ e. rw e (omega arith)) (λ e. rw e.1 (omega (arith, length-append xs (e.0 ∷ [])))) g

appended : (xs ys : List PointerEvent) → Grown xs ys → ys ≡ xs ++ drop (length xs) ys
appended xs ys g =
    ⊎_elim (λ e. e ∙ sym (append-nil xs) ∙ ap (λ (zs : List PointerEvent). xs ++ zs) (sym (drop-length xs) ∙ ap (drop (length xs)) (sym e)))
    (λ e. rw (e.1, drop-append_seam xs (e.0 ∷ []))) g

-- ---- presses: kinds 3 and 5
module _ (o : InputOptions) (time : Float) where
  press_idle : (e : Event) (s : Press) → (kind_number e ≡ moved_kind → ⊥) → (kind_number e ≡ button_kind → ⊥) → press_event o time e s ≡ s
  unfolding press_event
  press_idle (Key k b) s h3 h5 = refl
  press_idle (ModifiersChanged m) s h3 h5 = refl
  press_idle (PointerMoved v) s h3 h5 = absurd (h3 refl)
  press_idle (MouseMoved v) s h3 h5 = refl
  press_idle (Button v b c m) s h3 h5 = absurd (h5 refl)
  press_idle PointerGone s h3 h5 = refl
  press_idle (Zoom x) s h3 h5 = refl
  press_idle (Rotate x) s h3 h5 = refl
  press_idle (Touch d i ph v f) s h3 h5 = refl
  press_idle (MouseWheel u v ph g m) s h3 h5 = refl
  press_idle (WindowFocused b) s h3 h5 = refl
  press_idle Other s h3 h5 = refl

  -- and its arrays
  pub press_stays : (e : Event) (cs : List ℕ) (ps : List Float) (s : PressHeld) → (kind_number e ≡ moved_kind → ⊥) → (kind_number e ≡ button_kind → ⊥) → Stepped o time e cs ps s cs ps s
  unfolding codes_of positions_of
  press_stays e cs ps s h3 h5 =
      let q = press_idle e (press cs ps s) h3 h5 in
      let capped : take max_events (events cs ps s.held.event_count) ≡ events cs ps s.held.event_count = capped_events cs ps s.held.event_count in
      let none : drop (length (events cs ps s.held.event_count)) (events cs ps s.held.event_count) ≡ [] = drop-length (events cs ps s.held.event_count) in
      record { result = rw (q, capped); room = λ h. sym q; codes_after = rw (q, capped, none); positions_after = rw (q, capped, none) }

  pub press_loop : Loop (press_events o time) (press_event o time)
  unfolding press_events
  press_loop = loop (press_events o time) (press_event o time) (λ s. refl) (λ e es s. refl)

  pub press_own : (es : List Event) (s : Press) → press_events o time (own pointer_list es) s ≡ press_events o time es s
  unfolding press_events
  press_own es s =
      own_law (press_events o time) (press_event o time) (λ s. refl) (λ e es s. refl) pointer_list
      (λ e s h. press_idle e s (not_read pointer_list e moved_kind h refl) (not_read pointer_list e button_kind h refl)) es s

  -- an event adds one pointer event or none
  grows : (e : Event) (s : Press) → Grown s.held.pointer_events (press_event o time e s).held.pointer_events
  unfolding press_event add_event press_button release release_button
  grows (Key k b) s = inl refl
  grows (ModifiersChanged m) s = inl refl
  grows (PointerMoved v) s = inr (_, refl)
  grows (MouseMoved v) s = inl refl
  grows (Button v b true m) s = inr (_, refl)
  grows (Button v b false m) s = inr (_, refl)
  grows PointerGone s = inl refl
  grows (Zoom x) s = inl refl
  grows (Rotate x) s = inl refl
  grows (Touch d i ph v f) s = inl refl
  grows (MouseWheel u v ph g m) s = inl refl
  grows (WindowFocused b) s = inl refl
  grows Other s = inl refl

  -- what the loop has made of the first n events `es`, from the arrays and the state at its beginning
  pub record Walked (es : List Event) (n : ℕ) (cs₀ : List ℕ) (ps₀ : List Float) (t₀ : PressHeld) (cs : List ℕ) (ps : List Float) (t : PressHeld) : Type 0 where
    pub few : length (events cs ps t.held.event_count) ≤ n
    pub result : press cs ps t ≡ press_events o time es (press cs₀ ps₀ t₀)
    pub codes : cs ≡ sets cs₀ 0 (codes_of (events cs ps t.held.event_count))
    pub positions : ps ≡ sets ps₀ 0 (positions_of (events cs ps t.held.event_count))

  -- before the first event
  pub walk_begins : (es : List Event) (cs : List ℕ) (ps : List Float) (t : PressHeld) → press_events o time es (press cs ps t) ≡ press cs ps t →
      ((cs : List ℕ) (ps : List Float) → events cs ps t.held.event_count ≡ []) → Walked es 0 cs ps t cs ps t
  unfolding codes_of positions_of
  walk_begins es cs ps t run none =
      let empty = none cs ps in
      record { few = rw empty (omega arith); result = sym run; codes = rw empty; positions = rw empty }

  -- and of one more
  module _ (e : Event) (es fs : List Event) (n : ℕ) {cs₀ cs cs' : List ℕ} {ps₀ ps ps' : List Float} {t₀ t t' : PressHeld} where
    pub walked_on : Walked es n cs₀ ps₀ t₀ cs ps t → Stepped o time e cs ps t cs' ps' t' → n < max_events →
        press_events o time fs (press cs₀ ps₀ t₀) ≡ press_event o time e (press_events o time es (press cs₀ ps₀ t₀)) → Walked fs (n + 1) cs₀ ps₀ t₀ cs' ps' t'
    walked_on w s small next =
        let old = events cs ps t.held.event_count in
        let new = events cs' ps' t'.held.event_count in
        let step : press cs' ps' t' ≡ press_event o time e (press cs ps t) = s.room (let f = w.few in omega arith) in
        let same : Grown old new = rw (← ap (λ (p : Press). p.held.pointer_events) step) at (grows e (press cs ps t)) in
        let count : t.held.event_count ≡ length old = let f = w.few in omega (arith, events_length cs ps t.held.event_count) in
        let made : new ≡ take max_events (press_event o time e (press cs ps t)).held.pointer_events = ap (λ (p : Press). p.held.pointer_events) s.result in
        record {
          few = let f = w.few in let g = longer old new same in omega arith;
          result = step ∙ rw w.result (sym next);
          codes = codes_after cs₀ old (drop (length old) new) w.codes count (rw (← made) at s.codes_after) (appended old new same);
          positions = positions_after ps₀ old (drop (length old) new) w.positions count (rw (← made) at s.positions_after) (appended old new same);
        }

  -- after the last
  pub walk_ends : (es : List Event) (n : ℕ) (s : PressHeld) {cs cs' : List ℕ} {ps ps' : List Float} {t r : PressHeld} → Walked es n cs ps t cs' ps' r →
      press cs ps t ≡ record { held = clear_events (press cs ps s).held; past = (press cs ps s).past } → PressPassed o time es cs ps s cs' ps' r
  unfolding press_pass
  walk_ends es n s {cs} {cs'} {ps} {ps'} {t} {r} w cleared =
      let is : press cs' ps' r ≡ press_pass o time es (press cs ps s) = w.result ∙ ap (press_events o time es) cleared in
      let made = ap (λ (p : Press). p.held.pointer_events) is in
      record { result = is; codes_after = w.codes ∙ rw made; positions_after = w.positions ∙ rw made }

-- ---- its part of a pass, of its own events alone
pub press_pass_own : (o : InputOptions) (time : Float) (es : List Event) (s : Press) → press_pass o time (own pointer_list es) s ≡ press_pass o time es s
unfolding press_pass
press_pass_own o time es s = press_own o time es _
