-- An image checked and read group by group. Assumes nothing.
use Rattle.std.specs.Prelude.{Option, None, Result, Ok, Err, ⊤, MatchResult, IsErrAnd}
use Prim.Native.Nat.{ℕ, ◌+◌, ◌*◌, ◌≤◌}
use native.Mathlib.Omega.{arith}
use mathlib.Core.Path.{◌≡◌, refl, sym, ap, ap₂, ◌∙◌, subst}
use mathlib.Core.Bool.{true}
use mathlib.Core.List.{List, []}
use Rattle.data.specs.Limits.{max_events, max_devices, max_touches}
use lib.Dec.{eqb}
use lib.ListN.{length, drop, get_or}
use lib.Seq.{sets}
use Rattle.emath.specs.History.{Sample, max_len}
use Rattle.emath_history.specs.declared.history.History.{History}
use Rattle.emath_history.specs.Ring.{view}
use Rattle.model.specs.Types.{PointerEvent}
use Rattle.model.specs.Touch.{TouchState}
use Rattle.pointer_events.specs.Events.{events, codes_of, positions_of}
use Rattle.pointer_place.specs.View.{place as view_place}
use Rattle.pointer_state.specs.View.{press as view_press}
use Rattle.input_state.specs.declared.pointer.Pointer.{Pointer}
use Rattle.model.specs.Pass.{Interaction}
use Rattle.model.specs.Pointer.{Place, Press}
use Rattle.input_state.specs.declared.state.InputState.{InputState}
use Rattle.input_state.specs.View.{Lent, lent, panel}
use Rattle.panel.specs.declared.state.Panel.{Panel}
use Rattle.panel.specs.View.{shown_by}
use Rattle.image.specs.Codes.{Code, both, El, size}
use Rattle.image.specs.Places.{or_else, bad_at, value_at, span}
use Rattle.image.proofs.Lists.{or_else_none, or_else_under, or_else_assoc}
use Rattle.image_clock.specs.Clock.{clock_code}
use Rattle.image_screen.specs.Screen.{screen_code}
use Rattle.image_pointer.specs.Place.{place_code, place_place, place_of}
use Rattle.image_pointer.specs.Press.{press_code, press_place, press_of, started_of, moved_of}
use Rattle.image_wheel.specs.Wheel.{wheel_code}
use Rattle.image_keys.specs.Keys.{keys_code, keys_place}
use Rattle.image_interaction.specs.Groups.{sums_code, interaction_code, interaction_place, tally_code, tally_place}
use Rattle.image_interaction.specs.Groups as groups
use Rattle.image_fixed.specs.Fixed.{fixed_code}
use Rattle.image_history.specs.History.{history_code, history_of, Filled}
use Rattle.image_history.proofs.Fill.{is_count}
use Rattle.image_events.specs.Events.{events_code, events_of_el, Stored}
use Rattle.image_devices.specs.Devices.{devices_code, devices_of}
use Rattle.model.specs.Pass as Model
use Rattle.image_form.specs.Form.{first_word, panel_code, panel_of, taken, no_image, wrong, read_image}
use Rattle.image_form.specs.Placed.{groups_place, lists_place, events_place, devices_place, end_place, end_bad, image_bad, answer}
use Rattle.image_form.proofs.Whole.{reads_image}
use Rattle.image_words.specs.Leaves.{found}
use Rattle.parking.specs.declared.check.ImageRefusal.{ImageRefusal}
use Rattle.parking.specs.declared.check.ImageRefusal.TheVariants.{FirstWord, Word}
use Rattle.parking.specs.Restored.{Checked, Written, PointerHeld, InputHeld, Held, RestoredAs}

-- ---- what stands behind a list is asked at the place that its length gives; where the length is wrong, that is told before
behind : (x y : ℕ → Option ℕ) (s : ℕ → ℕ) (i j : ℕ) → (x i ≡ None → j ≡ i + s i) → or_else (x i) (y j) ≡ or_else (x i) (y (i + s i))
behind x y s i j h = or_else_under (x i) (y j) (y (i + s i)) (λ z. ap y (h z))

module _ (f : Option ℕ) (h e d last : ℕ → Option ℕ) (s t u : ℕ → ℕ) (i j k l : ℕ) where
  lists_asked : (h i ≡ None → j ≡ i + s i) → (e j ≡ None → k ≡ j + t j) → (d k ≡ None → l ≡ k + u k)
      → or_else (or_else f (or_else (h i) (or_else (e j) (d k)))) (last l)
      ≡ or_else f (or_else (h i) (or_else (e (i + s i)) (or_else (d (i + s i + t (i + s i))) (last (i + s i + t (i + s i) + u (i + s i + t (i + s i)))))))
  lists_asked p q r =
      or_else_assoc f (or_else (h i) (or_else (e j) (d k))) (last l)
      ∙ ap (or_else f)
      (or_else_assoc (h i) (or_else (e j) (d k)) (last l)
      ∙ ap (or_else (h i)) (or_else_assoc (e j) (d k) (last l) ∙ ap (or_else (e j)) (behind d last u k l r) ∙ behind e (λ x. or_else (d x) (last (x + u x))) t j k q)
      ∙ behind h (λ x. or_else (e x) (or_else (d (x + t x)) (last (x + t x + u (x + t x))))) s i j p)

-- ---- four descriptions one behind the other, the second at place k
module _ (a b c d : Code) (ws : List ℕ) (i k : ℕ) (e : i + span a ws i ≡ k) where
  abbrev third : ℕ
  third = k + span b ws k

  abbrev fourth : ℕ
  fourth = third + span c ws third

  abbrev four : Code
  four = both a (both b (both c d))

  four_bad : bad_at four ws i ≡ or_else (bad_at a ws i) (or_else (bad_at b ws k) (or_else (bad_at c ws third) (bad_at d ws fourth)))
  unfolding bad_at
  four_bad = rw e

  pub four_value : value_at four ws i ≡ (value_at a ws i, (value_at b ws k, (value_at c ws third, value_at d ws fourth)))
  unfolding value_at
  four_value = rw e

  four_span : i + span four ws i ≡ fourth + span d ws fourth
  unfolding span
  four_span = rw e (omega (arith, e))

  pub four_told : (last : ℕ → Option ℕ)
      → or_else (bad_at a ws i) (or_else (bad_at b ws k) (or_else (bad_at c ws third) (or_else (bad_at d ws fourth) (last (fourth + span d ws fourth)))))
      ≡ or_else (bad_at four ws i) (last (i + span four ws i))
  four_told last =
      let x = last (fourth + span d ws fourth) in
      sym
      (ap₂ or_else four_bad (ap last four_span)
      ∙ or_else_assoc (bad_at a ws i) _ x
      ∙ ap (or_else (bad_at a ws i)) (or_else_assoc (bad_at b ws k) _ x ∙ ap (or_else (bad_at b ws k)) (or_else_assoc (bad_at c ws third) (bad_at d ws fourth) x)))

  four_sound : bad_at four ws i ≡ None → (bad_at a ws i ≡ None) × (bad_at b ws k ≡ None) × (bad_at c ws third ≡ None) × (bad_at d ws fourth ≡ None)
  four_sound h =
      let p = or_else_none _ _ (sym four_bad ∙ h) in
      let q = or_else_none _ _ p.1 in
      let r = or_else_none _ _ q.1 in
      (p.0, q.0, r.0, r.1)

-- ---- an image
module _ (ws : List ℕ) where
  fixed_span : groups_place + span fixed_code ws groups_place ≡ lists_place
  unfolding span size
  fixed_span = refl

  -- checked
  pub groups_told : (f : Option ℕ) (j k l : ℕ) → f ≡ bad_at fixed_code ws groups_place
      → (bad_at history_code ws lists_place ≡ None → j ≡ events_place ws)
      → (bad_at (events_code max_events) ws j ≡ None → k ≡ j + span (events_code max_events) ws j)
      → (bad_at (devices_code max_devices max_touches) ws k ≡ None → l ≡ k + span (devices_code max_devices max_touches) ws k)
      → or_else (or_else f (or_else (bad_at history_code ws lists_place) (or_else (bad_at (events_code max_events) ws j) (bad_at (devices_code max_devices max_touches) ws k)))) (end_bad ws l) ≡ image_bad ws
  unfolding image_bad
  groups_told f j k l e p q r =
      lists_asked f (bad_at history_code ws) (bad_at (events_code max_events) ws) (bad_at (devices_code max_devices max_touches) ws) (end_bad ws)
      (span history_code ws) (span (events_code max_events) ws) (span (devices_code max_devices max_touches) ws) lists_place j k l p q r
      ∙ ap
      (λ (z : Option ℕ). or_else z
      (or_else (bad_at history_code ws lists_place)
      (or_else (bad_at (events_code max_events) ws (events_place ws))
      (or_else (bad_at (devices_code max_devices max_touches) ws (devices_place ws)) (end_bad ws (end_place ws)))))) e
      ∙ four_told fixed_code history_code (events_code max_events) (devices_code max_devices max_touches) ws groups_place lists_place fixed_span (end_bad ws)

  -- nothing is wrong with any group of a sound image
  pub record Sound : Type 0 where
    pub fixed : bad_at fixed_code ws groups_place ≡ None
    pub history : bad_at history_code ws lists_place ≡ None
    pub events : bad_at (events_code max_events) ws (events_place ws) ≡ None
    pub devices : bad_at (devices_code max_devices max_touches) ws (devices_place ws) ≡ None

  pub all_sound : bad_at panel_code ws groups_place ≡ None → Sound
  all_sound h =
      let s = four_sound fixed_code history_code (events_code max_events) (devices_code max_devices max_touches) ws groups_place lists_place fixed_span h in
      record { fixed = s.0; history = s.1; events = s.2; devices = s.3 }

  pub image_sound : image_bad ws ≡ None → bad_at panel_code ws groups_place ≡ None
  unfolding image_bad
  image_sound h = (or_else_none (bad_at panel_code ws groups_place) _ h).0

  pub keys_sound : bad_at fixed_code ws groups_place ≡ None → bad_at keys_code ws keys_place ≡ None
  unfolding bad_at span size
  keys_sound h =
      let a = (or_else_none (bad_at clock_code ws 1) _ h).1 in
      let b = (or_else_none (bad_at screen_code ws 9) _ a).1 in
      let c = (or_else_none (bad_at place_code ws 26) _ b).1 in
      let d = (or_else_none (bad_at press_code ws 42) _ c).1 in
      let e = (or_else_none (bad_at wheel_code ws 62) _ d).1 in
      (or_else_none (bad_at keys_code ws keys_place) _ e).0

  -- the places that the code works out
  pub devices_place_is : (j k : ℕ) → Sound → (bad_at history_code ws lists_place ≡ None → j ≡ events_place ws)
      → (bad_at (events_code max_events) ws j ≡ None → k ≡ j + span (events_code max_events) ws j) → k ≡ devices_place ws
  devices_place_is j k s p q =
      let e = p s.history in
      q (ap (bad_at (events_code max_events) ws) e ∙ s.events) ∙ ap (λ (i : ℕ). i + span (events_code max_events) ws i) e

  -- read
  fixed_value : value_at fixed_code ws groups_place
      ≡ (
        value_at clock_code ws 1,
        (
          value_at screen_code ws 9,
          (
            value_at place_code ws 26,
            (
              value_at press_code ws 42,
              (value_at wheel_code ws 62, (value_at keys_code ws keys_place, (value_at sums_code ws 225, (value_at interaction_code ws interaction_place, value_at tally_code ws tally_place)))),
            ),
          ),
        ),
      )
  unfolding value_at span size
  fixed_value = refl

  abbrev parts : El panel_code
  parts = (
    (
      value_at clock_code ws 1,
      (
        value_at screen_code ws 9,
        (
          value_at place_code ws 26,
          (
            value_at press_code ws 42,
            (value_at wheel_code ws 62, (value_at keys_code ws keys_place, (value_at sums_code ws 225, (value_at interaction_code ws interaction_place, value_at tally_code ws tally_place)))),
          ),
        ),
      ),
    ),
    (value_at history_code ws lists_place, (value_at (events_code max_events) ws (events_place ws), value_at (devices_code max_devices max_touches) ws (devices_place ws))),
  )

  value_parts : value_at panel_code ws groups_place ≡ parts
  value_parts =
      four_value fixed_code history_code (events_code max_events) (devices_code max_devices max_touches) ws groups_place lists_place fixed_span
      ∙ ap (λ (z : El fixed_code). (z, (value_at history_code ws lists_place, (value_at (events_code max_events) ws (events_place ws), value_at (devices_code max_devices max_touches) ws (devices_place ws))))) fixed_value

  pub state_is : (l l' : Lent) (r : InputState) (vs : List TouchState) (n : Interaction) (t : ℕ) → InputHeld ws l r l'
      → vs ≡ devices_of (value_at (devices_code max_devices max_touches) ws (devices_place ws)) → n ≡ groups.interaction_of (value_at interaction_code ws interaction_place) → t ≡ value_at tally_code ws tally_place
      → panel l' r vs n t ≡ panel_of (value_at panel_code ws groups_place)
  state_is l l' r vs n t h e f g =
      (λ i. record {
        clock = h.clock i;
        screen = h.screen i;
        place = h.pointer.place i;
        press = h.pointer.press i;
        started_decidedly_dragging = h.pointer.started i;
        last_move_time = h.pointer.moved i;
        touch_states = e i;
        wheel = h.wheel i;
        keys = h.keys i;
        sums = h.sums i;
        interaction = f i;
        tally = g i;
      })
      ∙ ap panel_of (sym value_parts)

-- ---- the pointer, from its history, its events and its two groups
module _ (ws : List ℕ) (l l' : Lent) (r : Pointer) (h : History) (n i : ℕ) where
  abbrev samples : List Sample
  samples = history_of (value_at history_code ws lists_place)

  abbrev events_of : ℕ → List PointerEvent
  events_of j = events_of_el (value_at (events_code max_events) ws j)

  sample_count : h.len ≤ max_len → view l'.times l'.positions h ≡ samples → h.len ≡ length samples
  sample_count k e =
      let c = is_count (length samples) h l'.times l'.positions (ap length (sym e)) in
      omega (arith, k, c)

  pub pointer_held : h.len ≤ max_len → Filled h.len (value_at history_code ws lists_place) l.times l.positions h l'.times l'.positions
      → i ≡ events_place ws → Stored (events_of i) l.codes l.places n l'.codes l'.places
      → view_place l'.times l'.positions r.place ≡ place_of (value_at place_code ws place_place) (view l'.times l'.positions h)
      → view_press l'.codes l'.places r.press ≡ press_of (value_at press_code ws press_place) (events l'.codes l'.places n)
      → r.started_decidedly_dragging ≡ started_of (value_at press_code ws press_place) → r.last_move_time ≡ moved_of (value_at press_code ws press_place)
      → PointerHeld ws l r l'
  pointer_held k f e g p q s m =
      let c = sample_count k f.samples in
      record {
        place = p ∙ ap (place_of (value_at place_code ws place_place)) f.samples;
        press = q ∙ ap (press_of (value_at press_code ws press_place)) (g.is ∙ ap events_of e);
        started = s;
        moved = m;
        written =
            record {
              times = subst (λ (j : ℕ). drop j l'.times ≡ drop j l.times) c f.times_kept;
              positions = subst (λ (j : ℕ). drop (j * 2) l'.positions ≡ drop (j * 2) l.positions) c f.positions_kept;
              codes = g.codes_after ∙ ap (λ (j : ℕ). sets l.codes 0 (codes_of (events_of j))) e;
              places = g.positions_after ∙ ap (λ (j : ℕ). sets l.places 0 (positions_of (events_of j))) e;
            };
      }

-- the lent presses are none of the pointer's
pub and_presses : (ws : List ℕ) (l l' : Lent) (r : Pointer) → PointerHeld ws (lent l.times l.positions l.codes l.places []) r (lent l'.times l'.positions l'.codes l'.places [])
    → PointerHeld ws l r l'
and_presses ws l l' r h =
    let w = h.written in
    record {
      place = h.place;
      press = h.press;
      started = h.started;
      moved = h.moved;
      written = record { times = w.times; positions = w.positions; codes = w.codes; places = w.places };
    }

-- ---- the panel
module _ (ws : List ℕ) (l l' : Lent) (p : Panel) where
  pub panel_held : InputHeld ws l p.input l' → shown_by l' p ≡ panel_of (value_at panel_code ws groups_place) → Held ws l p l'
  panel_held h e =
      let w = h.pointer.written in
      let samples : history_of (value_at history_code ws lists_place) ≡ (shown_by l' p).place.pos_history = sym (ap (λ (x : Place). x.pos_history) h.pointer.place) in
      let events : events_of_el (value_at (events_code max_events) ws (events_place ws)) ≡ (shown_by l' p).press.held.pointer_events = sym (ap (λ (x : Press). x.held.pointer_events) h.pointer.press) in
      record { state = e; written = subst (λ (es : List PointerEvent). Written (shown_by l' p).place.pos_history es l l') events (subst (λ (xs : List Sample). Written xs (events_of_el (value_at (events_code max_events) ws (events_place ws))) l l') samples w) }

-- ---- what is answered
module _ (ws : List ℕ) where
  pub is_taken : (p : Model.Panel) → Checked (Ok tt) ws → p ≡ panel_of (value_at panel_code ws groups_place) → read_image ws ≡ taken p
  unfolding answer
  is_taken p h e = reads_image ws ∙ rw (h.0, h.1) (ap taken (sym e))

  pub is_no_image : Checked (Err FirstWord) ws → read_image ws ≡ no_image
  is_no_image h = reads_image ws ∙ rw h

  pub is_wrong : (i : ℕ) → Checked (Err (Word i)) ws → read_image ws ≡ wrong i
  unfolding answer
  is_wrong i h = reads_image ws ∙ rw (h.0, h.1)

  pub is_refused : (l : Lent) (why : ImageRefusal) → Checked (Err why) ws → RestoredAs ws l (Err why) l
  is_refused l FirstWord h = record { answered = is_no_image h; lent = refl }
  is_refused l (Word i) h = record { answered = is_wrong i h; lent = refl }

-- a wrong word, told with its place
pub is_checked : (P : ℕ → ImageRefusal → Type 0) (r : Result ⊤ ℕ) (s : Result ⊤ ImageRefusal) (ws : List ℕ) → ((i : ℕ) (why : ImageRefusal) → P i why → why ≡ Word i)
    → eqb first_word (get_or ws 0 0) ≡ true → found r ≡ image_bad ws → MatchResult r (λ u. s ≡ Ok u) (λ i. IsErrAnd s (P i)) → Checked s ws
unfolding found
is_checked P (Ok tt) s ws p f h m = subst (λ (q : Result ⊤ ImageRefusal). Checked q ws) (sym m) (f, sym h)
is_checked P (Err i) (Ok u) ws p f h m = absurd m
is_checked P (Err i) (Err why) ws p f h m = subst (λ (q : ImageRefusal). Checked (Err q) ws) (sym (p i why m)) (f, sym h)
