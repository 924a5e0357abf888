-- The groups written one behind the other are the image. Assumes nothing.
use Prim.Native.Nat.{ℕ, ◌+◌, ◌*◌, ◌≤◌}
use native.Mathlib.Omega.{arith}
use mathlib.Core.Path.{◌≡◌, sym, ap, ap₂, ◌∙◌}
use mathlib.Core.List.{List, ◌∷◌, ◌++◌, append_assoc, map}
use lib.ListN.{length, set, take, drop, length-append, length-map}
use lib.Seq.{sets, sets-eq, take_at, drop_at}
use Rattle.data.specs.Limits.{max_events, max_devices, max_touches, key_count}
use Rattle.model.specs.Pass.{Panel}
use Rattle.emath_history.specs.Ring.{count}
use Rattle.emath_history.specs.Ring as ring
use Rattle.emath_history.proofs.Samples.{samples_length}
use Rattle.touch_state.specs.View.{known, view}
use Rattle.input_state.specs.View.{Lent}
use Rattle.panel.specs.declared.state.Panel as state
use Rattle.panel.specs.View.{shown_by}
use borrow.Author.Tests.{le-ltb}
use Rattle.image.specs.Codes.{El, write, size}
use lib.Ieee.{Float}
use Rattle.model.specs.Types.{PointerEvent}
use Rattle.pointer_events.specs.Events.{events, counted}
use Rattle.pointer_events.proofs.Stored.{from_length}
use Rattle.image.proofs.Lists.{sets_at, all_length}
use Rattle.image.proofs.Sizes.{plain_size}
use Rattle.image_clock.specs.Clock.{clock_code}
use Rattle.image_screen.specs.Screen.{screen_code}
use Rattle.image_pointer.specs.Place.{place_code}
use Rattle.image_pointer.specs.Press.{press_code}
use Rattle.image_wheel.specs.Wheel.{wheel_code}
use Rattle.image_keys.specs.Keys.{keys_code, NoKeyBeyond}
use Rattle.image_keys.proofs.Rows.{keys_length}
use Rattle.image_interaction.specs.Groups.{sums_code, interaction_code, tally_code}
use Rattle.image_fixed.specs.Fixed.{fixed_code}
use Rattle.image_events.specs.Events.{event_code, events_code, event_el, events_el}
use Rattle.image_events.proofs.Rows.{six}
use Rattle.image_devices.specs.Devices.{devices_code, devices_el}
use Rattle.image_history.specs.History.{history_code, history_el}
use Rattle.image_history.proofs.Fill.{history_length}
use Rattle.image_form.specs.Form.{first_word, fixed_el, image}
use Rattle.parking.specs.Parked.{words_of}

-- ---- lengths
module _ (p : Panel) where
  abbrev v : El fixed_code
  v = fixed_el p

  clock_length : length (write clock_code v.0) ≡ 8
  unfolding size
  clock_length = plain_size clock_code (tt, (tt, (tt, (tt, tt)))) v.0

  screen_length : length (write screen_code v.1.0) ≡ 17
  unfolding size
  screen_length = plain_size screen_code ((tt, (tt, (tt, tt))), (tt, (tt, (tt, (tt, (tt, (tt, (tt, (tt, (tt, tt)))))))))) v.1.0

  place_length : length (write place_code v.1.1.0) ≡ 16
  unfolding size
  place_length = plain_size place_code ((tt, tt), ((tt, tt), ((tt, tt), ((tt, tt), ((tt, tt), (tt, tt)))))) v.1.1.0

  press_length : length (write press_code v.1.1.1.0) ≡ 20
  unfolding size
  press_length = plain_size press_code (tt, ((tt, tt), (tt, (tt, ((tt, tt), (tt, (tt, (tt, tt)))))))) v.1.1.1.0

  wheel_length : length (write wheel_code v.1.1.1.1.0) ≡ 10
  unfolding size
  wheel_length = plain_size wheel_code (tt, (tt, (tt, (tt, ((tt, tt), (tt, tt)))))) v.1.1.1.1.0

  sums_length : length (write sums_code v.1.1.1.1.1.1.0) ≡ 6
  unfolding size
  sums_length = plain_size sums_code (tt, (tt, (tt, (tt, tt)))) v.1.1.1.1.1.1.0

  interaction_length : length (write interaction_code v.1.1.1.1.1.1.1.0) ≡ 10
  unfolding size
  interaction_length = plain_size interaction_code (tt, (tt, tt)) v.1.1.1.1.1.1.1.0

  -- the parts in which they are written
  abbrev pub screen_part : List ℕ
  screen_part = write clock_code v.0 ++ write screen_code v.1.0

  abbrev pub pointer_part : List ℕ
  pointer_part = write place_code v.1.1.0 ++ write press_code v.1.1.1.0

  abbrev pub wheel_part : List ℕ
  wheel_part = write wheel_code v.1.1.1.1.0 ++ write keys_code v.1.1.1.1.1.0

  abbrev pub sums_part : List ℕ
  sums_part =
      write sums_code v.1.1.1.1.1.1.0 ++ (write interaction_code v.1.1.1.1.1.1.1.0 ++ write tally_code v.1.1.1.1.1.1.1.1)

  pub screen_part_length : length screen_part ≡ 25
  screen_part_length = length-append (write clock_code v.0) (write screen_code v.1.0) ∙ ap₂ (λ (x y : ℕ). x + y) clock_length screen_length

  pub pointer_part_length : length pointer_part ≡ 36
  pointer_part_length = length-append (write place_code v.1.1.0) (write press_code v.1.1.1.0) ∙ ap₂ (λ (x y : ℕ). x + y) place_length press_length

  pub wheel_part_length : length wheel_part ≡ 163
  wheel_part_length = length-append (write wheel_code v.1.1.1.1.0) (write keys_code v.1.1.1.1.1.0) ∙ ap₂ (λ (x y : ℕ). x + y) wheel_length (keys_length p.keys)

  sums_part_length : length sums_part ≡ 18
  unfolding write
  sums_part_length =
      let i = write interaction_code v.1.1.1.1.1.1.1.0 in
      let t = write tally_code v.1.1.1.1.1.1.1.1 in
      length-append (write sums_code v.1.1.1.1.1.1.0) (i ++ t) ∙ ap₂ (λ (x y : ℕ). x + y) sums_length (length-append i t ∙ ap (λ (x : ℕ). x + 2) interaction_length)

  -- groups in parts are groups one by one
  pub fixed_parts : screen_part ++ (pointer_part ++ (wheel_part ++ sums_part)) ≡ write fixed_code v
  unfolding write
  fixed_parts =
      append_assoc (write clock_code v.0) (write screen_code v.1.0) (pointer_part ++ (wheel_part ++ sums_part))
      ∙ ap (λ (q : List ℕ). write clock_code v.0 ++ (write screen_code v.1.0 ++ q))
      (append_assoc (write place_code v.1.1.0) (write press_code v.1.1.1.0) (wheel_part ++ sums_part)
      ∙ ap (λ (q : List ℕ). write place_code v.1.1.0 ++ (write press_code v.1.1.1.0 ++ q))
      (append_assoc (write wheel_code v.1.1.1.1.0) (write keys_code v.1.1.1.1.1.0) sums_part))

  pub fixed_length : length (write fixed_code v) ≡ 242
  fixed_length =
      let a = ap length (sym fixed_parts) in
      let b = length-append screen_part (pointer_part ++ (wheel_part ++ sums_part)) in
      let c = length-append pointer_part (wheel_part ++ sums_part) in
      let d = length-append wheel_part sums_part in
      let e = screen_part_length in
      let f = pointer_part_length in
      let g = wheel_part_length in
      let h = sums_part_length in
      omega (arith, a, b, c, d, e, f, g, h)

-- ---- groups 1 to 9, by the four parts
module _ (o x y z w a b c d : List ℕ) (e : x ≡ sets o 1 a) (f : y ≡ sets x 26 b) (g : z ≡ sets y 62 c) (h : w ≡ sets z 225 d) where
  pub four_parts : length a ≡ 25 → length b ≡ 36 → length c ≡ 163 → w ≡ sets o 1 (a ++ (b ++ (c ++ d)))
  four_parts k l m =
      h ∙ ap (λ (q : List ℕ). sets q 225 d) g
      ∙ sets_at y 62 225 c d (omega arith)
      ∙ ap (λ (q : List ℕ). sets q 62 (c ++ d)) f
      ∙ sets_at x 26 62 b (c ++ d) (omega arith)
      ∙ ap (λ (q : List ℕ). sets q 26 (b ++ (c ++ d))) e
      ∙ sets_at o 1 26 a (b ++ (c ++ d)) (omega arith)

-- ---- groups 10 to 12
module _ (o x y z a b c : List ℕ) (i j : ℕ) (e : x ≡ sets o 243 a) (f : y ≡ sets x i b) (g : z ≡ sets y j c) where
  pub three_lists : i ≡ 243 + length a → j ≡ i + length b → z ≡ sets o 243 (a ++ (b ++ c))
  three_lists k l =
      g ∙ ap (λ (q : List ℕ). sets q j c) f ∙ sets_at x i j b c l ∙ ap (λ (q : List ℕ). sets q i (b ++ c)) e ∙ sets_at o 243 i a (b ++ c) k

-- ---- all of them
module _ (o x y a b : List ℕ) (e : x ≡ sets (set o 0 first_word) 1 a) (f : y ≡ sets x 243 b) where
  pub whole_image : length a ≡ 242 → y ≡ sets o 0 (first_word ∷ (a ++ b))
  whole_image h = f ∙ ap (λ (q : List ℕ). sets q 243 b) e ∙ sets_at (set o 0 first_word) 1 243 a b (omega arith)

-- ---- how long they are
pub events_length : (most : ℕ) (es : List PointerEvent) → length (write (events_code most) (events_el es)) ≡ 1 + length es * 6
unfolding write events_el size
events_length most es = let e = all_length (write event_code) 6 six (map event_el es) in let f = length-map es event_el in omega (arith, e, f)

pub events_count : (cs : List ℕ) (ps : List Float) (n : ℕ) → length (events cs ps n) ≡ counted n
unfolding events
events_count cs ps n = from_length cs ps 0 (counted n)

-- what stands in the buffer then
module _ (o z ws : List ℕ) (n : ℕ) (e : z ≡ sets o 0 ws) (f : n ≡ length ws) (h : n ≤ length o) where
  all_of_it : z ≡ ws ++ drop n o
  all_of_it = let q : 0 + length ws ≡ n = omega arith in e ∙ sets-eq ws o 0 (omega arith) ∙ ap (λ (k : ℕ). ws ++ drop k o) q

  pub front : take n z ≡ ws
  front = ap (take n) all_of_it ∙ take_at ws (drop n o) n (sym f)

  pub behind : drop n z ≡ drop n o
  behind = ap (drop n) all_of_it ∙ drop_at ws (drop n o) n (sym f)

-- ---- how long an image is
module _ (l : Lent) (x : state.Panel) where
  abbrev p : Panel
  p = shown_by l x

  pub image_length : (d : ℕ) → d ≡ 1 + length (known x.devices) * 86 → d ≡ length (write (devices_code max_devices max_touches) (devices_el (view x.devices))) → words_of x ≡ length (image p)
  unfolding image write words_of ring.view
  image_length n at_least_lem is =
      let h = write history_code (history_el p.place.pos_history) in
      let e = write (events_code max_events) (events_el p.press.held.pointer_events) in
      let d = write (devices_code max_devices max_touches) (devices_el p.touch_states) in
      let a = length-append (write fixed_code (fixed_el p)) (h ++ (e ++ d)) in
      let b = length-append h (e ++ d) in
      let c = length-append e d in
      let f = fixed_length p in
      let i = history_length p.place.pos_history in
      let j = samples_length l.times l.positions x.input.pointer.place.history.start (count x.input.pointer.place.history) in
      let k = events_length max_events p.press.held.pointer_events in
      let m = events_count l.codes l.places x.input.pointer.press.held.event_count in
      omega (arith, a, b, c, f, i, j, k, m, at_least_lem, is)

  -- the lent presses and the bits show no key beyond
  pub no_key_beyond : NoKeyBeyond p.keys
  no_key_beyond = record { up = λ k h. rw (le-ltb k key_count h); unpressed = λ k h. rw (le-ltb k key_count h) }
