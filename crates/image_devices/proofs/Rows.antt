-- A device's words, and a turn of each loop over the devices.
use Rattle.std.specs.Prelude.{Option, None}
use Prim.Native.Nat.{ℕ, zero, suc, ◌+◌, ◌*◌, ◌/◌, ◌%◌, ◌≤◌, ◌<◌}
use native.Mathlib.Numerals.{add-one}
use native.Mathlib.Omega.{arith}
use mathlib.Core.Path.{◌≡◌, refl, sym, ap, ◌∙◌}
use mathlib.Core.List.{List, [], ◌∷◌, ◌++◌, map, append-nil}
use lib.ListN.{length, get_or, set, take, length-map, length-take, length-append}
use lib.Seq.{sets, take-suc, take-suc-set}
use Rattle.data.specs.Limits.{max_touches, max_devices}
use Rattle.model.specs.Touch.{TouchState}
use Rattle.touch_device.specs.declared.Device.{Device}
use Rattle.touch_device.specs.View.{device_view}
use Rattle.image.specs.Codes.{write, entry_words, all, size, half, Each, count_of, table_ok}
use Rattle.image.specs.Places.{or_else, word_bad, two_at, two_bad, value_at, bad_at, rows_at, key_at, keys_bad, span}
use Rattle.image.proofs.Lists.{sets_at, all_append, read_row, map-append, each_more, or_else_none}
use Rattle.image_touches.specs.Touches.{ascending, touches_code, touches_el}
use Rattle.image_touches.proofs.Walk.{touches_length}
use Rattle.image_gesture.specs.Gesture.{gesture_code, gesture_el}
use Rattle.image_gesture.proofs.Parts.{gesture_length}
use Rattle.image_devices.specs.Devices.{device_code, devices_code, DeviceEl, device_el, device_of, devices_el, devices_of, DeviceIn}

abbrev pub entry : DeviceEl → List ℕ
entry = entry_words (write (device_code max_touches))

-- ---- writing
pub entry_length : (v : TouchState) → length v.active_touches ≤ max_touches → length (entry (device_el v)) ≡ 86
unfolding write entry_words
entry_length v h =
    let ts = write (touches_code max_touches) (touches_el v.active_touches) in
    let g = write gesture_code (gesture_el v.gesture_state) in
    omega (arith, length-append ts g, touches_length v.active_touches h, gesture_length (gesture_el v.gesture_state))

-- the id, the touches, the gesture
pub put_device : (l : List ℕ) (at : ℕ) (v : TouchState) → length v.active_touches ≤ max_touches
    → sets (sets (set (set l at (v.device_id / half)) (at + 1) (v.device_id % half)) (at + 2) (write (touches_code max_touches) (touches_el v.active_touches))) (at + 63) (write gesture_code (gesture_el v.gesture_state))
    ≡ sets l at (entry (device_el v))
unfolding write entry_words
put_device l at v h =
    let e : at + 1 ≡ suc at = omega arith in
    let f : at + 2 ≡ suc (suc at) = omega arith in
    let ts = write (touches_code max_touches) (touches_el v.active_touches) in
    let g = write gesture_code (gesture_el v.gesture_state) in
    let n = touches_length v.active_touches h in
    rw (e, f) (sets_at (set (set l at (v.device_id / half)) (suc at) (v.device_id % half)) (suc (suc at)) (at + 63) ts g (omega arith))

abbrev pub written : List Device → ℕ → List ℕ
written a n = all entry (devices_el (map device_view (take n a)))

abbrev pub EachIn : List Device → ℕ → Type 0
EachIn a n = Each DeviceIn (devices_el (map device_view (take n a)))

pub put_none : (l : List ℕ) (at : ℕ) (a : List Device) → l ≡ sets l at (written a 0)
unfolding devices_el all
put_none l at a = refl

pub none_length : (a : List Device) → length (written a 0) ≡ 0
unfolding devices_el all
none_length a = refl

pub each_none : (a : List Device) → EachIn a 0
unfolding devices_el
each_none a = tt

module _ (a : List Device) (i : ℕ) (z : Device) (h : i < length a) where
  more : devices_el (map device_view (take (i + 1) a)) ≡ devices_el (map device_view (take i a)) ++ (device_el (device_view (get_or a i z)) ∷ [])
  unfolding devices_el
  more = let e : i + 1 ≡ suc i = omega arith in rw (e, take-suc a i z h, map-append, map-append)

  one : all entry (device_el (device_view (get_or a i z)) ∷ []) ≡ entry (device_el (device_view (get_or a i z)))
  unfolding all
  one = append-nil (entry (device_el (device_view (get_or a i z))))

  written_more : written a (i + 1) ≡ written a i ++ entry (device_el (device_view (get_or a i z)))
  written_more = ap (all entry) more ∙ all_append entry (devices_el (map device_view (take i a))) (device_el (device_view (get_or a i z)) ∷ []) ∙ ap (λ (x : List ℕ). written a i ++ x) one

  pub put_more : (l : List ℕ) (at : ℕ) → length (written a i) ≡ i * 86 → sets (sets l at (written a i)) (at + i * 86) (entry (device_el (device_view (get_or a i z)))) ≡ sets l at (written a (i + 1))
  put_more l at n = sets_at l at (at + i * 86) (written a i) (entry (device_el (device_view (get_or a i z)))) (ap (λ (x : ℕ). at + x) (sym n)) ∙ ap (sets l at) (sym written_more)

  pub more_length : length (written a i) ≡ i * 86 → length (entry (device_el (device_view (get_or a i z)))) ≡ 86 → length (written a (i + 1)) ≡ (i + 1) * 86
  more_length n m = ap length written_more ∙ length-append (written a i) (entry (device_el (device_view (get_or a i z)))) ∙ omega arith

  pub each_device : EachIn a i → DeviceIn (device_el (device_view (get_or a i z))) → EachIn a (i + 1)
  each_device e g = rw more (each_more DeviceIn (devices_el (map device_view (take i a))) (device_el (device_view (get_or a i z))) e g)

-- the whole group
pub put_all : (l : List ℕ) (at n c : ℕ) (a : List Device) → n ≡ length (take c a) → take n a ≡ take c a
    → sets (set l at (0xC000_0000 + n * 86)) (at + 1) (written a n) ≡ sets l at (write (devices_code max_devices max_touches) (devices_el (map device_view (take c a))))
unfolding write size devices_el
put_all l at n c a e t =
    let m : length (map device_el (map device_view (take c a))) ≡ n = length-map (map device_view (take c a)) device_el ∙ length-map (take c a) device_view ∙ sym e in
    let f : at + 1 ≡ suc at = omega arith in
    rw (m, t, f)

-- how many words it takes
pub group_length : (n c : ℕ) (a : List Device) → take n a ≡ take c a
    → suc (length (written a n)) ≡ length (write (devices_code max_devices max_touches) (devices_el (map device_view (take c a))))
unfolding write
group_length n c a t = ap (λ (z : List Device). suc (length (all entry (devices_el (map device_view z))))) t

pub count_le : (n c : ℕ) (a : List Device) → length a ≡ 4 → n ≡ length (take c a) → n ≤ 4
count_le n c a l e = omega (arith, length-take c a)

-- ---- checking
module _ (f : List ℕ → ℕ → Option ℕ) (ws : List ℕ) where
  -- where nothing is wrong, nothing is wrong with any entry
  pub sound_entry : (n : ℕ) (seen : List ℕ) (i j : ℕ) → j < n → keys_bad 84 ascending f n seen ws i ≡ None → f ws (i + j * 86 + 2) ≡ None
  unfolding keys_bad
  sound_entry zero seen i j h e = absurd (omega arith)
  sound_entry (suc n) seen i zero h e = let z : i + 0 * 86 + 2 ≡ i + 2 = omega arith in rw z (or_else_none _ _ (or_else_none _ _ e).1).0
  sound_entry (suc n) seen i (suc j) h e =
      let z : i + suc j * 86 + 2 ≡ i + 86 + j * 86 + 2 = omega arith in
      rw z (sound_entry n (two_at ws i ∷ seen) (i + 86) j (omega arith) (or_else_none _ _ (or_else_none _ _ e).1).1)

-- ---- reading
pub read_none : (ws : List ℕ) (at : ℕ) (a : List Device) → map device_view (take 0 a) ≡ devices_of (rows_at 86 (key_at (value_at (device_code max_touches))) 0 ws at)
unfolding devices_of rows_at
read_none ws at a = refl

pub read_more : (a : List Device) (ws : List ℕ) (at i : ℕ) (d : Device) → i < length a
    → map device_view (take i a) ≡ devices_of (rows_at 86 (key_at (value_at (device_code max_touches))) i ws at)
    → device_view d ≡ device_of (key_at (value_at (device_code max_touches)) ws (at + i * 86))
    → map device_view (take (i + 1) (set a i d)) ≡ devices_of (rows_at 86 (key_at (value_at (device_code max_touches))) (i + 1) ws at)
unfolding devices_of
read_more a ws at i d h e g =
    let s : i + 1 ≡ suc i = omega arith in
    rw (read_row 86 (key_at (value_at (device_code max_touches))) ws i at, map-append, s, take-suc-set a i d h, map-append, e, g)

-- ---- a device's description by its two parts
pub bad_device : (ws : List ℕ) (i : ℕ) → bad_at (device_code max_touches) ws i ≡ or_else (bad_at (touches_code max_touches) ws i) (bad_at gesture_code ws (i + 61))
unfolding bad_at span size
bad_device ws i = refl

pub value_device : (ws : List ℕ) (i : ℕ) → value_at (device_code max_touches) ws i ≡ (value_at (touches_code max_touches) ws i, value_at gesture_code ws (i + 61))
unfolding value_at span size
value_device ws i = refl

devices_sound : (ws : List ℕ) (at : ℕ) → bad_at (devices_code max_devices max_touches) ws at ≡ None
    → (word_bad (table_ok 12 4 86) ws at ≡ None) × (keys_bad 84 ascending (bad_at (device_code max_touches)) (count_of 12 86 (get_or ws at 0)) [] ws (suc at) ≡ None)
unfolding bad_at size
devices_sound ws at h = or_else_none _ _ h

-- of every device the touches are right
pub sound_touches : (ws : List ℕ) (at n i : ℕ) → bad_at (devices_code max_devices max_touches) ws at ≡ None
    → (word_bad (table_ok 12 4 86) ws at ≡ None → n ≡ count_of 12 86 (get_or ws at 0)) → i < n → bad_at (touches_code max_touches) ws (at + 1 + i * 86 + 2) ≡ None
sound_touches ws at n i h k l =
    let s = devices_sound ws at h in
    let e = k s.0 in
    let b = sound_entry (bad_at (device_code max_touches)) ws (count_of 12 86 (get_or ws at 0)) [] (suc at) i (omega arith) s.1 in
    rw add-one (or_else_none _ _ (sym (bad_device ws (suc at + i * 86 + 2)) ∙ b)).0
