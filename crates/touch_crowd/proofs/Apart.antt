-- The device of the last touch event, kept apart from the others. Assumes nothing.
use Rattle.std.specs.Prelude.{Some}
use mathlib.Core.Path.{◌≡◌, refl, sym, ap, ◌∙◌}
use mathlib.Core.Bool.{Bool, true, false, not, cond, ◌||◌}
use mathlib.Core.List.{List}
use Prim.Native.Nat.{ℕ, ◌≤◌, ◌<◌}
use native.Mathlib.Omega.{arith}
use borrow.Author.Tests.{ltb-true, ltb-false, eqb-true, eqb-false}
use lib.Dec.{ltb, eqb}
use lib.ListN.{length, get_or, set, length-set}
use lib.Seq.{set_out, set-set, set-get_or, get_or-set_same}
use Rattle.data.specs.Limits.{max_devices}
use Rattle.model.specs.Types.{TouchPhase, ActiveTouch}
use Rattle.model.specs.Touch.{TouchState, find_device, no_place}
use Rattle.touches.proofs.Upsert.{no}
use Rattle.touch_device.specs.declared.Device.{Device}
use Rattle.touch_state.specs.declared.devices.Devices.{Devices}
use Rattle.touch_device.specs.View.{device_view, fits_device}
use Rattle.touch_state.specs.View.{known, known_at, view, fits_touch}
use Rattle.touch_state.proofs.Known.{place_most, fits_known}
use Rattle.touch_state.proofs.Ids.{known_id, known_found, known_stays}

-- all devices: the one at place k is put back, and beyond the last place nothing
abbrev pub current : Devices → ℕ → Device → Devices
current held k device = record { count = held.count; places = set held.places k device }

-- between events
pub record Apart (held : Devices) (k : ℕ) (device : Device) : Type 0 where
  pub place : k ≤ max_devices
  pub room : length held.places ≡ max_devices
  pub own : k < max_devices → k ≡ known_at device.id (known (current held k device))

-- at an event of device d, once its turn has come
pub record Turn (d : ℕ) (held : Devices) (k : ℕ) (device : Device) : Type 0 where
  pub room : length held.places ≡ max_devices
  pub at : k ≡ known_at d (known (current held k device))
  pub own : k < max_devices → device.id ≡ d

pub apart_first : (held : Devices) (device : Device) → length held.places ≡ max_devices → Apart held max_devices device
apart_first held device l = record { place = omega arith; room = l; own = λ h. absurd (omega arith) }

-- with no place there is nothing to put back
pub none_apart : (held : Devices) (k : ℕ) (device : Device) → length held.places ≡ max_devices → max_devices ≤ k → set held.places k device ≡ held.places
none_apart held k device l h = set_out held.places k device (omega arith)

pub none_back : (held : Devices) (k : ℕ) (device : Device) → length held.places ≡ max_devices → max_devices ≤ k → held ≡ current held k device
none_back held k device l h = ap (λ (places : List Device). record { count = held.count; places = places }) (sym (none_apart held k device l h))

pub current_room : (held : Devices) (k : ℕ) (device : Device) → length held.places ≡ max_devices → length (current held k device).places ≡ max_devices
current_room held k device l = length-set held.places k device ∙ l

-- ---- the turn

pub turn_stays : (d : ℕ) (held : Devices) (k : ℕ) (device : Device) → Apart held k device → (eqb k max_devices || not (eqb device.id d)) ≡ false → Turn d held k device
turn_stays d held k device a n = go (eqb k max_devices) (eqb device.id d) refl refl n
  where
    go : (b c : Bool) → eqb k max_devices ≡ b → eqb device.id d ≡ c → (b || not c) ≡ false → Turn d held k device
    go true c p q h = no (sym h)
    go false false p q h = no (sym h)
    go false true p q h =
        let place = a.place in
        let e : device.id ≡ d = eqb-true device.id d q in
        record { room = a.room; at = rw (← e) (a.own (omega (arith, eqb-false k max_devices p))); own = λ _. e }

module _ (d : ℕ) (old held : Devices) (k : ℕ) (room : length old.places ≡ max_devices) (back : held ≡ old) (at : k ≡ known_at d (known held)) where
  held_room : length held.places ≡ max_devices
  held_room = rw back room

  pub turn_known : (z : Device) → k < max_devices → Turn d held k (get_or held.places k z) × (view (current held k (get_or held.places k z)) ≡ view old)
  turn_known z h = (
    record { room = held_room; at = rw (set-get_or held.places k z) at; own = λ _. sym (known_id d k held.count held.places z at h) },
    rw (set-get_or held.places k z) (ap view back),
  )

  pub turn_unknown : (device : Device) → max_devices ≤ k → Turn d held k device × (view (current held k device) ≡ view old)
  turn_unknown device h =
      let same = none_apart held k device held_room h in
      (record { room = held_room; at = rw same at; own = λ l. absurd (omega arith) }, rw same (ap view back))

-- ---- the event

module _ (d : ℕ) (held : Devices) (k : ℕ) (device : Device) (turn : Turn d held k device) where
  abbrev all : Devices
  all = current held k device

  there : k < max_devices → get_or all.places k device ≡ device
  there h = let l = turn.room in get_or-set_same held.places k device device (omega arith)

  pub crowded_by : (ph : TouchPhase) (i : ℕ) →
      cond (ltb k max_devices) (no_place ph i 0 (Some (device_view device))) (no_place ph i (length (view held)) (find_device d (view held)))
      ≡ no_place ph i (length (view all)) (find_device d (view all))
  unfolding no_place
  crowded_by ph i = go (ltb k max_devices) refl
    where
      go : (b : Bool) → ltb k max_devices ≡ b →
          cond b (no_place ph i 0 (Some (device_view device))) (no_place ph i (length (view held)) (find_device d (view held)))
          ≡ no_place ph i (length (view all)) (find_device d (view all))
      go true q =
          let h : k < max_devices = ltb-true k max_devices q in
          let found : find_device d (view all) ≡ Some (device_view device) = known_found d k all.count all.places device turn.at h ∙ rw (there h) in
          rw found
      go false q = rw (none_apart held k device turn.room (ltb-false k max_devices q))

  -- beyond the last place: the device is not known
  none_here : max_devices ≤ k → k ≡ known_at d (known held)
  none_here h = rw (none_apart held k device turn.room h) at turn.at

  pub not_known : max_devices ≤ k → known_at d (known held) ≡ max_devices
  not_known h =
      let at = none_here h in
      let l = place_most d k held turn.room at in
      omega arith

  module _ (ph : TouchPhase) (t : ActiveTouch) where
    same_id : (x : Device) → device_view x ≡ fits_device ph t (device_view device) → x.id ≡ device.id
    unfolding fits_device
    same_id x e = ap (λ (v : TouchState). v.device_id) e

    pub touched : (x : Device) → k < max_devices → device_view x ≡ fits_device ph t (device_view device)
        → Apart held k x × (view (current held k x) ≡ fits_touch d ph t (view all))
    touched x h e =
        let last = set-set held.places k device x in
        let id : x.id ≡ d = same_id x e ∙ turn.own h in
        let stays = known_stays d k all.count all.places device turn.at h x id in
        let fits = fits_known d k all (current_room held k device turn.room) turn.at ph t device x h (rw (there h) e) in
        (record { place = omega arith; room = turn.room; own = λ _. rw last at stays ∙ ap (λ (i : ℕ). known_at i (known (current held k x))) (sym id) }, rw last at fits)

    pub added : (new : Devices) → max_devices ≤ k → length new.places ≡ max_devices → view new ≡ fits_touch d ph t (view held)
        → Apart new k device × (view (current new k device) ≡ fits_touch d ph t (view all))
    added new h l e = (
      record { place = place_most d k held turn.room (none_here h); room = l; own = λ b. absurd (omega arith) },
      rw (none_apart new k device l h, none_apart held k device turn.room h) e,
    )
