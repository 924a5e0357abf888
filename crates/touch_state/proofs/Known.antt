-- The model's questions over the devices, a turn at a time, and a device by its place. Assumes nothing.
use Rattle.std.specs.Prelude.{Option, None, Some}
use mathlib.Core.Path.{◌≡◌, refl, sym, ap, ◌∙◌}
use mathlib.Core.Bool.{Bool, true, false, cond}
use mathlib.Core.List.{List, [], ◌∷◌, map}
use Prim.Native.Nat.{ℕ, zero, suc, ◌+◌, ◌≤◌, ◌<◌}
use native.Mathlib.Numerals.{add-one}
use native.Mathlib.Omega.{arith}
use borrow.Author.Tests.{le-leb, lt-leb}
use lib.Dec.{eqb, ltb}
use lib.ListN.{length, get_or, set, take, drop, length-map, length-take, length-set, drop_of_length-le}
use lib.Seq.{take-set-lt, get_or-take, drop-cons}
use Rattle.data.specs.Limits.{max_devices}
use Rattle.model.specs.Types.{TouchPhase, ActiveTouch, MultiTouchInfo}
use Rattle.model.specs.Touch.{TouchState, device_id_of, new_device, at_device, find_device, info, multi_touch, first_of as first_info, any_touches, some_touch, has_touch_screen}
use Rattle.touch_device.specs.declared.Device.{Device}
use Rattle.touches.specs.Touches.{place, index, starts, is_at, inserted_at}
use Rattle.touch_device.specs.View.{device_view, fits_device}
use Rattle.touch_state.specs.declared.devices.Devices.{Devices}
use Rattle.touch_state.specs.View.{known, view, device_id, known_at, fits_touch}
use Rattle.touches.proofs.Upsert.{some_ltb, upsert, upsert_hit, upsert_miss, at_lt, place_le, length_inserted}

find_by : (d : ℕ) (z u : Device) (us : List Device) (b : Bool) → eqb d u.id ≡ b
    → (index device_id d us < length us → find_device d (map device_view us) ≡ Some (device_view (get_or us (index device_id d us) z)))
    → index device_id d (u ∷ us) < length (u ∷ us)
    → find_device d (map device_view (u ∷ us)) ≡ Some (device_view (get_or (u ∷ us) (index device_id d (u ∷ us)) z))
unfolding find_device index
find_by d z u us true q ih h = rw q
find_by d z u us false q ih h = rw q (ih (omega (arith, rw q at h)))

pub found : (d : ℕ) (z : Device) (us : List Device) → index device_id d us < length us
    → find_device d (map device_view us) ≡ Some (device_view (get_or us (index device_id d us) z))
unfolding find_device index
found d z [] h = absurd (omega arith)
found d z (u ∷ us) h = find_by d z u us (eqb d u.id) refl (found d z us) h

lost_by : (d : ℕ) (u : Device) (us : List Device) (b : Bool) → eqb d u.id ≡ b
    → (length us ≤ index device_id d us → find_device d (map device_view us) ≡ None)
    → length (u ∷ us) ≤ index device_id d (u ∷ us) → find_device d (map device_view (u ∷ us)) ≡ None
unfolding find_device index
lost_by d u us true q ih h = absurd (omega (arith, rw q at h))
lost_by d u us false q ih h = rw q (ih (omega (arith, rw q at h)))

pub lost : (d : ℕ) (us : List Device) → length us ≤ index device_id d us → find_device d (map device_view us) ≡ None
unfolding find_device index
lost d [] h = refl
lost d (u ∷ us) h = lost_by d u us (eqb d u.id) refl (lost d us) h

module _ (i : ℕ) (us : List Device) (z : Device) (h : i < length us) where
  pub any_stops : some_touch (device_view (get_or us i z)).active_touches ≡ true → true ≡ any_touches (map device_view (drop i us))
  unfolding any_touches
  any_stops e = rw (drop-cons us i z h, e)

  pub any_skips : some_touch (device_view (get_or us i z)).active_touches ≡ false
      → any_touches (map device_view (drop (i + 1) us)) ≡ any_touches (map device_view (drop i us))
  unfolding any_touches
  any_skips e = rw (add-one, drop-cons us i z h, e)

  pub multi_stops : (g : Option MultiTouchInfo) → info (device_view (get_or us i z)) ≡ g → first_info g (multi_touch (map device_view (drop (i + 1) us))) ≡ multi_touch (map device_view (drop i us))
  unfolding multi_touch
  multi_stops g e = rw (add-one, drop-cons us i z h, e)

module _ (i : ℕ) (us : List Device) (h : length us ≤ i) where
  pub any_ends : false ≡ any_touches (map device_view (drop i us))
  unfolding any_touches
  any_ends = rw (drop_of_length-le us h)

  pub multi_ends : None ≡ multi_touch (map device_view (drop i us))
  unfolding multi_touch
  multi_ends = rw (drop_of_length-le us h)

pub some_devices : (us : List Device) → ltb 0 (length us) ≡ has_touch_screen (map device_view us)
unfolding has_touch_screen
some_devices [] = refl
some_devices (u ∷ us) = some_ltb (length us)

module _ (d c i : ℕ) (a : List Device) where
  pub found_at : (z : Device) → i ≡ index device_id d (take c a) → i < length (take c a) → find_device d (map device_view (take c a)) ≡ Some (device_view (get_or a i z))
  found_at z e h =
      let k : i < c = omega (arith, length-take c a) in
      found d z (take c a) (rw e at h) ∙ rw (← e, get_or-take c a i z k)

  pub lost_at : i ≡ index device_id d (take c a) → length (take c a) ≤ i → find_device d (map device_view (take c a)) ≡ None
  lost_at e h = lost d (take c a) (rw e at h)

-- ---- lists that are mapped

module _ {A B : Type 0} (f : A → B) where
  pub map_set : (us : List A) (i : ℕ) (x : A) → map f (set us i x) ≡ set (map f us) i (f x)
  map_set [] i x = refl
  map_set (u ∷ us) zero x = refl
  map_set (u ∷ us) (suc i) x = ap {B = List B} (λ r. f u ∷ r) (map_set us i x)

  get_d_map : (us : List A) (i : ℕ) (z : A) → get_or (map f us) i (f z) ≡ f (get_or us i z)
  get_d_map [] i z = refl
  get_d_map (u ∷ us) zero z = refl
  get_d_map (u ∷ us) (suc i) z = get_d_map us i z

  map_inserted : (us : List A) (i : ℕ) (x : A) → map f (inserted_at i x us) ≡ inserted_at i (f x) (map f us)
  unfolding inserted_at
  map_inserted us zero x = refl
  map_inserted [] (suc i) x = refl
  map_inserted (u ∷ us) (suc i) x = ap {B = List B} (λ r. f u ∷ r) (map_inserted us i x)

  module _ (key : A → ℕ) (key' : B → ℕ) (same : (u : A) → key' (f u) ≡ key u) (d : ℕ) where
    pub place_map : (us : List A) → place key' d (map f us) ≡ place key d us
    unfolding place
    place_map [] = refl
    place_map (u ∷ us) = rw (same u, place_map us)

    pub at_map : (us : List A) (i : ℕ) → is_at key' i d (map f us) ≡ is_at key i d us
    unfolding is_at starts
    at_map [] zero = refl
    at_map (u ∷ us) zero = rw (same u)
    at_map [] (suc i) = refl
    at_map (u ∷ us) (suc i) = at_map us i

-- ---- a touch event, by the place of its device

same_id : (u : Device) → device_id_of (device_view u) ≡ device_id u
same_id u = refl

at_upsert : (d : ℕ) (f : TouchState → TouchState) (vs : List TouchState) → at_device d f vs ≡ upsert device_id_of d (f (new_device d)) f vs
unfolding at_device upsert
at_upsert d f [] = refl
at_upsert d f (v ∷ vs) = rw (at_upsert d f vs)

fits_devices : (d : ℕ) (ph : TouchPhase) (t : ActiveTouch) (vs new : List TouchState) → at_device d (fits_device ph t) vs ≡ new → length new ≤ max_devices → new ≡ fits_touch d ph t vs
unfolding fits_touch
fits_devices d ph t vs new e h = rw (e, le-leb _ _ h)

-- where `known_at` finds a device, it has the id
pub known_place : (d k : ℕ) (us : List Device) → k ≡ known_at d us → k < max_devices → (k ≡ place device_id d us) × (is_at device_id k d us ≡ true)
unfolding known_at
known_place d k us h b = go (is_at device_id (place device_id d us) d us) refl
  where
    go : (v : Bool) → is_at device_id (place device_id d us) d us ≡ v → (k ≡ place device_id d us) × (is_at device_id k d us ≡ true)
    go true q = let e : k ≡ place device_id d us = rw q at h in (e, rw e q)
    go false q = let none_known : k ≡ max_devices = rw q at h in absurd (omega arith)

module _ (d i c : ℕ) (a : List Device) (e : i ≡ place device_id d (take c a)) where
  pub known_at_le : length (take c a) ≤ max_devices → known_at d (take c a) ≤ max_devices
  unfolding known_at
  known_at_le l = go (is_at device_id i d (take c a)) refl
    where
      go : (b : Bool) → is_at device_id i d (take c a) ≡ b → cond (is_at device_id (place device_id d (take c a)) d (take c a)) (place device_id d (take c a)) max_devices ≤ max_devices
      go true q = let n : i < length (take c a) = at_lt device_id d i (take c a) q in rw (← e, q) (omega arith)
      go false q = rw (← e, q) (omega arith)

  -- a device that is known at no place
  pub unknown : length (take c a) ≤ max_devices → known_at d (take c a) ≡ max_devices → is_at device_id i d (take c a) ≡ false
  unfolding known_at
  unknown l h = go (is_at device_id i d (take c a)) refl
    where
      go : (b : Bool) → is_at device_id i d (take c a) ≡ b → b ≡ false
      go true q =
          let n : i < length (take c a) = at_lt device_id d i (take c a) q in
          let k : i ≡ max_devices = rw (← e, q) at h in
          absurd (omega arith)
      go false q = refl

module _ (d i c : ℕ) (a : List Device) (ph : TouchPhase) (t : ActiveTouch) (e : i ≡ place device_id d (take c a)) where
  unfoldable f : TouchState → TouchState
  f = fits_device ph t

  unfoldable vs : List TouchState
  vs = map device_view (take c a)

  place_vs : place device_id_of d vs ≡ i
  unfolding vs
  place_vs = place_map device_view device_id device_id_of same_id d (take c a) ∙ sym e

  at_vs : {b : Bool} → is_at device_id i d (take c a) ≡ b → is_at device_id_of (place device_id_of d vs) d vs ≡ b
  unfolding vs
  at_vs q = rw place_vs (at_map device_view device_id device_id_of same_id d (take c a) i ∙ q)

  pub touched_hit : (z x : Device) → is_at device_id i d (take c a) ≡ true → length (take c a) ≤ max_devices → device_view x ≡ fits_device ph t (device_view (get_or a i z))
      → map device_view (set (take c a) i x) ≡ fits_touch d ph t (map device_view (take c a))
  unfolding vs f
  touched_hit z x q l p =
      let h : i < length (take c a) = at_lt device_id d i (take c a) q in
      let k : i < c = omega (arith, length-take c a) in
      let s : at_device d f vs ≡ map device_view (set (take c a) i x) =
      at_upsert d f vs ∙ (upsert_hit device_id_of d (f (new_device d)) f (device_view z) vs (at_vs q)
      ∙ rw (place_vs, get_d_map device_view (take c a) i z, get_or-take c a i z k, ← p, map_set)) in
      fits_devices d ph t vs _ s (simp (length-map, length-set) l)

  -- the device that `known_at` finds, changed where it stands
  pub touched_known : (z x : Device) (k : ℕ) → k ≡ known_at d (take c a) → k < max_devices → length (take c a) ≤ max_devices → device_view x ≡ fits_device ph t (device_view (get_or a k z))
      → map device_view (take c (set a k x)) ≡ fits_touch d ph t (map device_view (take c a))
  touched_known z x k h b l p =
      let at = known_place d k (take c a) h b in
      let same : k ≡ i = at.0 ∙ sym e in
      let q : is_at device_id i d (take c a) ≡ true = rw same at at.1 in
      let n : i < length (take c a) = at_lt device_id d i (take c a) q in
      let m : k < c = omega (arith, length-take c a) in
      rw (take-set-lt c a k x m, same) (touched_hit z x q l (rw same at p))

  pub touched_miss : (x : Device) → is_at device_id i d (take c a) ≡ false → length (take c a) < max_devices → device_view x ≡ fits_device ph t (new_device d)
      → map device_view (inserted_at i x (take c a)) ≡ fits_touch d ph t (map device_view (take c a))
  unfolding vs f
  touched_miss x q l p =
      let h : i ≤ length (take c a) = rw e (place_le device_id d (take c a)) in
      let s : at_device d f vs ≡ map device_view (inserted_at i x (take c a)) =
      at_upsert d f vs ∙ (upsert_miss device_id_of d (f (new_device d)) f vs (at_vs q) ∙ rw (place_vs, ← p, map_inserted)) in
      fits_devices d ph t vs _ s (simp (length-map, length_inserted i x (take c a) h) l)

  pub touched_full : is_at device_id i d (take c a) ≡ false → max_devices ≤ length (take c a) → map device_view (take c a) ≡ fits_touch d ph t (map device_view (take c a))
  unfolding vs f fits_touch
  touched_full q l =
      let h : i ≤ length vs = simp length-map (rw e (place_le device_id d (take c a))) in
      let s : at_device d f vs ≡ inserted_at i (f (new_device d)) vs =
      at_upsert d f vs ∙ (upsert_miss device_id_of d (f (new_device d)) f vs (at_vs q) ∙ rw place_vs) in
      let n : max_devices < length (at_device d f vs) = rw (s, length_inserted i (f (new_device d)) vs h) (simp length-map (omega arith)) in
      rw (lt-leb _ _ n)

-- ---- the devices after a touch event, by the place of its device
module _ (d k : ℕ) (old : Devices) (room : length old.places ≡ 4) (found : k ≡ known_at d (known old)) where
  at_most : length (known old) ≤ max_devices
  at_most = omega (arith, length-take old.count old.places)

  pub place_most : k ≤ max_devices
  place_most = rw found (known_at_le d _ old.count old.places refl at_most)

  pub fits_known : (ph : TouchPhase) (t : ActiveTouch) (z x : Device) → k < max_devices → device_view x ≡ fits_device ph t (device_view (get_or old.places k z))
      → view (record { count = old.count; places = set old.places k x }) ≡ fits_touch d ph t (view old)
  fits_known ph t z x h p = touched_known d _ old.count old.places ph t refl z x k found h at_most p
