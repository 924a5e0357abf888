-- The devices' ids read apart from the devices, and places among them. Assumes nothing.
use Rattle.std.specs.Prelude.{Some, IfSome}
use Rattle.std.specs.Option.{unwrap_or}
use Rattle.std.specs.Bool.{then_some}
use mathlib.Core.Path.{◌≡◌, refl, sym, ap, ◌∙◌}
use mathlib.Core.Bool.{Bool, true, false, cond}
use mathlib.Core.List.{List, [], ◌∷◌, map}
use Prim.Native.Nat.{ℕ, zero, suc, ◌<◌}
use native.Mathlib.Omega.{arith}
use borrow.Author.Tests.{ltb-true, eqb-true, ne_eqb}
use lib.Dec.{ltb, eqb}
use lib.ListN.{length, get_or, set, take}
use lib.Seq.{map-set_same}
use Rattle.data.specs.Limits.{max_devices}
use Rattle.model.specs.Touch.{find_device}
use Rattle.touches.specs.Touches.{place, index, starts, is_at}
use Rattle.touches.proofs.Upsert.{no, at_lt, at_place}
use Rattle.touch_device.specs.declared.Device.{Device}
use Rattle.touch_device.specs.View.{device_view}
use Rattle.touch_state.specs.View.{device_id, known_at}
use Rattle.touch_state.proofs.Known.{place_map, at_map, known_place, found_at}

-- an id among ids
abbrev pub self : ℕ → ℕ
self x = x

take_ids : (n : ℕ) (a : List Device) → take n (map device_id a) ≡ map device_id (take n a)
take_ids zero a = refl
take_ids (suc n) [] = refl
take_ids (suc n) (x ∷ a) = ap {B = List ℕ} (λ r. x.id ∷ r) (take_ids n a)

-- ---- the place that `known_at` finds

-- where the first place of no smaller id has the id, it is the first that has it
module _ (d : ℕ) where
  index_by : (u : Device) (us : List Device) (b : Bool) → ltb u.id d ≡ b
      → (is_at device_id (place device_id d us) d us ≡ true → place device_id d us ≡ index device_id d us)
      → is_at device_id (place device_id d (u ∷ us)) d (u ∷ us) ≡ true → place device_id d (u ∷ us) ≡ index device_id d (u ∷ us)
  unfolding place index is_at starts
  index_by u us true q ih e = rw (q, ne_eqb d u.id (λ s. omega (arith, ltb-true u.id d q))) (ap suc (ih (rw q at e)))
  index_by u us false q ih e = let s : eqb d u.id ≡ true = rw q at e in rw (q, s)

  place_index : (us : List Device) → is_at device_id (place device_id d us) d us ≡ true → place device_id d us ≡ index device_id d us
  unfolding place index is_at starts
  place_index [] e = no e
  place_index (u ∷ us) e = index_by u us (ltb u.id d) refl (place_index us) e

  -- it goes by the ids alone
  abbrev by_ids : List ℕ → ℕ
  by_ids xs = cond (is_at self (place self d xs) d xs) (place self d xs) max_devices

  known_by_ids : (us : List Device) → by_ids (map device_id us) ≡ known_at d us
  unfolding known_at
  known_by_ids us =
      rw (place_map device_id device_id self (λ u. refl) d us, at_map device_id device_id self (λ u. refl) d us (place device_id d us))

module _ (d k c : ℕ) (a : List Device) (z : Device) (at : k ≡ known_at d (take c a)) (here : k < max_devices) where
  below_known : k < length (take c a)
  below_known = at_lt device_id d k (take c a) (known_place d k (take c a) at here).1

  pub known_id : d ≡ (get_or a k z).id
  known_id = eqb-true d (get_or a k z).id (at_place device_id d k c a z below_known ∙ (known_place d k (take c a) at here).1)

  pub known_found : find_device d (map device_view (take c a)) ≡ Some (device_view (get_or a k z))
  known_found =
      let p = known_place d k (take c a) at here in
      found_at d c k a z (p.0 ∙ place_index d (take c a) (rw p.0 at p.1)) below_known

  pub known_stays : (x : Device) → x.id ≡ d → k ≡ known_at d (take c (set a k x))
  known_stays x e =
      at ∙ sym (known_by_ids d (take c a))
      ∙ ap (by_ids d) (sym (take_ids c a) ∙ ap (take c) (sym (map-set_same device_id a k x z (e ∙ known_id))) ∙ take_ids c (set a k x))
      ∙ known_by_ids d (take c (set a k x))

-- ---- the place as an Option
pub unwrapped : (b : Bool) (i m : ℕ) → unwrap_or (then_some b i) m ≡ cond b i m
unwrapped true i m = refl
unwrapped false i m = refl

pub below_some : (b : Bool) (i m : ℕ) → (b ≡ true → i < m) → IfSome (then_some b i) (λ k. k < m)
below_some true i m h = h refl
below_some false i m h = tt
