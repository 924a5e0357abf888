-- Inserting a touch at its place. Assumes nothing.
use mathlib.Core.Path.{◌≡◌, sym, ap, ◌∙◌}
use mathlib.Core.Bool.{true, false}
use mathlib.Core.List.{List}
use Prim.Native.Nat.{ℕ, suc, ◌+◌, ◌≤◌, ◌<◌}
use native.Mathlib.Omega.{arith}
use lib.ListN.{length, set, take, length-take, length-set}
use Rattle.data.specs.Limits.{max_touches}
use Rattle.model.specs.Types.{ActiveTouch}
use Rattle.model.specs.Touch.{insert_touch, touch_id_of}
use Rattle.touches.specs.Touches.{place, is_at, inserted_at, if_room}
use Rattle.touches.proofs.Places.{first_of, set_first}
use Rattle.touches.proofs.Upsert.{insert_upsert, upsert_hit, upsert_miss, at_lt, place_le, length_inserted, fits, too_long}

-- i is the place of the touch t among the first c
module _ (t : ActiveTouch) (c i : ℕ) (a : List ActiveTouch) (p : i ≡ place touch_id_of t.id (take c a)) (l : length a ≡ max_touches) where
  abbrev us : List ActiveTouch
  us = take c a

  pub within : i ≤ length us
  within = rw p (place_le touch_id_of t.id us)

  pub there : is_at touch_id_of i t.id us ≡ true → i < length us
  there e = at_lt touch_id_of t.id i us e

  pub replaced : is_at touch_id_of i t.id us ≡ true → take c (set a i t) ≡ if_room (insert_touch t us) us
  replaced e =
      let s : insert_touch t us ≡ set us i t = rw (← p) at (insert_upsert t us ∙ upsert_hit touch_id_of t.id t (λ u. t) t us (rw p at e)) in
      let n : length (insert_touch t us) ≤ max_touches = rw (s, length-set) (omega (arith, length-take c a)) in
      set_first c i a t (there e) ∙ sym s ∙ sym (fits (insert_touch t us) us n)

  module _ (e : is_at touch_id_of i t.id us ≡ false) where
    put : insert_touch t us ≡ inserted_at i t us
    put = rw (← p) at (insert_upsert t us ∙ upsert_miss touch_id_of t.id t (λ u. t) us (rw p at e))

    longer : length (insert_touch t us) ≡ suc (length us)
    longer = rw put (length_inserted i t us within)

    pub inserted : (n : ℕ) → n ≡ length us → n < max_touches → (b : List ActiveTouch) → take (n + 1) b ≡ inserted_at i t (take n a)
        → take (n + 1) b ≡ if_room (insert_touch t us) us
    inserted n k h b q =
        let m : length (insert_touch t us) ≤ max_touches = omega (arith, longer) in
        q ∙ ap (inserted_at i t) (first_of n c a k) ∙ sym put ∙ sym (fits (insert_touch t us) us m)

    pub no_room : max_touches ≤ length us → us ≡ if_room (insert_touch t us) us
    no_room h = sym (too_long (insert_touch t us) us (omega (arith, longer)))
