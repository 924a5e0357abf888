-- The slots as a list: one is read or set by its number, and all are settled one after the other. Assumes nothing.
use Prim.Native.Nat.{ℕ, zero, suc, ◌<◌, ◌≤◌}
use native.Mathlib.Omega.{arith}
use mathlib.Core.Path.{◌≡◌, refl, ap}
use mathlib.Core.List.{List, [], ◌∷◌, map}
use lib.ListN.{length, get_or, set}
use Rattle.kernel_touch.specs.declared.slots.Finger.{Finger}
use Rattle.kernel_touch.specs.declared.slots.Slot.{Slot}
use Rattle.kernel_touch.specs.Slots.{no_finger, finger_at, put_at, settle}

pub finger_is : (d : Slot) (n : ℕ) (ss : List Slot) → n < length ss → (get_or ss n d).now ≡ finger_at n ss
unfolding finger_at
finger_is d n [] h = absurd (omega arith)
finger_is d zero (s ∷ ss) h = refl
finger_is d (suc n) (s ∷ ss) h = finger_is d n ss (omega arith)

pub no_finger_is : (n : ℕ) (ss : List Slot) → length ss ≤ n → no_finger ≡ finger_at n ss
unfolding finger_at
no_finger_is n [] h = refl
no_finger_is zero (s ∷ ss) h = absurd (omega arith)
no_finger_is (suc n) (s ∷ ss) h = no_finger_is n ss (omega arith)

pub put_is : (d : Slot) (f : Finger) (n : ℕ) (ss : List Slot) → n < length ss →
    set ss n (record { now = f; acted = (get_or ss n d).acted }) ≡ put_at n f ss
unfolding put_at
put_is d f n [] h = refl
put_is d f zero (s ∷ ss) h = refl
put_is d f (suc n) (s ∷ ss) h = ap (λ (l : List Slot). s ∷ l) (put_is d f n ss (omega arith))

pub put_nothing : (f : Finger) (n : ℕ) (ss : List Slot) → length ss ≤ n → ss ≡ put_at n f ss
unfolding put_at
put_nothing f n [] h = refl
put_nothing f zero (s ∷ ss) h = absurd (omega arith)
put_nothing f (suc n) (s ∷ ss) h = ap (λ (l : List Slot). s ∷ l) (put_nothing f n ss (omega arith))

-- ---- settled from slot n on
unfoldable pub settled_from : ℕ → List Slot → List Slot
settled_from n [] = []
settled_from zero (s ∷ ss) = settle s ∷ map settle ss
settled_from (suc n) (s ∷ ss) = s ∷ settled_from n ss

pub from_first : (ss : List Slot) → settled_from 0 ss ≡ map settle ss
unfolding settled_from
from_first [] = refl
from_first (s ∷ ss) = refl

-- one more
pub from_next : (d : Slot) (n : ℕ) (ss : List Slot) → n < length ss → settled_from (suc n) (set ss n (settle (get_or ss n d))) ≡ settled_from n ss
unfolding settled_from
from_next d n [] h = refl
from_next d zero (s ∷ ss) h = ap (λ (l : List Slot). settle s ∷ l) (from_first ss)
from_next d (suc n) (s ∷ ss) h = ap (λ (l : List Slot). s ∷ l) (from_next d n ss (omega arith))

pub from_last : (n : ℕ) (ss : List Slot) → length ss ≤ n → settled_from n ss ≡ ss
unfolding settled_from
from_last n [] h = refl
from_last zero (s ∷ ss) h = absurd (omega arith)
from_last (suc n) (s ∷ ss) h = ap (λ (l : List Slot). s ∷ l) (from_last n ss (omega arith))
