-- A turn of each loop over the touches.
use Rattle.std.specs.Prelude.{Option, None, Some}
use Prim.Native.Nat.{ℕ, zero, suc, ◌+◌, ◌-◌, ◌*◌, ◌≤◌, ◌<◌}
use native.Mathlib.Omega.{arith}
use mathlib.Core.Path.{◌≡◌, refl, sym, ap, ◌∙◌, subst}
use mathlib.Core.List.{List, [], ◌∷◌, ◌++◌, map}
use lib.Dec.{T, leb, le→leb}
use lib.ListN.{length, get_or, set, take, length-map, length-take, length-set, length-append}
use lib.Seq.{sets, length-sets, take-suc, take-suc-set, length-take-le}
use lib.Ieee.{Float}
use Rattle.data.specs.Limits.{max_touches}
use Rattle.data.specs.declared.touch.ActiveTouch.{ActiveTouch}
use Rattle.image.specs.Codes.{write, entry_words, option_words, zeros, all, size, In, Each, El}
use Rattle.image.specs.Places.{or_else, two_at, two_bad, value_at, rows_at, key_at, keys_bad, Tested}
use Rattle.image.proofs.Lists.{put_row, all_length, sets_at, read_row, map-append, each_more, zeros_length, keyed_of}
use Rattle.image_touches.specs.Touches.{ascending, force_code, touch_code, touches_code, touch_el, touch_of, touches_el, touches_of}

force_length : (o : Option Float) → length (write force_code o) ≡ 2
unfolding write option_words zeros size
force_length None = refl
force_length (Some x) = refl

pub six : (v : ℕ × El touch_code) → length (entry_words (write touch_code) v) ≡ 6
unfolding write entry_words
six v = ap (λ (n : ℕ). suc (suc (suc (suc n)))) (force_length v.1.1.1)

-- ---- writing
abbrev pub written : List ActiveTouch → ℕ → List ℕ
written a n = all (entry_words (write touch_code)) (touches_el (take n a))

abbrev pub EachIn : List ActiveTouch → Type 0
EachIn us = Each (λ (v : ℕ × El touch_code). In touch_code v.1) (touches_el us)

pub put_none : (l : List ℕ) (at : ℕ) (a : List ActiveTouch) → l ≡ sets l at (written a 0)
unfolding touches_el all
put_none l at a = refl

pub each_none : (a : List ActiveTouch) → EachIn (take 0 a)
unfolding touches_el
each_none a = tt

module _ (a : List ActiveTouch) (i : ℕ) (z : ActiveTouch) (h : i < length a) where
  more : take (i + 1) a ≡ take i a ++ (get_or a i z ∷ [])
  more = let e : i + 1 ≡ suc i = omega arith in rw (e, take-suc a i z h)

  pub put_more : (l : List ℕ) (at : ℕ) → sets (sets l at (written a i)) (at + i * 6) (entry_words (write touch_code) (touch_el (get_or a i z))) ≡ sets l at (written a (i + 1))
  unfolding touches_el
  put_more l at =
      let n : i ≡ length (map touch_el (take i a)) = sym (length-map (take i a) touch_el ∙ length-take-le i a (omega arith)) in
      put_row (entry_words (write touch_code)) 6 six l at i (map touch_el (take i a)) (touch_el (get_or a i z)) n
      ∙ ap (λ (x : List (ℕ × El touch_code)). sets l at (all (entry_words (write touch_code)) x)) (rw (more, map-append))

  pub each_touch : EachIn (take i a) → In touch_code (touch_el (get_or a i z)).1 → EachIn (take (i + 1) a)
  unfolding touches_el
  each_touch e g = rw (more, map-append) (each_more (λ (v : ℕ × El touch_code). In touch_code v.1) (map touch_el (take i a)) (touch_el (get_or a i z)) e g)

-- the count, the places that are taken, zeros behind
pub put_all : (l : List ℕ) (at n c : ℕ) (a : List ActiveTouch) → n ≡ length (take c a) → take n a ≡ take c a
    → sets (sets (set l at n) (at + 1) (written a n)) (at + 1 + n * 6) (zeros ((10 - n) * 6)) ≡ sets l at (write (touches_code max_touches) (touches_el (take c a)))
unfolding write size touches_el
put_all l at n c a e t =
    let m : length (map touch_el (take c a)) ≡ n = length-map (take c a) touch_el ∙ sym e in
    let k : length (all (entry_words (write touch_code)) (map touch_el (take c a))) ≡ n * 6 = all_length (entry_words (write touch_code)) 6 six (map touch_el (take c a)) ∙ ap (λ (z : ℕ). z * 6) m in
    let f : at + 1 ≡ suc at = omega arith in
    rw (m, t, f) (sets_at (set l at n) (suc at) (suc at + n * 6) (all (entry_words (write touch_code)) (map touch_el (take c a))) (zeros ((10 - n) * 6)) (ap (λ (z : ℕ). suc at + z) (sym k)))

-- ---- reading
pub read_none : (ws : List ℕ) (at : ℕ) (a : List ActiveTouch) → take 0 a ≡ touches_of (rows_at 6 (key_at (value_at touch_code)) 0 ws at)
unfolding touches_of rows_at
read_none ws at a = refl

pub read_more : (a : List ActiveTouch) (ws : List ℕ) (at i : ℕ) (t : ActiveTouch) → i < length a → take i a ≡ touches_of (rows_at 6 (key_at (value_at touch_code)) i ws at)
    → t ≡ touch_of (key_at (value_at touch_code) ws (at + i * 6)) → take (i + 1) (set a i t) ≡ touches_of (rows_at 6 (key_at (value_at touch_code)) (i + 1) ws at)
unfolding touches_of
read_more a ws at i t h e g =
    let s : i + 1 ≡ suc i = omega arith in
    rw (read_row 6 (key_at (value_at touch_code)) ws i at, map-append, s, take-suc-set a i t h, e, g)

-- ---- in range, where the ids rise
pub in_touches : (us : List ActiveTouch) → length us ≤ max_touches → EachIn us → Tested ascending [] (touches_el us) → In (touches_code max_touches) (touches_el us)
unfolding touches_el
in_touches us h e t =
    let most : T (leb (length us) max_touches) = le→leb (length us) max_touches h in
    (subst (λ (z : ℕ). T (leb z max_touches)) (sym (length-map us touch_el)) most, keyed_of ascending (In touch_code) [] (map touch_el us) t e)

pub len_le : (n c : ℕ) (a : List ActiveTouch) → length a ≡ 10 → n ≡ length (take c a) → n ≤ 10
len_le n c a l e = omega (arith, length-take c a)

pub count_le : (c : ℕ) (a : List ActiveTouch) → length a ≡ 10 → length (take c a) ≤ max_touches
count_le c a l = len_le (length (take c a)) c a l refl

pub lengths : (l x y : List ℕ) (k v i j : ℕ) (xs ys : List ℕ) → x ≡ sets (set l k v) i xs → y ≡ sets x j ys → length y ≡ length l
lengths l x y k v i j xs ys e f = ap length f ∙ length-sets x j ys ∙ ap length e ∙ length-sets (set l k v) i xs ∙ length-set l k v

pub touches_length : (us : List ActiveTouch) → length us ≤ max_touches → length (write (touches_code max_touches) (touches_el us)) ≡ 61
unfolding write size touches_el
touches_length us h =
    let ws = all (entry_words (write touch_code)) (map touch_el us) in
    let n = length (map touch_el us) in
    let e = all_length (entry_words (write touch_code)) 6 six (map touch_el us) in
    let f = length-map us touch_el in
    let g = length-append ws (zeros ((10 - n) * 6)) in
    let z = zeros_length ((10 - n) * 6) in
    omega (arith, e, f, g, z)
