-- The words of a gesture's parts, one after the other.
use Rattle.std.specs.Prelude.{None, Some}
use Prim.Native.Nat.{ℕ, suc, ◌+◌}
use native.Mathlib.Numerals.{add-one}
use native.Mathlib.Omega.{arith}
use mathlib.Core.Path.{◌≡◌, refl, ap, ◌∙◌}
use mathlib.Core.List.{List, ◌++◌, append_assoc}
use lib.Dec.{T, leb}
use lib.ListN.{length, set, length-append}
use lib.Seq.{sets}
use Rattle.data.specs.Numbers.{pinch_number}
use Rattle.data.specs.declared.touch.PinchType.{PinchType}
use Rattle.data.specs.declared.touch.PinchType.TheVariants.{Horizontal, Vertical, Proportional}
use Rattle.image.specs.Codes.{El, write, option_words, zeros, size}
use Rattle.image.proofs.Lists.{sets_at}
use Rattle.image_gesture.specs.Gesture.{averages_code, previous_code, start_code, gesture_code}

pub eight : (v : El averages_code) → length (write averages_code v) ≡ 8
unfolding write
eight v = refl

pub five : (v : El start_code) → length (write start_code v) ≡ 5
unfolding write
five v = refl

pub nine : (v : El previous_code) → length (write previous_code v) ≡ 9
unfolding write option_words zeros size
nine None = refl
nine (Some v) = refl

pub pinch_in : (p : PinchType) → T (leb (pinch_number p) 2)
pinch_in Horizontal = tt
pinch_in Vertical = tt
pinch_in Proportional = tt

three_parts : (l : List ℕ) (i : ℕ) (xs ys zs : List ℕ) → length xs ≡ 5 → length ys ≡ 9 → sets (sets (sets l i xs) (i + 5) ys) (i + 14) zs ≡ sets l i (xs ++ (ys ++ zs))
three_parts l i xs ys zs a b =
    let g = length-append xs ys in
    ap (λ (m : List ℕ). sets m (i + 14) zs) (sets_at l i (i + 5) xs ys (omega arith))
    ∙ sets_at l i (i + 14) (xs ++ ys) zs (omega arith)
    ∙ ap (sets l i) (append_assoc xs ys zs)

joined : (l : List ℕ) (at : ℕ) (s : El start_code) (p : El previous_code) (a : El averages_code)
    → sets (set l at 1) (suc at) (write start_code s ++ (write previous_code p ++ write averages_code a)) ≡ sets l at (write gesture_code (Some (s, (p, a))))
unfolding write option_words
joined l at s p a = refl

-- the flag, the start, the averages of the pass before or none, those of this one
pub put_fields : (l : List ℕ) (at : ℕ) (s : El start_code) (p : El previous_code) (a : El averages_code)
    → sets (sets (sets (set l at 1) (at + 1) (write start_code s)) (at + 1 + 5) (write previous_code p)) (at + 1 + 14) (write averages_code a) ≡ sets l at (write gesture_code (Some (s, (p, a))))
put_fields l at s p a = three_parts (set l at 1) (at + 1) (write start_code s) (write previous_code p) (write averages_code a) (five s) (nine p) ∙ rw add-one (joined l at s p a)

pub gesture_length : (v : El gesture_code) → length (write gesture_code v) ≡ 23
unfolding write option_words zeros size
gesture_length None = refl
gesture_length (Some v) =
    let s = write start_code v.0 in
    let p = write previous_code v.1.0 in
    let a = write averages_code v.1.1 in
    omega (arith, length-append s (p ++ a), length-append p a, five v.0, nine v.1.0, eight v.1.1)
