-- Tests on ids, and lists by ascending id. Assumes nothing.
use Prim.Native.Nat.{ℕ, ◌≤◌, ◌<◌}
use native.Mathlib.Nat.{lt_trans}
use native.Mathlib.Omega.{arith}
use mathlib.Core.Path.{◌≡◌, refl}
use mathlib.Core.Bool.{Bool, true, false, not}
use mathlib.Core.List.{List, [], ◌∷◌}
use lib.Dec.{T, ltb, eqb, ltb→lt, lt→ltb, nltb→le, eqb→eq, eqb_refl}
use Rattle.model.specs.Touch.{Above}

-- where two constructors are claimed equal, `cc` proves 0 ≡ 1
pub impossible : {A : Type 0} → ◌≡◌ {A = ℕ} 0 1 → A
impossible z = absurd (omega arith)

pub true_of : (b : Bool) → T b → b ≡ true
true_of true t = refl
true_of false t = absurd t

pub false_of : (b : Bool) → (T b → ⊥) → b ≡ false
false_of true h = absurd (h tt)
false_of false h = refl

pub eqb_no : (a b : ℕ) → (a ≡ b → ⊥) → eqb a b ≡ false
eqb_no a b h = false_of (eqb a b) (λ t. h (eqb→eq a b t))

pub eqb_yes : (a : ℕ) → eqb a a ≡ true
eqb_yes a = true_of (eqb a a) (eqb_refl a)

pub ltb_yes : (a b : ℕ) → a < b → ltb a b ≡ true
ltb_yes a b h = true_of (ltb a b) (lt→ltb a b h)

pub ltb_no : (a b : ℕ) → b ≤ a → ltb a b ≡ false
ltb_no a b h = false_of (ltb a b) (λ t. let k = ltb→lt a b t in omega arith)

pub data Order (a b : ℕ) : Type 0 where
  less : a < b → Order a b
  equal : a ≡ b → Order a b
  more : b < a → Order a b

pub order : (a b : ℕ) → Order a b
order a b = go (ltb a b) (ltb→lt a b) (nltb→le a b) (ltb b a) (ltb→lt b a) (nltb→le b a)
  where
    go : (t : Bool) → (T t → a < b) → (T (not t) → b ≤ a) → (u : Bool) → (T u → b < a) → (T (not u) → a ≤ b) → Order a b
    go true h k u l m = less (h tt)
    go false h k true l m = more (l tt)
    go false h k false l m = let x = k tt in let y = m tt in equal (omega arith)

pub above_down : {A : Type 0} (id : A → ℕ) (m n : ℕ) (xs : List A) → m < n → Above id n xs → Above id m xs
above_down id m n [] h a = tt
above_down id m n (x ∷ xs) h a = (lt_trans h a.0, above_down id m n xs h a.1)
