-- A fraction over a power of two to the nearest whole number, by a sum and a shift. Assumes nothing.
use Rattle.std.proofs.Common.{◌≡◌, ℕ, zero, suc, ◌+◌, ◌-◌, ◌*◌, ◌/◌, ◌%◌, ◌^◌, ◌<◌, ◌≤◌, not, T, eqb, ◌⊎◌, sym, refl, ap, ◌∙◌, subst, inl, inr, add-zero, mod-lt, suc-mul, add-mul, one-mul, div-add-mod', arith, eqb→eq, leb→le, pow_pos}
use Prim.Native.Nat.{compare, Ordering}
use lib.Dec.{is_le, compare_is_eq, nleb→lt, eqb_refl}
use lib.Arith.{lt_of_le-ne, digits_div}
use lib.Ieee.{nearest}
use lib.Ieee.Fits.{nearest-le}
use lib.Ieee.Nearest.{closest, nearest-ge}
use Rattle.ieee.proofs.Packed.{twice_hid}

-- ---- what `compare` says
abbrev pub Cmp : Ordering → ℕ → ℕ → Type 0
Cmp Ordering.lt a b = a < b
Cmp Ordering.eq a b = a ≡ b
Cmp Ordering.gt a b = b < a

pub cmp : (a b : ℕ) → Cmp (compare a b) a b
cmp a b = go (compare a b) (leb→le a b) (nleb→lt a b) (eqb→eq a b) (λ (e : a ≡ b). subst (λ (x : ℕ). T (eqb a x)) e (eqb_refl a))
  where
    go : (o : Ordering) → (T (is_le o) → a ≤ b) → (T (not (is_le o)) → b < a) → (T (compare_is_eq o) → a ≡ b) → (a ≡ b → T (compare_is_eq o)) → Cmp o a b
    go Ordering.lt h k e n = lt_of_le-ne (h tt) n
    go Ordering.eq h k e n = e tt
    go Ordering.gt h k e n = k tt

-- ---- a * u + v over u
same : (x a u v : ℕ) → x ≡ a * u + v → v < u → x / u ≡ a
same x a u v e h = ap (λ (z : ℕ). z / u) e ∙ digits_div a h

next : (x a u v : ℕ) → x ≡ a * u + v → u ≤ v → v < u + u → x / u ≡ suc a
next x a u v e l h = ap (λ (z : ℕ). z / u) (moved (a * u) (suc a * u) e (suc-mul a u)) ∙ digits_div (suc a) (less u v l h)
  where
    moved : (p q : ℕ) → x ≡ p + v → q ≡ p + u → x ≡ q + (v - u)
    moved p q k g = omega arith

    less : (u v : ℕ) → u ≤ v → v < u + u → v - u < u
    less u v l h = omega arith

-- q is a * u + r, and half of u is w
step : (q a u r w : ℕ) (o : Ordering) → q ≡ a * u + r → r < u → u ≡ 2 * w → 0 < w → Cmp o (r * 2) u → (q + (w - 1) + a % 2) / u ≡ nearest a o
step q a u r w Ordering.lt e R U W c = same (q + (w - 1) + a % 2) a u (r + (w - 1) + a % 2) (sum (a * u) e) (small a)
  where
    sum : (p : ℕ) → q ≡ p + r → q + (w - 1) + a % 2 ≡ p + (r + (w - 1) + a % 2)
    sum p g = omega arith

    small : (a : ℕ) → r + (w - 1) + a % 2 < u
    small a = omega arith
step q a u r w Ordering.eq e R U W c = go (a % 2) (lt_two a) refl
  where
    lt_two : (a : ℕ) → a % 2 < 2
    lt_two a = omega arith

    sum : (p t : ℕ) → q ≡ p + r → q + (w - 1) + t ≡ p + (r + (w - 1) + t)
    sum p t g = omega arith

    go : (t : ℕ) → t < 2 → a % 2 ≡ t → (q + (w - 1) + t) / u ≡ a + t
    go zero h g = same (q + (w - 1) + 0) a u (r + (w - 1) + 0) (sum (a * u) 0 e) (omega arith) ∙ sym (add-zero a)
    go (suc zero) h g = next (q + (w - 1) + 1) a u (r + (w - 1) + 1) (sum (a * u) 1 e) (omega arith) (omega arith) ∙ omega arith
    go (suc (suc t)) h g = absurd (omega arith)
step q a u r w Ordering.gt e R U W c = next (q + (w - 1) + a % 2) a u (r + (w - 1) + a % 2) (sum (a * u) e) (big a) (small a)
  where
    sum : (p : ℕ) → q ≡ p + r → q + (w - 1) + a % 2 ≡ p + (r + (w - 1) + a % 2)
    sum p g = omega arith

    big : (a : ℕ) → u ≤ r + (w - 1) + a % 2
    big a = omega arith

    small : (a : ℕ) → r + (w - 1) + a % 2 < u + u
    small a = omega arith

twice : (n : ℕ) → 1 ≤ n → 2 ^ n ≡ 2 * 2 ^ (n - 1)
twice (suc zero) h = refl
twice (suc (suc n)) h = twice_hid (suc (suc n)) (omega arith)
twice zero h = absurd (omega arith)

pub closest_shift : (q n : ℕ) → 1 ≤ n → (q + (2 ^ (n - 1) - 1) + q / 2 ^ n % 2) / 2 ^ n ≡ closest q (2 ^ n)
closest_shift q n h =
    step q (q / 2 ^ n) (2 ^ n) (q % 2 ^ n) (2 ^ (n - 1)) (compare (q % 2 ^ n * 2) (2 ^ n)) (sym (div-add-mod' q (2 ^ n))) (mod-lt q (pow_pos n)) (twice n h) (pow_pos (n - 1))
    (cmp (q % 2 ^ n * 2) (2 ^ n))

pub closest_le : (a b : ℕ) → closest a b ≤ suc (a / b)
closest_le a b = nearest-le (a / b) (compare (a % b * 2) b)

pub closest_ge : (a b : ℕ) → a / b ≤ closest a b
closest_ge a b = nearest-ge (a / b) (compare (a % b * 2) b)

-- ---- `closest` is at most a half off, and even where it is a half off
pub record Within (n u q : ℕ) : Type 0 where
  pub low : 2 * (q * u) ≤ 2 * n + u
  pub high : 2 * n ≤ 2 * (q * u) + u
  pub even : (2 * (q * u) ≡ 2 * n + u) ⊎ (2 * n ≡ 2 * (q * u) + u) → q % 2 ≡ 0

within : (n a u r : ℕ) (o : Ordering) → n ≡ a * u + r → r < u → Cmp o (r * 2) u → Within n u (nearest a o)
within n a u r Ordering.lt e R c =
    record { low = omega arith; high = omega arith; even = λ t. elim t [ inl x ↦ absurd (omega arith) | inr x ↦ absurd (omega arith) ] }
within n a u r Ordering.gt e R c =
    let w : suc a * u ≡ a * u + u = suc-mul a u in
    record { low = omega arith; high = omega arith; even = λ t. elim t [ inl x ↦ absurd (omega arith) | inr x ↦ absurd (omega arith) ] }
within n a u r Ordering.eq e R c = go (a % 2) (omega arith) refl
  where
    go : (t : ℕ) → t < 2 → a % 2 ≡ t → Within n u (a + t)
    go zero h g = let w : (a + 0) * u ≡ a * u = ap (λ (x : ℕ). x * u) (add-zero a) in record { low = omega arith; high = omega arith; even = λ t. omega arith }
    go (suc zero) h g = let w : (a + 1) * u ≡ a * u + u = add-mul a 1 u ∙ ap (λ (x : ℕ). a * u + x) (one-mul u) in record { low = omega arith; high = omega arith; even = λ t. omega arith }
    go (suc (suc t)) h g = absurd (omega arith)

pub closest_within : (n u : ℕ) → 0 < u → Within n u (closest n u)
closest_within n u U = within n (n / u) u (n % u) (compare (n % u * 2) u) (sym (div-add-mod' n u)) (mod-lt n U) (cmp (n % u * 2) u)
