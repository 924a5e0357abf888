use mathlib.Core.Path.{◌≡◌, refl, sym, ap, ◌∙◌, subst}
use Prim.Native.Nat.{ℕ, zero, suc, ◌+◌, ◌-◌, ◌*◌, ◌/◌, ◌%◌, ◌^◌, ◌≤◌, ◌<◌}
use native.Mathlib.Nat.{lt_of_lt_of_le, mul_assoc, mul-div_cancel, pow-suc, pow-succ', mod-eq_of_lt}
use native.Mathlib.Omega.{arith}
use lib.Dec.{lit≤}
use lib.Pow.{pow-add, pow_mono, pow_pos, shl_exact, shl_lt}
use lib.Ieee.{Format, binary32, binary64, prec, emax, low, hid, ones, of_bits}
use Rattle.ieee_sqrt.specs.Sqrt.{isqrt, rooted}
use Rattle.ieee_sqrt.specs.Patterns.{Radicand, Rooted}
use Rattle.ieee_sqrt.proofs.Rooting.{root_value}
use Rattle.ieee_sqrt.proofs.root_pattern.Goals as goal
use Rattle.ieee_sqrt.proofs.root_pattern.Goals.{After-root_digits-r}

range : (f : Format) → (24 ≤ prec f) × (prec f ≤ 53) × (2 * emax f + low f ≤ 3120) × (ones f * hid f ≤ 2 ^ 63)
range binary32 = (lit≤ tt, lit≤ tt, lit≤ tt, lit≤ tt)
range binary64 = (lit≤ tt, lit≤ tt, lit≤ tt, lit≤ tt)

ranges : {p q j : ℕ} → Radicand p q j → (24 ≤ p) × (p ≤ 53) × (j ≤ 3120)
ranges {p} {q} {j} r =
    let a = range r.format in
    let e : p ≡ prec r.format = r.keeps in
    let l : j ≤ 2 * emax r.format + low r.format = r.limit in
    (omega arith, omega arith, omega arith)

abbrev odd : ℕ → ℕ → ℕ
odd p j = (j + p + 1) % 2

abbrev half : ℕ → ℕ → ℕ
half p j = (j - p + 1 - odd p j) / 2

-- ---- the number whose root is taken
four_pow : (n : ℕ) → 4 ^ n ≡ 2 ^ (n + n)
four_pow zero = refl
four_pow (suc n) =
    let a : 4 ^ suc n ≡ 4 ^ n * 4 = pow-suc 4 n in
    let b : 2 ^ suc n ≡ 2 * 2 ^ n = pow-succ' 2 n in
    a ∙ ap (λ (x : ℕ). x * 4) (four_pow n ∙ pow-add 2 n n) ∙ squares (2 ^ n) ∙ sym (pow-add 2 (suc n) (suc n) ∙ ap (λ (x : ℕ). x * x) b)
  where
    squares : (x : ℕ) → x * x * 4 ≡ 2 * x * (2 * x)
    squares x = omega arith

radicand : (p q o : ℕ) → q < 2 ^ p → p ≤ 53 → o ≤ 1 → q * 2 ^ (61 - p + o) % 2 ^ 64 * 4 ^ (p + 1) / 2 ^ 62 ≡ q * 2 ^ suc (p + o)
radicand p q o Q P O =
    ap (λ (x : ℕ). x * 4 ^ (p + 1) / 2 ^ 62) (shl_exact p (61 - p + o) 64 Q (omega arith))
    ∙ ap (λ (x : ℕ). x / 2 ^ 62)
    (ap (λ (x : ℕ). q * 2 ^ (61 - p + o) * x) (four_pow (p + 1))
    ∙ mul_assoc q (2 ^ (61 - p + o)) (2 ^ (p + 1 + (p + 1)))
    ∙ ap (λ (x : ℕ). q * x) (sym (pow-add 2 (61 - p + o) (p + 1 + (p + 1))) ∙ ap (λ (x : ℕ). 2 ^ x) (sum p o P) ∙ pow-add 2 (suc (p + o)) 62)
    ∙ sym (mul_assoc q (2 ^ suc (p + o)) (2 ^ 62)))
    ∙ mul-div_cancel (q * 2 ^ suc (p + o)) (pow_pos 62)
  where
    sum : (p o : ℕ) → p ≤ 53 → 61 - p + o + (p + 1 + (p + 1)) ≡ suc (p + o) + 62
    sum p o P = omega arith

-- it has 62 digits
in_range : (p q o : ℕ) → q < 2 ^ p → p ≤ 53 → o ≤ 1 → q * 2 ^ (61 - p + o) % 2 ^ 64 < 2 ^ 62
in_range p q o Q P O =
    subst (λ (x : ℕ). x < 2 ^ 62) (sym (shl_exact p (61 - p + o) 64 Q (omega arith)))
    (lt_of_lt_of_le (shl_lt p (61 - p + o) Q) (pow_mono {i = p + (61 - p + o)} {j = 62} (omega arith)))

-- ---- the pattern
abbrev At : Format → ℕ → ℕ → ℕ → ℕ → Type 0
At f p q j r = (r < ones f * hid f) × (of_bits f r ≡ rooted f (q * 2 ^ j))

at : (f : Format) (p q j o g : ℕ) → p ≡ prec f → 2 ^ (p - 1) ≤ q → q < 2 ^ p → o ≤ 1 → j ≡ suc (p + o) + (g + g) → j ≤ 2 * emax f + low f
    → At f p q j (suc g * 2 ^ (p - 1) + (isqrt (q * 2 ^ suc (p + o)) + 1) / 2)
at f p q j o g e a b O J L =
    subst (λ (x : ℕ). 2 ^ (x - 1) ≤ q → q < 2 ^ x → j ≡ suc (x + o) + (g + g) → At f x q j (suc g * 2 ^ (x - 1) + (isqrt (q * 2 ^ suc (x + o)) + 1) / 2)) (sym e)
    (λ a b J. root_value f q j o g a b O J L) a b J

split : (p j : ℕ) → p + 2 ≤ j → (j ≡ suc (p + odd p j) + ((half p j - 1) + (half p j - 1))) × (suc (half p j - 1) ≡ half p j)
split p j h = omega arith

value : (p q j t : ℕ) → Radicand p q j → t ≡ isqrt (q * 2 ^ suc (p + odd p j)) → (f : Format) → p ≡ prec f → j ≤ 2 * emax f + low f → At f p q j (half p j * 2 ^ (p - 1) + (t + 1) / 2)
value p q j t r e f P L =
    let s = split p j r.enough in
    subst (λ (x : ℕ). At f p q j (half p j * 2 ^ (p - 1) + (x + 1) / 2)) (sym e)
    (subst (λ (x : ℕ). At f p q j (x * 2 ^ (p - 1) + (isqrt (q * 2 ^ suc (p + odd p j)) + 1) / 2)) s.1
    (at f p q j (odd p j) (half p j - 1) P r.leading r.within (omega arith) s.0 L))

-- it fits, so that the shift loses nothing
fits : (p q j t : ℕ) → Radicand p q j → t ≡ isqrt (q * 2 ^ suc (p + odd p j)) → (half p j * 2 ^ (p - 1) + (t + 1) / 2 < 2 ^ 63) × (half p j * 2 ^ (p - 1) % 2 ^ 64 ≡ half p j * 2 ^ (p - 1))
fits p q j t r e =
    let w : half p j * 2 ^ (p - 1) + (t + 1) / 2 < 2 ^ 63 = lt_of_lt_of_le (value p q j t r e r.format r.keeps r.limit).0 (range r.format).3 in
    (w, mod-eq_of_lt (under (half p j * 2 ^ (p - 1)) ((t + 1) / 2) w))
  where
    under : (a b : ℕ) → a + b < 2 ^ 63 → a < 2 ^ 64
    under a b h = omega arith

-- what `root` returned, at the place after the call
found : (c : After-root_digits-r) → c.root_digits-r.result ≡ isqrt (c.args.q * 2 ^ suc (c.args.p + odd c.args.p c.args.j))
found c =
    let a = c.args in
    c.root_digits-r.ensures ∙ ap isqrt (radicand a.p a.q (odd a.p a.j) c.requires.within (ranges c.requires).1 (omega arith))

abbrev Kept : ℕ → ℕ → ℕ → Type 0
Kept p j t = (half p j * 2 ^ (p - 1) + (t + 1) / 2 < 2 ^ 63) × (half p j * 2 ^ (p - 1) % 2 ^ 64 ≡ half p j * 2 ^ (p - 1))

all-fits : (c : After-root_digits-r) → Kept c.args.p c.args.j c.root_digits-r.result
all-fits c = fits c.args.p c.args.q c.args.j c.root_digits-r.result c.requires (found c)

pub root_digits-r-requires : goal.root_digits-r-requires
root_digits-r-requires c =
    let a = c.args in
    (in_range a.p a.q (odd a.p a.j) c.requires.within (ranges c.requires).1 (omega arith), omega (arith, ranges c.requires))

pub overflow_add-result : goal.overflow_add-result
overflow_add-result c = omega (arith, all-fits c)

pub returns : goal.returns
returns c =
    let a = c.args in
    let r = c.root_digits-r.result in
    subst (λ (x : ℕ). Rooted a.p a.q a.j (x + (r + 1) / 2)) (sym (all-fits c).1) (record { value = value a.p a.q a.j r c.requires (found c) })
