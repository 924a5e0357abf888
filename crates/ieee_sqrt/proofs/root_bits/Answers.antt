use mathlib.Core.Path.{◌≡◌, sym, ap, ◌∙◌, subst}
use Prim.Native.Nat.{ℕ, ◌+◌, ◌-◌, ◌*◌, ◌/◌, ◌%◌, ◌^◌, ◌≤◌, ◌<◌}
use native.Mathlib.Nat.{one-mul, mod-eq_of_lt, mod-lt}
use native.Mathlib.Omega.{arith}
use lib.Bits.{bit_and, and_mask}
use lib.Pow.{pow_pos, pow_mono}
use lib.Ieee.{prec, low}
use Rattle.ieee_sqrt.specs.Patterns.{Radicand, Rooted, Positive, RootOf}
use Rattle.ieee_sqrt.proofs.Radicands.{room, shift, Low, low_facts, frac_pos, root_low, root_high}
use Rattle.ieee_sqrt.proofs.root_bits.Goals as goal

ranges : {p l b : ℕ} → Positive p l b → (2 ≤ p) × (p ≤ 53) × (l ≤ 1074)
ranges {p} {l} h =
    let r = room h.format in
    let a : p ≡ prec h.format = h.keeps in
    let b : l ≡ low h.format = h.least in
    (omega arith, omega arith, omega arith)

-- `1 << (p - 1)`, and `b & (lead - 1)`
abbrev lead : ℕ → ℕ
lead p = 1 * 2 ^ (p - 1) % 2 ^ 64

lead_is : (p : ℕ) → p ≤ 53 → (lead p ≡ 2 ^ (p - 1)) × (2 ^ (p - 1) ≤ 2 ^ 52)
lead_is p h =
    let l : 2 ^ (p - 1) ≤ 2 ^ 52 = pow_mono {i = p - 1} {j = 52} (omega arith) in
    (ap (λ (x : ℕ). x % 2 ^ 64) (one-mul (2 ^ (p - 1))) ∙ mod-eq_of_lt (omega arith), l)

frac_is : (p b : ℕ) → p ≤ 53 → bit_and b (lead p - 1) ≡ b % 2 ^ (p - 1)
frac_is p b h = ap (λ (x : ℕ). bit_and b (x - 1)) (lead_is p h).0 ∙ and_mask b (p - 1)

-- a subnormal's digits, as the code has them
low_at : (p l b : ℕ) → Positive p l b → b / 2 ^ (p - 1) ≡ 0 → Low p l (bit_and b (lead p - 1))
low_at p l b h z =
    subst (λ (t : ℕ). Low p l t) (sym (frac_is p b (ranges h).1))
    (low_facts h.format p l (b % 2 ^ (p - 1)) h.keeps h.least (frac_pos b (2 ^ (p - 1)) h.above z) (mod-lt b (pow_pos (p - 1))))

low_root : (p l b r : ℕ) → Positive p l b → b / 2 ^ (p - 1) ≡ 0
    → Rooted p (bit_and b (lead p - 1) * 2 ^ shift p (bit_and b (lead p - 1)) % 2 ^ 64) (l - shift p (bit_and b (lead p - 1))) r → RootOf p l b r
low_root p l b r h z k =
    let t = bit_and b (lead p - 1) in
    let e : t ≡ b % 2 ^ (p - 1) = frac_is p b (ranges h).1 in
    let a = low_at p l b h z in
    root_low p l b r h.above z (subst (λ (x : ℕ). Low p l x) e a)
    (subst (λ (x : ℕ). Rooted p (x * 2 ^ shift p x) (l - shift p x) r) e (subst (λ (x : ℕ). Rooted p x (l - shift p t) r) a.exact k))

-- a normal value's
abbrev digits : ℕ → ℕ → ℕ
digits p b = lead p + bit_and b (lead p - 1)

digits_is : (p b : ℕ) → p ≤ 53 → digits p b ≡ 2 ^ (p - 1) + b % 2 ^ (p - 1)
digits_is p b h = ap (λ (x : ℕ). x + bit_and b (lead p - 1)) (lead_is p h).0 ∙ ap (λ (x : ℕ). 2 ^ (p - 1) + x) (frac_is p b h)

high_root : (p l b r : ℕ) → Positive p l b → 0 < b / 2 ^ (p - 1) → Rooted p (digits p b) (b / 2 ^ (p - 1) - 1 + l) r → RootOf p l b r
high_root p l b r h f k = root_high p l b r f (subst (λ (x : ℕ). Rooted p x (b / 2 ^ (p - 1) - 1 + l) r) (digits_is p b (ranges h).1) k)

some : (x : ℕ) → (x ≡ 0 → ⊥) → 0 < x
some x h = omega arith

pub overflow_sub-z : goal.overflow_sub-z
overflow_sub-z c = (low_at c.args.p c.args.low c.args.b c.requires c.if-field-eq0.true).reaches

pub root_pattern-requires : goal.root_pattern-requires
root_pattern-requires c =
    let a = c.args in
    let k = low_at a.p a.low a.b c.requires c.if-field-eq0.true in
    subst (λ (x : ℕ). Radicand a.p x (a.low - shift a.p (bit_and a.b (lead a.p - 1)))) (sym k.exact) k.radicand

pub returns-then-field-eq0 : goal.returns-then-field-eq0
returns-then-field-eq0 c =
    let a = c.args in
    low_root a.p a.low a.b c.root_pattern.result c.requires c.if-field-eq0.true c.root_pattern.ensures

pub returns-else-field-eq0 : goal.returns-else-field-eq0
returns-else-field-eq0 c =
    let a = c.args in
    high_root a.p a.low a.b c.root_pattern-else-field-eq0.result c.requires (some (a.b / 2 ^ (a.p - 1)) c.if-field-eq0.false) c.root_pattern-else-field-eq0.ensures
