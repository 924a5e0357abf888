use mathlib.Core.Path.{◌≡◌, ap, ◌∙◌}
use Prim.Native.Nat.{ℕ, ◌+◌, ◌-◌, ◌*◌, ◌/◌, ◌%◌, ◌^◌, ◌<◌}
use native.Mathlib.Nat.{mod-eq_of_lt, one-mul}
use native.Mathlib.Omega.{arith}
use lib.Pow.{pow-lt}
use Rattle.ieee.proofs.Closest.{closest_shift}
use Rattle.ieee_narrow.proofs.shift_nearest.Goals as goal

-- `1 << (n - 1)`
shl : (n : ℕ) → n < 63 → (1 * 2 ^ (n - 1) % 2 ^ 64 ≡ 2 ^ (n - 1)) × (2 ^ (n - 1) < 2 ^ 63)
shl n h =
    let l : 2 ^ (n - 1) < 2 ^ 63 = pow-lt {i = n - 1} {j = 63} (omega arith) in
    (ap (λ (x : ℕ). x % 2 ^ 64) (one-mul (2 ^ (n - 1))) ∙ mod-eq_of_lt (omega arith), l)

pub returns : goal.returns
returns c =
    ap (λ (h : ℕ). (c.args.q + (h - 1) + c.args.q / 2 ^ c.args.n % 2) / 2 ^ c.args.n) (shl c.args.n c.requires.2).0
    ∙ closest_shift c.args.q c.args.n c.requires.1
