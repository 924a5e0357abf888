-- `zoom_factor::series` meets its contract. The invariant of its loop is `Turning`.
use mathlib.Core.Path.{◌≡◌}
use mathlib.Core.Bool.{Bool}
use Prim.Native.Nat.{ℕ, ◌+◌, ◌*◌, ◌^◌, ◌≤◌}
use Rattle.zoom_factor.specs.Steps.{Cut}
use Rattle.zoom_factor.proofs.Errors.{After}
use Rattle.zoom_factor.proofs.series.Given as goal

pub record Turning (neg : Bool) (x t plus minus k : ℕ) : Type 0 where
  pub turns : k ≤ 13
  pub small : t ≤ 2 ^ 30
  pub room : plus + t ≤ 3 * 2 ^ 30
  pub at_first : k ≡ 0 → plus + t + t ≤ 3 * 2 ^ 30
  pub few : minus ≤ k * 2 ^ 30
  pub exact : (a b : ℕ) → a ≤ b → Cut a b x → After neg a b t plus minus k

abbrev pub invariant-loop-i : goal.invariant-loop-i
invariant-loop-i l = Turning l.negative l.size l.term l.plus l.minus l.i
