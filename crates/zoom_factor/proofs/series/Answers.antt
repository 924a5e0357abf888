use mathlib.Core.Path.{◌≡◌, refl, sym, subst}
use mathlib.Core.Bool.{Bool, true, false, cond}
use Prim.Native.Nat.{ℕ, zero, suc, ◌+◌, ◌-◌, ◌*◌, ◌/◌, ◌^◌, ◌≤◌, ◌<◌}
use native.Mathlib.Nat.{le_trans, le_of_eq, le_antisymm, le_of_mul-le-mul_right, mul-le-mul}
use native.Mathlib.Numerals.{add-one}
use native.Mathlib.Omega.{arith}
use Rattle.zoom_factor.specs.Series.{below_zero, bottom, plus_terms, minus_terms}
use Rattle.zoom_factor.specs.Steps.{Cut, Under, Summed}
use Rattle.zoom_factor.proofs.Errors.{After, cut_twice, start, next, itself}
use Rattle.zoom_factor.proofs.Bounds.{bottom_pos, third}
use Rattle.zoom_factor.proofs.series.Invariants.{Turning}
use Rattle.zoom_factor.proofs.series.Goals as goal
use Rattle.zoom_factor.proofs.series.Goals.{After-minus_part-part}

-- the next term is at most the last one over k
fall : (t x k : ℕ) → x ≤ 2 ^ 30 → t * x / 2 ^ 30 / (k + 1) * (k + 1) ≤ t
fall t x k h = le_of_mul-le-mul_right (le_trans (cut_twice (t * x) (2 ^ 30) (k + 1) (omega arith) (omega arith)).0 (mul-le-mul {n₁ = t} {n₂ = t} (omega arith) h)) (omega arith)

less : (v t k : ℕ) → v * (k + 1) ≤ t → v ≤ t
less v t k h = omega arith

half : (v t k : ℕ) → 1 ≤ k → v * (k + 1) ≤ t → v + v ≤ t
half v t k K h = let u : v * 1 ≤ v * k = mul-le-mul {n₁ = v} {n₂ = v} (omega arith) K in omega arith

part_le : (s : Bool) (t : ℕ) → cond s t 0 ≤ t
part_le true t = omega arith
part_le false t = omega arith

module _ (neg : Bool) (x t plus minus k : ℕ) (X : x ≤ 2 ^ 30) (f : Turning neg x t plus minus k) where
  next_room : plus + t * x / 2 ^ 30 / (k + 1) + t * x / 2 ^ 30 / (k + 1) ≤ 3 * 2 ^ 30
  next_room = go k refl
    where
      go : (j : ℕ) → k ≡ j → plus + t * x / 2 ^ 30 / (k + 1) + t * x / 2 ^ 30 / (k + 1) ≤ 3 * 2 ^ 30
      go zero e = omega (arith, f.at_first e, less (t * x / 2 ^ 30 / (k + 1)) t k (fall t x k X))
      go (suc j) e = omega (arith, f.room, half (t * x / 2 ^ 30 / (k + 1)) t k (omega arith) (fall t x k X))

  turn : (lost : ℕ) → k < 13 → lost ≡ cond (below_zero neg (k + 1)) (t * x / 2 ^ 30 / (k + 1)) 0
      → Turning neg x (t * x / 2 ^ 30 / (k + 1)) (plus + (t * x / 2 ^ 30 / (k + 1) - lost)) (minus + lost) (k + 1)
  turn lost K e =
      let v = t * x / 2 ^ 30 / (k + 1) in
      let l : lost ≤ v = le_trans (le_of_eq e) (part_le (below_zero neg (k + 1)) v) in
      let s : v ≤ t = less v t k (fall t x k X) in
      let r : plus + v + v ≤ 3 * 2 ^ 30 = next_room in
      let w = cut_twice (t * x) (2 ^ 30) (k + 1) (omega arith) (omega arith) in
      record {
        turns = omega arith;
        small = omega (arith, f.small);
        room = omega arith;
        at_first = λ z. absurd (omega arith);
        few = omega (arith, f.few, f.small);
        exact = λ a b A c.
            subst (λ (y : ℕ). After neg a b v (plus + (v - y)) (minus + y) (k + 1)) (sym e)
            (subst (λ (j : ℕ). v * j * 2 ^ 30 ≤ t * x → t * x < (v * j + j) * 2 ^ 30 → After neg a b v (plus + (v - cond (below_zero neg j) v 0)) (minus + cond (below_zero neg j) v 0) j) (sym (add-one k))
            (λ lo hi. next neg a b x t v plus minus k A c f.small lo hi (f.exact a b A c)) w.0 w.1);
      }

-- after 13 turns
not_less : (plus minus g l d : ℕ) → 0 < d → 3 * l + d ≤ 3 * g → Under plus g d 182 → Under minus l d 182 → minus ≤ plus
not_less plus minus g l d P t p q =
    le_of_mul-le-mul_right {k = d} (let a = p.high in let b = q.low in omega arith) P

ends : (neg : Bool) (x t plus minus k : ℕ) → Turning neg x t plus minus k → 13 ≤ k → (a b : ℕ) → a ≤ b → Cut a b x → After neg a b t plus minus 13
ends neg x t plus minus k f h a b A c = subst (λ (j : ℕ). After neg a b t plus minus j) (le_antisymm f.turns h) (f.exact a b A c)

under : (neg : Bool) (x t plus minus k : ℕ) → x ≤ 2 ^ 30 → Turning neg x t plus minus k → 13 ≤ k → minus ≤ plus
under neg x t plus minus k X f h =
    let e = ends neg x t plus minus k f h x (2 ^ 30) X (itself x) in
    not_less plus minus (plus_terms neg x (2 ^ 30) 13) (minus_terms neg x (2 ^ 30) 13) (bottom (2 ^ 30) 13) (bottom_pos (2 ^ 30) 13 (omega arith)) (third neg x (2 ^ 30) X) e.gained e.lost

done : (neg : Bool) (x t plus minus k : ℕ) → x ≤ 2 ^ 30 → Turning neg x t plus minus k → 13 ≤ k → (a b : ℕ) → a ≤ b → 0 < b → Cut a b x → Summed neg a b (plus - minus)
done neg x t plus minus k X f h a b A B c =
    let e = ends neg x t plus minus k f h a b A c in
    let u = under neg x t plus minus k X f h in
    record { plus = plus; minus = minus; is = omega arith; gained = e.gained; lost = e.lost; some = omega (arith, f.room) }

product : (t x : ℕ) → t ≤ 2 ^ 30 → x ≤ 2 ^ 30 → t * x ≤ 2 ^ 60
product t x h k = le_trans (mul-le-mul h k) (omega arith)

-- what is taken off is at most the term
lost-le : (c : After-minus_part-part) → c.minus_part-part.result ≤ c.loop-i.term * c.args.size / 2 ^ 30 / (c.loop-i.i + 1)
lost-le c = le_trans (le_of_eq c.minus_part-part.ensures) (part_le (below_zero c.args.negative (c.loop-i.i + 1)) (c.loop-i.term * c.args.size / 2 ^ 30 / (c.loop-i.i + 1)))

pub loop-i-init : goal.loop-i-init
loop-i-init c = record { turns = omega arith; small = omega arith; room = omega arith; at_first = λ e. omega arith; few = omega arith; exact = λ a b A d. start c.args.negative a b }

pub overflow_mul-term : goal.overflow_mul-term
overflow_mul-term c = omega (arith, product c.loop-i.term c.args.size c.loop-i.invariant.small c.requires)

pub overflow_sub-plus : goal.overflow_sub-plus
overflow_sub-plus c = lost-le c

pub overflow_add-plus : goal.overflow_add-plus
overflow_add-plus c =
    let l = c.loop-i in
    omega (arith, lost-le c, next_room c.args.negative c.args.size l.term l.plus l.minus l.i c.requires l.invariant)

pub overflow_add-minus : goal.overflow_add-minus
overflow_add-minus c =
    let l = c.loop-i in
    let x = c.args.size in
    omega (arith, lost-le c, l.invariant.few, l.invariant.small, less (l.term * x / 2 ^ 30 / (l.i + 1)) l.term l.i (fall l.term x l.i c.requires))

pub loop-i-preserved : goal.loop-i-preserved
loop-i-preserved c =
    let l = c.loop-i in
    turn c.args.negative c.args.size l.term l.plus l.minus l.i c.requires l.invariant c.minus_part-part.result (omega (arith, c.loop-i-test.true)) c.minus_part-part.ensures

pub overflow_sub-result : goal.overflow_sub-result
overflow_sub-result c = let l = c.loop-i in under c.args.negative c.args.size l.term l.plus l.minus l.i c.requires l.invariant c.loop-i-test.false

pub returns : goal.returns
returns c = let l = c.loop-i in done c.args.negative c.args.size l.term l.plus l.minus l.i c.requires l.invariant c.loop-i-test.false
