-- The ids from a place on moved up by one, and an id put there. Assumes nothing.
use Prim.Native.Nat.{ℕ, suc, ◌+◌, ◌-◌, ◌<◌, ◌≤◌}
use mathlib.Core.Path.{◌≡◌, sym, ap, ◌∙◌}
use mathlib.Core.List.{List, ◌∷◌, ◌++◌, append_assoc}
use native.Mathlib.Numerals.{add-one}
use native.Mathlib.Omega.{arith}
use lib.ListN.{length, set, take, drop}
use lib.Seq.{take-take, drop_at, length-take-le, set_split}
use Rattle.std.proofs.lemmas.List.{take-append-le, drop-take}
use Rattle.std.specs.List.{copy_within}

module _ (a : List ℕ) (at d count : ℕ) (h : at ≤ count) (k : count < length a) where
  abbrev pub moved : List ℕ
  moved = copy_within a at count (at + 1)

  front : length (take (at + 1) a) ≡ at + 1
  front = length-take-le (at + 1) a (omega arith)

  parts : moved ≡ take (at + 1) a ++ (take (count - at) (drop at a) ++ drop (at + 1 + (count - at)) a)
  parts = append_assoc (take (at + 1) a) (take (count - at) (drop at a)) (drop (at + 1 + (count - at)) a)

  before : take at moved ≡ take at a
  before = rw parts (take-append-le at (take (at + 1) a) _ (omega (arith, front)) ∙ take-take at (at + 1) a (omega arith))

  behind : drop (suc at) moved ≡ drop at (take count a) ++ drop (count + 1) a
  behind =
      let e : count ≡ at + (count - at) = omega arith in
      let f : at + 1 + (count - at) ≡ count + 1 = omega arith in
      let q : drop at (take count a) ≡ take (count - at) (drop at a) = ap (λ (n : ℕ). drop at (take n a)) e ∙ drop-take at (count - at) a in
      rw (← add-one, parts, drop_at (take (at + 1) a) (take (count - at) (drop at a) ++ drop (at + 1 + (count - at)) a) (at + 1) front, f, q)

  pub put_in : (b : List ℕ) → b ≡ moved → at < length b → set b at d ≡ (take at a ++ (d ∷ drop at (take count a))) ++ drop (count + 1) a
  put_in b e m =
      rw (set_split b at d m, e, before, behind)
      (sym (append_assoc (take at a) (d ∷ drop at (take count a)) (drop (count + 1) a)))
