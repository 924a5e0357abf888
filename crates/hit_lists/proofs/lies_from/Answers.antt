use Prim.Native.Nat.{◌*◌, ◌≤◌}
use mathlib.Core.Path.{◌≡◌, sym, ◌∙◌}
use lib.ListN.{length}
use native.Mathlib.Omega.{arith}
use Rattle.hit_lists.proofs.First.{stands, stands_below, lies_below, too_far, lies}
use Rattle.hit_lists.proofs.lies_from.Goals as goal

pub returns-then-words-top : goal.returns-then-words-top
returns-then-words-top c =
    let a = c.args in
    let n : (a.top ≡ 0 → ⊥) = c.if-top-eq0.false in
    sym (too_far a.id a.top a.words.now (omega arith) c.if-words-top.true)

pub returns-then-hit_below : goal.returns-then-hit_below
returns-then-hit_below c =
    let a = c.args in
    let h : a.top * 2 ≤ length a.words.now = (let k = c.if-words-top.false in omega arith) in
    sym (lies_below _ _ _ (stands_below a.id a.hint a.top a.words.now h (sym c.hit_below.ensures ∙ c.if-hit_below.true)))

pub returns-then-has_hit : goal.returns-then-has_hit
returns-then-has_hit c = sym (lies_below _ _ _ (sym c.has_hit.ensures ∙ c.if-has_hit.true))

pub returns-then-hit_at : goal.returns-then-hit_at
returns-then-hit_at c =
    let a = c.args in
    let n : (a.top ≡ 0 → ⊥) = c.if-top-eq0.false in
    let h = stands a.id a.hint a.words.now (sym c.hit_at.ensures ∙ c.if-hit_at.true) in
    sym (lies a.id a.top a.words.now (omega arith) (sym c.has_hit.ensures ∙ c.if-has_hit.false) ∙ h)

pub returns : goal.returns
returns c =
    let a = c.args in
    let n : (a.top ≡ 0 → ⊥) = c.if-top-eq0.false in
    c.has_hit-2.ensures ∙ sym (lies a.id a.top a.words.now (omega arith) (sym c.has_hit.ensures ∙ c.if-has_hit.false))
