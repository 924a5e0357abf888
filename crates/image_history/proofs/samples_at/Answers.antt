use borrow.Author.Rules.{rules}
use Rattle.image_history.specs.History.{history_of}
use Rattle.image.specs.Places.{rows_at}
use Rattle.emath_history.specs.Ring.{samples}
use Rattle.image_history.proofs.Fill.{fill_more, kept_more, kept_two, from_zero}
use lib.ListN.{length}
use mathlib.Core.Path.{◌≡◌, refl, ◌∙◌}
use Prim.Native.Nat.{◌<◌, ◌*◌, ◌+◌}
use native.Mathlib.Omega.{arith}
use Rattle.image_history.proofs.samples_at.Goals as goal

pub loop-i-init : goal.loop-i-init
unfolding samples history_of rows_at
loop-i-init c = (omega arith, refl, refl, refl)

pub loop-i-preserved : goal.loop-i-preserved
loop-i-preserved c =
    let l = c.loop-i in
    let a = c.args in
    let v = l.invariant in
    let i = l.i in
    let h : i < 1000 = omega arith in
    let t : length l.times ≡ 1000 = search rules in
    let p : length l.positions ≡ 2000 = search rules in (
      omega arith,
      rw (c.set_sample.ensures.0, c.set_sample.ensures.1, c.single_at-y.ensures, c.single_at-x.ensures, c.double_at-time.ensures)
          (fill_more l.times l.positions a.words.now a.at i h (omega arith) (omega arith) v.1),
      rw c.set_sample.ensures.0 (kept_more l.times _ i (i + 1) i _ v.2 (omega arith) (omega arith)),
      rw c.set_sample.ensures.1 (kept_two l.positions _ (i * 2) ((i + 1) * 2) (i * 2) (i * 2 + 1) _ _ v.3 (omega arith) (omega arith) (omega arith)),
    )

pub returns : goal.returns
returns c =
    let l = c.loop-i in
    let a = c.args in
    let v = l.invariant in
    let e : l.i ≡ a.n = omega arith in (
      record {
        samples = from_zero l.times l.positions a.n (omega arith) ∙ (rw e at v.1);
        times_kept = rw e at v.2;
        positions_kept = rw e at v.3;
      },
      refl,
    )
