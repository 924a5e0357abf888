use Rattle.image_history.proofs.Fill.{in_history, is_count, put_all}
use Rattle.emath_history.specs.Ring.{count}
use lib.ListN.{length-set}
use mathlib.Core.Path.{◌≡◌, ◌∙◌}
use native.Mathlib.Omega.{arith}
use Rattle.image_history.proofs.history_put.Goals as goal

pub overflow_mul-out : goal.overflow_mul-out
overflow_mul-out c = let e : c.len-n.result ≡ count c.args.h = is_count _ c.args.h c.args.ring.times.now c.args.ring.positions.now (c.len-n.ensures c.args.ring.times.now c.args.ring.positions.now) in omega arith

pub overflow_cast-out : goal.overflow_cast-out
overflow_cast-out c = let e : c.len-n.result ≡ count c.args.h = is_count _ c.args.h c.args.ring.times.now c.args.ring.positions.now (c.len-n.ensures c.args.ring.times.now c.args.ring.positions.now) in omega arith

pub overflow_add-out : goal.overflow_add-out
overflow_add-out c = let e : c.len-n.result ≡ count c.args.h = is_count _ c.args.h c.args.ring.times.now c.args.ring.positions.now (c.len-n.ensures c.args.ring.times.now c.args.ring.positions.now) in omega arith

pub samples_put-requires : goal.samples_put-requires
samples_put-requires c = let e : c.len-n.result ≡ count c.args.h = is_count _ c.args.h c.args.ring.times.now c.args.ring.positions.now (c.len-n.ensures c.args.ring.times.now c.args.ring.positions.now) in (omega arith, omega arith, rw length-set (omega arith))

pub returns : goal.returns
returns c =
    let a = c.args in
    let n = c.len-n.ensures a.ring.times.now a.ring.positions.now in (
      c.samples_put.ensures.0 ∙ put_all a.out.now a.at _ a.ring.times.now a.ring.positions.now a.h n,
      in_history _ a.ring.times.now a.ring.positions.now a.h n c.samples_put.ensures.1,
    )
