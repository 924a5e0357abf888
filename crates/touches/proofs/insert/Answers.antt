use mathlib.Core.Path.{◌≡◌, sym, ◌∙◌}
use native.Mathlib.Omega.{arith}
use lib.ListN.{length, length-take}
use Rattle.data.specs.Limits.{max_touches}
use Rattle.touches.proofs.Insertion.{within, there, replaced, inserted, no_room}
use Rattle.touches.proofs.insert.Goals as goal
use Rattle.touches.proofs.insert.Goals.{Start}

pub bounds-s-at : goal.bounds-s-at
bounds-s-at c =
    let ts = c.args.ts in
    let l : length ts.places ≡ max_touches = c.well_formed.0.1.1.1.0.1.0.1 in
    let p = rw c.held.ensures at c.place_of-at.ensures in
    let e = sym (rw c.held-2.ensures at c.is_at.ensures) ∙ c.if-is_at.true in
    omega (arith, there c.args.t ts.count _ ts.places p l e, length-take ts.count ts.places)

pub offset_bounds-s-at : goal.offset_bounds-s-at
offset_bounds-s-at c =
    let ts = c.args.ts in
    let l : length ts.places ≡ max_touches = c.well_formed.0.1.1.1.0.1.0.1 in
    let p = rw c.held.ensures at c.place_of-at.ensures in
    let e = sym (rw c.held-2.ensures at c.is_at.ensures) ∙ c.if-is_at.true in
    omega (arith, there c.args.t ts.count _ ts.places p l e, length-take ts.count ts.places)

pub returns-then-is_at : goal.returns-then-is_at
returns-then-is_at c =
    let ts = c.args.ts in
    let l : length ts.places ≡ max_touches = c.well_formed.0.1.1.1.0.1.0.1 in
    let p = rw c.held.ensures at c.place_of-at.ensures in
    let e = sym (rw c.held-2.ensures at c.is_at.ensures) ∙ c.if-is_at.true in
    replaced c.args.t ts.count _ ts.places p l e

pub returns-then-n-ge-MAX_TOUCHES : goal.returns-then-n-ge-MAX_TOUCHES
returns-then-n-ge-MAX_TOUCHES c =
    let ts = c.args.ts in
    let l : length ts.places ≡ max_touches = c.well_formed.0.1.1.1.0.1.0.1 in
    let p = rw c.held.ensures at c.place_of-at.ensures in
    let e = sym (rw c.held-2.ensures at c.is_at.ensures) ∙ c.if-is_at.false in
    no_room c.args.t ts.count _ ts.places p l e (omega arith)

pub put_in-requires : goal.put_in-requires
put_in-requires c =
    let ts = c.args.ts in
    let l : length ts.places ≡ max_touches = c.well_formed.0.1.1.1.0.1.0.1 in
    let p = rw c.held.ensures at c.place_of-at.ensures in
    (omega (arith, within c.args.t ts.count _ ts.places p l), omega arith)

pub returns : goal.returns
returns c =
    let ts = c.args.ts in
    let l : length ts.places ≡ max_touches = c.well_formed.0.1.1.1.0.1.0.1 in
    let p = rw c.held.ensures at c.place_of-at.ensures in
    let e = sym (rw c.held-2.ensures at c.is_at.ensures) ∙ c.if-is_at.false in
    inserted c.args.t ts.count _ ts.places p l e _ c.len-n.ensures (omega arith) _ c.put_in.ensures
