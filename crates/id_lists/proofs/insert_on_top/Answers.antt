use mathlib.Core.Path.{◌≡◌, refl, sym, ◌∙◌}
use Prim.Native.Nat.{◌<◌}
use borrow.Author.Rules.{rules}
use native.Mathlib.Omega.{arith}
use lib.ListN.{length, get_or}
use Rattle.std.specs.Slice.Iter.{chunks_exact_rest}
use Rattle.id_lists.specs.Ids.{insert_if}
use Rattle.id_set.proofs.Written.{kept}
use Rattle.id_lists.proofs.Walks.{if_grows, stepped, step_list, step_bound, one_less, top_next, top_done}
use Rattle.id_lists.proofs.insert_on_top.Goals as goal

pub loop-entry-init : goal.loop-entry-init
loop-entry-init c =
    let a = c.args in
    let all : chunks_exact_rest c.into_iter-entry-iterator.result ≡ a.words.now = search rules in
    record {
      size = search rules;
      room = rw all (omega (arith, c.requires));
      places = refl;
      written = kept a.count a.ids.now (omega arith);
      whole = rw all;
    }

pub insert_if-r-requires : goal.insert_if-r-requires
insert_if-r-requires c =
    let v = c.loop-entry.invariant in
    let steps = c.in-Some.ensures.steps in
    omega (arith, v.room, v.places, one_less _ _ _ steps.1.0 (steps.1.1 ∙ v.size))

pub loop-entry-preserved : goal.loop-entry-preserved
loop-entry-preserved c =
    let v = c.loop-entry.invariant in
    let steps = c.in-Some.ensures.steps in
    let two = steps.1.1 ∙ v.size in
    let w = c.insert_if-r.ensures in
    let k = c.on_top-keep in
    let d = get_or c.in-Some.entry.now 0 0 in
    record {
      size = steps.0 ∙ v.size;
      room = omega (arith, v.room, one_less _ _ _ steps.1.0 two, step_bound _ _ _ v.written (insert_if k.result d) (if_grows k.result d) _ _ w);
      places = omega arith;
      written = stepped _ _ _ v.written (insert_if k.result d) (if_grows k.result d) _ _ w;
      whole = rw (step_list _ _ _ v.written (insert_if k.result d) (if_grows k.result d) _ _ w, k.ensures) (sym (top_next _ _ _ steps.1.0 two _ _ _) ∙ v.whole);
    }

pub shape_of-ids : goal.shape_of-ids
shape_of-ids c = c.loop-entry.invariant.places

pub returns : goal.returns
returns c =
    let v = c.loop-entry.invariant in
    let short : length (chunks_exact_rest c.loop-entry.entry-iterator) < 2 = omega (arith, c.in-None.ensures.steps.1.0, v.size) in
    rw (sym v.whole ∙ top_done _ short _ _ _) v.written
