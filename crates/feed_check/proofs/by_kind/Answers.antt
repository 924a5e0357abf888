use mathlib.Core.Path.{sym, ◌∙◌}
use native.Mathlib.Omega.{arith}
use borrow.Author.Tests.{ne_eqb}
use Rattle.data.specs.Kinds.{moved_kind, motion_kind, button_kind, zoom_kind, rotate_kind, wheel_kind}
use Rattle.data.specs.Limits.{event_ok, pos_ok, vec_ok, key_count, button_count, unit_count}
use Rattle.feed.specs.Shape.{pos_of, vec_of, key_shape, modifiers_shape, moved_shape, motion_shape, button_shape, zoom_shape, rotate_shape, touch_shape, wheel_shape, focus_shape, shape_by_kind}
use Rattle.feed.specs.Decode.{check_floats, found_at}
use Rattle.feed.proofs.Lengths.{length_least, touch_following}
use Rattle.feed.proofs.Words.{word_after}
use Rattle.feed_check.specs.Verdict.{verdict_of}
use Rattle.feed_check.proofs.Judged.{clean_is, field_is}
use Rattle.feed_check.proofs.by_kind.Goals as goal

pub placed-requires : goal.placed-requires
placed-requires c = omega (arith, length_least _ moved_kind c.in-3.is)

pub placed-requires-in-4 : goal.placed-requires-in-4
placed-requires-in-4 c = omega (arith, length_least _ motion_kind c.in-4.is)

pub placed-requires-in-5 : goal.placed-requires-in-5
placed-requires-in-5 c = omega (arith, length_least _ button_kind c.in-5.is)

pub bounds-feed-at : goal.bounds-feed-at
bounds-feed-at c = omega (arith, length_least _ zoom_kind c.in-7.is)

pub bounds-feed-at-in-8 : goal.bounds-feed-at-in-8
bounds-feed-at-in-8 c = omega (arith, length_least _ rotate_kind c.in-8.is)

pub touch-requires : goal.touch-requires
touch-requires c = omega (arith, touch_following _ c.in-9.is)

pub placed-requires-in-10 : goal.placed-requires-in-10
placed-requires-in-10 c = omega (arith, length_least _ wheel_kind c.in-10.is)

pub returns-in-0 : goal.returns-in-0
unfolding shape_by_kind check_floats found_at verdict_of
returns-in-0 c = rw c.in-0.is

pub returns-in-1 : goal.returns-in-1
unfolding shape_by_kind event_ok key_shape
returns-in-1 c = rw c.in-1.is (c.by_tests.ensures ∙ sym (field_is _ _ _ 512 _ key_count _))

pub returns-in-2 : goal.returns-in-2
unfolding shape_by_kind event_ok modifiers_shape
returns-in-2 c = rw c.in-2.is (c.by_tests-in-2.ensures ∙ sym (clean_is _ _ _ 32 _))

pub returns-in-3 : goal.returns-in-3
unfolding shape_by_kind event_ok moved_shape
returns-in-3 c = rw (c.in-3.is, word_after _ _ 0, word_after _ _ 1) (c.placed.ensures ∙ sym (clean_is _ _ _ 1 _))

pub returns-in-4 : goal.returns-in-4
unfolding shape_by_kind event_ok motion_shape pos_ok vec_ok pos_of vec_of
returns-in-4 c = rw (c.in-4.is, word_after _ _ 0, word_after _ _ 1) (c.placed-in-4.ensures ∙ sym (clean_is _ _ _ 1 _))

pub returns-in-5 : goal.returns-in-5
unfolding shape_by_kind event_ok button_shape
returns-in-5 c = rw (c.in-5.is, word_after _ _ 0, word_after _ _ 1) (c.placed-in-5.ensures ∙ sym (field_is _ _ _ 512 _ button_count _))

pub returns-in-6 : goal.returns-in-6
unfolding shape_by_kind event_ok
returns-in-6 c = rw c.in-6.is (c.by_tests-in-6.ensures ∙ sym (clean_is _ _ _ 1 _))

pub returns-in-7 : goal.returns-in-7
unfolding shape_by_kind event_ok zoom_shape
returns-in-7 c = rw (c.by_tests-in-7.ensures, c.zoom_ok.ensures, c.float_of.ensures, c.in-7.is, word_after _ _ 0) (sym (clean_is _ _ _ 1 _))

pub returns-in-8 : goal.returns-in-8
unfolding shape_by_kind event_ok rotate_shape
returns-in-8 c = rw (c.by_tests-in-8.ensures, c.radians_ok.ensures, c.float_of-in-8.ensures, c.in-8.is, word_after _ _ 0) (sym (clean_is _ _ _ 1 _))

pub returns-in-9 : goal.returns-in-9
unfolding shape_by_kind event_ok touch_shape
returns-in-9 c = rw (c.in-9.is, word_after _ _ 4, word_after _ _ 5, word_after _ _ 6) (c.touch.ensures ∙ sym (clean_is _ _ _ 8 _))

pub returns-in-10 : goal.returns-in-10
unfolding shape_by_kind event_ok wheel_shape pos_ok vec_ok pos_of vec_of
returns-in-10 c = rw (c.in-10.is, word_after _ _ 0, word_after _ _ 1) (c.placed-in-10.ensures ∙ sym (field_is _ _ _ 2048 _ unit_count _))

pub returns-in-11 : goal.returns-in-11
unfolding shape_by_kind event_ok focus_shape
returns-in-11 c = rw c.in-11.is (c.by_tests-in-11.ensures ∙ sym (clean_is _ _ _ 2 _))

pub returns-in-12 : goal.returns-in-12
unfolding shape_by_kind event_ok
returns-in-12 c = rw c.in-12.is (c.by_tests-in-12.ensures ∙ sym (clean_is _ _ _ 1 _))

pub returns-in-13-to-15 : goal.returns-in-13-to-15
unfolding shape_by_kind check_floats found_at verdict_of
returns-in-13-to-15 c = rw (ne_eqb _ _ c.in-13-to-15.in_default-own.rest.0.0.0.0.0.0.0.0.0.0.0.0.1, ne_eqb _ _ c.in-13-to-15.in_default-own.rest.0.0.0.0.0.0.0.0.0.0.0.1, ne_eqb _ _ c.in-13-to-15.in_default-own.rest.0.0.0.0.0.0.0.0.0.0.1, ne_eqb _ _ c.in-13-to-15.in_default-own.rest.0.0.0.0.0.0.0.0.0.1, ne_eqb _ _ c.in-13-to-15.in_default-own.rest.0.0.0.0.0.0.0.0.1, ne_eqb _ _ c.in-13-to-15.in_default-own.rest.0.0.0.0.0.0.0.1, ne_eqb _ _ c.in-13-to-15.in_default-own.rest.0.0.0.0.0.0.1, ne_eqb _ _ c.in-13-to-15.in_default-own.rest.0.0.0.0.0.1, ne_eqb _ _ c.in-13-to-15.in_default-own.rest.0.0.0.0.1, ne_eqb _ _ c.in-13-to-15.in_default-own.rest.0.0.0.1, ne_eqb _ _ c.in-13-to-15.in_default-own.rest.0.0.1, ne_eqb _ _ c.in-13-to-15.in_default-own.rest.0.1, ne_eqb _ _ c.in-13-to-15.in_default-own.rest.1)
