use Rattle.widget_append.proofs.Cases.{gives, as_before}
use Rattle.widget_insert.proofs.Cases.{moved, replaced, other_layer, short_known, moves, replaces}
use borrow.Author.Tests.{lt-ltb, le-ltb}
use mathlib.Core.Path.{sym, ◌∙◌}
use Rattle.widget_insert.proofs.insert_known.Goals as goal

pub returns-then-not-same_layer : goal.returns-then-not-same_layer
returns-then-not-same_layer c = gives (other_layer _ _ _ _ _ _ _ _ (sym (rw c.widget_at-old.ensures at c.same_layer.ensures) ∙ c.if-not-same_layer.true)) (as_before _ _ _ _)

pub returns-then-lent-count : goal.returns-then-lent-count
returns-then-lent-count c = gives (short_known _ _ _ _ _ _ _ _ (sym (rw c.widget_at-old.ensures at c.same_layer.ensures) ∙ c.if-not-same_layer.false) (rw (sym (rw (c.count_at.ensures.0, c.layer_of-l.ensures.0, c.position_of-position.ensures.0) at c.at_least-count.ensures.0)) (lt-ltb _ _ c.if-lent-count.true))) (as_before _ _ _ _)

pub returns-then-top : goal.returns-then-top
returns-then-top c = gives (moves _ _ _ _ _ _ _ _ c.if-top.true (sym (rw c.widget_at-old.ensures at c.same_layer.ensures) ∙ c.if-not-same_layer.false) (rw (sym (rw (c.count_at.ensures.0, c.layer_of-l.ensures.0, c.position_of-position.ensures.0) at c.at_least-count.ensures.0)) (le-ltb _ _ c.if-lent-count.false))) (rw (sym (rw (c.count_at.ensures.0, c.layer_of-l.ensures.0, c.position_of-position.ensures.0) at c.at_least-count.ensures.0), sym (rw c.widget_at-old.ensures at c.updated-new.ensures), ← c.layer_of-l.ensures.0, ← c.position_of-position.ensures.0) (moved _ _ _ _ _ _ _ _ _ c.move_to_top.ensures.0 c.move_to_top.ensures.1 c.move_to_top.ensures.2))

pub returns : goal.returns
returns c = gives (replaces _ _ _ _ _ _ _ _ c.if-top.false (sym (rw c.widget_at-old.ensures at c.same_layer.ensures) ∙ c.if-not-same_layer.false) (rw (sym (rw (c.count_at.ensures.0, c.layer_of-l.ensures.0, c.position_of-position.ensures.0) at c.at_least-count.ensures.0)) (le-ltb _ _ c.if-lent-count.false))) (rw (sym (rw (c.count_at.ensures.0, c.layer_of-l.ensures.0, c.position_of-position.ensures.0) at c.at_least-count.ensures.0), sym (rw c.widget_at-old.ensures at c.updated-new.ensures), ← c.position_of-position.ensures.0) (replaced _ _ _ _ _ _ _ _ c.replace.ensures.0 c.replace.ensures.1 c.replace.ensures.2))
