use Rattle.widget_append.proofs.Cases.{gives, as_before, full, full_layers, short_new, appends}
use borrow.Author.Tests.{lt-leb, le-leb, lt-ltb, le-ltb}
use Rattle.widget_append.proofs.insert_new.Goals as goal

pub returns-then-h-ge-MAX_WIDGETS : goal.returns-then-h-ge-MAX_WIDGETS
returns-then-h-ge-MAX_WIDGETS c = gives (full _ _ _ _ _ _ (le-leb _ _ c.if-h-ge-MAX_WIDGETS.true)) (as_before _ _ _ _)

pub returns-then-l-ge-MAX_LAYERS : goal.returns-then-l-ge-MAX_LAYERS
returns-then-l-ge-MAX_LAYERS c = gives (full_layers _ _ _ _ _ _ (lt-leb _ _ c.if-h-ge-MAX_WIDGETS.false) (rw (← c.layer_for-l.ensures.number.0) (le-leb _ _ c.if-l-ge-MAX_LAYERS.true))) (as_before _ _ _ _)

pub returns-then-lent-count : goal.returns-then-lent-count
returns-then-lent-count c = gives (short_new _ _ _ _ _ _ (lt-leb _ _ c.if-h-ge-MAX_WIDGETS.false) (rw (← c.layer_for-l.ensures.number.0) (lt-leb _ _ c.if-l-ge-MAX_LAYERS.false)) (rw (← c.layer_for-l.ensures.counted.0) (lt-ltb _ _ c.if-lent-count.true))) (as_before _ _ _ _)

pub returns : goal.returns
returns c = gives (appends _ _ _ _ _ _ (lt-leb _ _ c.if-h-ge-MAX_WIDGETS.false) (rw (← c.layer_for-l.ensures.number.0) (lt-leb _ _ c.if-l-ge-MAX_LAYERS.false)) (rw (← c.layer_for-l.ensures.counted.0) (le-ltb _ _ c.if-lent-count.false))) (rw (← c.layer_for-l.ensures.number.0, ← c.layer_for-l.ensures.counted.0) c.append.ensures)
