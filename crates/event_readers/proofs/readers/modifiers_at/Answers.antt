use mathlib.Core.Path.{refl, ◌∙◌}
use Rattle.data.specs.Kinds.{modifiers_kind}
use Rattle.feed.specs.Shape.{shape_by_kind}
use Rattle.event_readers.proofs.KnownKind.{read}
use Rattle.event_readers.proofs.readers.modifiers_at.Goals as goal

pub returns : goal.returns
unfolding shape_by_kind
returns c = c.unwrap_or.ensures ∙ read _ _ modifiers_kind c.requires 0 _ _ _ c.low_bits.ensures c.and_then.ensures (λ low h given. given) refl
