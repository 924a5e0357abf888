use borrow.Author.Rules.{rules}
use Rattle.std.specs.Prelude.{Some}
use mathlib.Core.Path.{◌≡◌, refl, ◌∙◌}
use Rattle.data.specs.Kinds.{gone_kind}
use Rattle.feed.specs.Types.{PointerGone}
use Rattle.feed.specs.Shape.{shape_by_kind, clean}
use Rattle.event_readers.proofs.KnownKind.{read}
use Rattle.event_readers.proofs.readers.gone_at.Goals as goal

pub returns : goal.returns
unfolding shape_by_kind
returns c =
    c.unwrap_or.ensures
    ∙ read _ _ gone_kind c.requires 0 _ _ _ c.low_bits.ensures c.and_then.ensures
    (λ low h given.
    let is : c.and_then.result ≡ clean 1 low (Some PointerGone) = search rules in
    is)
    refl
