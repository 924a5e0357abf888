use borrow.Author.Rules.{rules}
use lib.ListN.{get_or}
use mathlib.Core.Path.{◌≡◌, refl, ◌∙◌}
use Prim.Native.Nat.{◌+◌}
use Rattle.data.specs.Kinds.{moved_kind}
use Rattle.feed.specs.Shape.{shape_by_kind, moved_shape}
use Rattle.feed.proofs.Words.{word_after}
use Rattle.event_readers.proofs.KnownKind.{read}
use Rattle.event_readers.proofs.readers.moved_at.Goals as goal

pub returns : goal.returns
unfolding shape_by_kind
returns c =
    let a = c.args in
    c.unwrap_or.ensures
    ∙ read _ _ moved_kind c.requires 2 _ _ _ c.low_bits.ensures c.and_then.ensures
    (λ low h given.
    let is : c.and_then.result ≡ moved_shape low (get_or a.feed.now (a.at + 1) 0) (get_or a.feed.now (a.at + 2) 0) = search rules in
    rw (word_after a.feed.now a.at 0, word_after a.feed.now a.at 1) is)
    refl
