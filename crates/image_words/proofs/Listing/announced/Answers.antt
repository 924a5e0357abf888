use Rattle.image_words.proofs.Laws.{count_is}
use Rattle.image_words.proofs.Listing.announced.Goals as goal

pub returns : goal.returns
returns c = let s = c.args.self in rw c.saturating_sub.ensures (count_is s.name s.size c.args.w)
