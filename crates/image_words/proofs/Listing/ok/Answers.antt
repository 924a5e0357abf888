use Rattle.image.specs.Codes.{table_ok}
use Rattle.image_words.proofs.Laws.{count_times, fits_le}
use native.Mathlib.Omega.{arith}
use borrow.Author.Rules.{rules}
use Rattle.image_words.proofs.Listing.ok.Goals as goal

pub overflow_mul-result-2 : goal.overflow_mul-result-2
overflow_mul-result-2 c = let s = c.args.self in rw c.announced-n.ensures (fits_le _ _ (count_times s.name s.size c.args.w) (search rules))

pub overflow_add-result : goal.overflow_add-result
overflow_add-result c = let s = c.args.self in rw c.announced-n.ensures (omega (arith, count_times s.name s.size c.args.w))

pub returns : goal.returns
unfolding table_ok
returns c = rw c.announced-n.ensures
