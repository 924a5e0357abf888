use Rattle.image_words.proofs.Laws.{put_part}
use native.Mathlib.Omega.{arith}
use Rattle.image_words.proofs.copy.Goals as goal

pub returns : goal.returns
returns c = put_part _ _ _ _ _ c.copy_from_slice.ensures.after (omega arith) c.requires
