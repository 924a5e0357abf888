use Rattle.image_events.proofs.Rows.{words_of, in_event}
use Rattle.image_events.proofs.event_words.Goals as goal

pub returns : goal.returns
returns c =
    let x = c.entry_of-x.ensures in
    let p = c.single_word.ensures in
    let q = c.single_word-2.ensures in
    (rw (p.0, q.0, x) (words_of _), in_event _ (rw x at p.1) (rw x at q.1))
