use Rattle.std.proofs.Common.{rules, ◌≡◌, Err}
use Rattle.kernel_read.proofs.Calls.{wrong_length, refused_record, will_fit, taken_reads}
use Rattle.kernel_read.proofs.read_records.Goals as goal

pub returns-then-bytes-ne0 : goal.returns-then-bytes-ne0
returns-then-bytes-ne0 c =
    let begin = c.args in
    wrong_length begin.k.now begin.device begin.bytes.now begin.feed.now c.if-bytes-ne0.true

pub fill-words-requires : goal.fill-words-requires
fill-words-requires c =
    let begin = c.args in
    will_fit begin.k.now begin.device begin.bytes.now begin.feed.now _ _ (c.look.ensures begin.device) c.in_ok-dropped.was

pub returns-in_err-dropped : goal.returns-in_err-dropped
returns-in_err-dropped c =
    let begin = c.args in
    let answer : c.from_residual.result ≡ Err c.in_err-dropped.field-0.0 = search rules in
    rw answer (refused_record begin.k.now begin.device begin.bytes.now begin.feed.now _ _ c.if-bytes-ne0.false (c.look.ensures begin.device) c.in_err-dropped.was)

pub returns : goal.returns
returns c =
    let begin = c.args in
    taken_reads begin.k.now begin.device begin.bytes.now begin.feed.now _ _ _ c.fill-words.result _ c.if-bytes-ne0.false (c.look.ensures begin.device) c.in_ok-dropped.was c.fill-words.ensures
