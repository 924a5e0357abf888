use mathlib.Core.Path.{◌≡◌, ap, ◌∙◌}
use lib.ListN.{length}
use Rattle.input_state.specs.View.{lent}
use Rattle.panel.specs.View.{shown_by}
use Rattle.image_form.specs.Form.{image, read_image}
use Rattle.image_form.proofs.Whole.{image_reads_back}
use Rattle.parking.proofs.Writes.{no_key_beyond, front, behind}
use Rattle.parking.proofs.park.park.Goals as goal

pub returns : goal.returns
returns c =
    let a = c.args in
    let l = lent a.times.now a.positions.now a.codes.now a.places.now a.presses.now in
    let p = shown_by l a.panel in
    let n : c.words_of-n.result ≡ length (image p) = c.words_of-n.ensures.1 l in
    let e = c.image_put.ensures in
    let h = c.if-out-n.false in
    let f = front a.out.now _ (image p) _ e.0 n h in
    (n, f, behind a.out.now _ (image p) _ e.0 n h, λ k. ap read_image f ∙ image_reads_back p (e.1 k) (no_key_beyond l a.panel) k.count_true)
