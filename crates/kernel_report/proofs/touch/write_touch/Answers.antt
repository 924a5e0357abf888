use Prim.Native.Nat.{ℕ}
use mathlib.Core.Path.{◌≡◌, ap, ◌∙◌}
use mathlib.Core.List.{List}
use lib.ListN.{length, take}
use lib.IntN.{ℤ}
use mir.Facts.{to_z-of_z}
use Rattle.feed.specs.Encode.{encode}
use Rattle.feed_encode.specs.Words.{words_of}
use Rattle.kernel_report.proofs.Written.{seven, touch_length}
use Rattle.kernel_report.specs.Put.{put}
use Rattle.kernel_report.specs.Report.{touch}
use Rattle.kernel_report.proofs.touch.write_touch.Goals as goal

pub returns : goal.returns
unfolding words_of
returns c =
    let w = c.encode-w.result in
    let l : length w.words ≡ 8 = c.encode-w.type_inv.1.1.0.1.0.1 in
    let is : take w.count w.words ≡ encode (touch c.args.device c.args.phase c.args.id c.args.f) =
    c.encode-w.ensures ∙ ap encode (c.touch.ensures ∙ ap (λ (id : ℤ). touch c.args.device c.args.phase id c.args.f) (to_z-of_z c.ranges.id)) in
    (c.write_words.ensures.0, c.write_words.ensures.1 ∙ ap (λ (ws : List ℕ). put c.args.at ws c.args.feed.now) (seven w.count w.words _ l (touch_length _ _ _ _) is))
