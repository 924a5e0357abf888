use Rattle.image_keys.proofs.Rows.{keys_list, array_in}
use Rattle.image_keys.specs.Keys.{presses_place}
use Rattle.key_state.specs.View.{keys}
use lib.Seq.{sets}
use mathlib.Core.List.{List}
use mathlib.Core.Path.{refl, ap, ◌∙◌}
use Prim.Native.Nat.{ℕ}
use Rattle.image_keys.proofs.group.keys_put.Goals as goal

pub returns : goal.returns
returns c =
    let a = c.args in
    let ps = a.presses.now in
    let h = c.head_words-head.ensures ps in
    let p = c.presses_put.ensures in (
      p.0 ∙ ap (λ (o : List ℕ). sets o presses_place ps) c.copy.ensures ∙ keys_list (keys ps a.k) a.out.now _ ps h.0 p.2 refl,
      (h.1.0, (h.1.1, (h.1.2, array_in ps p.2 p.1))),
    )
