use Rattle.image_fixed.proofs.Chain.{two, place_length}
use mathlib.Core.Path.{refl}
use mathlib.Core.List.{[]}
use Rattle.pointer_place.specs.View.{place}
use Rattle.image_fixed.proofs.pointer_put.Goals as goal

pub returns : goal.returns
returns c =
    let a = c.args in
    let p = c.place_words-p.ensures [] [] in
    let q = c.press_words-q.ensures [] [] in (
      two a.out.now _ _ c.place_words-p.result c.press_words-q.result _ _ 26 42 16 c.copy.ensures c.copy-2.ensures p.0 q.0 (place_length (place [] [] a.place)) refl,
      p.1,
      q.1,
    )
