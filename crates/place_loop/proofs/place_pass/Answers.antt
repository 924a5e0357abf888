use mathlib.Core.Path.{◌∙◌}
use Rattle.place_loop.proofs.Loops.{place_passed}
use Rattle.place_loop.proofs.place_pass.Goals as goal

pub returns : goal.returns
returns c =
    let moved = c.place_events-moved.ensures in
    let started = c.start_place-started.ensures in
    place_passed _ _ _ _ _ c.end_place.ensures
    (record { result = λ ts ps. moved.result ts ps ∙ rw (started.result ts ps); start = moved.start ∙ started.start })
    c.gone-is_gone.ensures
