-- 02 A.7, the number of buttons down: its edges by name, with the number, `any_down` and whether a release clicks. Definitions only.
use Rattle.std.specs.Prelude.{ℕ, Bool, true, false, List, [], ◌∷◌, ◌++◌, replicate, Float}
use Rattle.data.specs.Modifiers.{no_modifiers}
use Rattle.model.specs.Types.{PointerButton, Primary, Secondary, Middle, Extra1, Extra2, Event, Button}
use Rattle.model.specs.Questions.{bool, any_down, any_click}
use Rattle.edges.specs.Steps.{Step, answers, are_down}
use Rattle.edges.specs.Cases.{dec, pos}
use Rattle.edges.specs.PassEdges.{then}
use Rattle.edges.specs.Needed.{whole}

unfoldable pub pressed : PointerButton → Event
pressed b = Button (pos 0 0) b true no_modifiers

unfoldable pub released : PointerButton → Event
released b = Button (pos 0 0) b false no_modifiers

-- a pass, after which n buttons are down; is that any, and has it a click
unfoldable pub counts : Float → List Event → ℕ → Bool → Bool → List Step
counts t es n b clicked = then t es ∷ are_down n ∷ answers any_down (bool b) ∷ answers any_click (bool clicked) ∷ []

-- presses of 0, 0, 1, releases of 0, 0, 2, 1: 1, 1, 2, 1, 1, 1, 0. As long as one is down every release clicks; the next one does not
unfoldable pub again : List Step
again =
    counts (dec 1 0) (pressed Primary ∷ []) 1 true false ++ counts (dec 1 625) (pressed Primary ∷ []) 1 true false ++ counts (dec 1 1250) (pressed Secondary ∷ []) 2 true false
    ++ counts (dec 1 1875) (released Primary ∷ []) 1 true true ++ counts (dec 1 2500) (released Primary ∷ []) 1 true true ++ counts (dec 1 3125) (released Middle ∷ []) 1 true true
    ++ counts (dec 1 3750) (released Secondary ∷ []) 0 false true ++ counts (dec 1 4375) (released Secondary ∷ []) 0 false false

-- the release of a button that was never pressed
unfoldable pub never_pressed : List Step
never_pressed = counts (dec 1 0) (released Extra2 ∷ []) 0 false false

-- all five, and a clearing pass
unfoldable pub five_cleared : List Step
five_cleared =
    counts (dec 1 0) (pressed Primary ∷ pressed Secondary ∷ pressed Middle ∷ pressed Extra1 ∷ pressed Extra2 ∷ []) 5 true false ++ counts (dec 2 0) whole 0 false true

-- 64 presses of one button, and its release
unfoldable pub one_button_64_times : List Step
one_button_64_times = counts (dec 1 0) (replicate 64 (pressed Middle)) 1 true false ++ counts (dec 1 625) (released Middle ∷ []) 0 false true

unfoldable pub button_edges : List (List Step)
button_edges = again ∷ never_pressed ∷ five_cleared ∷ one_button_64_times ∷ []
