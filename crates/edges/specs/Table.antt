-- The one check: the lines of 01, the edges of the definitions beside them, the rims of A.3 and the number of buttons of A.7.
use Rattle.std.specs.Prelude.{◌≡◌, true, ◌++◌}
use Rattle.edges.specs.Steps.{check_all}
use Rattle.edges.specs.Cases.{start, cases}
use Rattle.edges.specs.PassEdges.{pass_edges}
use Rattle.edges.specs.InteractEdges.{interact_edges}
use Rattle.edges.specs.RimEdges.{rim_edges}
use Rattle.edges.specs.ButtonEdges.{button_edges}

-- proofs/AllPass.antt: by evaluation
abbrev pub AllPass : Type 0
AllPass = check_all start (cases ++ (pass_edges ++ (interact_edges ++ (rim_edges ++ button_edges)))) ≡ true
