-- Lists of calls and what they answer. Definitions only.
use Rattle.std.specs.Prelude.{List, [], ◌∷◌}
use Rattle.model.specs.Types.{PassRefusal, InteractRefusal}
use Rattle.model.specs.Pass.{Panel, PassInput, Passed, pass}
use Rattle.model.specs.Pass as P
use Rattle.model.specs.Interact.{InteractInput, InteractionSnapshot, Interacted, interact}
use Rattle.model.specs.Interact as I

-- 01: "A list holds passes and interacts in any order, refused ones included."
pub data Call : Type 0 where
  passes : PassInput → Call
  interacts : InteractInput → Call

-- what a call answers, and the panel that it returns if it is taken
pub data Outcome : Type 0 where
  refused_pass : PassRefusal → Outcome
  refused_interact : InteractRefusal → Outcome
  passed : Panel → Outcome
  answered : InteractionSnapshot → Panel → Outcome

unfoldable pub of_pass : Passed → Outcome
of_pass (P.refused r) = refused_pass r
of_pass (P.taken p) = passed p

unfoldable pub of_interact : Interacted → Outcome
of_interact (I.refused r) = refused_interact r
of_interact (I.answered s p) = answered s p

unfoldable pub call : Panel → Call → Outcome
call p (passes i) = of_pass (pass p i)
call p (interacts x) = of_interact (interact p x)

-- 01: "Each call gets the panel that the last one returned, or left if refused"
unfoldable pub after : Panel → Outcome → Panel
after p (refused_pass r) = p
after p (refused_interact r) = p
after p (passed q) = q
after p (answered s q) = q

unfoldable pub run : Panel → List Call → Panel
run p [] = p
run p (c ∷ cs) = run (after p (call p c)) cs

unfoldable pub outcomes : Panel → List Call → List Outcome
outcomes p [] = []
outcomes p (c ∷ cs) = call p c ∷ outcomes (after p (call p c)) cs
