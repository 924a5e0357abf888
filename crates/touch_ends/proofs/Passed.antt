-- The devices in a pass, as its parts tell. Assumes nothing.
use Rattle.std.specs.Prelude.{Option, Ok, Err, ⊤}
use mathlib.Core.Path.{◌≡◌, refl}
use mathlib.Core.List.{List, [], ◌∷◌}
use Prim.Native.Nat.{ℕ}
use native.Mathlib.Omega.{arith}
use lib.ListN.{length}
use lib.Ieee.{Float}
use Rattle.model.specs.Types.{Pos2}
use Rattle.touch_state.specs.View.{view}
use Rattle.touch_state.specs.declared.devices.Devices.{Devices}
use Rattle.survey.specs.Survey.{option, crowd_then}
use Rattle.data.specs.declared.refusal.PassRefusal.{PassRefusal}
use Rattle.survey.proofs.Places.{fits_loop}
use Rattle.touch_ends.specs.Pass.{TouchPassed}

pub none : (ps : List ℕ) → length ps ≡ 0 → ps ≡ []
none [] h = refl
none (p ∷ ps) h = absurd (omega arith)

-- no device and no touch event
module _ (ws ps : List ℕ) (time : Float) (pos : Option Pos2) (ds : Devices) (e : ps ≡ []) where
  pub nothing_refused : (q : PassRefusal) → TouchPassed ws ps (option {A = ⊤} (Err q)) time pos (view ds) (Err q)
  unfolding crowd_then option
  nothing_refused q = record { refusal = rw e; devices = tt }

  pub nothing : ds.count ≡ 0 → TouchPassed ws ps (option {A = ⊤} (Ok tt)) time pos (view ds) (Ok ds)
  unfolding crowd_then option
  nothing z = record { refusal = rw e; devices = rw (e, fits_loop.begins ws (view ds)) (rw z) }
