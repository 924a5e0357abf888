-- What `fivvarul_zoom_factor` answers: `zoom_factor`'s answer, and what crosses of it.
use Rattle.std.specs.Prelude.{◌≡◌, Float, Ok, Err, Result}
use Rattle.zoom_factor.specs.declared.ZoomRefusal.{ZoomRefusal}
use Rattle.zoom_factor.specs.Answer.{zoom_refusal_number, Answers}
use Rattle.host.specs.declared.factor.HostFactor.{HostFactor}

abbrev pub Crosses : Result Float ZoomRefusal → HostFactor → Type 0
Crosses (Ok f) r = (r.number ≡ 0) × (r.factor ≡ f)
Crosses (Err q) r = r.number ≡ zoom_refusal_number q

pub record Factors (exponent : Float) (r : HostFactor) : Type 0 where
  pub answer : Result Float ZoomRefusal
  pub answers : Answers exponent answer
  pub crosses : Crosses answer r
