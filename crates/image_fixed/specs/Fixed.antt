-- Groups 1 to 9 together: their code, and what writing some of them leaves.
use Rattle.std.specs.Prelude.{ℕ, ◌≡◌, List}
use Rattle.std.proofs.lemmas.List.Edits.{sets}
use Rattle.image.specs.Codes.{Code, both}
use Rattle.image_clock.specs.Clock.{clock_code}
use Rattle.image_screen.specs.Screen.{screen_code}
use Rattle.image_pointer.specs.Place.{place_code}
use Rattle.image_pointer.specs.Press.{press_code}
use Rattle.image_wheel.specs.Wheel.{wheel_code}
use Rattle.image_keys.specs.Keys.{keys_code}
use Rattle.image_interaction.specs.Groups.{sums_code, interaction_code, tally_code}

-- the first group's place, and the place after the last
abbrev pub fixed_place : ℕ
fixed_place = 1

abbrev pub fixed_end : ℕ
fixed_end = 243

-- "then groups": in the order of their names
abbrev pub fixed_code : Code
fixed_code =
    both clock_code (both screen_code (both place_code (both press_code (both wheel_code (both keys_code (both sums_code (both interaction_code tally_code)))))))

-- words from a place on, every other place as before
abbrev pub Puts : ℕ → List ℕ → List ℕ → List ℕ → Type 0
Puts at ws out out' = out' ≡ sets out at ws
