-- Group 1: what stands for a record gives it back, and every value stands for one. Assumes nothing.
use mathlib.Core.Path.{◌≡◌, refl}
use Rattle.model.specs.Pass.{Clock}
use Rattle.image.specs.Codes.{El}
use Rattle.image_clock.specs.Clock.{clock_code, clock_el, clock_of}

pub clock_back : (c : Clock) → clock_of (clock_el c) ≡ c
clock_back c = refl

pub clock_forth : (v : El clock_code) → clock_el (clock_of v) ≡ v
clock_forth v = refl
