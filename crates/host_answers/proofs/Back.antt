-- A source read back from its number. Assumes nothing.
use mathlib.Core.Path.{◌≡◌, refl}
use Rattle.data.specs.Numbers.{source_number}
use Rattle.feed.specs.Shape.{source_of}
use Rattle.model.specs.Types.{MouseWheelSource, Unknown, Wheel, Trackpad, Momentum}

pub source_back : (s : MouseWheelSource) → source_of (source_number s) ≡ s
unfolding source_of
source_back Unknown = refl
source_back Wheel = refl
source_back Trackpad = refl
source_back Momentum = refl
