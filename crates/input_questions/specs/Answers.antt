-- When an answer is the model's: its `reply` to the question, of every panel that shows these values, whatever else it shows.
use Rattle.std.specs.Prelude.{ℕ, ◌≡◌, Bool, List, Float}
use Rattle.model.specs.Types.{InputOptions, WheelState}
use Rattle.model.specs.Pass.{Panel}
use Rattle.model.specs.Questions.{Settled, Reply, reply, shown}
use Rattle.key_state.specs.declared.keys.Keys.{Keys}
use Rattle.key_state.specs.View.{keys}
use Rattle.pointer_place.specs.declared.Place.{Place}
use Rattle.pointer_state.specs.declared.press.Press.{Press}
use Rattle.pointer_place.specs.View.{place}
use Rattle.pointer_state.specs.View.{press}
use Rattle.touch_state.specs.declared.devices.Devices.{Devices}
use Rattle.touch_state.specs.View.{view}

-- a question that reads the scale
abbrev pub OfScale : Settled → Float → Reply → Type 0
OfScale q scale a = (p : Panel) → p.screen.pixels_per_point ≡ scale → reply q (shown p) ≡ a

-- a question that reads keys, without the lent presses
abbrev pub OfKeys : Settled → Keys → Reply → Type 0
OfKeys q k a = (presses : List ℕ) (p : Panel) → p.keys ≡ keys presses k → reply q (shown p) ≡ a

-- one that reads only the lent presses
abbrev pub OfPresses : Settled → List ℕ → Reply → Type 0
OfPresses q presses a = (k : Keys) (p : Panel) → p.keys ≡ keys presses k → reply q (shown p) ≡ a

-- what `wants_repaint_after` reads; of the lent places only the codes
abbrev pub OfWaiting : Settled → Place → Press → List ℕ → WheelState → Bool → Devices → InputOptions → Float → Float → Reply → Type 0
OfWaiting q at s codes w feed_empty ds o time pointer_time a =
    (times history positions : List Float) (p : Panel)
    → p.place ≡ place times history at → p.press ≡ press codes positions s → p.wheel ≡ w → p.keys.feed_empty ≡ feed_empty → p.touch_states ≡ view ds
    → p.screen.options ≡ o → p.clock.time ≡ time → p.clock.pointer_time ≡ pointer_time
    → reply q (shown p) ≡ a
