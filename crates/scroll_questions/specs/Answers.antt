-- When an answer is the model's: its `reply` to the question, of every panel that shows these values, whatever else it shows.
use Rattle.std.specs.Prelude.{ℕ, ◌≡◌, Bool, List, Float}
use Rattle.model.specs.Types.{Vec2, Modifiers, InputOptions, WheelState}
use Rattle.model.specs.Pass.{Panel}
use Rattle.model.specs.Questions.{Settled, Reply, zoom, zoom_2d, reply, shown}
use Rattle.pointer_state.specs.declared.press.Press.{Press}
use Rattle.pointer_state.specs.View.{press}
use Rattle.touch_state.specs.declared.devices.Devices.{Devices}
use Rattle.touch_state.specs.View.{view}
use Rattle.scroll_questions.specs.declared.zoom.Zoom.{Zoom}
use Rattle.scroll_questions.specs.declared.zoom.Zoom2d.{Zoom2d}

-- the answers that are structs of this crate
abbrev pub zoom_answer : Zoom → Reply
zoom_answer z = zoom z.factor z.exponent

abbrev pub zoom_2d_answer : Zoom2d → Reply
zoom_2d_answer z = zoom_2d z.factor z.exponent

-- a question that reads the wheel, and one that reads the panel's time too
abbrev pub OfWheel : Settled → WheelState → Reply → Type 0
OfWheel q w a = (p : Panel) → p.wheel ≡ w → reply q (shown p) ≡ a

abbrev pub OfWheelAt : Settled → WheelState → Float → Reply → Type 0
OfWheelAt q w time a = (p : Panel) → p.wheel ≡ w → p.clock.time ≡ time → reply q (shown p) ≡ a

-- questions that read the touches and sums of the pass
abbrev pub OfZoom : Settled → Devices → Float → Float → Reply → Type 0
OfZoom q ds factor exponent a =
    (p : Panel) → p.touch_states ≡ view ds → p.sums.zoom_factor ≡ factor → p.sums.zoom_exponent ≡ exponent → reply q (shown p) ≡ a

abbrev pub OfZoom2d : Settled → Devices → Float → Float → Modifiers → InputOptions → Reply → Type 0
OfZoom2d q ds factor exponent m o a =
    (p : Panel) → p.touch_states ≡ view ds → p.sums.zoom_factor ≡ factor → p.sums.zoom_exponent ≡ exponent → p.keys.modifiers ≡ m → p.screen.options ≡ o → reply q (shown p) ≡ a

abbrev pub OfRotation : Settled → Devices → Float → Reply → Type 0
OfRotation q ds radians a = (p : Panel) → p.touch_states ≡ view ds → p.sums.rotation_radians ≡ radians → reply q (shown p) ≡ a

abbrev pub OfTranslation : Settled → Devices → Vec2 → Reply → Type 0
OfTranslation q ds delta a = (p : Panel) → p.touch_states ≡ view ds → p.sums.smooth_scroll_delta ≡ delta → reply q (shown p) ≡ a

-- a question that reads touches, presses, options, the pointer's time and started_decidedly_dragging
abbrev pub OfTouchAndPress : Settled → Devices → Press → InputOptions → Float → Bool → Reply → Type 0
OfTouchAndPress q ds s o time started a =
    (codes : List ℕ) (positions : List Float) (p : Panel)
    → p.touch_states ≡ view ds → p.press ≡ press codes positions s → p.screen.options ≡ o → p.clock.pointer_time ≡ time → p.started_decidedly_dragging ≡ started
    → reply q (shown p) ≡ a
