-- Equal answers have the same number and values. Assumes nothing.
use Rattle.std.specs.Prelude.{Option, Some}
use mathlib.Core.Path.{◌≡◌, ap}
use Rattle.data.specs.Numbers.{rotation_number, rotation_values, source_number}
use Rattle.data.specs.Numbers.{pointer_event_number, pointer_event_position, pointer_event_button, pointer_event_click}
use Rattle.model.specs.Types.{PointerEvent, Rotation, MouseWheelSource}
use Rattle.model.specs.Questions.{Reply, rotation, source}
use Rattle.data.specs.declared.pointer.PointerEvent.{PointerEvent}
use Rattle.panel.specs.Answers.{SameRotation, SameEvent}

pub same_rotation : {a : Reply} {r x : Rotation} → a ≡ rotation r → a ≡ rotation x → SameRotation r x
same_rotation {a} {r} {x} e h =
    let same : r ≡ x = cc in
    record { number = ap rotation_number same; values = ap rotation_values same }

pub same_source : {a : Reply} {m : Option MouseWheelSource} {s x : MouseWheelSource}
    → a ≡ source m → a ≡ source (Some x) → m ≡ Some s → source_number s ≡ source_number x
same_source {a} {m} {s} {x} e h k = let same : s ≡ x = cc in ap source_number same

pub same_event : {a m : Option PointerEvent} {e x : PointerEvent} → a ≡ m → m ≡ Some x → a ≡ Some e → SameEvent e x
same_event {a} {m} {e} {x} f h k =
    let same : e ≡ x = cc in
    record {
      number = ap pointer_event_number same;
      position = ap pointer_event_position same;
      button = ap pointer_event_button same;
      click = ap pointer_event_click same;
    }
