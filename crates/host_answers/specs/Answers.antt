-- What an answer says that crossed to the host as a record of plain numbers. A number past an enum's last case is that case.
use Rattle.std.specs.Prelude.{cond, Option, Float, ℕ}
use Rattle.std.specs.Bool.{then_some}
use Rattle.model.specs.Types.{Vec2, Pos2, MouseWheelSource}
use Rattle.model.specs.Types.{Rotation, Radians, Headings, MultiTouchInfo}
use Rattle.feed.specs.Shape as Feed
use Rattle.pointer_events.specs.Events as Events
use Rattle.data.specs.declared.pointer.PointerEvent.{PointerEvent}
use Rattle.scroll_questions.specs.declared.zoom.Zoom.{Zoom}
use Rattle.scroll_questions.specs.declared.zoom.Zoom2d.{Zoom2d}
use Rattle.data.specs.declared.widget.WidgetRect.{WidgetRect}
use Rattle.data.specs.declared.layers.LayerId.{LayerId}
use Rattle.host_answers.specs.declared.HostVector.{HostVector}
use Rattle.host_answers.specs.declared.HostMaybeVector.{HostMaybeVector}
use Rattle.host_answers.specs.declared.HostPosition.{HostPosition}
use Rattle.host_answers.specs.declared.HostSeconds.{HostSeconds}
use Rattle.host_answers.specs.declared.HostNumber.{HostNumber}
use Rattle.host_answers.specs.declared.HostId.{HostId}
use Rattle.host_answers.specs.declared.HostSource.{HostSource}
use Rattle.host_answers.specs.declared.HostZoom.{HostZoom}
use Rattle.host_answers.specs.declared.HostZoom2d.{HostZoom2d}
use Rattle.host_answers.specs.declared.HostRotation.{HostRotation}
use Rattle.host_answers.specs.declared.HostGesture.{HostGesture}
use Rattle.host_answers.specs.declared.HostPointerEvent.{HostPointerEvent}
use Rattle.host_answers.specs.declared.HostWidget.{HostWidget}
use Rattle.host_answers.specs.declared.HostOrder.{HostOrder}
use Rattle.host_answers.specs.declared.HostLayer.{HostLayer}

abbrev pub vector_of : HostVector → Vec2
vector_of r = record { x = r.x; y = r.y }

abbrev pub maybe_vector_of : HostMaybeVector → Option Vec2
maybe_vector_of r = then_some r.given (record { x = r.x; y = r.y })

abbrev pub position_of : HostPosition → Option Pos2
position_of r = then_some r.given (record { x = r.x; y = r.y })

abbrev pub seconds_of : HostSeconds → Option Float
seconds_of r = then_some r.given r.value

abbrev pub number_of : HostNumber → Option Float
number_of r = then_some r.given r.value

abbrev pub id_of : HostId → Option ℕ
id_of r = then_some r.given r.id

abbrev pub source_of : HostSource → Option MouseWheelSource
source_of r = then_some r.given (Feed.source_of r.number)

abbrev pub zoom_of : HostZoom → Zoom
zoom_of r = record { factor = r.factor; exponent = r.exponent }

abbrev pub zoom_2d_of : HostZoom2d → Zoom2d
zoom_2d_of r = record { factor = record { x = r.factor_x; y = r.factor_y }; exponent = record { x = r.exponent_x; y = r.exponent_y } }

abbrev pub rotation_of : HostRotation → Rotation
rotation_of r =
    cond r.by_headings (Headings (record { x = r.previous_x; y = r.previous_y }) (record { x = r.x; y = r.y })) (Radians r.radians)

abbrev pub gesture_of : HostGesture → Option MultiTouchInfo
gesture_of r =
    then_some r.given
    (record {
      start_time = r.start_time;
      start_pos = r.start_pos;
      center_pos = r.center_pos;
      num_touches = r.num_touches;
      zoom_delta = r.zoom_delta;
      zoom_delta_2d = vector_of r.zoom_delta_2d;
      previous_heading = vector_of r.previous_heading;
      heading = vector_of r.heading;
      translation_delta = vector_of r.translation_delta;
      force = r.force;
    })

abbrev pub event_of : HostPointerEvent → Option PointerEvent
event_of r =
    then_some r.given (Events.event_of (record { kind = r.kind; button = r.button; count = r.count; flags = r.modifiers; pos = r.pos }))

abbrev pub widget_of : HostWidget → Option WidgetRect
widget_of r = then_some r.given r.widget

abbrev pub order_of : HostOrder → Option (LayerId × ℕ)
order_of r = then_some r.given (r.layer, r.position)

abbrev pub layer_of : HostLayer → Option LayerId
layer_of r = then_some r.given r.layer
