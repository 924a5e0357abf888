-- 01's limits and "Domain". Ranges compare as IEEE 754 does: -0.0 is in "0 to ..", and no range holds a NaN.
use Rattle.std.specs.Prelude.{ℕ, Bool, true, ◌&&◌, Float, Option, None, Some}
use Rattle.std.specs.Float.{binary32, binary64}
use Rattle.std.specs.Float.Ieee.{lt, le, fits, of_bits}
use Rattle.data.specs.Types.{Pos2, Vec2, Rect, InputOptions}
use Rattle.data.specs.Types.{Event, Key, ModifiersChanged, PointerMoved, MouseMoved, Button, PointerGone, Zoom, Rotate, Touch, MouseWheel, WindowFocused, Other}

-- "At most 64 events, 4 devices ever, 10 touches held per device, 1,024 widgets, 32 layers, 64 entries a hit list"
abbrev pub max_events : ℕ
max_events = 64

abbrev pub max_devices : ℕ
max_devices = 4

abbrev pub max_touches : ℕ
max_touches = 10

abbrev pub max_widgets : ℕ
max_widgets = 1024

abbrev pub max_layers : ℕ
max_layers = 32

abbrev pub max_hits : ℕ
max_hits = 64

-- "an id buffer under 66 places"
abbrev pub id_places : ℕ
id_places = 66

-- "place in egui's Key (0 to 144)"
abbrev pub key_count : ℕ
key_count = 145

-- "button 0–4", "unit (Point, Line, Page)"
abbrev pub button_count : ℕ
button_count = 5

abbrev pub unit_count : ℕ
unit_count = 3

-- "layer order over 4"
abbrev pub max_order : ℕ
max_order = 4

-- "the tally at 4,294,967,295"
abbrev pub max_tally : ℕ
max_tally = 4294967295

-- ---- the domain's bounds: f32, and f64 for seconds
unfoldable pub zero32 : Float
zero32 = of_bits binary32 0

unfoldable pub one32 : Float
one32 = of_bits binary32 0x3f80_0000

unfoldable pub zero64 : Float
zero64 = of_bits binary64 0

-- 65,536 and -65,536
unfoldable pub max_coordinate : Float
max_coordinate = of_bits binary32 0x4780_0000

unfoldable pub min_coordinate : Float
min_coordinate = of_bits binary32 0xc780_0000

-- 1,024
unfoldable pub max_zoom : Float
max_zoom = of_bits binary32 0x4480_0000

-- 64 and -64
unfoldable pub max_radians : Float
max_radians = of_bits binary32 0x4280_0000

unfoldable pub min_radians : Float
min_radians = of_bits binary32 0xc280_0000

-- 1,024 pixels per point
unfoldable pub max_scale : Float
max_scale = of_bits binary32 0x4480_0000

-- 4,294,967,296 s
unfoldable pub max_time : Float
max_time = of_bits binary64 0x41f0_0000_0000_0000

-- 3,600 s
unfoldable pub max_duration : Float
max_duration = of_bits binary64 0x40ac_2000_0000_0000

-- ---- ranges, both ends included. `fits` is what an f32, or an f64, is
unfoldable pub within32 : Float → Float → Float → Bool
within32 lo hi x = fits binary32 x && (le lo x && le x hi)

unfoldable pub within64 : Float → Float → Float → Bool
within64 lo hi x = fits binary64 x && (le lo x && le x hi)

-- "Positions, rectangle edges, deltas: finite, size at most 65,536"
unfoldable pub coordinate_ok : Float → Bool
coordinate_ok x = within32 min_coordinate max_coordinate x

unfoldable pub pos_ok : Pos2 → Bool
pos_ok p = coordinate_ok p.x && coordinate_ok p.y

unfoldable pub vec_ok : Vec2 → Bool
vec_ok v = coordinate_ok v.x && coordinate_ok v.y

unfoldable pub rect_ok : Rect → Bool
rect_ok r = pos_ok r.min && pos_ok r.max

-- "Zoom above 0, at most 1,024"
unfoldable pub zoom_ok : Float → Bool
zoom_ok x = fits binary32 x && (lt zero32 x && le x max_zoom)

-- "Radians: size at most 64"
unfoldable pub radians_ok : Float → Bool
radians_ok x = within32 min_radians max_radians x

-- "Predicted dt and smoothing factor 0 to 1", and "zoom speed 0 to 1"
unfoldable pub unit_interval_ok : Float → Bool
unit_interval_ok x = within32 zero32 one32 x

-- "Force 0 to 1", and a force that may be absent
unfoldable pub force_ok : Float → Bool
force_ok x = within32 zero32 one32 x

unfoldable pub maybe_force_ok : Option Float → Bool
maybe_force_ok None = true
maybe_force_ok (Some x) = force_ok x

-- "line speed and click distance 0 to 65,536"
unfoldable pub length_ok : Float → Bool
length_ok x = within32 zero32 max_coordinate x

-- "Pixels per point 0 to 1,024"
unfoldable pub scale_ok : Float → Bool
scale_ok x = within32 zero32 max_scale x

-- "Time 0 to 4,294,967,296 s"
unfoldable pub time_ok : Float → Bool
time_ok t = within64 zero64 max_time t

-- "both durations 0 to 3,600 s"
unfoldable pub duration_ok : Float → Bool
duration_ok t = within64 zero64 max_duration t

unfoldable pub options_ok : InputOptions → Bool
options_ok o =
    length_ok o.line_scroll_speed
    && (unit_interval_ok o.scroll_zoom_speed
    && (length_ok o.max_click_dist && (duration_ok o.max_click_duration && duration_ok o.max_double_click_delay)))

-- every float of an event is in the domain
unfoldable pub event_ok : Event → Bool
event_ok (Key place pressed) = true
event_ok (ModifiersChanged m) = true
event_ok (PointerMoved pos) = pos_ok pos
event_ok (MouseMoved delta) = vec_ok delta
event_ok (Button pos b pressed m) = pos_ok pos
event_ok PointerGone = true
event_ok (Zoom factor) = zoom_ok factor
event_ok (Rotate radians) = radians_ok radians
event_ok (Touch device id phase pos force) = pos_ok pos && maybe_force_ok force
event_ok (MouseWheel unit delta phase source m) = vec_ok delta
event_ok (WindowFocused focused) = true
event_ok Other = true
