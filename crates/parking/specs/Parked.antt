-- What parking leaves (02 A.6).
use Rattle.std.specs.Prelude.{ℕ, ◌+◌, ◌*◌, ◌<◌, ◌≡◌, List, length, take, drop, Option, None, Some, Ok, Err, Result}
use Rattle.data.specs.Limits.{max_events, max_devices, max_touches}
use Rattle.data.specs.Numbers.{Row}
use Rattle.model.specs.Pass.{Panel}
use Rattle.model.specs.Touch.{InOrder}
use Rattle.emath_history.specs.Ring.{count}
use Rattle.pointer_events.specs.Events.{counted}
use Rattle.touch_state.specs.View.{known}
use Rattle.panel.specs.declared.state.Panel as state
use Rattle.image.specs.Codes.{Code, both, El, In}
use Rattle.image_ranges.specs.Ranges.{Ranged}
use Rattle.image_fixed.specs.Fixed.{fixed_code}
use Rattle.image_history.specs.History.{history_code, history_el}
use Rattle.image_events.specs.Events.{events_code, events_el}
use Rattle.image_devices.specs.Devices.{devices_code, devices_el}
use Rattle.image_form.specs.Form.{panel_code, fixed_el, el, image, taken, read_image, short_row, Parkable}
use Rattle.parking.specs.declared.park.ParkRefusal.{ParkRefusal}
use Rattle.parking.specs.declared.park.ParkRefusal.TheVariants.{ShortBuffer}

-- groups 10 to 12
abbrev pub lists_code : Code
lists_code = both history_code (both (events_code max_events) (devices_code max_devices max_touches))

abbrev pub lists_el : Panel → El lists_code
lists_el p = (history_el p.place.pos_history, (events_el p.press.held.pointer_events, devices_el p.touch_states))

-- how many words an image has: 246, and 4 for a sample, 6 for an event, 86 for a device
unfoldable pub words_of : state.Panel → ℕ
words_of p = 246 + count p.input.pointer.place.history * 4 + counted p.input.pointer.press.held.event_count * 6 + length (known p.devices) * 86

-- values in their fields' ranges, by what the operations keep
abbrev pub FixedIn : Panel → Type 0
FixedIn p = Ranged p → In fixed_code (fixed_el p)

abbrev pub ListsIn : Panel → Type 0
ListsIn p = InOrder p.touch_states → In lists_code (lists_el p)

abbrev pub PanelIn : Panel → Type 0
PanelIn p = Parkable p → In panel_code (el p)

-- "writing gives only 8, for a buffer too short", and leaves it as before; or the image, with every place behind it as before. Of a panel that the
-- operations gave it reads back as that panel
abbrev pub ParkedAs : Panel → List ℕ → List ℕ → Result ℕ ParkRefusal → Type 0
ParkedAs p out out' (Err ShortBuffer) = (length out < length (image p)) × (out' ≡ out)
ParkedAs p out out' (Ok n) = (n ≡ length (image p)) × (take n out' ≡ image p) × (drop n out' ≡ drop n out) × (Parkable p → read_image (take n out') ≡ taken p)

-- the row of what it answers
abbrev pub parked_row : Result ℕ ParkRefusal → Option Row
parked_row (Ok n) = None
parked_row (Err ShortBuffer) = Some short_row
