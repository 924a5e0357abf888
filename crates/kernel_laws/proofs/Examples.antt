-- Each case of the table, evaluated. Assumes nothing.
use mathlib.Core.Path.{refl}
use lib.Ieee.{of_int, round}
use Rattle.feed.specs.Encode.{encode, fields, words_after, pos_words, id_words, force_words, float_word, join, encode_all}
use Rattle.kernel_values.specs.Value.{signed, slot_ok, position_ok, tracking_id_ok, is_finger, same_number}
use Rattle.kernel_record.specs.Records.{half, word, report_record, touch_record, record_of, record_at, records, is_end, is_dropped, held_dropped}
use Rattle.kernel_touch.specs.Slots.{no_finger, empty_slots, fresh, finger_at, put_at, chosen_finger, put_finger, with_x, with_y, with_id, choose, skips, settle, settled}
use Rattle.kernel_touch.specs.Step.{unless, bad, done, skipped, after, refusal}
use Rattle.kernel_report.specs.Report.{same_place, moved, replaced, change, position, touch, change_events, slot_events, report}
use Rattle.kernel_read.specs.Read.{acts, events, verdict, by, run, all_records, read, kernel_of}
use Rattle.kernel_laws.specs.Table as table
use Rattle.kernel_laws.specs.Table.{AllPass}

-- the converter's definitions
unfoldable converter : Type 1
unfolding of_int round encode fields words_after pos_words id_words force_words float_word join encode_all signed slot_ok position_ok tracking_id_ok is_finger same_number half word report_record touch_record record_of record_at records is_end is_dropped held_dropped no_finger empty_slots fresh finger_at put_at chosen_finger put_finger with_x with_y with_id choose skips settle settled unless bad done skipped after refusal same_place moved replaced change position touch change_events slot_events report acts events verdict by run all_records read kernel_of
converter = Type 0

pub all_pass : AllPass
unfolding converter table.bits table.raw table.slot table.x table.y table.id table.lift table.end table.lost table.touches table.finger_starts table.finger_moves table.finger_ends table.within table.gets table.loses table.fails table.outside table.five table.then_now table.within_a_report table.positions table.slots table.dropped table.others table.refusals table.cases table.reply_of table.replies
all_pass = refl
