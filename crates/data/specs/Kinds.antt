-- The kinds of "The feed"'s table.
use Rattle.std.specs.Prelude.{ℕ}

-- "top 4 bits the kind": what one kind counts in a word
abbrev pub kind_unit : ℕ
kind_unit = 0x1000_0000

abbrev pub key_kind : ℕ
key_kind = 1

abbrev pub modifiers_kind : ℕ
modifiers_kind = 2

abbrev pub moved_kind : ℕ
moved_kind = 3

abbrev pub motion_kind : ℕ
motion_kind = 4

abbrev pub button_kind : ℕ
button_kind = 5

abbrev pub gone_kind : ℕ
gone_kind = 6

abbrev pub zoom_kind : ℕ
zoom_kind = 7

abbrev pub rotate_kind : ℕ
rotate_kind = 8

abbrev pub touch_kind : ℕ
touch_kind = 9

abbrev pub wheel_kind : ℕ
wheel_kind = 10

abbrev pub focus_kind : ℕ
focus_kind = 11

abbrev pub other_kind : ℕ
other_kind = 12
