-- How many lists there are.
use Rattle.std.specs.Prelude.{ℕ}

abbrev pub list_count : ℕ
list_count = 6
