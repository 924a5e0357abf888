-- Group 1, the clock: its code, the value that stands for the model's record, and back.
use Rattle.std.specs.Prelude.{ℕ, T}
use Rattle.data.specs.Limits.{time_ok, unit_interval_ok}
use Rattle.model.specs.Pass.{Clock}
use Rattle.image.specs.Codes.{Code, single, double, both, group, El}
use Rattle.image_words.specs.Leaves.{any}

-- the place of its leading word
abbrev pub clock_place : ℕ
clock_place = 1

-- time and predicted dt are in 01's domain: outside it every later pass could be refused. Before the first pass the pointer's time is an infinity
abbrev pub clock_code : Code
clock_code = group 1 (both (double time_ok) (both (double any) (both (single any) (both (single any) (single unit_interval_ok)))))

abbrev pub clock_el : Clock → El clock_code
clock_el c = (c.time, (c.pointer_time, (c.unstable_dt, (c.stable_dt, c.predicted_dt))))

abbrev pub clock_of : El clock_code → Clock
clock_of v = record { time = v.0; pointer_time = v.1.0; unstable_dt = v.1.1.0; stable_dt = v.1.1.1.0; predicted_dt = v.1.1.1.1 }

-- what is known of the clock of a panel that the operations gave
abbrev pub ClockOk : Clock → Type 0
ClockOk c = T (time_ok c.time) × T (unit_interval_ok c.predicted_dt)
