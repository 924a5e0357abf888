-- A call: its records one after the other. A.1's answers, "the first in record order".
use Rattle.std.specs.Prelude.{ℕ, ◌/◌, ◌%◌, ◌≡◌, Bool, true, false, cond, List, [], ◌∷◌, ◌++◌, eqb, leb, length, drop, Option, Some, None, Result, Ok, Err, ⊤}
use Rattle.data.specs.Numbers.{Row}
use Rattle.feed.specs.Types.{Event}
use Rattle.feed.specs.Encode.{encode_all}
use Rattle.kernel_record.specs.declared.KernelRecord.{KernelRecord}
use Rattle.kernel_record.specs.Records.{records, record_bytes, is_end, held_dropped}
use Rattle.kernel_touch.specs.declared.slots.KernelTouches.{KernelTouches}
use Rattle.kernel_touch.specs.declared.answer.KernelRefusal.{KernelRefusal}
use Rattle.kernel_touch.specs.declared.answer.KernelRefusal.TheVariants.{Length, SlotOutside, OutsideDomain, FeedFull}
use Rattle.kernel_touch.specs.declared.answer.Taken.{Taken}
use Rattle.kernel_touch.specs.Step.{after, refusal, unless}
use Rattle.kernel_report.specs.Report.{report}

-- "11 for a length not a multiple of 24, .. 12 for a slot .., 2 for a position .. or a tracking id, 8"; 2 is no word's of a feed: its index is 0
abbrev pub kernel_row : KernelRefusal → Row
kernel_row Length = record { number = 11; index = None }
kernel_row SlotOutside = record { number = 12; index = None }
kernel_row OutsideDomain = record { number = 2; index = Some 0 }
kernel_row FeedFull = record { number = 8; index = None }

-- a report end that is acted on
unfoldable pub acts : KernelRecord → KernelTouches → Bool
acts r k = cond k.skipping false (is_end r)

-- the events that a record gives
unfoldable pub events : ℕ → KernelRecord → KernelTouches → List Event
events device r k = cond (acts r k) (report device k.slots) []

-- "8, at the report end whose events don't fit the feed buffer": `all` is what the call's records gave, this one's events among it
unfoldable pub verdict : ℕ → List Event → KernelRecord → KernelTouches → Result ⊤ KernelRefusal
verdict room all r k = cond (acts r k) (unless (leb (length (encode_all all)) room) FeedFull) (refusal r k)

-- what a call comes to: refused; or taken, with the slots after it and its events
pub data KernelOutcome : Type 0 where
  refused : KernelRefusal → KernelOutcome
  taken : KernelTouches → List Event → KernelOutcome

unfoldable pub by : Result ⊤ KernelRefusal → KernelOutcome → KernelOutcome
by (Ok t) o = o
by (Err q) o = refused q

-- the records still to come, the slots and the events so far
unfoldable pub run : ℕ → ℕ → List KernelRecord → KernelTouches → List Event → KernelOutcome
run device room [] k es = taken k es
run device room (r ∷ rs) k es =
    by (verdict room (es ++ events device r k) r k) (run device room rs (after r k) (es ++ events device r k))

unfoldable pub all_records : List ℕ → List KernelRecord
all_records bytes = records (length bytes / record_bytes) 0 bytes

-- the whole call, with `room` places in the feed buffer
unfoldable pub read : KernelTouches → ℕ → List ℕ → ℕ → KernelOutcome
read k device bytes room = cond (eqb (length bytes % record_bytes) 0) (run device room (all_records bytes) k []) (refused Length)

-- ---- what the caller sees of it: refused, "all left as before"

-- the slots after a call, and its answer
pub record KernelRead : Type 0 where
  pub kernel : KernelTouches
  pub answer : Result Taken KernelRefusal

unfoldable pub kernel_of : KernelTouches → KernelOutcome → KernelTouches
kernel_of k (refused q) = k
kernel_of k (taken next es) = next

unfoldable pub words_of : KernelOutcome → List ℕ
words_of (refused q) = []
words_of (taken next es) = encode_all es

-- "Lent places past those written keep their contents."
unfoldable pub feed_of : List ℕ → KernelOutcome → List ℕ
feed_of feed o = words_of o ++ drop (length (words_of o)) feed

-- "the answer says whether the call's records held one"
unfoldable pub answer_of : Bool → KernelOutcome → Result Taken KernelRefusal
answer_of dropped (refused q) = Err q
answer_of dropped (taken next es) = Ok (record { words = length (encode_all es); dropped = dropped })

unfoldable pub read_of : KernelTouches → Bool → KernelOutcome → KernelRead
read_of k dropped o = record { kernel = kernel_of k o; answer = answer_of dropped o }

unfoldable pub is_taken : KernelOutcome → Bool
is_taken (refused q) = false
is_taken (taken next es) = true

-- the row that a call answers; a taken one has none
abbrev pub row_of : Result Taken KernelRefusal → Option Row
row_of (Ok t) = None
row_of (Err q) = Some (kernel_row q)

-- the same of what the records come to
abbrev pub outcome_row : KernelOutcome → Option Row
outcome_row (refused q) = Some (kernel_row q)
outcome_row (taken next es) = None

-- ---- the contract of a call, for all inputs
pub record Reads (k : KernelTouches) (device : ℕ) (bytes feed : List ℕ) (r : KernelRead) (feed' : List ℕ) : Type 0 where
  -- the slots and the answer: as before, and the first refusal; or those of the records
  pub result : r ≡ read_of k (held_dropped (all_records bytes)) (read k device bytes (length feed))
  -- what the answer's row returns: the number alone, or 2 "index 0 if not in a feed"
  pub row : row_of r.answer ≡ outcome_row (read k device bytes (length feed))
  -- the feed buffer: as before; or the words of the events, with the places past them as before
  pub feed_is : feed' ≡ feed_of feed (read k device bytes (length feed))
