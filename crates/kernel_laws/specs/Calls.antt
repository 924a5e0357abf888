-- Calls one after the other, and what they give.
use Rattle.std.specs.Prelude.{ℕ, ◌-◌, List, [], ◌∷◌, ◌++◌, length}
use Rattle.feed.specs.Types.{Event}
use Rattle.feed.specs.Encode.{encode_all}
use Rattle.kernel_touch.specs.declared.slots.KernelTouches.{KernelTouches}
use Rattle.kernel_read.specs.Read.{KernelRead, KernelOutcome, refused, taken, read, kernel_of, Reads}

pub record Call : Type 0 where
  pub device : ℕ
  pub bytes : List ℕ
  -- the places of its feed buffer
  pub room : ℕ

unfoldable pub outcome : KernelTouches → Call → KernelOutcome
outcome k c = read k c.device c.bytes c.room

-- the events of a call: a refused one gives none
unfoldable pub events_in : KernelOutcome → List Event
events_in (refused q) = []
events_in (taken next es) = es

-- "all this goes on from call to call": each call gets the slots that the last one left; a refused one leaves them as before
unfoldable pub after_calls : KernelTouches → List Call → KernelTouches
after_calls k [] = k
after_calls k (c ∷ cs) = after_calls (kernel_of k (outcome k c)) cs

-- their events, call after call
unfoldable pub calls_events : KernelTouches → List Call → List Event
calls_events k [] = []
calls_events k (c ∷ cs) = events_in (outcome k c) ++ calls_events (kernel_of k (outcome k c)) cs

-- calls of `read_records` itself, each on the slots that the last one returned
pub data Called : KernelTouches → List Call → KernelTouches → Type 0 where
  none_yet : {k : KernelTouches} → Called k [] k
  once : {k : KernelTouches} {cs : List Call} {last : KernelTouches} (device : ℕ) (bytes feed feed' : List ℕ) (r : KernelRead) →
      Reads k device bytes feed r feed' → Called r.kernel cs last → Called k (record { device = device; bytes = bytes; room = length feed } ∷ cs) last

-- ---- two calls as one

-- with these events before its own
unfoldable pub joined : List Event → KernelOutcome → KernelOutcome
joined es (refused q) = refused q
joined es (taken next fs) = taken next (es ++ fs)

-- a call's outcome, and a second call on the slots and in the places that it left; once refused, refused
unfoldable pub then_read : KernelOutcome → ℕ → List ℕ → ℕ → KernelOutcome
then_read (refused q) device bytes room = refused q
then_read (taken k es) device bytes room = joined es (read k device bytes (room - length (encode_all es)))
