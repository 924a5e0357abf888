-- What is promised of the converter beside its contract.
use Rattle.std.specs.Prelude.{ℕ, ◌+◌, ◌%◌, ◌≤◌, ◌≡◌, ◌||◌, List, ◌++◌, map, ◌⊎◌, length, take, Ok, None, Some}
use Rattle.data.specs.Limits.{max_events}
use Rattle.data.specs.Numbers.{pass_refusal_number}
use Rattle.feed.specs.Types.{Event, PassRefusal, TooManyEvents}
use Rattle.feed.specs.Decode.{good, Item, items}
use Rattle.feed.specs.Feed.{events_of, feed_refusal}
use Rattle.feed.specs.Encode.{encode_all}
use Rattle.feed_events.specs.Events.{AllOk}
use Rattle.model.specs.Pass as Pass
use Rattle.model.specs.Pass.{Panel, PassInput, own_refusal, pass}
use Rattle.kernel_record.specs.Records.{record_bytes, held_dropped}
use Rattle.kernel_touch.specs.declared.slots.KernelTouches.{KernelTouches}
use Rattle.kernel_touch.specs.declared.answer.Taken.{Taken}
use Rattle.kernel_touch.specs.Slots.{fresh}
use Rattle.kernel_read.specs.Read.{KernelRead, taken, all_records, read, kernel_of, Reads}
use Rattle.kernel_laws.specs.Calls.{Call, Called, outcome, events_in, after_calls, calls_events, then_read}
use Rattle.kernel_laws.specs.Slots.{InRange, SlotEvent, slots_calls, of_slot, starts, ends, reported, held_in, held}

-- ---- what follows of `after_calls` holds of the running code
abbrev pub Running : Type 0
Running = (k k' : KernelTouches) (cs : List Call) → Called k cs k' → k' ≡ after_calls k cs

-- ---- positions stay in the domain, whatever is called: an arbitrary `KernelTouches` may hold any i32, one that the operations gave doesn't
pub record KeepsRange : Type 0 where
  pub fresh_slots : InRange fresh.slots
  pub call : (k : KernelTouches) (c : Call) → InRange k.slots → InRange (kernel_of k (outcome k c)).slots
  pub calls : (cs : List Call) → InRange (after_calls fresh cs).slots

-- ---- "Decodes": these words are a feed of these events
pub record Says (es : List Event) (ws : List ℕ) : Type 0 where
  -- each field and each float of the domain
  pub in_domain : AllOk es
  -- each piece is good: neither 1 nor 2
  pub each_good : map (λ (i : Item). i.what) (items ws) ≡ map good es
  pub events : events_of (items ws) ≡ es
  -- of what a feed alone decides, it is refused with 4 only, and not with up to 64 events
  pub only_4 : (q : PassRefusal) → feed_refusal ws ≡ Some q → (index : ℕ) × (q ≡ TooManyEvents index)
  pub up_to_64 : length es ≤ max_events → feed_refusal ws ≡ None

-- the words of a taken call, of slots whose positions are of the domain
abbrev pub Decodes : Type 0
Decodes =
    (k : KernelTouches) (c : Call) (next : KernelTouches) (es : List Event) → InRange k.slots → outcome k c ≡ taken next es → Says es (encode_all es)

-- a pass with such a feed is refused for its own numbers (2, 3), or with 4 or 5
abbrev pub LeftToPass : Type 0
LeftToPass =
    (p : Panel) (i : PassInput) (es : List Event) (q : PassRefusal) → Says es i.feed → pass p i ≡ Pass.refused q →
    (own_refusal i p.clock.time ≡ Some q) ⊎ ((pass_refusal_number q ≡ 4) ⊎ (pass_refusal_number q ≡ 5))

-- ---- "Fits"
abbrev pub Fits : Type 0
Fits = (k : KernelTouches) (c : Call) (next : KernelTouches) (es : List Event) → outcome k c ≡ taken next es → length (encode_all es) ≤ c.room

-- what the caller of `read_records` has of both, after any calls: it answers n words, the buffer has so many, and they say the call's events
abbrev pub Answered : Type 0
Answered =
    (past : List Call) (device : ℕ) (bytes feed : List ℕ) (r : KernelRead) (feed' : List ℕ) (t : Taken) →
    Reads (after_calls fresh past) device bytes feed r feed' → r.answer ≡ Ok t →
    (t.words ≤ length feed) × Says (events_in (read (after_calls fresh past) device bytes (length feed))) (take t.words feed')

-- ---- "Goes on": two calls of whole records are one call with the records of both
pub record GoesOn : Type 0 where
  -- taken or refused, where the second call gets the places that the first left
  pub one_buffer : (k : KernelTouches) (device : ℕ) (bs cs : List ℕ) (room : ℕ) → length bs % record_bytes ≡ 0 → length cs % record_bytes ≡ 0 →
      read k device (bs ++ cs) room ≡ then_read (read k device bs room) device cs room
  -- both taken, each with a buffer of its own: the slots and, joined, the events, with room enough for all
  pub room_enough : (k k' k'' : KernelTouches) (device : ℕ) (bs cs : List ℕ) (es fs : List Event) (room room' all : ℕ) →
      read k device bs room ≡ taken k' es → read k' device cs room' ≡ taken k'' fs → length (encode_all (es ++ fs)) ≤ all →
      read k device (bs ++ cs) all ≡ taken k'' (es ++ fs)
  -- and 'dropped' is held by one of them
  pub dropped : (bs cs : List ℕ) → length bs % record_bytes ≡ 0 → length cs % record_bytes ≡ 0 →
      held_dropped (all_records (bs ++ cs)) ≡ (held_dropped (all_records bs) || held_dropped (all_records cs))

-- ---- "Balance", over whole lists of calls, refused ones among them
pub record Balance : Type 0 where
  -- the events by slot are, together, the events that the calls gave
  pub together : (k : KernelTouches) (cs : List Call) → map (λ (e : SlotEvent). e.event) (slots_calls k cs) ≡ calls_events k cs
  -- each slot: Starts and the finger held before are Ends and the finger held after
  pub by_slot : (k : KernelTouches) (cs : List Call) (i : ℕ) →
      starts (of_slot i (slots_calls k cs)) + held_in i (reported k) ≡ ends (of_slot i (slots_calls k cs)) + held_in i (reported (after_calls k cs))
  -- all slots
  pub in_all : (k : KernelTouches) (cs : List Call) →
      starts (calls_events k cs) + held (reported k) ≡ ends (calls_events k cs) + held (reported (after_calls k cs))
  -- from fresh slots on, none is held before
  pub from_fresh : (cs : List Call) → starts (calls_events fresh cs) ≡ ends (calls_events fresh cs) + held (reported (after_calls fresh cs))
  pub slot_from_fresh : (cs : List Call) (i : ℕ) →
      starts (of_slot i (slots_calls fresh cs)) ≡ ends (of_slot i (slots_calls fresh cs)) + held_in i (reported (after_calls fresh cs))
