-- A.1's table of (id then, id now) and the edges of its sentences: each a list of calls from fresh slots, with the answer of each call. `AllPass` evaluates them.
use Rattle.std.specs.Prelude.{ℕ, ◌-◌, ◌/◌, ◌%◌, ◌≡◌, Bool, true, false, List, [], ◌∷◌, ◌++◌, map, ℤ, pos, negsuc, None, Some}
use Rattle.std.specs.Float.{binary32}
use Rattle.std.specs.Float.Ieee.{of_int}
use Rattle.data.specs.Numbers.{Row}
use Rattle.feed.specs.Types.{TouchPhase, Start, Move, End, Event, Touch}
use Rattle.feed.specs.Encode.{join}
use Rattle.kernel_record.specs.Records.{held_dropped}
use Rattle.kernel_touch.specs.declared.slots.KernelTouches.{KernelTouches}
use Rattle.kernel_touch.specs.Slots.{fresh}
use Rattle.kernel_read.specs.Read.{KernelOutcome, refused, taken, kernel_row, all_records, read, kernel_of}

-- ---- how a case is written

-- two's complement, 32 bits
unfoldable pub bits : ℤ → ℕ
bits (pos n) = n
bits (negsuc n) = 0xffff_ffff - n

-- a record's bytes: of its time any will do
unfoldable pub raw : ℕ → ℕ → ℤ → List ℕ
raw kind code v =
    1 ∷ 2 ∷ 3 ∷ 4 ∷ 5 ∷ 6 ∷ 7 ∷ 8 ∷ 9 ∷ 10 ∷ 11 ∷ 12 ∷ 13 ∷ 14 ∷ 15 ∷ 16
    ∷ kind % 256 ∷ kind / 256 ∷ code % 256 ∷ code / 256
    ∷ bits v % 256 ∷ bits v / 256 % 256 ∷ bits v / 65536 % 256 ∷ bits v / 16777216 ∷ []

unfoldable pub slot : ℕ → List ℕ
slot n = raw 3 0x2f (pos n)

unfoldable pub x : ℕ → List ℕ
x n = raw 3 0x35 (pos n)

unfoldable pub y : ℕ → List ℕ
y n = raw 3 0x36 (pos n)

unfoldable pub id : ℕ → List ℕ
id n = raw 3 0x39 (pos n)

-- tracking id -1
unfoldable pub lift : List ℕ
lift = raw 3 0x39 (negsuc 0)

unfoldable pub end : List ℕ
end = raw 0 0 (pos 0)

unfoldable pub lost : List ℕ
lost = raw 0 3 (pos 0)

-- of device 7, without force
unfoldable pub touches : TouchPhase → ℕ → ℕ → ℕ → Event
touches phase id a b = Touch 7 id phase (record { x = of_int binary32 (pos a); y = of_int binary32 (pos b) }) None

unfoldable pub finger_starts : ℕ → ℕ → ℕ → Event
finger_starts id a b = touches Start id a b

unfoldable pub finger_moves : ℕ → ℕ → ℕ → Event
finger_moves id a b = touches Move id a b

unfoldable pub finger_ends : ℕ → ℕ → ℕ → Event
finger_ends id a b = touches End id a b

-- what a call answers: whether its records held a 'dropped', and its events; or a refusal's row
pub data Reply : Type 0 where
  gives : Bool → List Event → Reply
  refuses : Row → Reply

-- a call: its records, the places of its feed buffer, and its answer
pub record Step : Type 0 where
  pub records : List (List ℕ)
  pub room : ℕ
  pub reply : Reply

unfoldable pub within : ℕ → List (List ℕ) → Reply → Step
within room records reply = record { records = records; room = room; reply = reply }

-- room for 64 events
unfoldable pub gets : List (List ℕ) → List Event → Step
gets records es = within 448 records (gives false es)

unfoldable pub loses : List (List ℕ) → List Event → Step
loses records es = within 448 records (gives true es)

-- refused with a number alone
unfoldable pub fails : List (List ℕ) → ℕ → Step
fails records n = within 448 records (refuses (record { number = n; index = None }))

-- refused with 2 and the index 0
unfoldable pub outside : List (List ℕ) → Step
outside records = within 448 records (refuses (record { number = 2; index = Some 0 }))

-- finger 5 in slot 0 at (0, 0)
unfoldable pub five : Step
five = gets (id 5 ∷ end ∷ []) (finger_starts 5 0 0 ∷ [])

-- ---- the table: by the id at the last report end acted on, and now
unfoldable pub then_now : List (List Step)
then_now =
    -- none, none: also where the position changed
    (gets (end ∷ []) [] ∷ gets (x 3 ∷ end ∷ []) [] ∷ [])
    -- none, b
    ∷ (gets (id 6 ∷ x 1 ∷ y 2 ∷ end ∷ []) (finger_starts 6 1 2 ∷ []) ∷ [])
    -- a, none
    ∷ (five ∷ gets (lift ∷ end ∷ []) (finger_ends 5 0 0 ∷ []) ∷ [])
    -- a, a: where x or y differs, and else none
    ∷ (five ∷ gets (x 3 ∷ end ∷ []) (finger_moves 5 3 0 ∷ []) ∷ gets (y 4 ∷ end ∷ []) (finger_moves 5 3 4 ∷ []) ∷ gets (x 3 ∷ end ∷ []) [] ∷ [])
    -- a, b: "End before Start"
    ∷ (five ∷ gets (id 9 ∷ end ∷ []) (finger_ends 5 0 0 ∷ finger_starts 9 0 0 ∷ []) ∷ []) ∷ []

-- what comes between two report ends is not looked at
unfoldable pub within_a_report : List (List Step)
within_a_report =
    -- "one begun and lifted within a report gives none"
    (gets (id 7 ∷ x 3 ∷ lift ∷ end ∷ []) [] ∷ [])
    -- 5, -1, 5: nothing, or a Move
    ∷ (five ∷ gets (lift ∷ id 5 ∷ end ∷ []) [] ∷ gets (lift ∷ id 5 ∷ y 2 ∷ end ∷ []) (finger_moves 5 0 2 ∷ []) ∷ [])
    -- 5, 7, -1 and 5, 7, 9
    ∷ (five ∷ gets (id 7 ∷ lift ∷ end ∷ []) (finger_ends 5 0 0 ∷ []) ∷ [])
    ∷ (five ∷ gets (id 7 ∷ id 9 ∷ end ∷ []) (finger_ends 5 0 0 ∷ finger_starts 9 0 0 ∷ []) ∷ []) ∷ []

unfoldable pub positions : List (List Step)
positions =
    -- an End carries the position now
    (five ∷ gets (x 3 ∷ lift ∷ end ∷ []) (finger_ends 5 3 0 ∷ []) ∷ [])
    -- a new finger starts where the last one was
    ∷ (five ∷ gets (x 3 ∷ y 4 ∷ lift ∷ end ∷ []) (finger_ends 5 3 4 ∷ []) ∷ gets (id 6 ∷ end ∷ []) (finger_starts 6 3 4 ∷ []) ∷ []) ∷ []

unfoldable pub slots : List (List Step)
slots =
    -- "in slot order"
    (gets (slot 1 ∷ id 8 ∷ slot 0 ∷ id 7 ∷ end ∷ []) (finger_starts 7 0 0 ∷ finger_starts 8 0 0 ∷ []) ∷ [])
    -- also where a finger changes its slot
    ∷ (gets (slot 1 ∷ id 5 ∷ end ∷ []) (finger_starts 5 0 0 ∷ []) ∷ gets (lift ∷ slot 0 ∷ id 5 ∷ end ∷ []) (finger_starts 5 0 0 ∷ finger_ends 5 0 0 ∷ []) ∷ [])
    -- "all this goes on from call to call": the chosen slot, and a report that isn't ended
    ∷ (gets (slot 3 ∷ id 4 ∷ []) [] ∷ gets (x 2 ∷ []) [] ∷ gets (end ∷ []) (finger_starts 4 2 0 ∷ []) ∷ []) ∷ []

unfoldable pub dropped : List (List Step)
dropped =
    -- "changes from before it wait for the report end after that"
    (loses (id 5 ∷ lost ∷ x 3 ∷ end ∷ x 7 ∷ end ∷ []) (finger_starts 5 7 0 ∷ []) ∷ [])
    -- what is skipped is not judged: slot 99
    ∷ (loses (lost ∷ slot 99 ∷ end ∷ id 5 ∷ end ∷ []) (finger_starts 5 0 0 ∷ []) ∷ [])
    -- one that is itself skipped
    ∷ (loses (lost ∷ []) [] ∷ loses (id 5 ∷ lost ∷ end ∷ id 6 ∷ end ∷ []) (finger_starts 6 0 0 ∷ []) ∷ [])
    -- skipping goes on from call to call, and the answer tells of this call alone
    ∷ (five ∷ loses (lost ∷ lift ∷ []) [] ∷ gets (x 1 ∷ end ∷ []) [] ∷ gets (x 2 ∷ end ∷ []) (finger_moves 5 2 0 ∷ []) ∷ []) ∷ []

-- "Other records are skipped": other types, other codes; a report end has any value
unfoldable pub others : List (List Step)
others =
    (gets (raw 3 0x30 (pos 9) ∷ raw 1 0x14a (pos 1) ∷ raw 4 4 (negsuc 4) ∷ raw 0 1 (pos 0) ∷ raw 0 2 (pos 0) ∷ raw 3 0x12f (pos 99) ∷ raw 0x103 0x2f (pos 99) ∷ []) [] ∷ [])
    ∷ (gets (id 5 ∷ raw 0 0 (negsuc 7) ∷ []) (finger_starts 5 0 0 ∷ []) ∷ []) ∷ []

unfoldable pub refusals : List (List Step)
refusals =
    -- "11 for a length not a multiple of 24, before any record"
    (gets [] [] ∷ fails ((1 ∷ []) ∷ []) 11 ∷ fails (slot 99 ∷ (1 ∷ []) ∷ []) 11 ∷ [])
    -- "12 for a slot outside 0 to 9"
    ∷ (gets (slot 9 ∷ []) [] ∷ fails (slot 10 ∷ []) 12 ∷ fails (raw 3 0x2f (negsuc 0) ∷ []) 12 ∷ [])
    -- "2 for a position over 65,536 in size"
    ∷ (gets (x 65536 ∷ y 65536 ∷ []) [] ∷ outside (x 65537 ∷ []) ∷ outside (y 65537 ∷ []) ∷ [])
    ∷ (gets (raw 3 0x35 (negsuc 65535) ∷ raw 3 0x36 (negsuc 65535) ∷ []) [] ∷ outside (raw 3 0x35 (negsuc 65536) ∷ []) ∷ outside (raw 3 0x36 (negsuc 65536) ∷ []) ∷ [])
    -- "or a tracking id below -1"
    ∷ (outside (raw 3 0x39 (negsuc 1) ∷ []) ∷ gets (id 2147483647 ∷ end ∷ []) (finger_starts 2147483647 0 0 ∷ []) ∷ [])
    -- "8, at the report end whose events don't fit the feed buffer": 6, 7, 13 and 14 words
    ∷ (within 6 (id 5 ∷ end ∷ []) (refuses (record { number = 8; index = None })) ∷ within 7 (id 5 ∷ end ∷ []) (gives false (finger_starts 5 0 0 ∷ [])) ∷ [])
    ∷ (five ∷ within 13 (id 6 ∷ end ∷ []) (refuses (record { number = 8; index = None })) ∷ within 14 (id 6 ∷ end ∷ []) (gives false (finger_ends 5 0 0 ∷ finger_starts 6 0 0 ∷ [])) ∷ [])
    -- "the first in record order": 8 before 12
    ∷ (within 6 (id 5 ∷ end ∷ slot 99 ∷ []) (refuses (record { number = 8; index = None })) ∷ fails (id 5 ∷ end ∷ slot 99 ∷ []) 12 ∷ [])
    -- "all left as before": also what came before the refused record
    ∷ (fails (id 5 ∷ end ∷ slot 3 ∷ lost ∷ end ∷ slot 99 ∷ []) 12 ∷ gets (end ∷ []) [] ∷ five ∷ []) ∷ []

unfoldable pub cases : List (List Step)
cases = then_now ++ within_a_report ++ positions ++ slots ++ dropped ++ others ++ refusals

-- ---- the check
unfoldable pub reply_of : Bool → KernelOutcome → Reply
reply_of held (refused q) = refuses (kernel_row q)
reply_of held (taken next es) = gives held es

-- what the calls answer, one after the other
unfoldable pub replies : KernelTouches → List Step → List Reply
replies k [] = []
replies k (s ∷ ss) =
    let bytes = join s.records in
    let o = read k 7 bytes s.room in
    reply_of (held_dropped (all_records bytes)) o ∷ replies (kernel_of k o) ss

-- each case's answers are those that it names
abbrev pub AllPass : Type 0
AllPass = map (λ (c : List Step). replies fresh c) cases ≡ map (λ (c : List Step). map (λ (s : Step). s.reply) c) cases
