-- Two calls are one, and what the caller has of a call. Assumes nothing.
use Prim.Native.Nat.{ℕ, ◌+◌, ◌-◌, ◌%◌, ◌≤◌}
use native.Mathlib.Omega.{arith}
use mathlib.Core.Path.{◌≡◌, refl, sym, ap, ◌∙◌, subst}
use mathlib.Core.Bool.{Bool, true, cond}
use mathlib.Core.List.{List, [], ◌∷◌, ◌++◌, append_assoc, append-nil}
use borrow.Author.Tests.{eq-eqb, eqb-true}
use lib.Dec.{leb}
use lib.ListN.{length, length-append, take, drop}
use lib.Seq.{take_at}
use Rattle.feed.specs.Types.{Event}
use Rattle.feed.specs.Encode.{encode_all}
use Rattle.kernel_record.specs.declared.KernelRecord.{KernelRecord}
use Rattle.kernel_record.specs.Records.{record_bytes, held_dropped}
use Rattle.kernel_touch.specs.declared.slots.KernelTouches.{KernelTouches}
use Rattle.kernel_touch.specs.declared.answer.KernelRefusal.{KernelRefusal}
use Rattle.kernel_touch.specs.declared.answer.KernelRefusal.TheVariants.{FeedFull}
use Rattle.kernel_touch.specs.declared.answer.Taken.{Taken}
use Rattle.std.specs.Prelude.{Result, Ok, Err, ⊤}
use Rattle.kernel_touch.specs.Slots.{fresh}
use Rattle.kernel_touch.specs.Step.{after, refusal, unless}
use Rattle.kernel_report.proofs.Written.{encode_append}
use Rattle.kernel_read.specs.Read.{KernelRead, acts, events, verdict, KernelOutcome, refused, taken, by, run, all_records, read, words_of, feed_of, answer_of, read_of}
use Rattle.kernel_read.proofs.Run.{shifted}
use Rattle.kernel_laws.specs.Calls.{Call, Called, none_yet, once, outcome, events_in, after_calls, joined, then_read}
use Rattle.kernel_laws.specs.Slots.{InRange}
use Rattle.kernel_laws.specs.Laws.{Running, Says, Fits, Answered, GoesOn}
use Rattle.kernel_laws.proofs.Runs.{read_run, taken_call, call_fits, room_enough}
use Rattle.kernel_laws.proofs.Range.{keeps_range, decodes}
use Rattle.kernel_laws.proofs.Bytes.{joined_records, joined_whole, joined_dropped}

-- ---- records after records
unfoldable then_run : KernelOutcome → ℕ → ℕ → List KernelRecord → KernelOutcome
then_run (refused q) device room ss = refused q
then_run (taken k es) device room ss = run device room ss k es

by_then : (q : Result ⊤ KernelRefusal) (o : KernelOutcome) (device room : ℕ) (ss : List KernelRecord) → by q (then_run o device room ss) ≡ then_run (by q o) device room ss
unfolding by then_run
by_then (Ok t) o device room ss = refl
by_then (Err q) o device room ss = refl

run_append : (device room : ℕ) (rs ss : List KernelRecord) (k : KernelTouches) (es : List Event) →
    run device room (rs ++ ss) k es ≡ then_run (run device room rs k es) device room ss
unfolding run then_run
run_append device room [] ss k es = refl
run_append device room (r ∷ rs) ss k es =
    let v = verdict room (es ++ events device r k) r k in
    ap (by v) (run_append device room rs ss (after r k) (es ++ events device r k))
    ∙ by_then v (run device room rs (after r k) (es ++ events device r k)) device room ss

-- ---- with events before: in the room that they leave
verdict_joined : (room : ℕ) (es fs : List Event) (r : KernelRecord) (k : KernelTouches) → length (encode_all es) ≤ room →
    verdict room (es ++ fs) r k ≡ verdict (room - length (encode_all es)) fs r k
unfolding verdict
verdict_joined room es fs r k h =
    let both : length (encode_all (es ++ fs)) ≡ length (encode_all es) + length (encode_all fs) =
    ap length (encode_append es fs) ∙ length-append (encode_all es) (encode_all fs) in
    ap (λ (b : Bool). cond (acts r k) (unless b FeedFull) (refusal r k))
    (ap (λ (n : ℕ). leb n room) both ∙ shifted (length (encode_all es)) (length (encode_all fs)) (room - length (encode_all es)) room (omega arith))

by_joined : (q : Result ⊤ KernelRefusal) (es : List Event) (o : KernelOutcome) → by q (joined es o) ≡ joined es (by q o)
unfolding by joined
by_joined (Ok t) es o = refl
by_joined (Err q) es o = refl

run_joined : (device room : ℕ) (es : List Event) → length (encode_all es) ≤ room → (rs : List KernelRecord) (k : KernelTouches) (fs : List Event) →
    run device room rs k (es ++ fs) ≡ joined es (run device (room - length (encode_all es)) rs k fs)
unfolding run joined
run_joined device room es h [] k fs = refl
run_joined device room es h (r ∷ rs) k fs =
    let left = room - length (encode_all es) in
    let more = events device r k in
    let rest = run device left rs (after r k) (fs ++ more) in
    (λ j. by (verdict room (append_assoc es fs more j) r k) (run device room rs (after r k) (append_assoc es fs more j)))
    ∙ (λ j. by (verdict_joined room es (fs ++ more) r k h j) (run_joined device room es h rs (after r k) (fs ++ more) j))
    ∙ by_joined (verdict left (fs ++ more) r k) es rest

-- ---- bytes after bytes
read_is : (k : KernelTouches) (device : ℕ) (bytes : List ℕ) (room : ℕ) → length bytes % record_bytes ≡ 0 →
    read k device bytes room ≡ run device room (all_records bytes) k []
read_is k device bytes room h = read_run k device bytes room true (eq-eqb (length bytes % record_bytes) 0 h)

pub one_buffer : (k : KernelTouches) (device : ℕ) (bs cs : List ℕ) (room : ℕ) → length bs % record_bytes ≡ 0 → length cs % record_bytes ≡ 0 →
    read k device (bs ++ cs) room ≡ then_read (read k device bs room) device cs room
unfolding then_run then_read
one_buffer k device bs cs room b c =
    read_is k device (bs ++ cs) room (joined_whole bs cs b c)
    ∙ ap (λ (rs : List KernelRecord). run device room rs k []) (joined_records bs cs b c)
    ∙ run_append device room (all_records bs) (all_records cs) k []
    ∙ ap (λ (o : KernelOutcome). then_run o device room (all_records cs)) (sym (read_is k device bs room b))
    ∙ go (read k device bs room) refl
  where
    go : (o : KernelOutcome) → read k device bs room ≡ o → then_run o device room (all_records cs) ≡ then_read o device cs room
    go (refused q) e = refl
    go (taken next es) e =
        let fit = call_fits k device bs room next es e in
        ap (run device room (all_records cs) next) (sym (append-nil es))
        ∙ run_joined device room es fit (all_records cs) next []
        ∙ ap (joined es) (sym (read_is next device cs (room - length (encode_all es)) c))

enough : (k k' k'' : KernelTouches) (device : ℕ) (bs cs : List ℕ) (es fs : List Event) (room room' all : ℕ) →
    read k device bs room ≡ taken k' es → read k' device cs room' ≡ taken k'' fs → length (encode_all (es ++ fs)) ≤ all →
    read k device (bs ++ cs) all ≡ taken k'' (es ++ fs)
unfolding then_read joined
enough k k' k'' device bs cs es fs room room' all e f h =
    let both : length (encode_all (es ++ fs)) ≡ length (encode_all es) + length (encode_all fs) =
    ap length (encode_append es fs) ∙ length-append (encode_all es) (encode_all fs) in
    let left = all - length (encode_all es) in
    let first = room_enough k device bs room all k' es e (omega arith) in
    let second = room_enough k' device cs room' left k'' fs f (omega arith) in
    one_buffer k device bs cs all
    (eqb-true (length bs % record_bytes) 0 (taken_call k device bs room k' es e).whole)
    (eqb-true (length cs % record_bytes) 0 (taken_call k' device cs room' k'' fs f).whole)
    ∙ ap (λ (o : KernelOutcome). then_read o device cs all) first
    ∙ ap (joined es) second

pub goes_on : GoesOn
goes_on = record { one_buffer = one_buffer; room_enough = enough; dropped = joined_dropped }

-- ---- what the caller has of a call
pub fits : Fits
unfolding outcome
fits k c next es e = call_fits k c.device c.bytes c.room next es e

call_answered : (k : KernelTouches) (device : ℕ) (bytes feed feed' : List ℕ) (t : Taken) (held : Bool) (o : KernelOutcome) → InRange k.slots →
    read k device bytes (length feed) ≡ o → answer_of held o ≡ Ok t → feed' ≡ feed_of feed o →
    (t.words ≤ length feed) × Says (events_in o) (take t.words feed')
unfolding answer_of feed_of words_of events_in outcome
call_answered k device bytes feed feed' t held (refused q) h e a f = let z : ◌≡◌ {A = ℕ} 0 1 = cc in absurd (omega arith)
call_answered k device bytes feed feed' t held (taken next es) h e a f =
    let c : Call = record { device = device; bytes = bytes; room = length feed } in
    let ws = encode_all es in
    let same : record { words = length ws; dropped = held } ≡ t = cc in
    let words : length ws ≡ t.words = ap (λ (x : Taken). x.words) same in
    let first : take t.words feed' ≡ ws = ap (take t.words) f ∙ take_at ws (drop (length ws) feed) t.words words in
    (omega (arith, words, fits k c next es e), subst (λ (x : List ℕ). Says es x) (sym first) (decodes k c next es h e))

pub answered : Answered
unfolding read_of
answered past device bytes feed r feed' t h e =
    let k = after_calls fresh past in
    let o = read k device bytes (length feed) in
    let held = held_dropped (all_records bytes) in
    let same : answer_of held o ≡ Ok t = sym (ap (λ (x : KernelRead). x.answer) h.result) ∙ e in
    call_answered k device bytes feed feed' t held o (keeps_range.calls past) refl same h.feed_is

-- ---- the slots that it returns are those of the definitions
called : {k : KernelTouches} {cs : List Call} {last : KernelTouches} → Called k cs last → last ≡ after_calls k cs
unfolding after_calls outcome read_of
called none_yet = refl
called (once {k = k} {cs = cs} device bytes feed feed' r h rest) =
    called rest ∙ ap (λ (x : KernelTouches). after_calls x cs) (ap (λ (x : KernelRead). x.kernel) h.result)

pub running : Running
running k k' cs c = called c
