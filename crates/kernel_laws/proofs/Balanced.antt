-- Starts and fingers held before are Ends and fingers held after. Assumes nothing.
use Prim.Native.Nat.{ℕ, zero, suc, ◌+◌, ◌<◌}
use native.Mathlib.Omega.{arith}
use mathlib.Core.Path.{◌≡◌, refl, sym, ap, ◌∙◌, subst}
use mathlib.Core.Bool.{Bool, true, false, cond, true≢false}
use mathlib.Core.List.{List, [], ◌∷◌, ◌++◌, append-nil, append_assoc, map, map-append}
use borrow.Author.Tests.{eq-eqb, ne_eqb}
use lib.Dec.{eqb}
use lib.IntN.{ℤ, pos, negsuc}
use Rattle.data.specs.Bits.{bit_number}
use Rattle.feed.specs.Types.{Event, TouchPhase, Start, End}
use Rattle.kernel_values.specs.Value.{is_finger, same_number, max_slots}
use Rattle.kernel_record.specs.declared.KernelRecord.{KernelRecord}
use Rattle.kernel_record.specs.declared.KernelRecord.TheVariants.{MtSlot, MtPositionX, MtPositionY, MtTrackingId, ReportEnd, Dropped, Other}
use Rattle.kernel_record.specs.Records.{is_end}
use Rattle.kernel_touch.specs.declared.slots.Finger.{Finger}
use Rattle.kernel_touch.specs.declared.slots.Slot.{Slot}
use Rattle.kernel_touch.specs.declared.slots.KernelTouches.{KernelTouches}
use Rattle.kernel_touch.specs.Slots.{no_finger, empty_slots, fresh, put_at, put_finger, with_x, with_y, with_id, choose, skips, settle, settled}
use Rattle.kernel_touch.specs.Step.{done, skipped, after}
use Rattle.kernel_report.specs.declared.change.Change.TheVariants.{Still, Begun, Moved, Lifted, Replaced}
use Rattle.kernel_report.specs.Report.{touch, same_place, moved, replaced, change, change_events, slot_events, report}
use Rattle.kernel_read.specs.Read.{acts, events, KernelOutcome, refused, taken, all_records, kernel_of, is_taken}
use Rattle.kernel_laws.specs.Calls.{Call, outcome, events_in, after_calls, calls_events}
use Rattle.kernel_laws.specs.Slots.{SlotEvent, numbered, slots_report, slots_run, slots_call, slots_calls, of_slot, in_phase, count, starts, ends, reported, held_in, held}
use Rattle.kernel_laws.specs.Laws.{Balance}
use Rattle.kernel_laws.proofs.Runs.{Steps, last, step, steps_of, taken_call}

abbrev holds : Finger → ℕ
holds f = bit_number (is_finger f.id)

-- ---- one slot at a report end
abbrev Even : ℕ → ℕ → List Event → Type 0
Even before after es = starts es + before ≡ ends es + after

same_finger : (a b : ℤ) → same_number a b ≡ true → is_finger a ≡ is_finger b
unfolding same_number is_finger
same_finger (pos a) (pos b) e = refl
same_finger (pos a) (negsuc b) e = absurd (true≢false (sym e))
same_finger (negsuc a) (pos b) e = absurd (true≢false (sym e))
same_finger (negsuc a) (negsuc b) e = refl

moved_even : (d : ℕ) (s : Slot) → is_finger s.acted.id ≡ is_finger s.now.id → Even (holds s.acted) (holds s.now) (change_events d (moved s.acted s.now) s)
unfolding moved change_events touch count in_phase
moved_even d s e = go (same_place s.acted s.now) (is_finger s.now.id)
  where
    go : (p f : Bool) → Even (holds s.acted) (holds s.now) (change_events d (cond p Still (cond f Moved Still)) s)
    go true f = ap (λ (b : Bool). 0 + bit_number b) e
    go false true = ap (λ (b : Bool). 0 + 0 + bit_number b) e
    go false false = ap (λ (b : Bool). 0 + bit_number b) e

replaced_even : (d : ℕ) (s : Slot) → Even (holds s.acted) (holds s.now) (change_events d (replaced s.acted.id s.now.id) s)
unfolding replaced change_events touch count in_phase
replaced_even d s = go (is_finger s.acted.id) (is_finger s.now.id)
  where
    go : (a b : Bool) → Even (bit_number a) (bit_number b) (change_events d (cond a (cond b Replaced Lifted) (cond b Begun Still)) s)
    go true true = refl
    go true false = refl
    go false true = refl
    go false false = refl

slot_even : (d : ℕ) (s : Slot) → Even (holds s.acted) (holds s.now) (slot_events d s)
unfolding slot_events change
slot_even d s = go (same_number s.acted.id s.now.id) refl
  where
    go : (b : Bool) → same_number s.acted.id s.now.id ≡ b →
        Even (holds s.acted) (holds s.now) (change_events d (cond b (moved s.acted s.now) (replaced s.acted.id s.now.id)) s)
    go true e = moved_even d s (same_finger s.acted.id s.now.id e)
    go false e = replaced_even d s

-- ---- counts of lists after lists
count_append : (ph : TouchPhase) (es fs : List Event) → count ph (es ++ fs) ≡ count ph es + count ph fs
unfolding count
count_append ph [] fs = omega arith
count_append ph (e ∷ es) fs = omega (arith, count_append ph es fs)

even_append : (a b c : ℕ) (es fs : List Event) → Even a b es → Even b c fs → Even a c (es ++ fs)
even_append a b c es fs g h = omega (arith, g, h, count_append Start es fs, count_append End es fs)

even_beside : (a b c d : ℕ) (es fs : List Event) → Even a b es → Even c d fs → Even (a + c) (b + d) (es ++ fs)
even_beside a b c d es fs g h = omega (arith, g, h, count_append Start es fs, count_append End es fs)

even_none : (a : ℕ) → Even a a []
unfolding count
even_none a = refl

-- ---- the events of one slot
of_append : (i : ℕ) (es fs : List SlotEvent) → of_slot i (es ++ fs) ≡ of_slot i es ++ of_slot i fs
unfolding of_slot
of_append i [] fs = refl
of_append i (e ∷ es) fs = ap (λ (l : List Event). cond (eqb e.slot i) (e.event ∷ l) l) (of_append i es fs) ∙ go (eqb e.slot i)
  where
    go : (b : Bool) → cond b (e.event ∷ (of_slot i es ++ of_slot i fs)) (of_slot i es ++ of_slot i fs) ≡ cond b (e.event ∷ of_slot i es) (of_slot i es) ++ of_slot i fs
    go true = refl
    go false = refl

of_own : (i : ℕ) (es : List Event) → of_slot i (numbered i es) ≡ es
unfolding of_slot numbered
of_own i [] = refl
of_own i (e ∷ es) = (λ j. cond (eq-eqb i i refl j) (e ∷ of_own i es j) (of_own i es j))

of_other : (i n : ℕ) (es : List Event) → (n ≡ i → ⊥) → of_slot i (numbered n es) ≡ []
unfolding of_slot numbered
of_other i n [] h = refl
of_other i n (e ∷ es) h = (λ j. cond (ne_eqb n i h j) (e ∷ of_other i n es h j) (of_other i n es h j))

of_earlier : (d i n : ℕ) (ss : List Slot) → i < n → of_slot i (slots_report d n ss) ≡ []
unfolding slots_report
of_earlier d i n [] h = unfold of_slot in refl
of_earlier d i n (s ∷ ss) h =
    of_append i (numbered n (slot_events d s)) (slots_report d (suc n) ss)
    ∙ (λ j. of_other i n (slot_events d s) (λ e. omega arith) j ++ of_earlier d i (suc n) ss (omega arith) j)

-- ---- a report
abbrev acted_fingers : List Slot → List Finger
acted_fingers ss = map (λ (s : Slot). s.acted) ss

slot_report_even : (d n j : ℕ) (ss : List Slot) →
    Even (held_in j (acted_fingers ss)) (held_in j (acted_fingers (map settle ss))) (of_slot (n + j) (slots_report d n ss))
unfolding slots_report held_in settle
slot_report_even d n j [] = unfold of_slot in even_none 0
slot_report_even d n zero (s ∷ ss) =
    let here : n + 0 ≡ n = omega arith in
    let all : of_slot (n + 0) (numbered n (slot_events d s) ++ slots_report d (suc n) ss) ≡ slot_events d s =
    ap (λ (i : ℕ). of_slot i (numbered n (slot_events d s) ++ slots_report d (suc n) ss)) here
    ∙ of_append n (numbered n (slot_events d s)) (slots_report d (suc n) ss)
    ∙ (λ j. of_own n (slot_events d s) j ++ of_earlier d n (suc n) ss (omega arith) j)
    ∙ append-nil (slot_events d s) in
    subst (λ (es : List Event). Even (holds s.acted) (holds s.now) es) (sym all) (slot_even d s)
slot_report_even d n (suc j) (s ∷ ss) =
    let there : suc n + j ≡ n + suc j = omega arith in
    let all : of_slot (suc n + j) (slots_report d (suc n) ss) ≡ of_slot (n + suc j) (numbered n (slot_events d s) ++ slots_report d (suc n) ss) =
    ap (λ (i : ℕ). of_slot i (slots_report d (suc n) ss)) there
    ∙ ap (λ (l : List Event). l ++ of_slot (n + suc j) (slots_report d (suc n) ss)) (sym (of_other (n + suc j) n (slot_events d s) (λ e. omega arith)))
    ∙ sym (of_append (n + suc j) (numbered n (slot_events d s)) (slots_report d (suc n) ss)) in
    subst (λ (es : List Event). Even (held_in j (acted_fingers ss)) (held_in j (acted_fingers (map settle ss))) es) all (slot_report_even d (suc n) j ss)

report_even : (d : ℕ) (ss : List Slot) → Even (held (acted_fingers ss)) (held (acted_fingers (map settle ss))) (report d ss)
unfolding report held settle
report_even d [] = even_none 0
report_even d (s ∷ ss) =
    even_beside (holds s.acted) (holds s.now) (held (acted_fingers ss)) (held (acted_fingers (map settle ss))) (slot_events d s) (report d ss)
    (slot_even d s) (report_even d ss)

-- ---- a record: it settles all slots, or leaves the fingers of the last report end
put_kept : (n : ℕ) (f : Finger) (ss : List Slot) → acted_fingers (put_at n f ss) ≡ acted_fingers ss
unfolding put_at
put_kept n f [] = refl
put_kept zero f (s ∷ ss) = refl
put_kept (suc n) f (s ∷ ss) = ap (λ (l : List Finger). s.acted ∷ l) (put_kept n f ss)

done_kept : (r : KernelRecord) (k : KernelTouches) → is_end r ≡ false → acted_fingers (done r k).slots ≡ acted_fingers k.slots
unfolding done is_end choose with_x with_y with_id put_finger skips
done_kept (MtSlot v) k e = refl
done_kept (MtPositionX v) k e = put_kept k.chosen _ k.slots
done_kept (MtPositionY v) k e = put_kept k.chosen _ k.slots
done_kept (MtTrackingId v) k e = put_kept k.chosen _ k.slots
done_kept ReportEnd k e = absurd (true≢false e)
done_kept Dropped k e = refl
done_kept Other k e = refl

done_settles : (r : KernelRecord) (k : KernelTouches) → is_end r ≡ true → (done r k).slots ≡ map settle k.slots
unfolding done is_end settled
done_settles (MtSlot v) k e = absurd (true≢false (sym e))
done_settles (MtPositionX v) k e = absurd (true≢false (sym e))
done_settles (MtPositionY v) k e = absurd (true≢false (sym e))
done_settles (MtTrackingId v) k e = absurd (true≢false (sym e))
done_settles ReportEnd k e = refl
done_settles Dropped k e = absurd (true≢false (sym e))
done_settles Other k e = absurd (true≢false (sym e))

skipped_kept : (r : KernelRecord) (k : KernelTouches) → (skipped r k).slots ≡ k.slots
unfolding skipped skips
skipped_kept r k = go (is_end r)
  where
    go : (b : Bool) → (cond b (skips false k) k).slots ≡ k.slots
    go true = refl
    go false = refl

after_kept : (r : KernelRecord) (k : KernelTouches) → acts r k ≡ false → acted_fingers (after r k).slots ≡ acted_fingers k.slots
unfolding acts after
after_kept r k a = go k.skipping refl
  where
    go : (b : Bool) → k.skipping ≡ b → acted_fingers (cond k.skipping (skipped r k) (done r k)).slots ≡ acted_fingers k.slots
    go true e = ap (λ (b : Bool). acted_fingers (cond b (skipped r k) (done r k)).slots) e ∙ ap acted_fingers (skipped_kept r k)
    go false e =
        ap (λ (b : Bool). acted_fingers (cond b (skipped r k) (done r k)).slots) e
        ∙ done_kept r k (ap (λ (b : Bool). cond b false (is_end r)) (sym e) ∙ a)

after_settles : (r : KernelRecord) (k : KernelTouches) → acts r k ≡ true → (after r k).slots ≡ map settle k.slots
unfolding acts after
after_settles r k a = go k.skipping refl
  where
    go : (b : Bool) → k.skipping ≡ b → (cond k.skipping (skipped r k) (done r k)).slots ≡ map settle k.slots
    go true e = absurd (true≢false (sym a ∙ ap (λ (b : Bool). cond b false (is_end r)) e))
    go false e =
        ap (λ (b : Bool). (cond b (skipped r k) (done r k)).slots) e
        ∙ done_settles r k (ap (λ (b : Bool). cond b false (is_end r)) (sym e) ∙ a)

-- the events of a record, by slot and together
record_even : (d i : ℕ) (r : KernelRecord) (k : KernelTouches) →
    Even (held_in i (reported k)) (held_in i (reported (after r k))) (of_slot i (cond (acts r k) (slots_report d 0 k.slots) []))
unfolding reported
record_even d i r k = go (acts r k) refl
  where
    go : (b : Bool) → acts r k ≡ b → Even (held_in i (acted_fingers k.slots)) (held_in i (acted_fingers (after r k).slots)) (of_slot i (cond b (slots_report d 0 k.slots) []))
    go true a =
        subst (λ (ss : List Slot). Even (held_in i (acted_fingers k.slots)) (held_in i (acted_fingers ss)) (of_slot i (slots_report d 0 k.slots))) (sym (after_settles r k a))
        (subst (λ (n : ℕ). Even (held_in i (acted_fingers k.slots)) (held_in i (acted_fingers (map settle k.slots))) (of_slot n (slots_report d 0 k.slots))) here (slot_report_even d 0 i k.slots))
      where
        here : 0 + i ≡ i
        here = omega arith
    go false a =
        subst (λ (fs : List Finger). Even (held_in i (acted_fingers k.slots)) (held_in i fs) (of_slot i [])) (sym (after_kept r k a))
        (unfold of_slot in even_none (held_in i (acted_fingers k.slots)))

events_even : (d : ℕ) (r : KernelRecord) (k : KernelTouches) → Even (held (reported k)) (held (reported (after r k))) (events d r k)
unfolding reported events
events_even d r k = go (acts r k) refl
  where
    go : (b : Bool) → acts r k ≡ b → Even (held (acted_fingers k.slots)) (held (acted_fingers (after r k).slots)) (cond b (report d k.slots) [])
    go true a =
        subst (λ (ss : List Slot). Even (held (acted_fingers k.slots)) (held (acted_fingers ss)) (report d k.slots)) (sym (after_settles r k a)) (report_even d k.slots)
    go false a =
        subst (λ (fs : List Finger). Even (held (acted_fingers k.slots)) (held fs) []) (sym (after_kept r k a)) (even_none (held (acted_fingers k.slots)))

-- ---- together they are the events that the records give
abbrev together : List SlotEvent → List Event
together es = map (λ (e : SlotEvent). e.event) es

NumberedTogether : (n : ℕ) (es : List Event) → together (numbered n es) ≡ es
unfolding numbered
NumberedTogether n [] = refl
NumberedTogether n (e ∷ es) = ap (λ (l : List Event). e ∷ l) (NumberedTogether n es)

report_together : (d n : ℕ) (ss : List Slot) → together (slots_report d n ss) ≡ report d ss
unfolding slots_report report
report_together d n [] = refl
report_together d n (s ∷ ss) =
    map-append (λ (e : SlotEvent). e.event) (numbered n (slot_events d s)) (slots_report d (suc n) ss)
    ∙ (λ j. NumberedTogether n (slot_events d s) j ++ report_together d (suc n) ss j)

record_together : (d : ℕ) (r : KernelRecord) (k : KernelTouches) → together (cond (acts r k) (slots_report d 0 k.slots) []) ≡ events d r k
unfolding events
record_together d r k = go (acts r k)
  where
    go : (b : Bool) → together (cond b (slots_report d 0 k.slots) []) ≡ cond b (report d k.slots) []
    go true = report_together d 0 k.slots
    go false = refl

steps_together : (device room : ℕ) (next : KernelTouches) (all : List Event) (rs : List KernelRecord) (k : KernelTouches) (es : List Event) →
    Steps device room next all rs k es → es ++ together (slots_run device rs k) ≡ all
unfolding slots_run
steps_together device room next all _ k es (last e f) = append-nil es ∙ f
steps_together device room next all (r ∷ rs) k es (step v s) =
    let here = cond (acts r k) (slots_report device 0 k.slots) [] in
    let later = slots_run device rs (after r k) in
    ap (λ (l : List Event). es ++ l)
    (map-append (λ (e : SlotEvent). e.event) here later ∙ ap (λ (l : List Event). l ++ together later) (record_together device r k))
    ∙ sym (append_assoc es (events device r k) (together later))
    ∙ steps_together device room next all rs (after r k) (es ++ events device r k) s

-- ---- the records of a taken call
steps_slot_even : (device room i : ℕ) (next : KernelTouches) (all : List Event) (rs : List KernelRecord) (k : KernelTouches) (es : List Event) →
    Steps device room next all rs k es → Even (held_in i (reported k)) (held_in i (reported next)) (of_slot i (slots_run device rs k))
unfolding slots_run
steps_slot_even device room i next all _ k es (last e f) =
    subst (λ (x : KernelTouches). Even (held_in i (reported k)) (held_in i (reported x)) (of_slot i [])) e (unfold of_slot in even_none (held_in i (reported k)))
steps_slot_even device room i next all (r ∷ rs) k es (step v s) =
    let here = cond (acts r k) (slots_report device 0 k.slots) [] in
    let later = slots_run device rs (after r k) in
    subst (λ (l : List Event). Even (held_in i (reported k)) (held_in i (reported next)) l) (sym (of_append i here later))
    (even_append (held_in i (reported k)) (held_in i (reported (after r k))) (held_in i (reported next)) (of_slot i here) (of_slot i later)
    (record_even device i r k) (steps_slot_even device room i next all rs (after r k) (es ++ events device r k) s))

steps_even : (device room before : ℕ) (next : KernelTouches) (all : List Event) (rs : List KernelRecord) (k : KernelTouches) (es : List Event) →
    Even before (held (reported k)) es → Steps device room next all rs k es → Even before (held (reported next)) all
steps_even device room before next all _ k es h (last e f) =
    subst (λ (x : KernelTouches). Even before (held (reported x)) all) e (subst (λ (l : List Event). Even before (held (reported k)) l) f h)
steps_even device room before next all (r ∷ rs) k es h (step v s) =
    steps_even device room before next all rs (after r k) (es ++ events device r k)
    (even_append before (held (reported k)) (held (reported (after r k))) es (events device r k) h (events_even device r k)) s

-- ---- a call: a refused one gives no event and leaves the slots
module _ (k : KernelTouches) (c : Call) where
  taken_steps : (next : KernelTouches) (es : List Event) → outcome k c ≡ taken next es → Steps c.device c.room next es (all_records c.bytes) k []
  unfolding outcome
  taken_steps next es e =
      steps_of c.device c.room next es (all_records c.bytes) k [] (taken_call k c.device c.bytes c.room next es e).runs

  call_together : together (slots_call k c) ≡ events_in (outcome k c)
  unfolding slots_call is_taken events_in
  call_together = go (outcome k c) refl
    where
      go : (o : KernelOutcome) → outcome k c ≡ o → together (cond (is_taken o) (slots_run c.device (all_records c.bytes) k) []) ≡ events_in o
      go (refused q) e = refl
      go (taken next es) e = steps_together c.device c.room next es (all_records c.bytes) k [] (taken_steps next es e)

  call_slot_even : (i : ℕ) → Even (held_in i (reported k)) (held_in i (reported (kernel_of k (outcome k c)))) (of_slot i (slots_call k c))
  unfolding slots_call is_taken kernel_of
  call_slot_even i = go (outcome k c) refl
    where
      go : (o : KernelOutcome) → outcome k c ≡ o →
          Even (held_in i (reported k)) (held_in i (reported (kernel_of k o))) (of_slot i (cond (is_taken o) (slots_run c.device (all_records c.bytes) k) []))
      go (refused q) e = unfold of_slot in even_none (held_in i (reported k))
      go (taken next es) e = steps_slot_even c.device c.room i next es (all_records c.bytes) k [] (taken_steps next es e)

  call_even : Even (held (reported k)) (held (reported (kernel_of k (outcome k c)))) (events_in (outcome k c))
  unfolding kernel_of events_in
  call_even = go (outcome k c) refl
    where
      go : (o : KernelOutcome) → outcome k c ≡ o → Even (held (reported k)) (held (reported (kernel_of k o))) (events_in o)
      go (refused q) e = even_none (held (reported k))
      go (taken next es) e =
          steps_even c.device c.room (held (reported k)) next es (all_records c.bytes) k [] (even_none (held (reported k))) (taken_steps next es e)

-- ---- lists of calls
calls_together : (k : KernelTouches) (cs : List Call) → together (slots_calls k cs) ≡ calls_events k cs
unfolding slots_calls calls_events
calls_together k [] = refl
calls_together k (c ∷ cs) =
    let next = kernel_of k (outcome k c) in
    map-append (λ (e : SlotEvent). e.event) (slots_call k c) (slots_calls next cs) ∙ (λ j. call_together k c j ++ calls_together next cs j)

calls_slot_even : (k : KernelTouches) (cs : List Call) (i : ℕ) → Even (held_in i (reported k)) (held_in i (reported (after_calls k cs))) (of_slot i (slots_calls k cs))
unfolding slots_calls after_calls
calls_slot_even k [] i = unfold of_slot in even_none (held_in i (reported k))
calls_slot_even k (c ∷ cs) i =
    let next = kernel_of k (outcome k c) in
    subst (λ (l : List Event). Even (held_in i (reported k)) (held_in i (reported (after_calls next cs))) l) (sym (of_append i (slots_call k c) (slots_calls next cs)))
    (even_append (held_in i (reported k)) (held_in i (reported next)) (held_in i (reported (after_calls next cs))) (of_slot i (slots_call k c)) (of_slot i (slots_calls next cs))
    (call_slot_even k c i) (calls_slot_even next cs i))

calls_even : (k : KernelTouches) (cs : List Call) → Even (held (reported k)) (held (reported (after_calls k cs))) (calls_events k cs)
unfolding calls_events after_calls
calls_even k [] = even_none (held (reported k))
calls_even k (c ∷ cs) =
    let next = kernel_of k (outcome k c) in
    even_append (held (reported k)) (held (reported next)) (held (reported (after_calls next cs))) (events_in (outcome k c)) (calls_events next cs)
    (call_even k c) (calls_even next cs)

-- ---- fresh slots hold no finger
none_held_in : (n i : ℕ) → held_in i (acted_fingers (empty_slots n)) ≡ 0
unfolding held_in empty_slots no_finger is_finger
none_held_in zero i = refl
none_held_in (suc n) zero = refl
none_held_in (suc n) (suc i) = none_held_in n i

none_held : (n : ℕ) → held (acted_fingers (empty_slots n)) ≡ 0
unfolding held empty_slots no_finger is_finger
none_held zero = refl
none_held (suc n) = ap (λ (m : ℕ). 0 + m) (none_held n)

pub balance : Balance
unfolding reported fresh
balance =
    record {
      together = calls_together;
      by_slot = calls_slot_even;
      in_all = calls_even;
      from_fresh = λ cs. omega (arith, calls_even fresh cs, none_held max_slots);
      slot_from_fresh = λ cs i. omega (arith, calls_slot_even fresh cs i, none_held_in max_slots i);
    }
