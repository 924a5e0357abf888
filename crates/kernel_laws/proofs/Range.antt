-- Positions stay in the domain, and so what is written is a feed of the call's events. Assumes nothing.
use Prim.Native.Nat.{ℕ, zero, suc, ◌≤◌}
use native.Mathlib.Omega.{arith}
use mathlib.Core.Path.{◌≡◌, refl, sym, ap, ◌∙◌, subst}
use mathlib.Core.Bool.{Bool, true, false, cond, ◌&&◌}
use mathlib.Core.List.{List, [], ◌∷◌, ◌++◌, map}
use lib.Dec.{T, leb, leb→le, lit<}
use lib.IntN.{ℤ, pos, negsuc, nat_abs}
use lib.ListN.{length}
use lib.Ieee.{Float, binary32, of_int, of_bits, round, le, fits}
use lib.Ieee.Fits.{of_int-fits, and_i}
use Rattle.ieee_laws.proofs.RoundOrder.{round_order}
use Rattle.data.specs.Limits.{coordinate_ok, within32, min_coordinate, max_coordinate, pos_ok, maybe_force_ok, event_ok, max_events}
use Rattle.feed.specs.Types.{Event, TouchPhase, Start, Move, End, PassRefusal, TooManyEvents}
use Rattle.feed.specs.Decode.{good, Item, items}
use Rattle.feed.specs.Feed.{first_refusal, then_refusal, feed_refusal}
use Rattle.feed.specs.Encode.{encode_all, fields_ok}
use Rattle.feed_events.specs.Events.{AllOk}
use Rattle.feed_events.proofs.Events.{encoded_items, encoded_events}
use Rattle.kernel_values.specs.Value.{position_ok, max_position, max_slots}
use Rattle.kernel_record.specs.declared.KernelRecord.{KernelRecord}
use Rattle.kernel_record.specs.declared.KernelRecord.TheVariants.{MtSlot, MtPositionX, MtPositionY, MtTrackingId, ReportEnd, Dropped, Other}
use Rattle.kernel_record.specs.Records.{is_end}
use Rattle.kernel_touch.specs.declared.slots.Finger.{Finger}
use Rattle.kernel_touch.specs.declared.slots.Slot.{Slot}
use Rattle.kernel_touch.specs.declared.slots.KernelTouches.{KernelTouches}
use Rattle.kernel_touch.specs.declared.answer.KernelRefusal.{KernelRefusal}
use Rattle.kernel_touch.specs.declared.answer.KernelRefusal.TheVariants.{FeedFull}
use Rattle.std.specs.Prelude.{Result, Ok, None, Some, ⊤}
use Rattle.kernel_touch.specs.Slots.{no_finger, empty_slots, fresh, finger_at, put_at, chosen_finger, put_finger, with_x, with_y, with_id, choose, skips, settle, settled}
use Rattle.kernel_touch.specs.Step.{unless, bad, done, skipped, after, refusal}
use Rattle.kernel_report.specs.declared.change.Change.{Change}
use Rattle.kernel_report.specs.declared.change.Change.TheVariants.{Still, Begun, Moved, Lifted, Replaced}
use Rattle.kernel_report.specs.Report.{position, touch, change, change_events, slot_events, report}
use Rattle.kernel_read.specs.Read.{acts, events, verdict, KernelOutcome, refused, taken, all_records, kernel_of}
use Rattle.kernel_laws.specs.Calls.{Call, outcome, after_calls}
use Rattle.kernel_laws.specs.Slots.{InRange}
use Rattle.kernel_laws.specs.Laws.{KeepsRange, Says, Decodes}
use Rattle.kernel_laws.proofs.Runs.{Steps, last, step, steps_of, taken_call}

-- ---- a position is a coordinate
max_is : max_coordinate ≡ round binary32 false max_position 1
unfolding max_coordinate of_bits round
max_is = refl

min_is : min_coordinate ≡ round binary32 true max_position 1
unfolding min_coordinate of_bits round
min_is = refl

abbrev Between : Float → Type 0
Between x = T (le min_coordinate x) × T (le x max_coordinate)

between : (v : ℤ) → nat_abs v ≤ max_position → Between (of_int binary32 v)
unfolding of_int
between (pos n) h = (
  subst (λ (z : Float). T (le z (round binary32 false n 1))) (sym min_is) (round_order binary32 true false max_position 1 n 1 (lit< tt) (lit< tt) (omega arith)),
  subst (λ (z : Float). T (le (round binary32 false n 1) z)) (sym max_is) (round_order binary32 false false n 1 max_position 1 (lit< tt) (lit< tt) (omega arith)),
)
between (negsuc n) h = (
  subst (λ (z : Float). T (le z (round binary32 true (suc n) 1))) (sym min_is) (round_order binary32 true true max_position 1 (suc n) 1 (lit< tt) (lit< tt) (omega arith)),
  subst (λ (z : Float). T (le (round binary32 true (suc n) 1) z)) (sym max_is) (round_order binary32 true false (suc n) 1 max_position 1 (lit< tt) (lit< tt) (omega arith)),
)

pub position_coordinate : (v : ℤ) → T (position_ok v) → T (coordinate_ok (of_int binary32 v))
unfolding position_ok coordinate_ok within32
position_coordinate v h =
    let b = between v (leb→le (nat_abs v) max_position h) in
    let x = of_int binary32 v in
    and_i (fits binary32 x) (le min_coordinate x && le x max_coordinate) (of_int-fits binary32 v)
    (and_i (le min_coordinate x) (le x max_coordinate) b.0 b.1)

-- ---- every record that is not refused keeps the positions in range
abbrev InPlace : Finger → Type 0
InPlace f = T (position_ok f.x) × T (position_ok f.y)

no_finger_in : InPlace no_finger
unfolding no_finger position_ok
no_finger_in = (tt, tt)

finger_in : (n : ℕ) (ss : List Slot) → InRange ss → InPlace (finger_at n ss)
unfolding finger_at
finger_in n [] h = no_finger_in
finger_in zero (s ∷ ss) h = h.0
finger_in (suc n) (s ∷ ss) h = finger_in n ss h.1

put_in : (n : ℕ) (f : Finger) (ss : List Slot) → InPlace f → InRange ss → InRange (put_at n f ss)
unfolding put_at
put_in n f [] g h = tt
put_in zero f (s ∷ ss) g h = (g, h.1)
put_in (suc n) f (s ∷ ss) g h = (h.0, put_in n f ss g h.1)

settle_in : (ss : List Slot) → InRange ss → InRange (map settle ss)
unfolding settle
settle_in [] h = tt
settle_in (s ∷ ss) h = (h.0, settle_in ss h.1)

empty_in : (n : ℕ) → InRange (empty_slots n)
unfolding empty_slots
empty_in zero = tt
empty_in (suc n) = (no_finger_in, empty_in n)

passed : (b : Bool) (q : KernelRefusal) → unless b q ≡ Ok tt → T b
unfolding unless
passed true q e = tt
passed false q e = let z : ◌≡◌ {A = ℕ} 0 1 = cc in absurd (omega arith)

done_in : (r : KernelRecord) (k : KernelTouches) → bad r ≡ Ok tt → InRange k.slots → InRange (done r k).slots
unfolding done bad choose with_x with_y with_id put_finger chosen_finger skips settled
done_in (MtSlot v) k e h = h
done_in (MtPositionX v) k e h = put_in k.chosen _ k.slots (passed (position_ok v) _ e, (finger_in k.chosen k.slots h).1) h
done_in (MtPositionY v) k e h = put_in k.chosen _ k.slots ((finger_in k.chosen k.slots h).0, passed (position_ok v) _ e) h
done_in (MtTrackingId v) k e h = put_in k.chosen _ k.slots (finger_in k.chosen k.slots h) h
done_in ReportEnd k e h = settle_in k.slots h
done_in Dropped k e h = h
done_in Other k e h = h

skipped_in : (r : KernelRecord) (k : KernelTouches) → InRange k.slots → InRange (skipped r k).slots
unfolding skipped skips
skipped_in r k h = go (is_end r)
  where
    go : (b : Bool) → InRange (cond b (skips false k) k).slots
    go true = h
    go false = h

-- a report end refuses nothing of itself
judged : (r : KernelRecord) (q : Result ⊤ KernelRefusal) → cond (is_end r) q (bad r) ≡ Ok tt → bad r ≡ Ok tt
unfolding is_end bad
judged (MtSlot v) q e = e
judged (MtPositionX v) q e = e
judged (MtPositionY v) q e = e
judged (MtTrackingId v) q e = e
judged ReportEnd q e = refl
judged Dropped q e = e
judged Other q e = e

record_in : (room : ℕ) (all : List Event) (r : KernelRecord) (k : KernelTouches) → verdict room all r k ≡ Ok tt → InRange k.slots →
    InRange (after r k).slots
unfolding verdict acts refusal after
record_in room all r k v h = go k.skipping refl
  where
    go : (b : Bool) → k.skipping ≡ b → InRange (cond k.skipping (skipped r k) (done r k)).slots
    go true e = subst (λ (b : Bool). InRange (cond b (skipped r k) (done r k)).slots) (sym e) (skipped_in r k h)
    go false e =
        let full = unless (leb (length (encode_all all)) room) FeedFull in
        let here : cond (is_end r) full (bad r) ≡ Ok tt = ap (λ (b : Bool). cond (cond b false (is_end r)) full (cond b (Ok tt) (bad r))) (sym e) ∙ v in
        subst (λ (b : Bool). InRange (cond b (skipped r k) (done r k)).slots) (sym e) (done_in r k (judged r full here) h)

-- ---- and so its events are of the domain
all_append : (es fs : List Event) → AllOk es → AllOk fs → AllOk (es ++ fs)
all_append [] fs g h = h
all_append (e ∷ es) fs g h = (g.0, all_append es fs g.1 h)

touch_ok : (d : ℕ) (ph : TouchPhase) (id : ℤ) (f : Finger) → InPlace f → T (fields_ok (touch d ph id f)) × T (event_ok (touch d ph id f))
unfolding touch position fields_ok event_ok pos_ok maybe_force_ok
touch_ok d ph id f h =
    let x = coordinate_ok (of_int binary32 f.x) in
    let y = coordinate_ok (of_int binary32 f.y) in
    (tt, and_i (x && y) true (and_i x y (position_coordinate f.x h.0) (position_coordinate f.y h.1)) tt)

change_ok : (d : ℕ) (ch : Change) (s : Slot) → InPlace s.now → AllOk (change_events d ch s)
unfolding change_events
change_ok d Still s h = tt
change_ok d Begun s h = (touch_ok d Start s.now.id s.now h, tt)
change_ok d Moved s h = (touch_ok d Move s.now.id s.now h, tt)
change_ok d Lifted s h = (touch_ok d End s.acted.id s.now h, tt)
change_ok d Replaced s h = (touch_ok d End s.acted.id s.now h, (touch_ok d Start s.now.id s.now h, tt))

report_ok : (d : ℕ) (ss : List Slot) → InRange ss → AllOk (report d ss)
unfolding report slot_events
report_ok d [] h = tt
report_ok d (s ∷ ss) h = all_append (slot_events d s) (report d ss) (change_ok d (change s) s h.0) (report_ok d ss h.1)

events_ok : (d : ℕ) (r : KernelRecord) (k : KernelTouches) → InRange k.slots → AllOk (events d r k)
unfolding events
events_ok d r k h = go (acts r k)
  where
    go : (b : Bool) → AllOk (cond b (report d k.slots) [])
    go true = report_ok d k.slots h
    go false = tt

record Good (next : KernelTouches) (all : List Event) : Type 0 where
  in_range : InRange next.slots
  in_domain : AllOk all

steps_good : (device room : ℕ) (next : KernelTouches) (all : List Event) (rs : List KernelRecord) (k : KernelTouches) (es : List Event) →
    InRange k.slots → AllOk es → Steps device room next all rs k es → Good next all
steps_good device room next all _ k es h g (last e f) =
    record { in_range = subst (λ (x : KernelTouches). InRange x.slots) e h; in_domain = subst (λ (x : List Event). AllOk x) f g }
steps_good device room next all (r ∷ rs) k es h g (step v s) =
    steps_good device room next all rs (after r k) (es ++ events device r k)
    (record_in room (es ++ events device r k) r k v h)
    (all_append es (events device r k) g (events_ok device r k h)) s

call_good : (k : KernelTouches) (c : Call) (next : KernelTouches) (es : List Event) → InRange k.slots → outcome k c ≡ taken next es → Good next es
unfolding outcome
call_good k c next es h e =
    let rs = all_records c.bytes in
    steps_good c.device c.room next es rs k [] h tt
    (steps_of c.device c.room next es rs k [] (taken_call k c.device c.bytes c.room next es e).runs)

call_keeps : (k : KernelTouches) (c : Call) → InRange k.slots → InRange (kernel_of k (outcome k c)).slots
unfolding kernel_of
call_keeps k c h = go (outcome k c) refl
  where
    go : (o : KernelOutcome) → outcome k c ≡ o → InRange (kernel_of k o).slots
    go (refused q) e = h
    go (taken next es) e = (call_good k c next es h e).in_range

calls_keep : (k : KernelTouches) (cs : List Call) → InRange k.slots → InRange (after_calls k cs).slots
unfolding after_calls
calls_keep k [] h = h
calls_keep k (c ∷ cs) h = calls_keep (kernel_of k (outcome k c)) cs (call_keeps k c h)

pub keeps_range : KeepsRange
unfolding fresh
keeps_range = record { fresh_slots = empty_in max_slots; call = call_keeps; calls = λ cs. calls_keep fresh cs (empty_in max_slots) }

-- ---- good events are refused for their number alone
only_4 : (left : ℕ) (is : List Item) (es : List Event) → map (λ (i : Item). i.what) is ≡ map good es → (q : PassRefusal) → first_refusal left is ≡ Some q →
    (index : ℕ) × (q ≡ TooManyEvents index)
unfolding first_refusal then_refusal
only_4 left [] es e q h = let z : ◌≡◌ {A = ℕ} 0 1 = cc in absurd (omega arith)
only_4 zero (i ∷ is) es e q h = let same : q ≡ TooManyEvents i.index = cc in (i.index, same)
only_4 (suc left) (i ∷ is) [] e q h = let z : ◌≡◌ {A = ℕ} 0 1 = cc in absurd (omega arith)
only_4 (suc left) (i ∷ is) (x ∷ es) e q h =
    let first : i.what ≡ good x = cc in
    let rest : map (λ (u : Item). u.what) is ≡ map good es = cc in
    only_4 left is es rest q (sym (ap (λ w. then_refusal i.index w (first_refusal left is)) first) ∙ h)

up_to : (left : ℕ) (is : List Item) (es : List Event) → map (λ (i : Item). i.what) is ≡ map good es → length es ≤ left → first_refusal left is ≡ None
unfolding first_refusal then_refusal
up_to left [] es e h = refl
up_to left (i ∷ is) [] e h = let z : ◌≡◌ {A = ℕ} 0 1 = cc in absurd (omega arith)
up_to zero (i ∷ is) (x ∷ es) e h = absurd (omega arith)
up_to (suc left) (i ∷ is) (x ∷ es) e h =
    let first : i.what ≡ good x = cc in
    let rest : map (λ (u : Item). u.what) is ≡ map good es = cc in
    ap (λ w. then_refusal i.index w (first_refusal left is)) first ∙ up_to left is es rest (omega arith)

pub says : (es : List Event) → AllOk es → Says es (encode_all es)
unfolding feed_refusal
says es h =
    let good_items = encoded_items es h in
    record {
      in_domain = h;
      each_good = good_items;
      events = encoded_events es h;
      only_4 = only_4 max_events (items (encode_all es)) es good_items;
      up_to_64 = up_to max_events (items (encode_all es)) es good_items;
    }

pub decodes : Decodes
decodes k c next es h e = says es (call_good k c next es h e).in_domain
