-- A call that is taken, record by record: its room, and its events. Assumes nothing.
use Prim.Native.Nat.{ℕ, ◌%◌, ◌≤◌}
use native.Mathlib.Omega.{arith}
use mathlib.Core.Path.{◌≡◌, refl, sym, ap, ◌∙◌, subst}
use mathlib.Core.Bool.{Bool, true, false, cond}
use mathlib.Core.List.{List, [], ◌∷◌, ◌++◌}
use borrow.Author.Tests.{leb-true, le-leb}
use lib.Dec.{eqb, leb}
use lib.ListN.{length}
use Rattle.feed.specs.Types.{Event}
use Rattle.feed.specs.Encode.{encode_all}
use Rattle.kernel_record.specs.declared.KernelRecord.{KernelRecord}
use Rattle.kernel_record.specs.Records.{record_bytes}
use Rattle.kernel_touch.specs.declared.slots.KernelTouches.{KernelTouches}
use Rattle.kernel_touch.specs.declared.answer.KernelRefusal.TheVariants.{Length, FeedFull}
use Rattle.std.specs.Prelude.{Ok}
use Rattle.kernel_touch.specs.Step.{after, refusal, unless}
use Rattle.kernel_report.proofs.Written.{encode_none}
use Rattle.kernel_read.specs.Read.{acts, events, verdict, refused, taken, run, all_records, read, is_taken}
use Rattle.kernel_read.proofs.Run.{by_cases, grown, no_words, fits_if, run_next, taken_verdict}

-- ---- a run that is taken: no record of it is refused
pub data Steps (device room : ℕ) (next : KernelTouches) (all : List Event) : List KernelRecord → KernelTouches → List Event → Type 0 where
  last : {k : KernelTouches} {es : List Event} → k ≡ next → es ≡ all → Steps device room next all [] k es
  step : {r : KernelRecord} {rs : List KernelRecord} {k : KernelTouches} {es : List Event} →
      verdict room (es ++ events device r k) r k ≡ Ok tt → Steps device room next all rs (after r k) (es ++ events device r k) →
      Steps device room next all (r ∷ rs) k es

pub steps_of : (device room : ℕ) (next : KernelTouches) (all : List Event) (rs : List KernelRecord) (k : KernelTouches) (es : List Event) →
    run device room rs k es ≡ taken next all → Steps device room next all rs k es
unfolding run
steps_of device room next all [] k es e =
    let same : k ≡ next = cc in
    let gave : es ≡ all = cc in
    last same gave
steps_of device room next all (r ∷ rs) k es e =
    let none = taken_verdict device room r rs k es (unfold is_taken in ap is_taken e) in
    step none (steps_of device room next all rs (after r k) (es ++ events device r k) (sym (run_next device room r rs k es none) ∙ e))

pub run_of : (device room : ℕ) (next : KernelTouches) (all : List Event) (rs : List KernelRecord) (k : KernelTouches) (es : List Event) →
    Steps device room next all rs k es → run device room rs k es ≡ taken next all
unfolding run
run_of device room next all _ k es (last e f) = (λ j. taken (e j) (f j))
run_of device room next all (r ∷ rs) k es (step v s) =
    run_next device room r rs k es v ∙ run_of device room next all rs (after r k) (es ++ events device r k) s

-- ---- a call
pub read_run : (k : KernelTouches) (device : ℕ) (bytes : List ℕ) (room : ℕ) (b : Bool) → eqb (length bytes % record_bytes) 0 ≡ b →
    read k device bytes room ≡ cond b (run device room (all_records bytes) k []) (refused Length)
unfolding read
read_run k device bytes room b e = ap (λ (x : Bool). cond x (run device room (all_records bytes) k []) (refused Length)) e

-- a taken call has whole records, and they are taken
pub record Whole (k : KernelTouches) (device : ℕ) (bytes : List ℕ) (room : ℕ) (next : KernelTouches) (es : List Event) : Type 0 where
  pub whole : eqb (length bytes % record_bytes) 0 ≡ true
  pub runs : run device room (all_records bytes) k [] ≡ taken next es

pub taken_call : (k : KernelTouches) (device : ℕ) (bytes : List ℕ) (room : ℕ) (next : KernelTouches) (es : List Event) →
    read k device bytes room ≡ taken next es → Whole k device bytes room next es
taken_call k device bytes room next es e = go (eqb (length bytes % record_bytes) 0) refl
  where
    go : (b : Bool) → eqb (length bytes % record_bytes) 0 ≡ b → Whole k device bytes room next es
    go true h = record { whole = h; runs = sym (read_run k device bytes room true h) ∙ e }
    go false h = absurd (never (sym (read_run k device bytes room false h) ∙ e))
      where
        never : refused Length ≡ taken next es → ⊥
        never x = let z : ◌≡◌ {A = ℕ} 0 1 = cc in omega arith

pub call_taken : (k : KernelTouches) (device : ℕ) (bytes : List ℕ) (room : ℕ) (next : KernelTouches) (es : List Event) →
    Whole k device bytes room next es → read k device bytes room ≡ taken next es
call_taken k device bytes room next es w = read_run k device bytes room true w.whole ∙ w.runs

-- ---- its words fit
-- a record that is not refused
pub record_fits : (device room : ℕ) (r : KernelRecord) (k : KernelTouches) (es : List Event) → length (encode_all es) ≤ room →
    verdict room (es ++ events device r k) r k ≡ Ok tt → length (encode_all (es ++ events device r k)) ≤ room
unfolding verdict
record_fits device room r k es h v = by_cases (length (encode_all (es ++ events device r k)) ≤ room) (acts r k)
    (λ a. leb-true _ room (fits_if _ (ap (λ (b : Bool). cond b (unless (leb (length (encode_all (es ++ events device r k))) room) FeedFull) (refusal r k)) (sym a) ∙ v)))
    (λ a. omega (arith, grown device r k es, ap length (no_words device r k a)))

steps_fit : (device room : ℕ) (next : KernelTouches) (all : List Event) (rs : List KernelRecord) (k : KernelTouches) (es : List Event) →
    length (encode_all es) ≤ room → Steps device room next all rs k es → length (encode_all all) ≤ room
steps_fit device room next all _ k es h (last e f) = subst (λ (x : List Event). length (encode_all x) ≤ room) f h
steps_fit device room next all (r ∷ rs) k es h (step v s) =
    steps_fit device room next all rs (after r k) (es ++ events device r k) (record_fits device room r k es h v) s

pub call_fits : (k : KernelTouches) (device : ℕ) (bytes : List ℕ) (room : ℕ) (next : KernelTouches) (es : List Event) →
    read k device bytes room ≡ taken next es → length (encode_all es) ≤ room
call_fits k device bytes room next es e =
    let w = taken_call k device bytes room next es e in
    steps_fit device room next es (all_records bytes) k [] (omega (arith, ap length encode_none)) (steps_of device room next es (all_records bytes) k [] w.runs)

-- ---- and with room enough it is taken alike
steps_grow : (device room : ℕ) (next : KernelTouches) (all : List Event) (rs : List KernelRecord) (k : KernelTouches) (es : List Event) →
    Steps device room next all rs k es → length (encode_all es) ≤ length (encode_all all)
steps_grow device room next all _ k es (last e f) = omega (arith, ap (λ (x : List Event). length (encode_all x)) f)
steps_grow device room next all (r ∷ rs) k es (step v s) =
    omega (arith, grown device r k es, steps_grow device room next all rs (after r k) (es ++ events device r k) s)

verdict_enough : (room enough : ℕ) (all : List Event) (r : KernelRecord) (k : KernelTouches) → length (encode_all all) ≤ enough →
    verdict room all r k ≡ Ok tt → verdict enough all r k ≡ Ok tt
unfolding verdict
verdict_enough room enough all r k h v = by_cases (cond (acts r k) (unless (leb (length (encode_all all)) enough) FeedFull) (refusal r k) ≡ Ok tt) (acts r k)
    (λ a. (λ j. cond (a j) (unless (le-leb (length (encode_all all)) enough h j) FeedFull) (refusal r k)) ∙ (unfold unless in refl))
    (λ a.
    ap (λ (b : Bool). cond b (unless (leb (length (encode_all all)) enough) FeedFull) (refusal r k)) a
    ∙ ap (λ (b : Bool). cond b (unless (leb (length (encode_all all)) room) FeedFull) (refusal r k)) (sym a)
    ∙ v)

steps_enough : (device room enough : ℕ) (next : KernelTouches) (all : List Event) (rs : List KernelRecord) (k : KernelTouches) (es : List Event) →
    length (encode_all all) ≤ enough → Steps device room next all rs k es → Steps device enough next all rs k es
steps_enough device room enough next all _ k es h (last e f) = last e f
steps_enough device room enough next all (r ∷ rs) k es h (step v s) =
    step
    (verdict_enough room enough (es ++ events device r k) r k
    (omega (arith, steps_grow device room next all rs (after r k) (es ++ events device r k) s)) v)
    (steps_enough device room enough next all rs (after r k) (es ++ events device r k) h s)

pub room_enough : (k : KernelTouches) (device : ℕ) (bytes : List ℕ) (room enough : ℕ) (next : KernelTouches) (es : List Event) →
    read k device bytes room ≡ taken next es → length (encode_all es) ≤ enough → read k device bytes enough ≡ taken next es
room_enough k device bytes room enough next es e h =
    let w = taken_call k device bytes room next es e in
    let rs = all_records bytes in
    let more = steps_enough device room enough next es rs k [] h (steps_of device room next es rs k [] w.runs) in
    call_taken k device bytes enough next es (record { whole = w.whole; runs = run_of device enough next es rs k [] more })
