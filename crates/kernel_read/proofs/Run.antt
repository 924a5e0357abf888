-- The records of a call one after the other. Assumes nothing.
use Prim.Native.Nat.{ℕ, suc, ◌+◌, ◌-◌, ◌/◌, ◌<◌, ◌≤◌}
use native.Mathlib.Omega.{arith}
use mathlib.Core.Path.{◌≡◌, refl, sym, ap, ◌∙◌}
use mathlib.Core.Bool.{Bool, true, false, cond, ◌||◌, or_assoc, true≢false}
use mathlib.Core.List.{List, [], ◌∷◌, ◌++◌}
use borrow.Author.Tests.{leb-true, leb-false, le-leb, lt-leb}
use lib.Dec.{leb}
use lib.ListN.{length, length-append, drop}
use Rattle.std.specs.Prelude.{Result, Ok, Err, ⊤}
use Rattle.feed.specs.Types.{Event}
use Rattle.feed.specs.Encode.{encode_all}
use Rattle.kernel_record.specs.declared.KernelRecord.{KernelRecord}
use Rattle.kernel_record.specs.Records.{record_bytes, record_at, records, is_dropped, held_dropped}
use Rattle.kernel_record.proofs.Bytes.{record_first, records_second}
use Rattle.kernel_touch.specs.declared.slots.KernelTouches.{KernelTouches}
use Rattle.kernel_touch.specs.declared.answer.KernelRefusal.{KernelRefusal}
use Rattle.kernel_touch.specs.declared.answer.KernelRefusal.TheVariants.{FeedFull}
use Rattle.kernel_touch.specs.Step.{after, refusal, unless}
use Rattle.kernel_report.specs.Report.{report}
use Rattle.kernel_report.specs.Put.{put}
use Rattle.kernel_report.proofs.Written.{encode_append, encode_none, put_two, put_first}
use Rattle.kernel_read.specs.Read.{acts, events, verdict, KernelOutcome, refused, taken, by, run, all_records, is_taken}

pub by_cases : (P : Type 0) (b : Bool) → (b ≡ true → P) → (b ≡ false → P) → P
by_cases P true f g = f refl
by_cases P false f g = g refl

-- ---- the records of the bytes ahead: those of one record first
pub read_next : (one more : List ℕ) → length one ≡ record_bytes → all_records (one ++ more) ≡ record_at one 0 ∷ all_records more
unfolding all_records records
read_next one more h =
    let n = length more / record_bytes in
    let all : length (one ++ more) / record_bytes ≡ suc n = omega (arith, length-append one more) in
    ap (λ (m : ℕ). records m 0 (one ++ more)) all
    ∙ (λ j. record_first one more 0 (omega arith) j ∷ records_second n 0 (0 + record_bytes) one more (omega arith) j)

-- with the record that was read
pub read_one : (ahead one more : List ℕ) (r : KernelRecord) → ahead ≡ one ++ more → length one ≡ record_bytes → r ≡ record_at one 0 →
    all_records ahead ≡ r ∷ all_records more
read_one ahead one more r e h is = ap all_records e ∙ read_next one more h ∙ ap (λ (x : KernelRecord). x ∷ all_records more) (sym is)

pub read_none : (ahead : List ℕ) → length ahead < record_bytes → all_records ahead ≡ []
unfolding all_records records
read_none ahead h =
    let none : length ahead / record_bytes ≡ 0 = omega arith in
    ap (λ (m : ℕ). records m 0 ahead) none

-- ---- the words of a record
pub grown : (device : ℕ) (r : KernelRecord) (k : KernelTouches) (es : List Event) →
    length (encode_all (es ++ events device r k)) ≡ length (encode_all es) + length (encode_all (events device r k))
grown device r k es = ap length (encode_append es (events device r k)) ∙ length-append (encode_all es) (encode_all (events device r k))

pub no_words : (device : ℕ) (r : KernelRecord) (k : KernelTouches) → acts r k ≡ false → encode_all (events device r k) ≡ []
unfolding events
no_words device r k e = ap (λ (b : Bool). encode_all (cond b (report device k.slots) [])) e ∙ encode_none

pub report_events : (device : ℕ) (r : KernelRecord) (k : KernelTouches) → acts r k ≡ true → events device r k ≡ report device k.slots
unfolding events
report_events device r k e = ap (λ (b : Bool). cond b (report device k.slots) []) e

-- ---- a record's verdict, by the room that is left
pub shifted : (used words left room : ℕ) → left + used ≡ room → leb (used + words) room ≡ leb words left
shifted used words left room e = by_cases (leb (used + words) room ≡ leb words left) (leb words left)
    (λ h. le-leb (used + words) room (omega (arith, leb-true words left h)) ∙ sym h)
    (λ h. lt-leb (used + words) room (omega (arith, leb-false words left h)) ∙ sym h)

pub verdict_is : (device room words left : ℕ) (es : List Event) (r : KernelRecord) (k : KernelTouches) →
    left + length (encode_all es) ≡ room → words ≡ length (encode_all (events device r k)) →
    verdict room (es ++ events device r k) r k ≡ cond (acts r k) (unless (leb words left) FeedFull) (refusal r k)
unfolding verdict
verdict_is device room words left es r k e w =
    let used = length (encode_all es) in
    let all : length (encode_all (es ++ events device r k)) ≡ used + words = grown device r k es ∙ ap (λ (n : ℕ). used + n) (sym w) in
    ap (λ (b : Bool). cond (acts r k) (unless b FeedFull) (refusal r k)) (ap (λ (n : ℕ). leb n room) all ∙ shifted used words left room e)

pub fits_if : (b : Bool) → unless b FeedFull ≡ Ok tt → b ≡ true
unfolding unless
fits_if true e = refl
fits_if false e = let z : ◌≡◌ {A = ℕ} 0 1 = cc in absurd (omega arith)

-- a record that is taken has room
pub has_room : (device words left : ℕ) (r : KernelRecord) (k : KernelTouches) → words ≡ length (encode_all (events device r k)) →
    cond (acts r k) (unless (leb words left) FeedFull) (refusal r k) ≡ Ok tt → words ≤ left
has_room device words left r k w e = by_cases (words ≤ left) (acts r k)
    (λ h. leb-true words left (fits_if (leb words left) (ap (λ (b : Bool). cond b (unless (leb words left) FeedFull) (refusal r k)) (sym h) ∙ e)))
    (λ h. omega (arith, w, ap length (no_words device r k h)))

-- ---- a taken run goes on
by_taken : (q : Result ⊤ KernelRefusal) (o : KernelOutcome) → is_taken (by q o) ≡ true → q ≡ Ok tt
unfolding by is_taken
by_taken (Ok t) o e = refl
by_taken (Err q) o e = absurd (true≢false (sym e))

pub run_next : (device room : ℕ) (r : KernelRecord) (rs : List KernelRecord) (k : KernelTouches) (es : List Event) →
    verdict room (es ++ events device r k) r k ≡ Ok tt →
    run device room (r ∷ rs) k es ≡ run device room rs (after r k) (es ++ events device r k)
unfolding run by
run_next device room r rs k es e = ap (λ (q : Result ⊤ KernelRefusal). by q (run device room rs (after r k) (es ++ events device r k))) e

pub run_refused : (device room : ℕ) (r : KernelRecord) (rs : List KernelRecord) (k : KernelTouches) (es : List Event) (q : KernelRefusal) →
    verdict room (es ++ events device r k) r k ≡ Err q → run device room (r ∷ rs) k es ≡ refused q
unfolding run by
run_refused device room r rs k es q e = ap (λ (x : Result ⊤ KernelRefusal). by x (run device room rs (after r k) (es ++ events device r k))) e

pub taken_verdict : (device room : ℕ) (r : KernelRecord) (rs : List KernelRecord) (k : KernelTouches) (es : List Event) →
    is_taken (run device room (r ∷ rs) k es) ≡ true → verdict room (es ++ events device r k) r k ≡ Ok tt
unfolding run
taken_verdict device room r rs k es h = by_taken (verdict room (es ++ events device r k) r k) (run device room rs (after r k) (es ++ events device r k)) h

pub run_last : (device room : ℕ) (k : KernelTouches) (es : List Event) → run device room [] k es ≡ taken k es
unfolding run
run_last device room k es = refl

-- ---- the loops' states: the events so far, that what is to come is what was to come at first, and the room
pub record Looks (device room left : ℕ) (bytes ahead : List ℕ) (k kernel : KernelTouches) : Type 0 where
  pub es : List Event
  pub same : run device room (all_records ahead) kernel es ≡ run device room (all_records bytes) k []
  pub used : left + length (encode_all es) ≡ room

pub look_first : (device room : ℕ) (bytes : List ℕ) (k : KernelTouches) → Looks device room room bytes bytes k k
look_first device room bytes k = record { es = []; same = refl; used = omega (arith, ap length encode_none) }

pub look_next : (device room left words : ℕ) (bytes ahead one more : List ℕ) (k kernel : KernelTouches) (r : KernelRecord) →
    ahead ≡ one ++ more → length one ≡ record_bytes → r ≡ record_at one 0 →
    words ≡ length (encode_all (events device r kernel)) →
    cond (acts r kernel) (unless (leb words left) FeedFull) (refusal r kernel) ≡ Ok tt →
    Looks device room left bytes ahead k kernel → Looks device room (left - words) bytes more k (after r kernel)
look_next device room left words bytes ahead one more k kernel r parts size is w e s =
    record {
      es = s.es ++ events device r kernel;
      same =
          sym (run_next device room r (all_records more) kernel s.es (verdict_is device room words left s.es r kernel s.used w ∙ e))
          ∙ ap (λ (rs : List KernelRecord). run device room rs kernel s.es) (sym (read_one ahead one more r parts size is))
          ∙ s.same;
      used = omega (arith, s.used, w, grown device r kernel s.es, has_room device words left r kernel w e);
    }

pub look_refused : (device room left words : ℕ) (bytes ahead one more : List ℕ) (k kernel : KernelTouches) (r : KernelRecord) (q : KernelRefusal) →
    ahead ≡ one ++ more → length one ≡ record_bytes → r ≡ record_at one 0 →
    words ≡ length (encode_all (events device r kernel)) →
    cond (acts r kernel) (unless (leb words left) FeedFull) (refusal r kernel) ≡ Err q →
    Looks device room left bytes ahead k kernel → run device room (all_records bytes) k [] ≡ refused q
look_refused device room left words bytes ahead one more k kernel r q parts size is w e s =
    sym s.same
    ∙ ap (λ (rs : List KernelRecord). run device room rs kernel s.es) (read_one ahead one more r parts size is)
    ∙ run_refused device room r (all_records more) kernel s.es q (verdict_is device room words left s.es r kernel s.used w ∙ e)

pub look_last : (device room left : ℕ) (bytes ahead : List ℕ) (k kernel : KernelTouches) → length ahead < record_bytes → (s : Looks device room left bytes ahead k kernel) →
    run device room (all_records bytes) k [] ≡ taken kernel s.es
look_last device room left bytes ahead k kernel h s =
    sym s.same ∙ ap (λ (rs : List KernelRecord). run device room rs kernel s.es) (read_none ahead h) ∙ run_last device room kernel s.es

-- the words so far stand in the feed
pub record Fillings (device at : ℕ) (bytes ahead feed feed' : List ℕ) (k kernel : KernelTouches) : Type 0 where
  pub es : List Event
  pub same : run device (length feed) (all_records ahead) kernel es ≡ run device (length feed) (all_records bytes) k []
  pub at_is : at ≡ length (encode_all es)
  pub fits : at ≤ length feed
  pub feed_is : feed' ≡ put 0 (encode_all es) feed

pub fill_first : (device : ℕ) (bytes feed : List ℕ) (k : KernelTouches) → Fillings device 0 bytes bytes feed feed k k
unfolding put
fill_first device bytes feed k =
    record {
      es = [];
      same = refl;
      at_is = sym (ap length encode_none);
      fits = omega arith;
      feed_is = sym (ap (λ (ws : List ℕ). put 0 ws feed) encode_none);
    }

-- what is left to do at a record
pub record Going (device at : ℕ) (feed : List ℕ) (kernel : KernelTouches) (r : KernelRecord) (es : List Event) : Type 0 where
  pub verdict_none : verdict (length feed) (es ++ events device r kernel) r kernel ≡ Ok tt
  pub room : at + length (encode_all (events device r kernel)) ≤ length feed

pub going : (device at : ℕ) (bytes ahead one more feed feed' : List ℕ) (k kernel : KernelTouches) (r : KernelRecord) →
    ahead ≡ one ++ more → length one ≡ record_bytes → r ≡ record_at one 0 →
    is_taken (run device (length feed) (all_records bytes) k []) ≡ true →
    (s : Fillings device at bytes ahead feed feed' k kernel) → Going device at feed kernel r s.es
going device at bytes ahead one more feed feed' k kernel r parts size is t s =
    let rs = all_records more in
    let here : run device (length feed) (r ∷ rs) kernel s.es ≡ run device (length feed) (all_records bytes) k [] =
    ap (λ (x : List KernelRecord). run device (length feed) x kernel s.es) (sym (read_one ahead one more r parts size is)) ∙ s.same in
    let none = taken_verdict device (length feed) r rs kernel s.es (ap is_taken here ∙ t) in
    let left = length feed - at in
    let words = length (encode_all (events device r kernel)) in
    let used : left + length (encode_all s.es) ≡ length feed = omega (arith, s.fits, s.at_is) in
    record {
      verdict_none = none;
      room = omega (arith, s.fits, has_room device words left r kernel refl (sym (verdict_is device (length feed) words left s.es r kernel used refl) ∙ none));
    }

pub fill_next : (device at : ℕ) (bytes ahead one more feed feed' : List ℕ) (k kernel : KernelTouches) (r : KernelRecord) (at₁ : ℕ) (feed₁ : List ℕ) →
    ahead ≡ one ++ more → length one ≡ record_bytes → r ≡ record_at one 0 →
    is_taken (run device (length feed) (all_records bytes) k []) ≡ true →
    at₁ ≡ at + length (encode_all (events device r kernel)) → feed₁ ≡ put at (encode_all (events device r kernel)) feed' →
    Fillings device at bytes ahead feed feed' k kernel → Fillings device at₁ bytes more feed feed₁ k (after r kernel)
fill_next device at bytes ahead one more feed feed' k kernel r at₁ feed₁ parts size is t a f s =
    let go = going device at bytes ahead one more feed feed' k kernel r parts size is t s in
    let ws = encode_all s.es in
    let words = encode_all (events device r kernel) in
    record {
      es = s.es ++ events device r kernel;
      same =
          sym (run_next device (length feed) r (all_records more) kernel s.es go.verdict_none)
          ∙ ap (λ (x : List KernelRecord). run device (length feed) x kernel s.es) (sym (read_one ahead one more r parts size is))
          ∙ s.same;
      at_is = omega (arith, a, s.at_is, grown device r kernel s.es);
      fits = omega (arith, a, go.room);
      feed_is = put_two 0 at ws words (encode_all (s.es ++ events device r kernel)) feed feed' feed₁ (s.at_is ∙ omega arith) s.feed_is f (encode_append s.es (events device r kernel));
    }

pub fill_last : (device at : ℕ) (bytes ahead feed feed' : List ℕ) (k kernel : KernelTouches) → length ahead < record_bytes → (s : Fillings device at bytes ahead feed feed' k kernel) →
    run device (length feed) (all_records bytes) k [] ≡ taken kernel s.es
fill_last device at bytes ahead feed feed' k kernel h s =
    sym s.same ∙ ap (λ (rs : List KernelRecord). run device (length feed) rs kernel s.es) (read_none ahead h) ∙ run_last device (length feed) kernel s.es

pub filled_feed : (device at : ℕ) (bytes ahead feed feed' : List ℕ) (k kernel : KernelTouches) → (s : Fillings device at bytes ahead feed feed' k kernel) →
    feed' ≡ encode_all s.es ++ drop (length (encode_all s.es)) feed
filled_feed device at bytes ahead feed feed' k kernel s = s.feed_is ∙ put_first (encode_all s.es) feed (omega (arith, s.fits, s.at_is))

-- ---- 'dropped', so far or still to come
pub held_next : (ahead one more : List ℕ) (r : KernelRecord) (b d : Bool) → ahead ≡ one ++ more → length one ≡ record_bytes → r ≡ record_at one 0 → d ≡ is_dropped r →
    ((b || d) || held_dropped (all_records more)) ≡ (b || held_dropped (all_records ahead))
unfolding held_dropped
held_next ahead one more r b d parts size is e =
    ap (λ (x : Bool). (b || x) || held_dropped (all_records more)) e
    ∙ or_assoc b (is_dropped r) (held_dropped (all_records more))
    ∙ ap (λ (rs : List KernelRecord). b || held_dropped rs) (sym (read_one ahead one more r parts size is))

pub held_last : (ahead : List ℕ) (b : Bool) → length ahead < record_bytes → (b || held_dropped (all_records ahead)) ≡ b
unfolding held_dropped
held_last ahead b h = ap (λ (rs : List KernelRecord). b || held_dropped rs) (read_none ahead h) ∙ or_false b
  where
    or_false : (b : Bool) → (b || false) ≡ b
    or_false true = refl
    or_false false = refl
