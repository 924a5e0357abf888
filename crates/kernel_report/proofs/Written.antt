-- Words written one after the other, and the words of a report's events. Assumes nothing.
use Prim.Native.Nat.{ℕ, zero, suc, ◌+◌, ◌<◌, ◌≤◌, min}
use native.Mathlib.Omega.{arith}
use mathlib.Core.Path.{◌≡◌, refl, sym, ap, ◌∙◌}
use mathlib.Core.List.{List, [], ◌∷◌, ◌++◌, append_assoc, append-nil}
use lib.ListN.{length, get_or, set, take, drop, length-take, length-set, length-append, drop_of_length-le}
use lib.Seq.{drop-cons}
use borrow.Rule.Slice.PartMut.{put_mid}
use Rattle.feed.specs.Types.{Event, TouchPhase, Start, Move, End}
use Rattle.feed.specs.Encode.{encode, encode_all, join, words_after, id_words, pos_words, force_words}
use Rattle.kernel_touch.specs.declared.slots.Finger.{Finger}
use Rattle.kernel_touch.specs.declared.slots.Slot.{Slot}
use lib.IntN.{ℤ, pos}
use Rattle.kernel_report.specs.declared.change.Change.{Change}
use Rattle.kernel_report.specs.declared.change.Change.TheVariants.{Still, Begun, Moved, Lifted, Replaced}
use Rattle.kernel_report.specs.Put.{put}
use Rattle.kernel_report.specs.Report.{touch, touch_words, change, change_events, slot_events, report}

-- ---- written words
pub length_put : (at : ℕ) (ws feed : List ℕ) → length (put at ws feed) ≡ length feed
unfolding put
length_put at [] feed = refl
length_put at (w ∷ ws) feed = length_put (suc at) ws (set feed at w) ∙ length-set feed at w

pub put_append : (at : ℕ) (a b feed : List ℕ) → put at (a ++ b) feed ≡ put (at + length a) b (put at a feed)
unfolding put
put_append at [] b feed = ap (λ (k : ℕ). put k b feed) (omega arith)
put_append at (w ∷ a) b feed =
    put_append (suc at) a b (set feed at w) ∙ ap (λ (k : ℕ). put k b (put (suc at) a (set feed at w))) (omega arith)

-- two lists of words, one after the other
pub put_both : (at : ℕ) (a b feed : List ℕ) → put (at + length a) b (put at a feed) ≡ put at (a ++ b) feed
put_both at a b feed = sym (put_append at a b feed)

pub put_two : (at next : ℕ) (a b ws feed feed₁ feed₂ : List ℕ) → next ≡ at + length a → feed₁ ≡ put at a feed → feed₂ ≡ put next b feed₁ → ws ≡ a ++ b →
    feed₂ ≡ put at ws feed
put_two at next a b ws feed feed₁ feed₂ n e f w =
    f ∙ (λ j. put (n j) b (e j)) ∙ put_both at a b feed ∙ ap (λ (l : List ℕ). put at l feed) (sym w)

-- one place further on, past one more word
pub put_after : (at x : ℕ) (ws feed : List ℕ) → put (suc at) ws (x ∷ feed) ≡ x ∷ put at ws feed
unfolding put
put_after at x [] feed = refl
put_after at x (w ∷ ws) feed = put_after (suc at) x ws (set feed at w)

-- from the first place on
pub put_first : (ws feed : List ℕ) → length ws ≤ length feed → put 0 ws feed ≡ ws ++ drop (length ws) feed
unfolding put
put_first [] feed h = refl
put_first (w ∷ ws) [] h = absurd (omega arith)
put_first (w ∷ ws) (x ∷ feed) h = put_after 0 w ws feed ∙ ap (λ (l : List ℕ). w ∷ l) (put_first ws feed (omega arith))

-- words copied to the k places from `at` on
pub put_is_mid : (at k : ℕ) (ws feed : List ℕ) → at + k ≤ length feed → k ≡ length ws → put_mid at k feed ws ≡ put at ws feed
put_is_mid zero k ws feed h e = ap (λ (n : ℕ). ws ++ drop n feed) e ∙ sym (put_first ws feed (omega arith))
put_is_mid (suc at) k ws [] h e = absurd (omega arith)
put_is_mid (suc at) k ws (x ∷ feed) h e = ap (λ (l : List ℕ). x ∷ l) (put_is_mid at k ws feed (omega arith) e) ∙ sym (put_after at x ws feed)

-- ---- encoded events
pub encode_append : (es fs : List Event) → encode_all (es ++ fs) ≡ encode_all es ++ encode_all fs
unfolding encode_all join
encode_append [] fs = refl
encode_append (e ∷ es) fs = ap (λ (l : List ℕ). encode e ++ l) (encode_append es fs) ∙ sym (append_assoc (encode e) (encode_all es) (encode_all fs))

pub encode_none : encode_all [] ≡ []
unfolding encode_all join
encode_none = refl

pub touch_length : (d : ℕ) (ph : TouchPhase) (id : ℤ) (f : Finger) → length (encode (touch d ph id f)) ≡ touch_words
unfolding encode words_after id_words pos_words force_words touch
touch_length d ph id f = refl

-- so many of the eight that the encoder hands over
pub seven : (n : ℕ) (words ws : List ℕ) → length words ≡ 8 → length ws ≡ touch_words → take n words ≡ ws → take touch_words words ≡ ws
seven n words ws l e h =
    let all : min n (length words) ≡ touch_words = sym (length-take n words) ∙ ap length h ∙ e in
    let is : n ≡ touch_words = omega arith in
    ap (λ (k : ℕ). take k words) (sym is) ∙ h

-- ---- a slot's words, by how it changed
abbrev pub words_by : ℕ → Change → Slot → List ℕ
words_by d Still s = []
words_by d Begun s = encode (touch d Start s.now.id s.now)
words_by d Moved s = encode (touch d Move s.now.id s.now)
words_by d Lifted s = encode (touch d End s.acted.id s.now)
words_by d Replaced s = encode (touch d End s.acted.id s.now) ++ encode (touch d Start s.now.id s.now)

by_change : (d : ℕ) (ch : Change) (s : Slot) → encode_all (change_events d ch s) ≡ words_by d ch s
unfolding change_events encode_all join
by_change d Still s = refl
by_change d Begun s = append-nil (encode (touch d Start s.now.id s.now))
by_change d Moved s = append-nil (encode (touch d Move s.now.id s.now))
by_change d Lifted s = append-nil (encode (touch d End s.acted.id s.now))
by_change d Replaced s = ap (λ (l : List ℕ). encode (touch d End s.acted.id s.now) ++ l) (append-nil (encode (touch d Start s.now.id s.now)))

pub slot_is : (d : ℕ) (s : Slot) → encode_all (slot_events d s) ≡ words_by d (change s) s
unfolding slot_events
slot_is d s = by_change d (change s) s

-- how many
abbrev pub count_by : Change → ℕ
count_by Still = 0
count_by Begun = 7
count_by Moved = 7
count_by Lifted = 7
count_by Replaced = 14

counted : (d : ℕ) (ch : Change) (s : Slot) → length (words_by d ch s) ≡ count_by ch
unfolding encode words_after id_words pos_words force_words touch
counted d Still s = refl
counted d Begun s = refl
counted d Moved s = refl
counted d Lifted s = refl
counted d Replaced s = refl

pub slot_length : (d : ℕ) (s : Slot) → length (encode_all (slot_events d s)) ≡ count_by (change s)
slot_length d s = ap length (slot_is d s) ∙ counted d (change s) s

few : (ch : Change) → count_by ch ≤ 14
few Still = omega arith
few Begun = omega arith
few Moved = omega arith
few Lifted = omega arith
few Replaced = omega arith

pub slot_le : (d : ℕ) (s : Slot) → length (encode_all (slot_events d s)) ≤ 14
slot_le d s = rw (slot_length d s) (few (change s))

-- ---- the slots from slot i on; past the end an index reads `blank`
abbrev pub blank : Slot
blank = record { now = record { id = pos 0; x = pos 0; y = pos 0 }; acted = record { id = pos 0; x = pos 0; y = pos 0 } }

pub report_next : (d : ℕ) (z : Slot) (i : ℕ) (ss : List Slot) → i < length ss →
    encode_all (report d (drop i ss)) ≡ encode_all (slot_events d (get_or ss i z)) ++ encode_all (report d (drop (suc i) ss))
unfolding report
report_next d z i ss h =
    ap (λ (l : List Slot). encode_all (report d l)) (drop-cons ss i z h) ∙ encode_append (slot_events d (get_or ss i z)) (report d (drop (suc i) ss))

pub next_length : (d : ℕ) (z : Slot) (i : ℕ) (ss : List Slot) → i < length ss →
    length (encode_all (report d (drop i ss))) ≡ length (encode_all (slot_events d (get_or ss i z))) + length (encode_all (report d (drop (suc i) ss)))
next_length d z i ss h = ap length (report_next d z i ss h) ∙ length-append (encode_all (slot_events d (get_or ss i z))) (encode_all (report d (drop (suc i) ss)))

pub report_last : (d : ℕ) (i : ℕ) (ss : List Slot) → length ss ≤ i → encode_all (report d (drop i ss)) ≡ []
unfolding report
report_last d i ss h = ap (λ (l : List Slot). encode_all (report d l)) (drop_of_length-le ss h) ∙ encode_none

-- a slot written, the slots after it are left
pub put_step : (d : ℕ) (i next r : ℕ) (ss : List Slot) (feed feed' : List ℕ) → i < length ss →
    let words = encode_all (slot_events d (get_or ss i blank)) in
    r ≡ next + length words → feed' ≡ put next words feed →
    put r (encode_all (report d (drop (suc i) ss))) feed' ≡ put next (encode_all (report d (drop i ss))) feed
put_step d i next r ss feed feed' h e f =
    let words = encode_all (slot_events d (get_or ss i blank)) in
    let rest = encode_all (report d (drop (suc i) ss)) in
    (λ j. put (e j) rest (f j)) ∙ put_both next words rest feed ∙ ap (λ (ws : List ℕ). put next ws feed) (sym (report_next d blank i ss h))
