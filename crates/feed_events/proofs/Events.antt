-- Joined pieces split into themselves, and encoded events are read again: `Laws`. Assumes nothing.
use Rattle.std.specs.Prelude.{None, Some}
use Prim.Native.Nat.{ℕ, suc, ◌+◌, ◌*◌, ◌/◌, ◌%◌, ◌<◌}
use native.Mathlib.Omega.{arith}
use mathlib.Core.Path.{◌≡◌, refl, sym, ap, ◌∙◌}
use mathlib.Core.Bool.{cond}
use mathlib.Core.List.{List, [], ◌∷◌, ◌++◌, map}
use lib.Dec.{eqb}
use lib.ListN.{get_or, length, take}
use Rattle.data.specs.Kinds.{kind_unit, key_kind, modifiers_kind, moved_kind, motion_kind, button_kind, gone_kind, zoom_kind, rotate_kind, touch_kind, wheel_kind, focus_kind, other_kind}
use Rattle.data.specs.Bits.{bit_number}
use Rattle.data.specs.Modifiers.{modifiers_number}
use Rattle.data.specs.Numbers.{button_number, phase_number, unit_number, source_number}
use Rattle.feed.specs.Types.{Event, Key, ModifiersChanged, PointerMoved, MouseMoved, Button, PointerGone, Zoom, Rotate, Touch, MouseWheel, WindowFocused, Other}
use Rattle.feed.specs.Split.{Piece, pieces, pieces_from, piece_length, following, kind, lengths}
use Rattle.feed.specs.Decode.{good, Item, item_of, items}
use Rattle.feed.specs.Feed.{events_of, then_events}
use Rattle.feed.specs.Encode.{encode, fields, words_after, pos_words, vec_words, id_words, force_words, join, encode_all}
use Rattle.feed.proofs.RoundTrip.{decode_after_encode, bit_le, modifiers_lt, button_le, phase_le, unit_le, source_le}
use Rattle.feed_events.specs.Events.{Whole, whole, AllWhole, AllOk, JoinedSplit, EncodedItems, EncodedEvents}

-- ---- splitting
skip : (r ws : List ℕ) (i : ℕ) → pieces_from i (length r) (r ++ ws) ≡ pieces_from (i + length r) 0 ws
unfolding pieces_from
skip [] ws i = ap (λ (k : ℕ). pieces_from k 0 ws) (omega arith)
skip (x ∷ r) ws i = skip r ws (suc i) ∙ ap (λ (k : ℕ). pieces_from k 0 ws) (omega arith)

take_front : (r ws : List ℕ) → take (length r) (r ++ ws) ≡ r
take_front [] ws = refl
take_front (x ∷ r) ws = ap (λ (l : List ℕ). x ∷ l) (take_front r ws)

pub one_piece : (p ws : List ℕ) (i : ℕ) → Whole p → pieces_from i 0 (p ++ ws) ≡ record { index = i; words = p } ∷ pieces_from (i + length p) 0 ws
unfolding pieces_from piece_length
one_piece p ws i (whole w r e) =
    let places : suc i + length r ≡ i + suc (length r) = omega arith in
    (λ j. record { index = i; words = take (suc (sym e j)) (w ∷ (r ++ ws)) } ∷ pieces_from (suc i) (sym e j) (r ++ ws))
    ∙ (λ j. record { index = i; words = w ∷ take_front r ws j } ∷ (skip r ws (suc i) ∙ ap (λ (k : ℕ). pieces_from k 0 ws) places) j)

split_from : (ps : List (List ℕ)) (i : ℕ) → AllWhole ps → map (λ (p : Piece). p.words) (pieces_from i 0 (join ps)) ≡ ps
unfolding join pieces_from
split_from [] i h = refl
split_from (p ∷ ps) i h = ap (map (λ (q : Piece). q.words)) (one_piece p (join ps) i h.0) ∙ ap (λ (l : List (List ℕ)). p ∷ l) (split_from ps (i + length p) h.1)

pub joined_split : JoinedSplit
unfolding pieces
joined_split ps h = split_from ps 0 h

-- ---- an encoded event is whole
follows : (k f : ℕ) → f < kind_unit → following (k * kind_unit + f) ≡ get_or lengths k 0 + cond (eqb k touch_kind) (f / 4 % 2) 0
unfolding following
follows k f h =
    let kinds : kind (k * kind_unit + f) ≡ k = omega arith in
    let forces : (k * kind_unit + f) / 4 % 2 ≡ f / 4 % 2 = omega arith in
    rw (kinds, forces)

whole_of : (k f : ℕ) (ws : List ℕ) → f < kind_unit → length ws ≡ get_or lengths k 0 + cond (eqb k touch_kind) (f / 4 % 2) 0 → Whole ((k * kind_unit + f) ∷ ws)
whole_of k f ws h e = whole (k * kind_unit + f) ws (e ∙ sym (follows k f h))

pub encoded_whole : (e : Event) → Whole (encode e)
unfolding encode fields words_after pos_words vec_words id_words force_words
encoded_whole (Key place pressed) = whole_of key_kind (place % 256 + 256 * bit_number pressed) [] (omega (arith, bit_le pressed)) refl
encoded_whole (ModifiersChanged m) = whole_of modifiers_kind (modifiers_number m) [] (omega (arith, modifiers_lt m)) refl
encoded_whole (PointerMoved v) = whole_of moved_kind 0 _ (omega arith) refl
encoded_whole (MouseMoved v) = whole_of motion_kind 0 _ (omega arith) refl
encoded_whole (Button v b p m) = whole_of button_kind (modifiers_number m + 32 * button_number b + 256 * bit_number p) _ (omega (arith, modifiers_lt m, button_le b, bit_le p)) refl
encoded_whole PointerGone = whole_of gone_kind 0 [] (omega arith) refl
encoded_whole (Zoom x) = whole_of zoom_kind 0 _ (omega arith) refl
encoded_whole (Rotate x) = whole_of rotate_kind 0 _ (omega arith) refl
encoded_whole (Touch d i ph v None) =
    let hp = phase_le ph in
    let n : 0 ≡ (phase_number ph + 0) / 4 % 2 = omega arith in
    whole_of touch_kind (phase_number ph + 0) _ (omega arith) (ap (λ (k : ℕ). 6 + k) n)
encoded_whole (Touch d i ph v (Some x)) =
    let hp = phase_le ph in
    let q : (phase_number ph + 4) / 4 ≡ 1 = omega arith in
    whole_of touch_kind (phase_number ph + 4) _ (omega arith) (ap (λ (k : ℕ). 6 + k % 2) (sym q))
encoded_whole (MouseWheel u v ph s m) =
    whole_of wheel_kind (modifiers_number m + 32 * unit_number u + 128 * phase_number ph + 512 * source_number s) _ (omega (arith, modifiers_lt m, unit_le u, phase_le ph, source_le s)) refl
encoded_whole (WindowFocused b) = whole_of focus_kind (bit_number b) [] (omega (arith, bit_le b)) refl
encoded_whole Other = whole_of other_kind 0 [] (omega arith) refl

-- ---- and read again
whats_from : (es : List Event) (i : ℕ) → AllOk es → map (λ (t : Item). t.what) (map item_of (pieces_from i 0 (join (map encode es)))) ≡ map good es
unfolding join item_of pieces_from
whats_from [] i h = refl
whats_from (e ∷ es) i h =
    ap (λ (l : List Piece). map (λ (t : Item). t.what) (map item_of l)) (one_piece (encode e) (join (map encode es)) i (encoded_whole e))
    ∙ (λ j. decode_after_encode e h.0.0 h.0.1 j ∷ whats_from es (i + length (encode e)) h.1 j)

pub encoded_items : EncodedItems
unfolding encode_all items pieces
encoded_items es h = whats_from es 0 h

-- items that are all good are read to their end
all_read : (is : List Item) (es : List Event) → map (λ (t : Item). t.what) is ≡ map good es → events_of is ≡ es
unfolding events_of then_events
all_read [] [] e = refl
all_read [] (x ∷ es) e = let z : ◌≡◌ {A = ℕ} 0 1 = cc in absurd (omega arith)
all_read (t ∷ is) [] e = let z : ◌≡◌ {A = ℕ} 0 1 = cc in absurd (omega arith)
all_read (t ∷ is) (x ∷ es) e =
    let first : t.what ≡ good x = cc in
    let rest : map (λ (u : Item). u.what) is ≡ map good es = cc in
    rw first (ap (λ (l : List Event). x ∷ l) (all_read is es rest))

pub encoded_events : EncodedEvents
encoded_events es h = all_read _ es (encoded_items es h)
