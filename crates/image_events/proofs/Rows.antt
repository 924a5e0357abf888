-- An event's words, and a turn of each loop over the events.
use Rattle.std.specs.Prelude.{None, Some}
use Prim.Native.Nat.{ℕ, zero, suc, ◌+◌, ◌*◌, ◌≤◌, ◌<◌}
use native.Mathlib.Numerals.{add-one}
use native.Mathlib.Omega.{arith}
use mathlib.Core.Path.{◌≡◌, refl, sym, ap, ◌∙◌, subst}
use mathlib.Core.Bool.{Bool, true, false}
use mathlib.Core.List.{List, [], ◌∷◌, ◌++◌, map}
use lib.Dec.{T, leb, ltb, le→leb, eqb}
use lib.ListN.{length, get_or, set, take, drop, length-map, length-append}
use lib.Seq.{sets, take_all, drop-append_seam}
use lib.Ieee.{Float, binary32, of_bits, to_bits, fits}
use borrow.Author.Tests.{leb-true, leb-false, lt-ltb, le-ltb, eq-eqb, ne_eqb}
use Rattle.emath.specs.Vec.{pos_zero}
use Rattle.data.specs.Limits.{max_events}
use Rattle.data.specs.Numbers.{button_number}
use Rattle.data.specs.Modifiers.{modifiers_number}
use Rattle.data.specs.declared.modifiers.Modifiers.{Modifiers}
use Rattle.feed.proofs.RoundTrip.{modifiers_lt}
use Rattle.model.specs.Types.{PointerEvent, Moved, Pressed, Released, PointerButton, Primary, Secondary, Middle, Extra1, Extra2}
use Rattle.pointer_events.specs.Events.{event_of, entry_of, entry_at, click_of, events_from, events, counted, codes_of, positions_of, Pushed}
use Rattle.pointer_events.proofs.Stored as stored
use Rattle.image.specs.Codes.{write, zeros, all, size, In, Each, El}
use Rattle.image.specs.Places.{word_bad, value_at, rows_at, span}
use Rattle.image.proofs.Lists.{put_row, read_row, rows_length, map-append, each_more}
use Rattle.image_words.specs.Leaves.{any_id, upto}
use Rattle.image_events.specs.Events.{kinds, clicked_code, by_kind, event_code, events_code, event_el, event_by, event_of_el, events_el, events_of_el, Stored}

-- ---- an event's words
zero_bits : to_bits binary32 pos_zero.x ∷ to_bits binary32 pos_zero.y ∷ [] ≡ 0 ∷ 0 ∷ []
unfolding pos_zero to_bits
zero_bits = refl

pub words_of : (e : PointerEvent)
    → (entry_of e).kind ∷ (entry_of e).button ∷ (entry_of e).count ∷ (entry_of e).flags ∷ to_bits binary32 (entry_of e).pos.x ∷ to_bits binary32 (entry_of e).pos.y ∷ [] ≡ write event_code (event_el e)
unfolding write zeros event_el entry_of
words_of (Moved v) = refl
words_of (Pressed v b) = refl
words_of (Released None b) = ap (λ (z : List ℕ). 2 ∷ button_number b ∷ 0 ∷ 0 ∷ z) zero_bits
words_of (Released (Some k) b) = refl

-- ---- in range
button_in : (b : PointerButton) → T (leb (button_number b) 4)
button_in Primary = tt
button_in Secondary = tt
button_in Middle = tt
button_in Extra1 = tt
button_in Extra2 = tt

flags_in : (m : Modifiers) → T (leb (modifiers_number m) 31)
flags_in m = le→leb (modifiers_number m) 31 (omega (arith, modifiers_lt m))

pub in_event : (e : PointerEvent) → T (fits binary32 (entry_of e).pos.x) → T (fits binary32 (entry_of e).pos.y) → In event_code (event_el e)
unfolding event_el entry_of
in_event (Moved v) p q = (tt, (tt, ((p, tt), (q, tt))))
in_event (Pressed v b) p q = (tt, (button_in b, (tt, ((p, tt), (q, tt)))))
in_event (Released None b) p q = (tt, (button_in b, tt))
in_event (Released (Some k) b) p q = (tt, (button_in b, (tt, (flags_in k.modifiers, ((p, tt), (q, tt))))))

-- ---- six words each
five : (k : ℕ) (v : El (by_kind k)) → length (write (by_kind k) v) ≡ 5
unfolding write zeros
five zero v = refl
five (suc zero) v = refl
five (suc (suc zero)) v = refl
five (suc (suc (suc k))) v = refl

pub six : (v : El event_code) → length (write event_code v) ≡ 6
unfolding write
six v = ap suc (five v.0 v.1)

-- ---- writing
module _ (cs : List ℕ) (ps : List Float) where
  abbrev pub written : ℕ → List ℕ
  written n = all (write event_code) (events_el (events_from cs ps 0 n))

  abbrev pub EachIn : ℕ → Type 0
  EachIn n = Each (In event_code) (events_el (events_from cs ps 0 n))

  pub put_none : (l : List ℕ) (at : ℕ) → l ≡ sets l at (written 0)
  unfolding events_el events_from all
  put_none l at = refl

  pub each_none : EachIn 0
  unfolding events_el events_from
  each_none = tt

  from_more : (i n : ℕ) → events_from cs ps i (suc n) ≡ events_from cs ps i n ++ (event_of (entry_at cs ps (i + n)) ∷ [])
  unfolding events_from
  from_more i zero = let e : i + 0 ≡ i = omega arith in rw e
  from_more i (suc n) = let e : i + suc n ≡ suc i + n = omega arith in rw e (ap (λ (z : List PointerEvent). event_of (entry_at cs ps i) ∷ z) (from_more (suc i) n))

  more : (n : ℕ) → events_from cs ps 0 (n + 1) ≡ events_from cs ps 0 n ++ (event_of (entry_at cs ps n) ∷ [])
  more n = let e : n + 1 ≡ suc n = omega arith in let z : 0 + n ≡ n = omega arith in rw (e, from_more 0 n, z)

  pub put_more : (l : List ℕ) (at i : ℕ) → sets (sets l at (written i)) (at + i * 6) (write event_code (event_el (event_of (entry_at cs ps i)))) ≡ sets l at (written (i + 1))
  unfolding events_el
  put_more l at i =
      let n : i ≡ length (map event_el (events_from cs ps 0 i)) = sym (length-map (events_from cs ps 0 i) event_el ∙ stored.from_length cs ps 0 i) in
      put_row (write event_code) 6 six l at i (map event_el (events_from cs ps 0 i)) (event_el (event_of (entry_at cs ps i))) n
      ∙ ap (λ (z : List (El event_code)). sets l at (all (write event_code) z)) (rw (more i, map-append))

  pub each_event : (i : ℕ) → EachIn i → In event_code (event_el (event_of (entry_at cs ps i))) → EachIn (i + 1)
  unfolding events_el
  each_event i h g = rw (more i, map-append) (each_more (In event_code) (map event_el (events_from cs ps 0 i)) (event_el (event_of (entry_at cs ps i))) h g)

  -- the whole group
  pub put_all : (l : List ℕ) (at n c : ℕ) → n ≡ counted c → sets (set l at (0xB000_0000 + n * 6)) (at + 1) (written n) ≡ sets l at (write (events_code max_events) (events_el (events cs ps c)))
  unfolding write size events_el events
  put_all l at n c e =
      let m : length (map event_el (events_from cs ps 0 n)) ≡ n = length-map (events_from cs ps 0 n) event_el ∙ stored.from_length cs ps 0 n in
      let a : at + 1 ≡ suc at = omega arith in
      rw (a, ← e, m)

  pub in_events : (n c : ℕ) → n ≡ counted c → n ≤ max_events → EachIn n → In (events_code max_events) (events_el (events cs ps c))
  unfolding events_el events size
  in_events n c e h g =
      let m : length (map event_el (events_from cs ps 0 n)) ≡ n = length-map (events_from cs ps 0 n) event_el ∙ stored.from_length cs ps 0 n in
      rw (← e) (tt, rw m (le→leb n max_events h), g)

-- ---- checking
kind_test : (w : ℕ) → leb w 3 ≡ ltb w 4
kind_test w = go (leb w 3) refl
  where
    go : (b : Bool) → leb w 3 ≡ b → b ≡ ltb w 4
    go true e = sym (lt-ltb w 4 (omega (arith, leb-true w 3 e)))
    go false e = sym (le-ltb w 4 (omega (arith, leb-false w 3 e)))

pub kind_bad : (ws : List ℕ) (i : ℕ) → word_bad (upto 3) ws i ≡ word_bad (λ w. ltb w kinds) ws i
unfolding word_bad
kind_bad ws i = rw (kind_test (get_or ws i 0))

pub any_word : (ws : List ℕ) (i h : ℕ) → h ≡ get_or ws i 0 → word_bad (eqb h) ws i ≡ word_bad any_id ws i
unfolding word_bad
any_word ws i h e = rw (e, eq-eqb (get_or ws i 0) (get_or ws i 0) refl)

pub other_kind : (k : ℕ) → (k ≡ 0 → ⊥) → (k ≡ 1 → ⊥) → (k ≡ 2 → ⊥) → by_kind k ≡ clicked_code
other_kind zero a b c = absurd (a refl)
other_kind (suc zero) a b c = absurd (b refl)
other_kind (suc (suc zero)) a b c = absurd (c refl)
other_kind (suc (suc (suc k))) a b c = refl

-- ---- reading
module _ (ws : List ℕ) (at : ℕ) where
  pub read_event : (k : ℕ)
      → event_of (record { kind = k; button = get_or ws (at + 1) 0; count = get_or ws (at + 2) 0; flags = get_or ws (at + 3) 0; pos = record { x = of_bits binary32 (get_or ws (at + 4) 0); y = of_bits binary32 (get_or ws (at + 5) 0) } })
      ≡ event_by k (value_at (by_kind k) ws (at + 1))
  unfolding event_of event_by value_at span click_of
  read_event zero = let e : at + 1 + 3 ≡ at + 4 = omega arith in let f : at + 4 + 1 ≡ at + 5 = omega arith in rw (e, f)
  read_event (suc zero) =
      let e : at + 1 + 1 ≡ at + 2 = omega arith in
      let f : at + 2 + 2 ≡ at + 4 = omega arith in
      let g : at + 4 + 1 ≡ at + 5 = omega arith in
      rw (e, f, g)
  read_event (suc (suc zero)) = refl
  read_event (suc (suc (suc k))) =
      let a : eqb (suc (suc (suc k))) 0 ≡ false = ne_eqb (suc (suc (suc k))) 0 (λ z. omega arith) in
      let b : eqb (suc (suc (suc k))) 1 ≡ false = ne_eqb (suc (suc (suc k))) 1 (λ z. omega arith) in
      let c : eqb (suc (suc (suc k))) 2 ≡ false = ne_eqb (suc (suc (suc k))) 2 (λ z. omega arith) in
      let e : at + 1 + 1 ≡ at + 2 = omega arith in
      let f : at + 2 + 1 ≡ at + 3 = omega arith in
      let g : at + 3 + 1 ≡ at + 4 = omega arith in
      let h : at + 4 + 1 ≡ at + 5 = omega arith in
      rw (a, b, c, e, f, g, h)

pub read_there : (ws : List ℕ) (at k : ℕ)
    → event_of (record { kind = k; button = get_or ws (at + 1) 0; count = get_or ws (at + 2) 0; flags = get_or ws (at + 3) 0; pos = record { x = of_bits binary32 (get_or ws (at + 4) 0); y = of_bits binary32 (get_or ws (at + 5) 0) } })
    ≡ event_by k (value_at (by_kind k) ws (suc at))
read_there ws at k = read_event ws at k ∙ ap (λ (i : ℕ). event_by k (value_at (by_kind k) ws i)) (add-one at)

-- one event more is stored
pub store_none : (cs : List ℕ) (ps : List Float) → Stored [] cs ps 0 cs ps
unfolding events events_from codes_of positions_of
store_none cs ps = record { count = refl; is = refl; codes_after = refl; positions_after = refl }

module _ {e : PointerEvent} {n : ℕ} {cs : List ℕ} {ps : List Float} {r : ℕ} {cs' : List ℕ} {ps' : List Float} (es : List PointerEvent) (cs₀ : List ℕ) (ps₀ : List Float)
    (s : Stored es cs₀ ps₀ n cs ps) (p : Pushed e n cs ps r cs' ps') (h : length es < max_events) where
  added : take max_events (events cs ps n ++ (e ∷ [])) ≡ es ++ (e ∷ [])
  added = rw s.is (take_all max_events (es ++ (e ∷ [])) (simp length-append (omega arith)))

  new : drop (length (events cs ps n)) (take max_events (events cs ps n ++ (e ∷ []))) ≡ e ∷ []
  new = rw (added, s.is) (drop-append_seam es (e ∷ []))

  joined : es ++ (e ∷ []) ≡ es ++ drop (length (events cs ps n)) (take max_events (events cs ps n ++ (e ∷ [])))
  joined = ap (λ (z : List PointerEvent). es ++ z) (sym new)

  counts : r ≡ length (es ++ (e ∷ []))
  counts = p.count ∙ rw (s.count, lt-ltb (length es) max_events h, length-append)

  pub store_more : Stored (es ++ (e ∷ [])) cs₀ ps₀ r cs' ps'
  store_more =
      record {
        count = counts;
        is = p.result ∙ added;
        codes_after = stored.codes_after cs₀ es _ s.codes_after s.count (stored.codes_written p) joined;
        positions_after = stored.positions_after ps₀ es _ s.positions_after s.count (stored.positions_written p) joined;
      }

pub rows_more : (ws : List ℕ) (i at : ℕ) → events_of_el (rows_at 6 (value_at event_code) (i + 1) ws at) ≡ events_of_el (rows_at 6 (value_at event_code) i ws at) ++ (event_of_el (value_at event_code ws (at + i * 6)) ∷ [])
unfolding events_of_el
rows_more ws i at = rw (read_row 6 (value_at event_code) ws i at, map-append)

pub rows_none : (ws : List ℕ) (at : ℕ) (cs : List ℕ) (ps : List Float) → Stored (events_of_el (rows_at 6 (value_at event_code) 0 ws at)) cs ps 0 cs ps
unfolding events_of_el rows_at
rows_none ws at cs ps = store_none cs ps

pub rows_count : (ws : List ℕ) (i at : ℕ) → length (events_of_el (rows_at 6 (value_at event_code) i ws at)) ≡ i
unfolding events_of_el
rows_count ws i at = length-map (rows_at 6 (value_at event_code) i ws at) event_of_el ∙ rows_length 6 (value_at event_code) ws i at

pub moved_stored : {vs us : List (El event_code)} {cs : List ℕ} {ps : List Float} {r : ℕ} {cs' : List ℕ} {ps' : List Float} → vs ≡ us → Stored (events_of_el vs) cs ps r cs' ps' → Stored (events_of_el us) cs ps r cs' ps'
moved_stored {cs = cs} {ps = ps} {r = r} {cs' = cs'} {ps' = ps'} e s = subst (λ (z : List (El event_code)). Stored (events_of_el z) cs ps r cs' ps') e s
