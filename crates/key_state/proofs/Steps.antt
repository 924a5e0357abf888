-- The model's steps on what the set and the lent presses mean. Assumes nothing.
use mathlib.Core.Path.{◌≡◌, refl, sym, ap, ap₂, fun_ext, ◌∙◌}
use mathlib.Core.Bool.{Bool, true, false, cond}
use mathlib.Core.List.{List, [], ◌∷◌, ◌++◌}
use Prim.Native.Nat.{ℕ, zero, suc, ◌+◌, ◌≤◌, ◌<◌, min}
use native.Mathlib.Omega.{arith}
use lib.Dec.{T, eqb, ltb}
use lib.Ieee.Bits.{is_true}
use lib.ListN.{get_or, set, length, length-append, replicate, get_or-replicate, get_or-append}
use lib.Seq.{get_or-set_same, get_or-set_other, get_or_at, ext_get_or}
use borrow.Author.Tests.{eqb-true, eqb-false, ne_eqb, ltb-true, ltb-false, lt-ltb}
use Rattle.data.specs.Limits.{key_count}
use Rattle.feed.specs.Encode.{fields_ok}
use Rattle.feed.specs.Split.{pieces, pieces_from}
use Rattle.model.specs.Types.{Modifiers, Event, Key, ModifiersChanged, PointerMoved, MouseMoved, Button, PointerGone, Zoom, Rotate, Touch, MouseWheel, WindowFocused, Other}
use Rattle.model.specs.Pass.{set_key, count_press, no_keys, no_presses, key_event, is_empty, fresh}
use Rattle.model.specs.Pass as Pass
use Rattle.data.specs.Modifiers.{no_modifiers}
use Rattle.event_loop.specs.Shaped.{shaped_events}
use Rattle.key_state.specs.declared.bits.Set256.{Set256}
use Rattle.key_state.specs.declared.keys.Keys.{Keys}
use Rattle.key_state.specs.Bits.{has, with_member}
use Rattle.key_state.specs.View.{presses_of, one_more, down_of, keys, numbers_of, begun}

-- two records whose functions agree at each key
pub alike : {f g : ℕ → Bool} {p q : ℕ → ℕ} (m : Modifiers) (b : Bool) → ((j : ℕ) → f j ≡ g j) → ((j : ℕ) → p j ≡ q j) →
    ◌≡◌ {A = Pass.Keys} (record { keys_down = f; modifiers = m; presses = p; feed_empty = b }) (record { keys_down = g; modifiers = m; presses = q; feed_empty = b })
alike m b h k = ap₂ (λ (f : ℕ → Bool) (p : ℕ → ℕ). record { keys_down = f; modifiers = m; presses = p; feed_empty = b }) (fun_ext h) (fun_ext k)

-- one press more
counted : (ps : List ℕ) (k n : ℕ) → k < key_count → k < length ps → n ≡ get_or ps k 0 + 1 → (j : ℕ) → presses_of (set ps k n) j ≡ count_press k (presses_of ps) j
unfolding count_press
counted ps k n small here e j = go (eqb j k) refl
  where
    go : (b : Bool) → eqb j k ≡ b → presses_of (set ps k n) j ≡ cond b 1 0 + presses_of ps j
    go true t =
        let q : j ≡ k = eqb-true _ _ t in
        rw (q, lt-ltb k key_count small, get_or-set_same ps k n 0 here, e) (omega arith)
    go false t = rw (get_or-set_other ps k j n 0 (eqb-false _ _ t)) (omega arith)

module _ (ps : List ℕ) (k : Keys) (down : Set256) (place : ℕ) (pressed : Bool) (small : place < key_count)
    (same : (j : ℕ) → has down j ≡ with_member place pressed k.down j) where
  abbrev new : Keys
  new = record { down = down; modifiers = k.modifiers; feed_empty = k.feed_empty }

  members : (j : ℕ) → down_of down j ≡ set_key place pressed (down_of k.down) j
  unfolding with_member set_key
  members j = rw (same j, lt-ltb place 256 (omega arith)) (go (eqb j place) refl (ltb j key_count) refl)
    where
      go : (b : Bool) → eqb j place ≡ b → (c : Bool) → ltb j key_count ≡ c → cond c (cond b pressed (has k.down j)) false ≡ cond b pressed (cond c (has k.down j) false)
      go true t c u =
          let q : j ≡ place = eqb-true _ _ t in
          rw (sym u, q, lt-ltb place key_count small)
      go false t c u = refl

  pub released : pressed ≡ false → keys ps new ≡ key_event (Key place pressed) (keys ps k)
  unfolding key_event
  released e = rw e (alike k.modifiers k.feed_empty (rw e at members) (λ j. refl))

  pub is_pressed : place < length ps → presses_of ps place < 255 → pressed ≡ true →
      keys (set ps place (one_more (get_or ps place 0))) new ≡ key_event (Key place pressed) (keys ps k)
  unfolding key_event one_more
  is_pressed here room e =
      let more : one_more (get_or ps place 0) ≡ get_or ps place 0 + 1 = rw (lt-ltb (get_or ps place 0) 255 (rw (lt-ltb place key_count small) at room)) in
      rw e (alike k.modifiers k.feed_empty (rw e at members) (counted ps place (one_more (get_or ps place 0)) small here more))

none_down : (down : Set256) → ((j : ℕ) → has down j ≡ false) → (j : ℕ) → down_of down j ≡ false
none_down down h j = rw (h j) (go (ltb j key_count))
  where
    go : (b : Bool) → cond b false false ≡ false
    go true = refl
    go false = refl

-- lost focus
pub unfocused : (ps : List ℕ) (k : Keys) (down : Set256) (m : Modifiers) (focused : Bool) → focused ≡ false → ((j : ℕ) → has down j ≡ false) → m ≡ no_modifiers →
    keys ps (record { down = down; modifiers = m; feed_empty = k.feed_empty }) ≡ key_event (WindowFocused focused) (keys ps k)
unfolding key_event no_keys
unfocused ps k down m focused e h none = rw (e, none) (alike no_modifiers k.feed_empty (none_down down h) (λ j. refl))

pub fresh_is : (ps : List ℕ) (down : Set256) (m : Modifiers) → ((j : ℕ) → presses_of ps j ≡ 0) → ((j : ℕ) → has down j ≡ false) → m ≡ no_modifiers →
    keys ps (record { down = down; modifiers = m; feed_empty = true }) ≡ fresh.keys
unfolding fresh no_keys no_presses
fresh_is ps down m zeros h none = rw none (alike no_modifiers true (none_down down h) zeros)

-- ---- a pass
pub cleared : (j : ℕ) → presses_of (replicate key_count 0) j ≡ 0
cleared j = go (ltb j key_count) refl
  where
    go : (b : Bool) → ltb j key_count ≡ b → ◌≡◌ {A = ℕ} (cond b (get_or (replicate key_count 0) j 0) 0) 0
    go true t = get_or-replicate {A = ℕ} key_count j 0 0 (ltb-true _ _ t)
    go false t = refl

pub no_more : (n : ℕ) → n ≡ 0 → n ≤ 0
no_more n h = omega arith

empty_shaped : (ws : List ℕ) → eqb (length ws) 0 ≡ is_empty (shaped_events ws)
unfolding shaped_events pieces pieces_from is_empty
empty_shaped [] = refl
empty_shaped (w ∷ ws) = ne_eqb (suc (length ws)) 0 (λ (q : suc (length ws) ≡ 0). omega arith)

-- a key that a feed's event has is one of egui's
pub named_below : (place : ℕ) (pressed : Bool) → T (fields_ok (Key place pressed)) → place < key_count
unfolding fields_ok
named_below place pressed f = ltb-true place key_count (is_true (ltb place key_count) f)

-- ---- the places of the presses
numbers_length : (f : ℕ → ℕ) (n : ℕ) → length (numbers_of f n) ≡ n
unfolding numbers_of
numbers_length f zero = refl
numbers_length f (suc n) = omega (arith, length-append (numbers_of f n) (f n ∷ []), numbers_length f n)

number_at : (f : ℕ → ℕ) (n j : ℕ) → j < n → get_or (numbers_of f n) j 0 ≡ f j
unfolding numbers_of
number_at f zero j h = absurd (omega arith)
number_at f (suc n) j h = go (ltb j n) refl (λ l. number_at f n j l)
  where
    go : (b : Bool) → ltb j n ≡ b → (j < n → get_or (numbers_of f n) j 0 ≡ f j) → get_or (numbers_of f n ++ (f n ∷ [])) j 0 ≡ f j
    go true t before =
        let l = numbers_length f n in
        get_or-append (numbers_of f n) (f n ∷ []) 0 j (omega (arith, ltb-true j n t)) ∙ before (ltb-true j n t)
    go false t before =
        let e : j ≡ n = omega (arith, ltb-false j n t) in
        rw e (get_or_at (numbers_of f n) (f n) [] 0 n (numbers_length f n))

-- places that hold the presses of each key
pub all_numbers : (ps : List ℕ) (f : ℕ → ℕ) → length ps ≡ key_count → ((j : ℕ) → presses_of ps j ≡ f j) → ps ≡ numbers_of f key_count
all_numbers ps f long same =
    ext_get_or 0 ps (numbers_of f key_count) (long ∙ sym (numbers_length f key_count))
    (λ j h.
    let small : j < key_count = omega arith in
    rw (lt-ltb j key_count small) at (same j) ∙ sym (number_at f key_count j small))

-- before the first event
pub start : (ws ps qs : List ℕ) (k : Keys) → ((j : ℕ) → presses_of qs j ≡ 0) →
    keys qs (record { down = k.down; modifiers = k.modifiers; feed_empty = eqb (length ws) 0 }) ≡ begun (is_empty (shaped_events ws)) (keys ps k)
unfolding no_presses
start ws ps qs k zeros = rw (empty_shaped ws) (alike k.modifiers (is_empty (shaped_events ws)) (λ j. refl) zeros)

-- an event counts one press at most
at_most_one : (b : Bool) (n : ℕ) → cond b 1 0 + n ≤ n + 1
at_most_one true n = omega arith
at_most_one false n = omega arith

grows : (e : Event) (s : Pass.Keys) (j : ℕ) → (key_event e s).presses j ≤ s.presses j + 1
unfolding key_event count_press
grows (Key k true) s j = at_most_one (eqb j k) (s.presses j)
grows (Key k false) s j = omega arith
grows (ModifiersChanged m) s j = omega arith
grows (PointerMoved v) s j = omega arith
grows (MouseMoved v) s j = omega arith
grows (Button v b d m) s j = omega arith
grows PointerGone s j = omega arith
grows (Zoom x) s j = omega arith
grows (Rotate x) s j = omega arith
grows (Touch d i ph v f) s j = omega arith
grows (MouseWheel u v ph g m) s j = omega arith
grows (WindowFocused true) s j = omega arith
grows (WindowFocused false) s j = omega arith
grows Other s j = omega arith

-- a byte has room for the presses of n events
pub more : (e : Event) (s new : Pass.Keys) (n : ℕ) → ((j : ℕ) → s.presses j ≤ n) → new ≡ key_event e s → (j : ℕ) → new.presses j ≤ n + 1
more e s new n r h j =
    let before = r j in
    let g : new.presses j ≤ s.presses j + 1 = rw (ap (λ (k : Pass.Keys). k.presses j) h) (grows e s j) in
    omega arith

-- a byte that stays at 255
pub saturated : (n : ℕ) → n < 256 → min (n + 1) 255 ≡ one_more n
unfolding one_more
saturated n h = go (ltb n 255) refl
  where
    go : (b : Bool) → ltb n 255 ≡ b → min (n + 1) 255 ≡ cond b (n + 1) n
    go true q = let l : n < 255 = ltb-true n 255 q in omega arith
    go false q = let l : 255 ≤ n = ltb-false n 255 q in omega arith
