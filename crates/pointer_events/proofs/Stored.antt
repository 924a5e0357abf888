-- Laws of the events in the lent arrays: an event is read back as it was written, one more, one read, one looked for. Assumes nothing.
use Rattle.std.specs.Prelude.{None, Some}
use Prim.Native.Nat.{ℕ, zero, suc, ◌+◌, ◌-◌, ◌*◌, ◌≤◌, ◌<◌}
use native.Mathlib.Omega.{arith}
use mathlib.Core.Path.{◌≡◌, refl, sym, ap, ◌∙◌}
use mathlib.Core.Bool.{Bool, true, false, cond}
use mathlib.Core.List.{List, [], ◌∷◌, ◌++◌, append_assoc}
use lib.Dec.{ltb}
use lib.ListN.{length, take, drop, get_or, set, length-append}
use lib.Seq.{lt-length-set, get_or-set_same, get_or-set_other, take_all, take-append-le, drop-length, drop-append_seam, sets, sets-eq, drop-drop}
use borrow.Rule.Slice.PartMut.{put_mid}
use borrow.Author.Tests.{ltb-true, ltb-false}
use lib.Ieee.{Float, nan}
use Rattle.emath_history.specs.Ring.{position_at, set_position}
use Rattle.data.specs.Limits.{max_events}
use Rattle.data.specs.Modifiers.{modifiers_number}
use Rattle.feed.proofs.RoundTrip.{button_back, modifiers_back}
use Rattle.model.specs.Types.{PointerEvent, Moved, Pressed, Released}
use Rattle.model.specs.Pointer.{any}
use Rattle.pointer_events.specs.Types.{Entry}
use Rattle.pointer_events.specs.Events.{click_of, event_of, entry_of, entry_at, events_from, counted, events, event_or_none, codes_with, codes_of, positions_of, Pushed}

-- a row written as a whole
pub put_row : {A : Type 0} (l : List A) (i k : ℕ) (xs ys : List A) → ys ≡ xs → k ≡ length xs → i + length xs ≤ length l → put_mid i k l ys ≡ sets l i xs
put_row l i k xs ys e n h = rw (e, n, drop-drop (length xs) i l, sets-eq xs l i h) (sym (append_assoc (take i l) xs (drop (i + length xs) l)))

-- ---- an event is read back as it was written
pub event_back : (e : PointerEvent) → event_of (entry_of e) ≡ e
unfolding event_of entry_of click_of
event_back (Moved v) = refl
event_back (Pressed v b) = rw (button_back b)
event_back (Released None b) = rw (button_back b)
event_back (Released (Some k) b) = rw (button_back b, modifiers_back k.modifiers (modifiers_number k.modifiers) 0 (omega arith))

-- ---- how many, one more
pub from_length : (cs : List ℕ) (ps : List Float) (i n : ℕ) → length (events_from cs ps i n) ≡ n
unfolding events_from
from_length cs ps i zero = refl
from_length cs ps i (suc n) = ap suc (from_length cs ps (suc i) n)

pub events_length : (cs : List ℕ) (ps : List Float) (n : ℕ) → length (events cs ps n) ≡ counted n
unfolding events
events_length cs ps n = from_length cs ps 0 (counted n)

pub events_small : (cs : List ℕ) (ps : List Float) (n : ℕ) → length (events cs ps n) ≤ max_events
events_small cs ps n = omega (arith, events_length cs ps n)

pub capped_events : (cs : List ℕ) (ps : List Float) (n : ℕ) → take max_events (events cs ps n) ≡ events cs ps n
capped_events cs ps n = take_all max_events (events cs ps n) (events_small cs ps n)

shift : (i n : ℕ) → i + suc n ≡ suc i + n
shift i n = omega arith

add-zero : (i : ℕ) → i + 0 ≡ i
add-zero i = omega arith

more : (cs : List ℕ) (ps : List Float) (i n : ℕ) → events_from cs ps i (suc n) ≡ events_from cs ps i n ++ (event_of (entry_at cs ps (i + n)) ∷ [])
unfolding events_from
more cs ps i zero = rw add-zero
more cs ps i (suc n) = rw (more cs ps (suc i) n, shift i n)

module _ (cs : List ℕ) (ps : List Float) (n : ℕ) (x : Entry) where
  abbrev cs' : List ℕ
  cs' = codes_with n x cs

  abbrev ps' : List Float
  ps' = set_position ps n x.pos

  -- an event at another place
  code_other : (j k : ℕ) → (j ≡ n → ⊥) → k < 4 → get_or cs' (j * 4 + k) 0 ≡ get_or cs (j * 4 + k) 0
  unfolding codes_with
  code_other j k h l =
      rw (
        get_or-set_other _ (n * 4 + 3) (j * 4 + k) x.flags 0 (λ e. h (omega arith)),
        get_or-set_other _ (n * 4 + 2) (j * 4 + k) x.count 0 (λ e. h (omega arith)),
        get_or-set_other _ (n * 4 + 1) (j * 4 + k) x.button 0 (λ e. h (omega arith)),
        get_or-set_other cs (n * 4) (j * 4 + k) x.kind 0 (λ e. h (omega arith)),
      )

  place_other : (j k : ℕ) → (j ≡ n → ⊥) → k < 2 → get_or ps' (j * 2 + k) nan ≡ get_or ps (j * 2 + k) nan
  place_other j k h l =
      rw (
        get_or-set_other _ (n * 2 + 1) (j * 2 + k) x.pos.y nan (λ e. h (omega arith)),
        get_or-set_other ps (n * 2) (j * 2 + k) x.pos.x nan (λ e. h (omega arith)),
      )

  entry_other : (j : ℕ) → (j ≡ n → ⊥) → entry_at cs' ps' j ≡ entry_at cs ps j
  unfolding entry_at position_at
  entry_other j h =
      rw (
        rw (add-zero (j * 4)) at (code_other j 0 h (omega arith)),
        code_other j 1 h (omega arith),
        code_other j 2 h (omega arith),
        code_other j 3 h (omega arith),
        rw (add-zero (j * 2)) at (place_other j 0 h (omega arith)),
        place_other j 1 h (omega arith),
      )

  pub before_same : (i k : ℕ) → i + k ≤ n → events_from cs' ps' i k ≡ events_from cs ps i k
  unfolding events_from
  before_same i zero h = refl
  before_same i (suc k) h = rw (entry_other i (λ e. omega arith), before_same (suc i) k (omega arith))

  -- the entry's numbers are stored one after the other
  pub codes_stored : cs' ≡ sets cs (n * 4) (x.kind ∷ x.button ∷ x.count ∷ x.flags ∷ [])
  unfolding codes_with
  codes_stored =
      let one : n * 4 + 1 ≡ suc (n * 4) = omega arith in
      let two : n * 4 + 2 ≡ suc (suc (n * 4)) = omega arith in
      let three : n * 4 + 3 ≡ suc (suc (suc (n * 4))) = omega arith in
      rw (one, two, three)

  positions_stored : ps' ≡ sets ps (n * 2) (x.pos.x ∷ x.pos.y ∷ [])
  positions_stored =
      let one : n * 2 + 1 ≡ suc (n * 2) = omega arith in
      rw one

  module _ (hc : n * 4 + 3 < length cs) (hp : n * 2 + 1 < length ps) (h : n < max_events) where
    abbrev c1 : List ℕ
    c1 = set cs (n * 4) x.kind

    abbrev c2 : List ℕ
    c2 = set c1 (n * 4 + 1) x.button

    abbrev c3 : List ℕ
    c3 = set c2 (n * 4 + 2) x.count

    in_c1 : (k : ℕ) → k ≤ n * 4 + 3 → k < length c1
    in_c1 k l = lt-length-set cs (n * 4) x.kind (omega arith)

    in_c2 : (k : ℕ) → k ≤ n * 4 + 3 → k < length c2
    in_c2 k l = lt-length-set c1 (n * 4 + 1) x.button (in_c1 k l)

    in_c3 : (k : ℕ) → k ≤ n * 4 + 3 → k < length c3
    in_c3 k l = lt-length-set c2 (n * 4 + 2) x.count (in_c2 k l)

    entry_same : entry_at cs' ps' n ≡ x
    unfolding entry_at position_at codes_with
    entry_same =
        rw (
          get_or-set_other c3 (n * 4 + 3) (n * 4) x.flags 0 (λ e. omega arith),
          get_or-set_other c2 (n * 4 + 2) (n * 4) x.count 0 (λ e. omega arith),
          get_or-set_other c1 (n * 4 + 1) (n * 4) x.button 0 (λ e. omega arith),
          get_or-set_same cs (n * 4) x.kind 0 (omega arith),
          get_or-set_other c3 (n * 4 + 3) (n * 4 + 1) x.flags 0 (λ e. omega arith),
          get_or-set_other c2 (n * 4 + 2) (n * 4 + 1) x.count 0 (λ e. omega arith),
          get_or-set_same c1 (n * 4 + 1) x.button 0 (in_c1 (n * 4 + 1) (omega arith)),
          get_or-set_other c3 (n * 4 + 3) (n * 4 + 2) x.flags 0 (λ e. omega arith),
          get_or-set_same c2 (n * 4 + 2) x.count 0 (in_c2 (n * 4 + 2) (omega arith)),
          get_or-set_same c3 (n * 4 + 3) x.flags 0 (in_c3 (n * 4 + 3) (omega arith)),
          get_or-set_other (set ps (n * 2) x.pos.x) (n * 2 + 1) (n * 2) x.pos.y nan (λ e. omega arith),
          get_or-set_same ps (n * 2) x.pos.x nan (omega arith),
          get_or-set_same (set ps (n * 2) x.pos.x) (n * 2 + 1) x.pos.y nan (lt-length-set ps (n * 2) x.pos.x (omega arith)),
        )

    pub pushed : (e : PointerEvent) → event_of x ≡ e → events cs' ps' (n + 1) ≡ take max_events (events cs ps n ++ (e ∷ []))
    unfolding events
    pushed e q =
        let a : counted (n + 1) ≡ suc n = omega arith in
        let b : counted n ≡ n = omega arith in
        let z : 0 + n ≡ n = omega arith in
        let small : length (events_from cs ps 0 n ++ (e ∷ [])) ≤ max_events = simp (length-append, from_length) (omega arith) in
        rw (a, b, take_all max_events (events_from cs ps 0 n ++ (e ∷ [])) small, more cs' ps' 0 n, before_same 0 n (omega arith), z, entry_same, q)

-- where there are `max_events` already
pub full : (cs : List ℕ) (ps : List Float) (n : ℕ) (e : PointerEvent) → max_events ≤ n → events cs ps n ≡ take max_events (events cs ps n ++ (e ∷ []))
full cs ps n e h =
    let l : max_events ≤ length (events cs ps n) = omega (arith, events_length cs ps n) in
    rw (take-append-le max_events (events cs ps n) (e ∷ []) l, capped_events cs ps n)

module _ {e : PointerEvent} {n : ℕ} {cs : List ℕ} {ps : List Float} {r : ℕ} {cs' : List ℕ} {ps' : List Float} (p : Pushed e n cs ps r cs' ps') where
  pub pushed_room : length (events cs ps n) < max_events → events cs' ps' r ≡ events cs ps n ++ (e ∷ [])
  pushed_room h = p.result ∙ take_all max_events (events cs ps n ++ (e ∷ [])) (simp length-append (omega arith))

  -- what is added: the event, where there is room
  abbrev new : List PointerEvent
  new = drop (length (events cs ps n)) (take max_events (events cs ps n ++ (e ∷ [])))

  new_is : new ≡ cond (ltb n max_events) (e ∷ []) []
  new_is = go (ltb n max_events) refl
    where
      go : (b : Bool) → ltb n max_events ≡ b → new ≡ cond b (e ∷ []) []
      go true t =
          let small : length (events cs ps n ++ (e ∷ [])) ≤ max_events =
          simp (length-append, events_length) (omega (arith, ltb-true n max_events t)) in
          rw (take_all max_events (events cs ps n ++ (e ∷ [])) small) (drop-append_seam (events cs ps n) (e ∷ []))
      go false t = rw (← full cs ps n e (ltb-false n max_events t)) (drop-length (events cs ps n))

  pub codes_written : cs' ≡ sets cs (n * 4) (codes_of new)
  unfolding codes_of
  codes_written = rw (p.codes_after, new_is) (go (ltb n max_events))
    where
      go : (b : Bool) → cond b (codes_with n (entry_of e) cs) cs ≡ sets cs (n * 4) (codes_of (cond b (e ∷ []) []))
      go true = codes_stored cs ps n (entry_of e)
      go false = refl

  pub positions_written : ps' ≡ sets ps (n * 2) (positions_of new)
  unfolding positions_of
  positions_written = rw (p.positions_after, new_is) (go (ltb n max_events))
    where
      go : (b : Bool) → cond b (set_position ps n (entry_of e).pos) ps ≡ sets ps (n * 2) (positions_of (cond b (e ∷ []) []))
      go true = positions_stored cs ps n (entry_of e)
      go false = refl

-- ---- a list written after another
sets_append : {A : Type 0} (l : List A) (i : ℕ) (vs ws : List A) → sets l i (vs ++ ws) ≡ sets (sets l i vs) (i + length vs) ws
sets_append l i [] ws = rw (add-zero i)
sets_append l i (v ∷ vs) ws = rw (shift i (length vs)) (sets_append (set l i v) (suc i) vs ws)

codes_length : (es : List PointerEvent) → length (codes_of es) ≡ length es * 4
unfolding codes_of
codes_length [] = refl
codes_length (e ∷ es) = let rest = codes_length es in omega arith

positions_length : (es : List PointerEvent) → length (positions_of es) ≡ length es * 2
unfolding positions_of
positions_length [] = refl
positions_length (e ∷ es) = let rest = positions_length es in omega arith

codes_append : (es fs : List PointerEvent) → codes_of (es ++ fs) ≡ codes_of es ++ codes_of fs
unfolding codes_of
codes_append [] fs = refl
codes_append (e ∷ es) fs = rw (codes_append es fs)

positions_append : (es fs : List PointerEvent) → positions_of (es ++ fs) ≡ positions_of es ++ positions_of fs
unfolding positions_of
positions_append [] fs = refl
positions_append (e ∷ es) fs = rw (positions_append es fs)

-- the events `fs` after `es`, which stand from the first place of `cs₀` on
pub codes_after : (cs₀ : List ℕ) (es fs : List PointerEvent) {cs cs' : List ℕ} {n : ℕ} {gs : List PointerEvent} →
    cs ≡ sets cs₀ 0 (codes_of es) → n ≡ length es → cs' ≡ sets cs (n * 4) (codes_of fs) → gs ≡ es ++ fs → cs' ≡ sets cs₀ 0 (codes_of gs)
codes_after cs₀ es fs h k e g =
    let end : 0 + length (codes_of es) ≡ length es * 4 = omega (arith, codes_length es) in
    rw (e, k, h, g, codes_append es fs, sets_append cs₀ 0 (codes_of es) (codes_of fs), end)

pub positions_after : (ps₀ : List Float) (es fs : List PointerEvent) {ps ps' : List Float} {n : ℕ} {gs : List PointerEvent} →
    ps ≡ sets ps₀ 0 (positions_of es) → n ≡ length es → ps' ≡ sets ps (n * 2) (positions_of fs) → gs ≡ es ++ fs → ps' ≡ sets ps₀ 0 (positions_of gs)
positions_after ps₀ es fs h k e g =
    let end : 0 + length (positions_of es) ≡ length es * 2 = omega (arith, positions_length es) in
    rw (e, k, h, g, positions_append es fs, sets_append ps₀ 0 (positions_of es) (positions_of fs), end)

-- ---- one read
read : (cs : List ℕ) (ps : List Float) (j n i : ℕ) → i < n → Some (event_of (entry_at cs ps (j + i))) ≡ event_or_none (events_from cs ps j n) i
unfolding events_from event_or_none
read cs ps j zero i h = absurd (omega arith)
read cs ps j (suc n) zero h = rw (add-zero j)
read cs ps j (suc n) (suc i) h = rw (shift j i) (read cs ps (suc j) n i (omega arith))

read_past : (cs : List ℕ) (ps : List Float) (j n i : ℕ) → n ≤ i → None ≡ event_or_none (events_from cs ps j n) i
unfolding events_from event_or_none
read_past cs ps j zero i h = refl
read_past cs ps j (suc n) zero h = absurd (omega arith)
read_past cs ps j (suc n) (suc i) h = read_past cs ps (suc j) n i (omega arith)

module _ (cs : List ℕ) (ps : List Float) (n i : ℕ) where
  pub read_event : i < counted n → Some (event_of (entry_at cs ps i)) ≡ event_or_none (events cs ps n) i
  unfolding events
  read_event h = let z : 0 + i ≡ i = omega arith in rw z at (read cs ps 0 (counted n) i h)

  pub read_none : counted n ≤ i → None ≡ event_or_none (events cs ps n) i
  unfolding events
  read_none h = read_past cs ps 0 (counted n) i h

-- ---- one looked for: what is left of the search from event i on
unfoldable pub rest : (PointerEvent → Bool) → List ℕ → List Float → ℕ → ℕ → Bool
rest f cs ps n i = any f (events_from cs ps i (n - i))

module _ (f : PointerEvent → Bool) (cs : List ℕ) (ps : List Float) where
  left : (n i : ℕ) → i < n → n - i ≡ suc (n - (i + 1))
  left n i h = omega arith

  next : (i : ℕ) → i + 1 ≡ suc i
  next i = omega arith

  pub found : (n i : ℕ) → i < n → f (event_of (entry_at cs ps i)) ≡ true → true ≡ rest f cs ps n i
  unfolding rest events_from any
  found n i h e = rw (left n i h, e)

  pub passed : (n i : ℕ) → i < n → f (event_of (entry_at cs ps i)) ≡ false → rest f cs ps n (i + 1) ≡ rest f cs ps n i
  unfolding rest events_from any
  passed n i h e = rw (left n i h, e, next i)

  pub none_left : (n i : ℕ) → n ≤ i → false ≡ rest f cs ps n i
  unfolding rest events_from any
  none_left n i h = let z : n - i ≡ 0 = omega arith in rw z

  pub whole : (n : ℕ) → rest f cs ps (counted n) 0 ≡ any f (events cs ps n)
  unfolding rest events
  whole n = let z : counted n - 0 ≡ counted n = omega arith in rw z
