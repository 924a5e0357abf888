-- 02 A.7: the number of buttons down is that of the flags, whatever is pressed and released. Assumes nothing.
use Prim.Native.Nat.{ℕ, suc, ◌+◌, ◌-◌, ◌≤◌}
use native.Mathlib.Omega.{arith}
use mathlib.Core.Path.{◌≡◌, refl, ap, ◌∙◌}
use mathlib.Core.Bool.{Bool, true, false, ◌||◌, cond}
use mathlib.Core.List.{List, [], ◌∷◌}
use lib.Dec.{ltb}
use lib.Ieee.{Float}
use borrow.Author.Tests.{lt-ltb}
use Rattle.data.specs.Bits.{bit_number}
use Rattle.data.specs.Limits.{button_count}
use Rattle.model.specs.Types.{InputOptions, Event, ButtonsDown, PointerButton, Primary, Secondary, Middle, Extra1, Extra2}
use Rattle.model.specs.Pointer.{how_many, flags_down, CountTrue, recount, set_down, no_buttons, buttons, any_down, any_flag, Press, press_event, press_events, release, release_button, press_button, add_event}
use Rattle.theorems.specs.Reach.{CountLaws}
use Rattle.theorems.proofs.Pointer.{PointerView, a_move, a_press, a_release, nothing, pointer_view}

-- ---- one button's part of the number
bit≤1 : (b : Bool) → bit_number b ≤ 1
bit≤1 true = omega arith
bit≤1 false = omega arith

one_button : (was v : Bool) (n others : ℕ) → others ≤ 4 → n ≡ bit_number was + others → recount was v n ≡ bit_number v + others
unfolding recount
one_button false true n others h e = ap (λ (b : Bool). cond b (suc n) n) (lt-ltb n button_count (omega arith)) ∙ omega arith
one_button true false n others h e = omega arith
one_button true true n others h e = e
one_button false false n others h e = e

record Bits (d : ButtonsDown) : Type 0 where
  primary_bit : bit_number d.primary ≤ 1
  secondary_bit : bit_number d.secondary ≤ 1
  middle_bit : bit_number d.middle ≤ 1
  extra1_bit : bit_number d.extra1 ≤ 1
  extra2_bit : bit_number d.extra2 ≤ 1

bits : (d : ButtonsDown) → Bits d
bits d = record { primary_bit = bit≤1 d.primary; secondary_bit = bit≤1 d.secondary; middle_bit = bit≤1 d.middle; extra1_bit = bit≤1 d.extra1; extra2_bit = bit≤1 d.extra2 }

-- the others' part
abbrev others : ButtonsDown → Bool → ℕ
others d was = flags_down d - bit_number was

pub count_kept : (b : PointerButton) (v : Bool) (d : ButtonsDown) → CountTrue d → CountTrue (set_down b v d)
unfolding set_down flags_down
count_kept b v d h = go b (bits d)
  where
    go : (b : PointerButton) → Bits d → CountTrue (set_down b v d)
    go Primary s = omega (arith, one_button d.primary v d.count (others d d.primary) (omega arith) (omega arith))
    go Secondary s = omega (arith, one_button d.secondary v d.count (others d d.secondary) (omega arith) (omega arith))
    go Middle s = omega (arith, one_button d.middle v d.count (others d d.middle) (omega arith) (omega arith))
    go Extra1 s = omega (arith, one_button d.extra1 v d.count (others d d.extra1) (omega arith) (omega arith))
    go Extra2 s = omega (arith, one_button d.extra2 v d.count (others d d.extra2) (omega arith) (omega arith))

-- ---- where the number is true, any_down is egui's scan
count_scans : (d : ButtonsDown) → CountTrue d → any_down d ≡ any_flag d
unfolding any_down any_flag flags_down
count_scans d h = ap (λ (n : ℕ). ltb 0 n) h ∙ go d.primary d.secondary d.middle d.extra1 d.extra2
  where
    go : (a b c e f : Bool) → ltb 0 (how_many a b c e f) ≡ (a || b || c || e || f)
    go true b c e f = lt-ltb 0 (how_many true b c e f) (omega arith)
    go false true c e f = lt-ltb 0 (how_many false true c e f) (omega arith)
    go false false true e f = lt-ltb 0 (how_many false false true e f) (omega arith)
    go false false false true f = lt-ltb 0 (how_many false false false true f) (omega arith)
    go false false false false true = refl
    go false false false false false = refl

pub count_laws : CountLaws
unfolding no_buttons flags_down buttons
count_laws = record { none_down = refl; kept = count_kept; scans = count_scans; made = λ a b c d e. refl }

-- ---- all five marked up: none is down, and their number is 0
abbrev pub all_up : ButtonsDown → ButtonsDown
all_up d = set_down Extra2 false (set_down Extra1 false (set_down Middle false (set_down Secondary false (set_down Primary false d))))

pub all_up_is : (d : ButtonsDown) → CountTrue d → all_up d ≡ no_buttons
unfolding set_down no_buttons flags_down
all_up_is d h =
    let a = set_down Primary false d in
    let b = set_down Secondary false a in
    let c = set_down Middle false b in
    let e = set_down Extra1 false c in
    let t : CountTrue (all_up d) = count_kept Extra2 false e (count_kept Extra1 false c (count_kept Middle false b (count_kept Secondary false a (count_kept Primary false d h)))) in
    λ j. record { primary = false; secondary = false; middle = false; extra1 = false; extra2 = false; count = t j }

-- ---- events
event_count : (o : InputOptions) (now : Float) (e : Event) (s : Press) → CountTrue s.held.down → CountTrue (press_event o now e s).held.down
unfolding press_event release release_button press_button add_event
event_count o now e s h = go (pointer_view e)
  where
    go : {e : Event} → PointerView e → CountTrue (press_event o now e s).held.down
    go (a_move v) = h
    go (a_press v b m) = count_kept b true s.held.down h
    go (a_release v b m) = count_kept b false s.held.down h
    go (nothing k l) = rw (k o now s) h

pub events_count : (o : InputOptions) (now : Float) (es : List Event) (s : Press) → CountTrue s.held.down → CountTrue (press_events o now es s).held.down
unfolding press_events
events_count o now [] s h = h
events_count o now (e ∷ es) s h = events_count o now es (press_event o now e s) (event_count o now e s h)
