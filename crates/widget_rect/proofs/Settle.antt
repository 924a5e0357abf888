-- What `settle` does to the lent slice, in plain lists. Assumes nothing.
use mathlib.Core.Path.{◌≡◌, sym, ◌∙◌, ap}
use Prim.Native.Nat.{ℕ, suc, ◌+◌, ◌-◌, ◌<◌, ◌≤◌}
use native.Mathlib.Omega.{arith}
use native.Mathlib.Numerals.{add-one}
use mathlib.Core.Bool.{false}
use mathlib.Core.List.{List, ◌∷◌, ◌++◌, append_assoc}
use lib.Ieee.{nan}
use lib.ListN.{length, take, drop, set, get_or, length-drop}
use lib.Seq.{paste, length_paste_head, drop-cons, set_at}
use borrow.Author.Tests.{lt-ltb, le-ltb}
use Rattle.std.proofs.lemmas.List.{drop-take}
use Rattle.emath.specs.declared.rect.Rect.{Rect}
use Rattle.data.specs.declared.widget.WidgetRect.{WidgetRect}
use Rattle.model.specs.Widgets.{move_to_end}
use Rattle.widget_append.specs.Append.{settled}

abbrev no_rect : Rect
no_rect = record { min = record { x = nan; y = nan }; max = record { x = nan; y = nan } }

-- what `get_or` gives past the end of a list
abbrev blank : WidgetRect
blank = record { id = 0; parent_id = 0; layer_id = record { order = 0; id = 0 }; rect = no_rect; interact_rect = no_rect; sense = 0; enabled = false; visible = false }

pub nothing_settled : (from to : ℕ) (w : WidgetRect) (ys : List WidgetRect) → to ≤ from → settled from to w ys ≡ ys
unfolding settled
nothing_settled from to w ys l = rw (le-ltb from to l)

-- the n records after `from` have fallen by one, and the record comes last
falls : (from to n : ℕ) (w : WidgetRect) (ys : List WidgetRect) → to ≡ suc from + n → to ≤ length ys
    → set (paste ys from (drop (suc from) ys) n) (to - 1) w ≡ move_to_end from to w ys
unfolding move_to_end
falls from to n w ys e within =
    ap (λ (r : List WidgetRect). set (front ++ r) (to - 1) w) (drop-cons ys (from + n) blank (omega arith))
    ∙ set_at front (get_or ys (from + n) blank) (drop (suc (from + n)) ys) w (to - 1) (length_paste_head ys from (drop (suc from) ys) n (omega arith) (omega (arith, length-drop (suc from) ys)) ∙ last)
    ∙ append_assoc (take from ys) (take n (drop (suc from) ys)) (w ∷ drop (suc (from + n)) ys)
    ∙ sym (ap (λ (r : List WidgetRect). take from ys ++ (r ++ (w ∷ drop to ys))) fallen ∙ ap (λ (k : ℕ). take from ys ++ (take n (drop (suc from) ys) ++ (w ∷ drop k ys))) after)
  where
    front : List WidgetRect
    front = take from ys ++ take n (drop (suc from) ys)

    last : from + n ≡ to - 1
    last = omega arith

    after : to ≡ suc (from + n)
    after = omega arith

    fallen : drop (suc from) (take to ys) ≡ take n (drop (suc from) ys)
    fallen = ap (λ (k : ℕ). drop (suc from) (take k ys)) e ∙ drop-take (suc from) n ys

pub settles : (from to : ℕ) (w : WidgetRect) (ys : List WidgetRect) → from < to → to ≤ length ys → set (paste ys from (drop (from + 1) ys) (to - (from + 1))) (to - 1) w ≡ settled from to w ys
unfolding settled
settles from to w ys less within = rw (add-one, lt-ltb from to less) (falls from to (to - suc from) w ys (omega arith) within)
