-- An insertion that is refused leaves the arrays of the set as before, whatever they hold: widget_rect's law, of what `decide` gives.
use Rattle.std.specs.Prelude.{Err, Result}
use Prim.Native.Nat.{ℕ}
use mathlib.Core.Path.{◌≡◌, sym, ◌∙◌}
use mathlib.Core.Bool.{Bool}
use mathlib.Core.List.{List, []}
use lib.Ieee.{Float}
use Rattle.data.specs.declared.widget.WidgetRect.{WidgetRect}
use Rattle.data.specs.declared.refusal.InsertRefusal.{InsertRefusal}
use Rattle.widget_index.specs.declared.table.WidgetRects.{WidgetRects}
use Rattle.widget_append.specs.declared.Insertion.{Insertion}
use Rattle.widget_append.specs.Append.{Gives}
use Rattle.widget_insert.specs.Insert.{decide}
use Rattle.widget_rect.proofs.Refused.{decide_keeps}

pub gives_kept : (h : WidgetRects) (words numbers : List ℕ) (edges : List Float) (lent : ℕ) (w : WidgetRect) (top : Bool)
    (d : Result Insertion InsertRefusal) (ws ns : List ℕ) (es : List Float) (why : InsertRefusal)
    → Gives (decide h words numbers edges lent w top) d ws ns es → d ≡ Err why
    → (ws ≡ words) × (ns ≡ numbers) × (es ≡ edges)
gives_kept h words numbers edges lent w top d ws ns es why g e =
    let k = (decide_keeps h words numbers edges [] lent w top).keeps why (sym g.decision ∙ e) in
    (g.words ∙ k.words_kept, g.numbers ∙ k.numbers_kept, g.edges ∙ k.edges_kept)
