-- What INSERT leaves of the set, of its three arrays and of the lent records of the widgets.
use Rattle.std.specs.Prelude.{ℕ, ◌≡◌}
use Rattle.widget_index.specs.declared.table.WidgetRects.{WidgetRects}
use Rattle.trace_widgets.specs.declared.insert.Placed.{Placed}
use Rattle.trace_widgets.specs.declared.lent.SetArrays.{SetArrays}

pub record Insertion (h : WidgetRects) (k : SetArrays) (r : Placed) (k' : SetArrays) : Type 0 where
  -- refused, by its format or by the insertion: the set and every place of the lent arrays are as before
  pub refused : (r.reply.code ≡ 0 → ⊥)
      → (r.«set» ≡ h) × (k'.words ≡ k.words) × (k'.numbers ≡ k.numbers) × (k'.edges ≡ k.edges) × (k'.lent ≡ k.lent)
