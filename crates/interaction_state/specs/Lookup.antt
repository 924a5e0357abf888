-- The widget set as the model's lookup, by its index. In a well-formed set it is the model's `get`.
use Rattle.std.specs.Prelude.{ℕ, zero, suc, List, Float, Option, None, Some}
use Rattle.model.specs.Types.{WidgetRect}
use Rattle.widget_index.specs.Table.{find, widget_at}
use Rattle.interaction_state.specs.Types.{WidgetRects, Found}

-- the record of an entry; 0 is none
unfoldable pub at_entry : List ℕ → List ℕ → List Float → ℕ → Option WidgetRect
at_entry words numbers edges zero = None
at_entry words numbers edges (suc s) = Some (widget_at words numbers edges s)

unfoldable pub lookup : WidgetRects → List ℕ → List ℕ → List Float → ℕ → Option WidgetRect
lookup set words numbers edges d = at_entry words numbers edges (find set words numbers d)

-- what an interact reads of a widget
unfoldable pub found_of : Option WidgetRect → Option Found
found_of None = None
found_of (Some w) = Some (record { enabled = w.enabled; sense = w.sense })
