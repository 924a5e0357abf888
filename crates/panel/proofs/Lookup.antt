-- In a well-formed set the lookup by the index is the model's `get`. Assumes nothing.
use mathlib.Core.Path.{◌≡◌, refl, ◌∙◌, ap, fun_ext}
use Prim.Native.Nat.{ℕ, zero, suc}
use mathlib.Core.List.{List}
use lib.Ieee.{Float}
use Rattle.model.specs.Widgets.{get, widget_of}
use Rattle.widget_index.specs.declared.table.WidgetRects.{WidgetRects}
use Rattle.widget_index.specs.Table.{known_at, find}
use Rattle.widget_rect.specs.Questions as Questions
use Rattle.widget_rect.specs.WellFormed.{WellFormed}
use Rattle.widget_rect.proofs.Index.{finds_known}
use Rattle.interaction_state.specs.Lookup.{at_entry, lookup}
use Rattle.panel.specs.Steps.{widgets_of}

module _ (set : WidgetRects) (words numbers : List ℕ) (edges : List Float) where
  same_entry : (e : ℕ) → widget_of (Questions.at_entry (known_at words numbers edges) e) ≡ at_entry words numbers edges e
  unfolding widget_of at_entry
  same_entry zero = refl
  same_entry (suc s) = refl

  pub looked_up : WellFormed set words numbers edges → widgets_of set words numbers edges ≡ lookup set words numbers edges
  unfolding get lookup
  looked_up wf = fun_ext (λ d. ap widget_of (finds_known set words numbers wf.indexed d edges) ∙ same_entry (find set words numbers d))
