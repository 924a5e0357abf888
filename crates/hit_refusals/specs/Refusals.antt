-- What is refused of an interact's input, and that input, in the model.
use Rattle.std.specs.Prelude.{ℕ, List, [], Option, None, Some, Ok, Err, Result, ⊤}
use Rattle.model.specs.Types.{WidgetRect, InteractRefusal}
use Rattle.model.specs.Interact as Model
use Rattle.hit_lists.specs.Hits.{hits_of, view}
use Rattle.hit_refusals.specs.Types.{Hit, InteractRefusal}

-- the answer as an Option
unfoldable pub refusal_of : Result ⊤ InteractRefusal → Option InteractRefusal
refusal_of (Ok tt) = None
refusal_of (Err r) = Some r

-- what an interact is given, as the model's: a table of widgets by a lookup, close and contains_pointer as words, and the buffers' lengths
unfoldable pub input : (ℕ → Option WidgetRect) → List ℕ → List ℕ → Option Hit → Option Hit → ℕ → ℕ → Model.InteractInput
input widgets close within click drag hovered contains =
    record {
      widgets = widgets;
      close = hits_of close;
      contains_pointer = hits_of within;
      click = view click;
      drag = view drag;
      hovered_places = hovered;
      contains_places = contains;
    }

-- no refusal depends on the widgets
abbrev pub unknown : ℕ → Option WidgetRect
unknown id = None

-- 01's 8, of the buffers' lengths alone
abbrev pub buffers_refusal : ℕ → ℕ → Option InteractRefusal
buffers_refusal hovered contains = Model.buffers_refusal (input unknown [] [] None None hovered contains)
