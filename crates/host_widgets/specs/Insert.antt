-- What an insertion promises the host: `panel`'s insertion, and what crosses of its answer.
use Rattle.std.specs.Prelude.{ℕ, ◌≡◌, Bool, List, Float, Ok, Err, Result}
use Rattle.data.specs.Numbers.{insert_refusal_number}
use Rattle.data.specs.declared.widget.WidgetRect.{WidgetRect}
use Rattle.widget_index.specs.declared.table.WidgetRects.{WidgetRects}
use Rattle.widget_append.specs.declared.Insertion.{Insertion}
use Rattle.data.specs.declared.refusal.InsertRefusal.{InsertRefusal}
use Rattle.widget_append.specs.Append.{Gives}
use Rattle.widget_insert.specs.Insert.{decide}
use Rattle.widget_rect.specs.Told as Told
use Rattle.host_widgets.specs.declared.HostSet.{HostSet}
use Rattle.host_widgets.specs.declared.HostInserted.{HostInserted}
use Rattle.host_widgets.specs.declared.HostInsertion.{HostInsertion}

abbrev pub set_of : HostSet → WidgetRects
set_of h = record { widgets = h.widgets; layers = h.layers }

-- 01's number of a refusal
abbrev pub inserted_of : Result Insertion InsertRefusal → HostInserted
inserted_of (Err why) = record { number = insert_refusal_number why; position = 0; count = 0 }
inserted_of (Ok i) = record { number = 0; position = i.position; count = i.count }

-- of a refused insertion: the set and the record as they were handed in, and no place of the slice
abbrev pub insertion_of : HostSet → WidgetRect → Result Insertion InsertRefusal → HostInsertion
insertion_of h w (Err why) = record { answer = inserted_of (Err why); «set» = h; from = 0; to = 0; widget = w }
insertion_of h w (Ok i) =
    record {
      answer = inserted_of (Ok i);
      «set» = record { widgets = i.«set».widgets; layers = i.«set».layers };
      from = i.from;
      to = i.to;
      widget = i.widget;
    }

-- what is done in the set, with so many places lent
pub record Decides (h : HostSet) (words numbers : List ℕ) (edges : List Float) (lent : ℕ) (w : WidgetRect) (top : Bool) (r : HostInsertion)
    (ws ns : List ℕ) (es : List Float) : Type 0 where
  pub decision : Result Insertion InsertRefusal
  pub gives : Gives (decide (set_of h) words numbers edges lent w top) decision ws ns es
  pub crosses : r ≡ insertion_of h w decision

-- the whole insertion: `panel`'s, of the set and of the lent slice
pub record Inserts (h : HostSet) (words numbers : List ℕ) (edges : List Float) (slice : List WidgetRect) (w : WidgetRect) (top : Bool) (r : HostInsertion)
    (ws ns : List ℕ) (es : List Float) (zs : List WidgetRect) : Type 0 where
  pub decision : Result Insertion InsertRefusal
  pub panels : Told.Inserts (set_of h) words numbers edges slice w top decision ws ns es zs
  pub crosses : r ≡ insertion_of h w decision
