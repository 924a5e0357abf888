use Rattle.std.specs.Prelude.{Ok, Err, Result}
use mathlib.Core.Path.{◌≡◌, refl, ap, ◌∙◌}
use mathlib.Core.List.{List}
use Rattle.std.proofs.Common.{length}
use Rattle.data.specs.declared.refusal.InsertRefusal.{InsertRefusal}
use Rattle.data.specs.declared.widget.WidgetRect.{WidgetRect}
use Rattle.host_widgets.specs.declared.HostSet.{HostSet}
use Rattle.host_widgets.specs.declared.HostInsertion.{HostInsertion}
use Rattle.host_widgets.specs.Insert.{set_of, insertion_of}
use Rattle.widget_append.specs.declared.Insertion.{Insertion}
use Rattle.widget_append.specs.Append.{settled, settled_by}
use Rattle.widget_rect.proofs.Agree.{inserts}
use Rattle.widget_rect.proofs.Fits.{end_of, decide_fits}
use Rattle.host.proofs.inserts.fivvarul_insert.Goals as goal

ends : (h : HostSet) (w : WidgetRect) (a : Result Insertion InsertRefusal) → (insertion_of h w a).to ≡ end_of a
unfolding end_of
ends h w (Err why) = refl
ends h w (Ok i) = refl

settles : (h : HostSet) (w : WidgetRect) (a : Result Insertion InsertRefusal) (slice : List WidgetRect)
    → settled (insertion_of h w a).from (insertion_of h w a).to (insertion_of h w a).widget slice ≡ settled_by a slice
unfolding settled
settles h w (Err why) slice = refl
settles h w (Ok i) slice = refl

pub settle-requires : goal.settle-requires
settle-requires c =
    rw (c.decided-d.ensures.crosses, ends c.args.«set» c.args.widget c.decided-d.ensures.decision, c.decided-d.ensures.gives.decision)
    (decide_fits (set_of c.args.«set») c.args.words.now c.args.numbers.now c.args.edges.now (length c.args.layer.now) c.args.widget c.args.move_to_top)

pub returns : goal.returns
returns c =
    let g = c.decided-d.ensures in
    record {
      decision = g.decision;
      panels =
          inserts (set_of c.args.«set») c.args.words.now c.args.numbers.now c.args.edges.now c.args.layer.now c.args.widget c.args.move_to_top
          g.decision _ _ _ _ g.gives
          (c.settle.ensures ∙ ap (λ (d : HostInsertion). settled d.from d.to d.widget c.args.layer.now) g.crosses ∙ settles c.args.«set» c.args.widget g.decision c.args.layer.now);
      crosses = g.crosses;
    }
