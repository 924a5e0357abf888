use mathlib.Core.Path.{sym, ◌∙◌, ap}
use Rattle.widget_index.specs.Layout.{entry_of}
use Rattle.interaction_state.specs.Lookup.{at_entry, lookup, found_of}
use Rattle.interaction_state.proofs.lookup.look_up.Goals as goal

pub returns-in_err-s : goal.returns-in_err-s
unfolding lookup at_entry found_of
returns-in_err-s c edges = rw (c.from_residual.ensures, sym c.find.ensures.0 ∙ ap entry_of c.in_err-s.was)

pub returns : goal.returns
unfolding lookup at_entry found_of
returns c edges = rw (sym c.find.ensures.0 ∙ ap entry_of c.in_ok-s.was)
