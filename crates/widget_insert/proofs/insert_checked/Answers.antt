use Rattle.widget_append.proofs.Cases.{gives}
use Rattle.widget_insert.proofs.Cases.{is_new, is_known}
use mathlib.Core.Path.{sym, ◌∙◌, ap}
use Rattle.widget_index.specs.Layout.{entry_of}
use Rattle.widget_insert.proofs.insert_checked.Goals as goal

pub returns-in-None : goal.returns-in-None
returns-in-None c = gives (is_new _ _ _ _ _ _ _ (sym c.find.ensures.0 ∙ ap entry_of c.in-None.is)) c.insert_new.ensures

pub returns-in-Some : goal.returns-in-Some
returns-in-Some c = gives (is_known _ _ _ _ _ _ _ _ (sym c.find.ensures.0 ∙ ap entry_of c.in-Some.is)) c.insert_known.ensures
