-- The declared types of the crates below, by short names.
pub use Rattle.hit_lists.specs.declared.Hit.{Hit}
pub use Rattle.widget_index.specs.declared.table.WidgetRects.{WidgetRects}
pub use Rattle.interaction_state.specs.declared.state.Interaction.{Interaction}
pub use Rattle.interaction_state.specs.declared.state.Seen.{Seen}
pub use Rattle.interaction_state.specs.declared.state.Going.{Going}
pub use Rattle.interaction_state.specs.declared.state.Outcome.{Outcome}
pub use Rattle.interaction_state.specs.declared.state.Answer.{Answer}
pub use Rattle.data.specs.declared.refusal.InteractRefusal.{InteractRefusal}
