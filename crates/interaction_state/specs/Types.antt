-- The declared types of src/, and those of the crates below, by short names.
pub use Rattle.widget_index.specs.declared.table.WidgetRects.{WidgetRects}
pub use Rattle.interaction_state.specs.declared.lookup.Found.{Found}
pub use Rattle.interaction_state.specs.declared.state.Interaction.{Interaction}
pub use Rattle.interaction_state.specs.declared.state.Seen.{Seen}
pub use Rattle.interaction_state.specs.declared.state.InteractionSnapshot.{InteractionSnapshot}
