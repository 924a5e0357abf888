-- The shape by kind, for the reader of events.
mod ByKind
