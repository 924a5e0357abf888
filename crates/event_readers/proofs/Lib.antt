pub mod KnownKind
