-- Which Option of the model an enum's case is.
use Rattle.std.specs.Prelude.{Option, None, Some, Ok, Err, Result, ⊤}
use Rattle.data.specs.declared.refusal.InsertRefusal.{InsertRefusal}

unfoldable pub refusal_of : Result ⊤ InsertRefusal → Option InsertRefusal
refusal_of (Ok tt) = None
refusal_of (Err why) = Some why
