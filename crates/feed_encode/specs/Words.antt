-- What the struct of src/ stands for.
use Rattle.std.specs.Prelude.{ℕ, List, take}
use Rattle.feed_encode.specs.declared.EventWords.{EventWords}

unfoldable pub words_of : EventWords → List ℕ
words_of w = take w.count w.words
