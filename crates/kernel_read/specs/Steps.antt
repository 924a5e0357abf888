-- What the two loops of a call hand over.
use Rattle.std.specs.Prelude.{ℕ, ◌≡◌, Bool, List, length, Result, Ok, Err}
use Rattle.kernel_touch.specs.declared.slots.KernelTouches.{KernelTouches}
use Rattle.kernel_touch.specs.declared.answer.KernelRefusal.{KernelRefusal}
use Rattle.kernel_read.specs.Read.{KernelOutcome, refused, taken, kernel_of, words_of, feed_of}

unfoldable pub looked : Bool → KernelOutcome → Result Bool KernelRefusal
looked dropped (refused q) = Err q
looked dropped (taken next es) = Ok dropped

pub record Fills (k : KernelTouches) (o : KernelOutcome) (feed : List ℕ) (next : KernelTouches) (written : ℕ) (feed' : List ℕ) : Type 0 where
  -- the slots after the records
  pub kernel : next ≡ kernel_of k o
  -- the number of words written
  pub words : written ≡ length (words_of o)
  -- the words, and the places past them as before
  pub feed_is : feed' ≡ feed_of feed o
