-- Rows of words, one word after the other. Assumes nothing.
use mathlib.Core.Path.{◌≡◌, sym, ap}
use Prim.Native.Nat.{ℕ, suc}
use Rattle.trace_words.specs.Words.{Held, put_word, put_words, zero_words}

-- one zero more
pub zero_more : (j n : ℕ) (h : Held) → n ≡ suc j → put_words (zero_words j) (put_word 0 h) ≡ put_words (zero_words n) h
unfolding put_words zero_words
zero_more j n h e = ap (λ (m : ℕ). put_words (zero_words m) h) (sym e)
