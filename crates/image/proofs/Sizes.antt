-- How many words a value takes: in a description without lists, its size. Assumes nothing.
use Rattle.std.specs.Prelude.{None, Some}
use Prim.Native.Nat.{ℕ, suc, ◌+◌}
use mathlib.Core.Path.{◌≡◌, refl, ap, ap₂, ◌∙◌}
use lib.ListN.{length, length-append}
use Rattle.image.specs.Codes.{Code, word, single, double, id, both, array, maybe, group, table, blank, choice, keyed, ranked, El, size, option_words, write}
use Rattle.image.proofs.Lists.{zeros_length}

-- no list in it
abbrev pub Plain : Code → Type 0
Plain (word p) = Unit {0}
Plain (single p) = Unit {0}
Plain (double p) = Unit {0}
Plain (id p) = Unit {0}
Plain (both a b) = Plain a × Plain b
Plain (array n a) = ⊥
Plain (maybe a) = Plain a
Plain (group n a) = Plain a
Plain (table n m a) = ⊥
Plain (blank n) = Unit {0}
Plain (choice n f) = ⊥
Plain (keyed m p a) = ⊥
Plain (ranked n m p a) = ⊥

pub plain_size : (c : Code) → Plain c → (v : El c) → length (write c v) ≡ size c
unfolding write size option_words
plain_size (word p) h v = refl
plain_size (single p) h v = refl
plain_size (double p) h v = refl
plain_size (id p) h v = refl
plain_size (both a b) h v = length-append (write a v.0) (write b v.1) ∙ ap₂ (λ (x y : ℕ). x + y) (plain_size a h.0 v.0) (plain_size b h.1 v.1)
plain_size (maybe a) h None = ap suc (zeros_length (size a))
plain_size (maybe a) h (Some v) = ap suc (plain_size a h v)
plain_size (group n a) h v = ap suc (plain_size a h v)
plain_size (blank n) h v = zeros_length n
plain_size (array _ _) h v = elim h [ ]
plain_size (table _ _ _) h v = elim h [ ]
plain_size (choice _ _) h v = elim h [ ]
plain_size (keyed _ _ _) h v = elim h [ ]
plain_size (ranked _ _ _ _) h v = elim h [ ]
