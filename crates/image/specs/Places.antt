-- The same by places, as code goes about it: what is wrong with the words from a place on, and the value there. Definitions only.
use Rattle.std.specs.Prelude.{ℕ, zero, suc, ◌+◌, ◌-◌, ◌*◌, ◌≡◌, Bool, cond, List, [], ◌∷◌, ◌++◌, T, eqb, ltb, leb, length, get_or, drop, Option, None, Some}
use Rattle.std.specs.Float.{binary32, binary64}
use Rattle.std.specs.Float.Ieee.{of_bits}
use Rattle.image.specs.Codes.{Code, word, single, double, id, both, array, maybe, group, table, blank, choice, keyed, ranked, El, size, half, header, single_ok, double_ok, count_of, table_ok, Read, bad, good, read, write, In, Words}

-- "the first word": what is wrong earlier is told
unfoldable pub or_else : Option ℕ → Option ℕ → Option ℕ
or_else None b = b
or_else (Some a) b = Some a

-- a word that is missing, or outside its range
unfoldable pub word_bad : (ℕ → Bool) → List ℕ → ℕ → Option ℕ
word_bad p ws i = cond (ltb i (length ws)) (cond (p (get_or ws i 0)) None (Some i)) (Some i)

-- a field of two words, the high one first
unfoldable pub two_at : List ℕ → ℕ → ℕ
two_at ws i = get_or ws i 0 * half + get_or ws (suc i) 0

-- missing at the first word that is, outside its range at its own first word
unfoldable pub two_bad : (ℕ → Bool) → List ℕ → ℕ → Option ℕ
two_bad p ws i = cond (ltb i (length ws)) (cond (ltb (suc i) (length ws)) (cond (p (two_at ws i)) None (Some i)) (Some (suc i))) (Some i)

-- the first word that is no zero
unfoldable pub zeros_bad : ℕ → List ℕ → ℕ → Option ℕ
zeros_bad zero ws i = None
zeros_bad (suc n) ws i = or_else (word_bad (eqb 0) ws i) (zeros_bad n ws (suc i))

-- ---- entries of one size, one after the other: what is wrong with the first of them, and what they are
unfoldable pub rows_bad : ℕ → (List ℕ → ℕ → Option ℕ) → ℕ → List ℕ → ℕ → Option ℕ
rows_bad s f zero ws i = None
rows_bad s f (suc k) ws i = or_else (f ws i) (rows_bad s f k ws (i + s))

unfoldable pub rows_at : {A : Type 0} → ℕ → (List ℕ → ℕ → A) → ℕ → List ℕ → ℕ → List A
rows_at s f zero ws i = []
rows_at s f (suc k) ws i = f ws i ∷ rows_at s f k ws (i + s)

-- entries by id, s words each after the id; `seen` are the ids before
unfoldable pub keys_bad : ℕ → (List ℕ → ℕ → Bool) → (List ℕ → ℕ → Option ℕ) → ℕ → List ℕ → List ℕ → ℕ → Option ℕ
keys_bad s p f zero seen ws i = None
keys_bad s p f (suc k) seen ws i = or_else (two_bad (p seen) ws i) (or_else (f ws (i + 2)) (keys_bad s p f k (two_at ws i ∷ seen) ws (i + (2 + s))))

-- an id and what belongs to it
abbrev pub key_at : {A : Type 0} → (List ℕ → ℕ → A) → List ℕ → ℕ → ℕ × A
key_at f ws i = (two_at ws i, f ws (i + 2))

-- how many words are taken from a place on: fewer or more only where a length stands there
unfoldable pub span : Code → List ℕ → ℕ → ℕ
span (word p) ws i = 1
span (single p) ws i = 1
span (double p) ws i = 2
span (id p) ws i = 2
span (both a b) ws i = span a ws i + span b ws (i + span a ws i)
span (array n a) ws i = n * size a
span (maybe a) ws i = suc (size a)
span (group n a) ws i = suc (size a)
span (table n m a) ws i = suc (count_of n (size a) (get_or ws i 0) * size a)
span (blank n) ws i = n
span (choice n f) ws i = suc (size (f 0))
span (keyed m p a) ws i = suc (m * (2 + size a))
span (ranked n m p a) ws i = suc (count_of n (2 + size a) (get_or ws i 0) * (2 + size a))

-- "15 at the first word ..": of a description, from place i on
unfoldable pub bad_at : Code → List ℕ → ℕ → Option ℕ
bad_at (word p) ws i = word_bad p ws i
bad_at (single p) ws i = word_bad (single_ok p) ws i
bad_at (double p) ws i = two_bad (double_ok p) ws i
bad_at (id p) ws i = two_bad p ws i
bad_at (both a b) ws i = or_else (bad_at a ws i) (bad_at b ws (i + span a ws i))
bad_at (array n a) ws i = rows_bad (size a) (bad_at a) n ws i
bad_at (maybe a) ws i = or_else (word_bad (λ w. ltb w 2) ws i) (cond (eqb (get_or ws i 0) 0) (zeros_bad (size a) ws (suc i)) (bad_at a ws (suc i)))
bad_at (group n a) ws i = or_else (word_bad (eqb (header n (size a))) ws i) (bad_at a ws (suc i))
bad_at (table n m a) ws i = or_else (word_bad (table_ok n m (size a)) ws i) (rows_bad (size a) (bad_at a) (count_of n (size a) (get_or ws i 0)) ws (suc i))
bad_at (blank n) ws i = zeros_bad n ws i
bad_at (choice n f) ws i = or_else (word_bad (λ w. ltb w n) ws i) (bad_at (f (get_or ws i 0)) ws (suc i))
bad_at (keyed m p a) ws i =
    or_else (word_bad (λ w. leb w m) ws i)
    (or_else (keys_bad (size a) p (bad_at a) (get_or ws i 0) [] ws (suc i)) (zeros_bad ((m - get_or ws i 0) * (2 + size a)) ws (suc i + get_or ws i 0 * (2 + size a))))
bad_at (ranked n m p a) ws i =
    or_else (word_bad (table_ok n m (2 + size a)) ws i) (keys_bad (size a) p (bad_at a) (count_of n (2 + size a) (get_or ws i 0)) [] ws (suc i))

-- the value that stands there, where nothing is wrong
unfoldable pub value_at : (c : Code) → List ℕ → ℕ → El c
value_at (word p) ws i = get_or ws i 0
value_at (single p) ws i = of_bits binary32 (get_or ws i 0)
value_at (double p) ws i = of_bits binary64 (two_at ws i)
value_at (id p) ws i = two_at ws i
value_at (both a b) ws i = (value_at a ws i, value_at b ws (i + span a ws i))
value_at (array n a) ws i = rows_at (size a) (value_at a) n ws i
value_at (maybe a) ws i = cond (eqb (get_or ws i 0) 0) None (Some (value_at a ws (suc i)))
value_at (group n a) ws i = value_at a ws (suc i)
value_at (table n m a) ws i = rows_at (size a) (value_at a) (count_of n (size a) (get_or ws i 0)) ws (suc i)
value_at (blank n) ws i = tt
value_at (choice n f) ws i = (get_or ws i 0, value_at (f (get_or ws i 0)) ws (suc i))
value_at (keyed m p a) ws i = rows_at (2 + size a) (key_at (value_at a)) (get_or ws i 0) ws (suc i)
value_at (ranked n m p a) ws i = rows_at (2 + size a) (key_at (value_at a)) (count_of n (2 + size a) (get_or ws i 0)) ws (suc i)

-- the codes of one size: no table in them, and choices of one size
abbrev pub Fixed : Code → Type 0
Fixed (word p) = Unit {0}
Fixed (single p) = Unit {0}
Fixed (double p) = Unit {0}
Fixed (id p) = Unit {0}
Fixed (both a b) = Fixed a × Fixed b
Fixed (array n a) = Fixed a
Fixed (maybe a) = Fixed a
Fixed (group n a) = Fixed a
Fixed (table n m a) = ⊥
Fixed (blank n) = Unit {0}
Fixed (choice n f) = (k : ℕ) → Fixed (f k) × (size (f k) ≡ size (f 0))
Fixed (keyed m p a) = Fixed a
Fixed (ranked n m p a) = ⊥

-- the codes that are read by places: tables stand beside each other, with entries of one size
abbrev pub Placed : Code → Type 0
Placed (word p) = Unit {0}
Placed (single p) = Unit {0}
Placed (double p) = Unit {0}
Placed (id p) = Unit {0}
Placed (both a b) = Placed a × Placed b
Placed (array n a) = Fixed a
Placed (maybe a) = Fixed a
Placed (group n a) = Fixed a
Placed (table n m a) = Fixed a
Placed (blank n) = Unit {0}
Placed (choice n f) = (k : ℕ) → Fixed (f k) × (size (f k) ≡ size (f 0))
Placed (keyed m p a) = Fixed a
Placed (ranked n m p a) = Fixed a

-- a reading from place i of ws is told by places: it is bad there, or good with that value and goes on at k
abbrev pub Told : {A : Type 0} → Read A → Option ℕ → A → List ℕ → ℕ → Type 0
Told (bad j) b v ws k = b ≡ Some j
Told (good u j rest) b v ws k = (b ≡ None) × (u ≡ v) × (j ≡ k) × (rest ≡ drop k ws)

-- reading a description is asking by places
abbrev pub ReadsByPlaces : Type 0
ReadsByPlaces = (c : Code) → Placed c → (ws : List ℕ) (i : ℕ) → Told (read c i (drop i ws)) (bad_at c ws i) (value_at c ws i) ws (i + span c ws i)

-- what was written at a place is there
pub record Written (c : Code) (v : El c) (ws : List ℕ) (i : ℕ) : Type 0 where
  pub sound : bad_at c ws i ≡ None
  pub value : value_at c ws i ≡ v
  pub next : i + span c ws i ≡ i + length (write c v)

-- "Reading back what was written .. yields that state", at any place
abbrev pub WrittenIsThere : Type 0
WrittenIsThere = (c : Code) → Placed c → (v : El c) → In c v → (ws : List ℕ) (i : ℕ) (rest : List ℕ) → drop i ws ≡ write c v ++ rest → Written c v ws i

-- "every accepted image is the one that writing its state would produce", at any place: where no word is wrong, they are those of the value there
abbrev pub SoundIsWritten : Type 0
SoundIsWritten = (c : Code) → Placed c → (ws : List ℕ) (i : ℕ) → Words (drop i ws) → bad_at c ws i ≡ None → drop i ws ≡ write c (value_at c ws i) ++ drop (i + span c ws i) ws

-- the codes whose tables have entries of some words, so that a length tells how many
abbrev pub Sized : Code → Type 0
Sized (word p) = Unit {0}
Sized (single p) = Unit {0}
Sized (double p) = Unit {0}
Sized (id p) = Unit {0}
Sized (both a b) = Sized a × Sized b
Sized (array n a) = Sized a
Sized (maybe a) = Sized a
Sized (group n a) = Sized a
Sized (table n m a) = T (ltb 0 (size a)) × Sized a
Sized (blank n) = Unit {0}
Sized (choice n f) = (k : ℕ) → Sized (f k)
Sized (keyed m p a) = Sized a
Sized (ranked n m p a) = Sized a

-- what was read is in range: "15 at the first word outside its field's range .."
abbrev pub SoundIsIn : Type 0
SoundIsIn = (c : Code) → Sized c → (ws : List ℕ) (i : ℕ) → bad_at c ws i ≡ None → In c (value_at c ws i)

-- the ids of a list pass their tests
abbrev pub Tested : {A : Type 0} → (List ℕ → ℕ → Bool) → List ℕ → List (ℕ × A) → Type 0
Tested p seen [] = Unit {0}
Tested p seen (v ∷ vs) = T (p seen v.0) × Tested p (v.0 ∷ seen) vs
