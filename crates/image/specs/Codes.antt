-- Descriptions of an image's fields (02 A.6): what is written and read is defined from them, so that both say the same. Definitions only.
-- "names, order, fields and ranges are yours": a form is one description, and a limit or a range is an argument of it.
use Rattle.std.specs.Prelude.{ℕ, zero, suc, ◌+◌, ◌-◌, ◌*◌, ◌/◌, ◌%◌, ◌≡◌, Bool, ◌&&◌, cond, List, [], ◌∷◌, ◌++◌, T, eqb, ltb, leb, length, Float, Option, None, Some}
use Rattle.std.specs.Float.{binary32, binary64}
use Rattle.std.specs.Float.Ieee.{of_bits, to_bits, fits}

pub data Code : Type 0 where
  -- "32-bit words": a word, an f32, an f64 (two words), an id (two words), each with its range
  word : (ℕ → Bool) → Code
  single double : (Float → Bool) → Code
  id : (ℕ → Bool) → Code
  -- one after the other
  both : Code → Code → Code
  -- so many of one description
  array : ℕ → Code → Code
  -- a flag, then the value or as many zeros
  maybe : Code → Code
  -- "groups, each led by a word with its name in the top bits and its length below": of one length
  group : ℕ → Code → Code
  -- and of as many entries as the length says; the second number is the most
  table : ℕ → ℕ → Code → Code
  -- zeros
  blank : ℕ → Code
  -- a word below n that says which follows
  choice : ℕ → (ℕ → Code) → Code
  -- "device or touch ids out of ascending order or any list an id twice": a count, so many entries, each an id and what belongs to it,
  -- and zeros up to the most; each id is tested against those before it
  keyed : ℕ → (List ℕ → ℕ → Bool) → Code → Code
  -- a group of such entries: name, most, test
  ranked : ℕ → ℕ → (List ℕ → ℕ → Bool) → Code → Code

-- the values of a field
abbrev pub El : Code → Type 0
El (word p) = ℕ
El (single p) = Float
El (double p) = Float
El (id p) = ℕ
El (both a b) = El a × El b
El (array n a) = List (El a)
El (maybe a) = Option (El a)
El (group n a) = El a
El (table n m a) = List (El a)
El (blank n) = Unit
El (choice n f) = (k : ℕ) × El (f k)
El (keyed m p a) = List (ℕ × El a)
El (ranked n m p a) = List (ℕ × El a)

-- how many words it takes
unfoldable pub size : Code → ℕ
size (word p) = 1
size (single p) = 1
size (double p) = 2
size (id p) = 2
size (both a b) = size a + size b
size (array n a) = n * size a
size (maybe a) = suc (size a)
size (group n a) = suc (size a)
size (table n m a) = 0
size (blank n) = n
size (choice n f) = suc (size (f 0))
size (keyed m p a) = suc (m * (2 + size a))
size (ranked n m p a) = 0

-- the weight of the high word in a field of two
abbrev pub half : ℕ
half = 0x1_0000_0000

-- "a word with its name in the top bits and its length below": the length counts the words after it
abbrev pub header : ℕ → ℕ → ℕ
header name n = name * 0x1000_0000 + n

-- the words of a value that is absent, or of unused places
unfoldable pub zeros : ℕ → List ℕ
zeros zero = []
zeros (suc n) = 0 ∷ zeros n

-- the words of the entries, one after the other
unfoldable pub all : {A : Type 0} → (A → List ℕ) → List A → List ℕ
all f [] = []
all f (v ∷ vs) = f v ++ all f vs

-- a value or none
unfoldable pub option_words : {A : Type 0} → ℕ → (A → List ℕ) → Option A → List ℕ
option_words n f None = 0 ∷ zeros n
option_words n f (Some v) = 1 ∷ f v

-- an id, and what belongs to it
unfoldable pub entry_words : {A : Type 0} → (A → List ℕ) → ℕ × A → List ℕ
entry_words f v = v.0 / half ∷ v.0 % half ∷ f v.1

-- "Write the whole state": the words of a value
unfoldable pub write : (c : Code) → El c → List ℕ
write (word p) v = v ∷ []
write (single p) v = to_bits binary32 v ∷ []
write (double p) v = to_bits binary64 v / half ∷ to_bits binary64 v % half ∷ []
write (id p) v = v / half ∷ v % half ∷ []
write (both a b) v = write a v.0 ++ write b v.1
write (array n a) vs = all (write a) vs
write (maybe a) v = option_words (size a) (write a) v
write (group n a) v = header n (size a) ∷ write a v
write (table n m a) vs = header n (length vs * size a) ∷ all (write a) vs
write (blank n) v = zeros n
write (choice n f) v = v.0 ∷ write (f v.0) v.1
write (keyed m p a) vs = length vs ∷ (all (entry_words (write a)) vs ++ zeros ((m - length vs) * (2 + size a)))
write (ranked n m p a) vs = header n (length vs * (2 + size a)) ∷ all (entry_words (write a)) vs

-- 15 at a word, or a value, the index of the word after it and the words that are left
pub data Read (A : Type 0) : Type 0 where
  bad : ℕ → Read A
  good : A → ℕ → List ℕ → Read A

-- goes on where nothing is wrong
unfoldable pub then : {A B : Type 0} → Read A → (A → ℕ → List ℕ → Read B) → Read B
then (bad i) f = bad i
then (good v i ws) f = f v i ws

-- "15 at the first word outside its field's range or group .. missing": a word that is missing is told by its place
unfoldable pub read_word : (ℕ → Bool) → ℕ → List ℕ → Read ℕ
read_word p i [] = bad i
read_word p i (w ∷ ws) = cond (p w) (good w (suc i) ws) (bad i)

-- a field of two words, the high one first: it is missing at the first word that is, and out of range at its own first word
unfoldable pub read_two : (ℕ → Bool) → ℕ → List ℕ → Read ℕ
read_two p i [] = bad i
read_two p i (h ∷ []) = bad (suc i)
read_two p i (h ∷ l ∷ ws) = cond (p (h * half + l)) (good (h * half + l) (suc (suc i)) ws) (bad i)

-- "A not-a-number has one form": a float's word is the one that writing it gives; and it is in its range
unfoldable pub single_ok : (Float → Bool) → ℕ → Bool
single_ok p w = eqb (to_bits binary32 (of_bits binary32 w)) w && p (of_bits binary32 w)

-- "or 7FF80000 00000000 for an f64"
unfoldable pub double_ok : (Float → Bool) → ℕ → Bool
double_ok p b = eqb (to_bits binary64 (of_bits binary64 b)) b && p (of_bits binary64 b)

-- unused places are checked too, so that an image is the one that writing gives
unfoldable pub read_zeros : ℕ → ℕ → List ℕ → Read Unit
read_zeros zero i ws = good tt i ws
read_zeros (suc n) i ws = then (read_word (eqb 0) i ws) (λ w j rest. read_zeros n j rest)

-- by the flag before it
unfoldable pub read_option : {A : Type 0} → ℕ → (ℕ → List ℕ → Read A) → ℕ → ℕ → List ℕ → Read (Option A)
read_option n f zero i ws = then (read_zeros n i ws) (λ u j rest. good None j rest)
read_option n f (suc k) i ws = then (f i ws) (λ v j rest. good (Some v) j rest)

-- so many entries
unfoldable pub read_times : {A : Type 0} → ℕ → (ℕ → List ℕ → Read A) → ℕ → List ℕ → Read (List A)
read_times zero f i ws = good [] i ws
read_times (suc k) f i ws = then (f i ws) (λ v j rest. then (read_times k f j rest) (λ vs l more. good (v ∷ vs) l more))

-- so many entries, each id tested against those before it
unfoldable pub read_keyed : {A : Type 0} → ℕ → (List ℕ → ℕ → Bool) → (ℕ → List ℕ → Read A) → List ℕ → ℕ → List ℕ → Read (List (ℕ × A))
read_keyed zero p f seen i ws = good [] i ws
read_keyed (suc k) p f seen i ws =
    then (read_two (p seen) i ws) (λ d j rest. then (f j rest) (λ v l more. then (read_keyed k p f (d ∷ seen) l more) (λ vs o left. good ((d, v) ∷ vs) o left)))

-- how many entries of s words a header announces
unfoldable pub count_of : ℕ → ℕ → ℕ → ℕ
count_of name s w = (w - header name 0) / s

-- a length is right if it is a whole number of entries, up to the most
unfoldable pub table_ok : ℕ → ℕ → ℕ → ℕ → Bool
table_ok name m s w = eqb (header name (count_of name s w * s)) w && leb (count_of name s w) m

-- the value that starts at place i, of the words from there on
unfoldable pub read : (c : Code) → ℕ → List ℕ → Read (El c)
read (word p) i ws = read_word p i ws
read (single p) i ws = then (read_word (single_ok p) i ws) (λ w j rest. good (of_bits binary32 w) j rest)
read (double p) i ws = then (read_two (double_ok p) i ws) (λ b j rest. good (of_bits binary64 b) j rest)
read (id p) i ws = read_two p i ws
read (both a b) i ws = then (read a i ws) (λ v j rest. then (read b j rest) (λ u l more. good (v, u) l more))
read (array n a) i ws = read_times n (read a) i ws
read (maybe a) i ws = then (read_word (λ w. ltb w 2) i ws) (λ w j rest. read_option (size a) (read a) w j rest)
read (group n a) i ws = then (read_word (eqb (header n (size a))) i ws) (λ w j rest. read a j rest)
read (blank n) i ws = read_zeros n i ws
read (choice n f) i ws = then (read_word (λ w. ltb w n) i ws) (λ k j rest. then (read (f k) j rest) (λ v l more. good (k, v) l more))
read (keyed m p a) i ws =
    then (read_word (λ w. leb w m) i ws)
    (λ k j rest. then (read_keyed k p (read a) [] j rest) (λ vs l more. then (read_zeros ((m - k) * (2 + size a)) l more) (λ u o left. good vs o left)))
read (ranked n m p a) i ws = then (read_word (table_ok n m (2 + size a)) i ws) (λ w j rest. read_keyed (count_of n (2 + size a) w) p (read a) [] j rest)
read (table n m a) i ws = then (read_word (table_ok n m (size a)) i ws) (λ w j rest. read_times (count_of n (size a) w) (read a) j rest)

-- ---- which values are in range; a float is one of its format
abbrev pub Each : {A : Type 0} → (A → Type 0) → List A → Type 0
Each P [] = Unit {0}
Each P (v ∷ vs) = P v × Each P vs

-- the ids pass their tests, each against those before it
abbrev pub Keyed : {A : Type 0} → (List ℕ → ℕ → Bool) → (A → Type 0) → List ℕ → List (ℕ × A) → Type 0
Keyed p P seen [] = Unit {0}
Keyed p P seen (v ∷ vs) = T (p seen v.0) × P v.1 × Keyed p P (v.0 ∷ seen) vs

abbrev pub In : (c : Code) → El c → Type 0
In (word p) v = T (p v)
In (single p) v = T (fits binary32 v) × T (p v)
In (double p) v = T (fits binary64 v) × T (p v)
In (id p) v = T (p v)
In (both a b) v = In a v.0 × In b v.1
In (array n a) vs = (length vs ≡ n) × Each (In a) vs
In (maybe a) None = Unit {0}
In (maybe a) (Some v) = In a v
In (group n a) v = In a v
In (blank n) v = Unit {0}
In (choice n f) v = T (ltb v.0 n) × In (f v.0) v.1
In (keyed m p a) vs = T (leb (length vs) m) × Keyed p (In a) [] vs
In (ranked n m p a) vs = T (leb (length vs) m) × Keyed p (In a) [] vs
In (table n m a) vs = T (ltb 0 (size a)) × T (leb (length vs) m) × Each (In a) vs

-- words of 32 bits
abbrev pub Words : List ℕ → Type 0
Words [] = Unit {0}
Words (w ∷ ws) = T (ltb w 0x1_0000_0000) × Words ws

-- "Reading back what was written .. yields that state"
abbrev pub ReadsBack : Type 0
ReadsBack = (c : Code) (v : El c) → In c v → (i : ℕ) (rest : List ℕ) → read c i (write c v ++ rest) ≡ good v (i + length (write c v)) rest

-- "every accepted image is the one that writing its state would produce"
abbrev pub IsWritten : Type 0
IsWritten = (c : Code) (i : ℕ) (ws : List ℕ) → Words ws → (v : El c) (j : ℕ) (rest : List ℕ) → read c i ws ≡ good v j rest → ws ≡ write c v ++ rest
