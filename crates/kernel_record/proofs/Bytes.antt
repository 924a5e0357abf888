-- The records of bytes that lie among others. Assumes nothing.
use Prim.Native.Nat.{ℕ, zero, suc, ◌+◌, ◌*◌, ◌≤◌}
use native.Mathlib.Omega.{arith}
use mathlib.Core.Path.{◌≡◌, refl, ap, ◌∙◌}
use mathlib.Core.List.{List, ◌∷◌, ◌++◌}
use lib.ListN.{length, get_or, get_or-append}
use lib.Seq.{get_or-append-add}
use Rattle.kernel_values.specs.Value.{signed}
use Rattle.kernel_record.specs.Records.{record_bytes, half, word, record_of, record_at, records}

-- ---- a record is that of the bytes that it lies in
half_first : (bs cs : List ℕ) (k : ℕ) → k + 2 ≤ length bs → half (bs ++ cs) k ≡ half bs k
unfolding half
half_first bs cs k h = (λ j. get_or-append bs cs 0 k (omega arith) j + 256 * get_or-append bs cs 0 (k + 1) (omega arith) j)

word_first : (bs cs : List ℕ) (k : ℕ) → k + 4 ≤ length bs → word (bs ++ cs) k ≡ word bs k
unfolding word
word_first bs cs k h = (λ j. half_first bs cs k (omega arith) j + 65536 * half_first bs cs (k + 2) (omega arith) j)

pub record_first : (bs cs : List ℕ) (k : ℕ) → k + record_bytes ≤ length bs → record_at (bs ++ cs) k ≡ record_at bs k
unfolding record_at
record_first bs cs k h =
    (λ j. record_of (half_first bs cs (k + 16) (omega arith) j) (half_first bs cs (k + 18) (omega arith) j) (signed (word_first bs cs (k + 20) (omega arith) j)))

at_second : (bs cs : List ℕ) (k i : ℕ) → i ≡ length bs + k → get_or (bs ++ cs) i 0 ≡ get_or cs k 0
at_second bs cs k i e = ap (λ (n : ℕ). get_or (bs ++ cs) n 0) e ∙ get_or-append-add bs cs k 0

half_second : (bs cs : List ℕ) (k i : ℕ) → i ≡ length bs + k → half (bs ++ cs) i ≡ half cs k
unfolding half
half_second bs cs k i e = (λ j. at_second bs cs k i e j + 256 * at_second bs cs (k + 1) (i + 1) (omega arith) j)

word_second : (bs cs : List ℕ) (k i : ℕ) → i ≡ length bs + k → word (bs ++ cs) i ≡ word cs k
unfolding word
word_second bs cs k i e = (λ j. half_second bs cs k i e j + 65536 * half_second bs cs (k + 2) (i + 2) (omega arith) j)

pub record_second : (bs cs : List ℕ) (k i : ℕ) → i ≡ length bs + k → record_at (bs ++ cs) i ≡ record_at cs k
unfolding record_at
record_second bs cs k i e =
    (λ j. record_of (half_second bs cs (k + 16) (i + 16) (omega arith) j) (half_second bs cs (k + 18) (i + 18) (omega arith) j)
    (signed (word_second bs cs (k + 20) (i + 20) (omega arith) j)))

-- ---- and so of so many
pub records_first : (n k : ℕ) (bs cs : List ℕ) → k + n * record_bytes ≤ length bs → records n k (bs ++ cs) ≡ records n k bs
unfolding records
records_first zero k bs cs h = refl
records_first (suc n) k bs cs h = (λ j. record_first bs cs k (omega arith) j ∷ records_first n (k + record_bytes) bs cs (omega arith) j)

pub records_second : (n k i : ℕ) (bs cs : List ℕ) → i ≡ length bs + k → records n i (bs ++ cs) ≡ records n k cs
unfolding records
records_second zero k i bs cs e = refl
records_second (suc n) k i bs cs e = (λ j. record_second bs cs k i e j ∷ records_second n (k + record_bytes) (i + record_bytes) bs cs (omega arith) j)
