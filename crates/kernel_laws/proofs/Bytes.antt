-- The records of two runs of bytes, one after the other. Assumes nothing.
use Prim.Native.Nat.{ℕ, zero, suc, ◌+◌, ◌*◌, ◌/◌, ◌%◌}
use native.Mathlib.Omega.{arith}
use mathlib.Core.Path.{◌≡◌, refl, sym, ap, ◌∙◌}
use mathlib.Core.Bool.{Bool, ◌||◌, or_assoc}
use mathlib.Core.List.{List, [], ◌∷◌, ◌++◌}
use lib.ListN.{length, length-append}
use Rattle.kernel_record.specs.declared.KernelRecord.{KernelRecord}
use Rattle.kernel_record.specs.Records.{record_bytes, record_at, records, is_dropped, held_dropped}
use Rattle.kernel_record.proofs.Bytes.{records_first, records_second}
use Rattle.kernel_read.specs.Read.{all_records}

records_split : (m n k : ℕ) (bs : List ℕ) → records (m + n) k bs ≡ records m k bs ++ records n (k + m * record_bytes) bs
unfolding records
records_split zero n k bs = (λ j. records (none j) (here j) bs)
  where
    none : 0 + n ≡ n
    none = omega arith

    here : k ≡ k + 0 * record_bytes
    here = omega arith
records_split (suc m) n k bs =
    let one : suc m + n ≡ suc (m + n) = omega arith in
    let further : (k + record_bytes) + m * record_bytes ≡ k + suc m * record_bytes = omega arith in
    ap (λ (i : ℕ). records i k bs) one
    ∙ ap (λ (rs : List KernelRecord). record_at bs k ∷ rs)
    (records_split m n (k + record_bytes) bs ∙ ap (λ (i : ℕ). records m (k + record_bytes) bs ++ records n i bs) further)

pub joined_records : (bs cs : List ℕ) → length bs % record_bytes ≡ 0 → length cs % record_bytes ≡ 0 →
    all_records (bs ++ cs) ≡ all_records bs ++ all_records cs
unfolding all_records
joined_records bs cs b c =
    let m = length bs / record_bytes in
    let n = length cs / record_bytes in
    let both : length (bs ++ cs) / record_bytes ≡ m + n = omega (arith, length-append bs cs) in
    ap (λ (i : ℕ). records i 0 (bs ++ cs)) both
    ∙ records_split m n 0 (bs ++ cs)
    ∙ (λ j. records_first m 0 bs cs (omega arith) j ++ records_second n 0 (0 + m * record_bytes) bs cs (omega arith) j)

pub joined_whole : (bs cs : List ℕ) → length bs % record_bytes ≡ 0 → length cs % record_bytes ≡ 0 → length (bs ++ cs) % record_bytes ≡ 0
joined_whole bs cs b c = omega (arith, length-append bs cs)

-- ---- 'dropped' is held by one of them
held_append : (rs ss : List KernelRecord) → held_dropped (rs ++ ss) ≡ (held_dropped rs || held_dropped ss)
unfolding held_dropped
held_append [] ss = refl
held_append (r ∷ rs) ss = ap (λ (b : Bool). is_dropped r || b) (held_append rs ss) ∙ sym (or_assoc (is_dropped r) (held_dropped rs) (held_dropped ss))

pub joined_dropped : (bs cs : List ℕ) → length bs % record_bytes ≡ 0 → length cs % record_bytes ≡ 0 →
    held_dropped (all_records (bs ++ cs)) ≡ (held_dropped (all_records bs) || held_dropped (all_records cs))
joined_dropped bs cs b c = ap held_dropped (joined_records bs cs b c) ∙ held_append (all_records bs) (all_records cs)
