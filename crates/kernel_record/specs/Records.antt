-- Bytes to records: A.1's "A record is 24 bytes, little-endian: 16 of time, then a 16-bit type, a 16-bit code and a signed 32-bit value".
use Rattle.std.specs.Prelude.{ℕ, zero, suc, ◌+◌, ◌*◌, Bool, true, false, cond, ◌||◌, List, [], ◌∷◌, eqb, get_or, ℤ}
use Rattle.kernel_values.specs.Value.{signed}
use Rattle.kernel_record.specs.declared.KernelRecord.{KernelRecord}
use Rattle.kernel_record.specs.declared.KernelRecord.TheVariants.{MtSlot, MtPositionX, MtPositionY, MtTrackingId, ReportEnd, Dropped, Other}

abbrev pub record_bytes : ℕ
record_bytes = 24

-- 16 and 32 bits, the low byte first
unfoldable pub half : List ℕ → ℕ → ℕ
half bs k = get_or bs k 0 + 256 * get_or bs (k + 1) 0

unfoldable pub word : List ℕ → ℕ → ℕ
word bs k = half bs k + 65536 * half bs (k + 2)

-- "type 0 code 0 ends a report and code 3 says that records were dropped"
unfoldable pub report_record : ℕ → KernelRecord
report_record code = cond (eqb code 0) ReportEnd (cond (eqb code 3) Dropped Other)

-- "Type 3 codes, hexadecimal, are 2f slot, 35 and 36 position, 39 tracking id"
unfoldable pub touch_record : ℕ → ℤ → KernelRecord
touch_record code v =
    cond (eqb code 0x2f) (MtSlot v)
    (cond (eqb code 0x35) (MtPositionX v)
    (cond (eqb code 0x36) (MtPositionY v)
    (cond (eqb code 0x39) (MtTrackingId v) Other)))

-- "Other records are skipped"
unfoldable pub record_of : ℕ → ℕ → ℤ → KernelRecord
record_of kind code v = cond (eqb kind 0) (report_record code) (cond (eqb kind 3) (touch_record code v) Other)

-- the record whose first byte stands at k
unfoldable pub record_at : List ℕ → ℕ → KernelRecord
record_at bs k = record_of (half bs (k + 16)) (half bs (k + 18)) (signed (word bs (k + 20)))

-- so many records, from byte k on
unfoldable pub records : ℕ → ℕ → List ℕ → List KernelRecord
records zero k bs = []
records (suc n) k bs = record_at bs k ∷ records n (k + record_bytes) bs

unfoldable pub is_end : KernelRecord → Bool
is_end ReportEnd = true
is_end (MtSlot v) = false
is_end (MtPositionX v) = false
is_end (MtPositionY v) = false
is_end (MtTrackingId v) = false
is_end Dropped = false
is_end Other = false

unfoldable pub is_dropped : KernelRecord → Bool
is_dropped Dropped = true
is_dropped (MtSlot v) = false
is_dropped (MtPositionX v) = false
is_dropped (MtPositionY v) = false
is_dropped (MtTrackingId v) = false
is_dropped ReportEnd = false
is_dropped Other = false

-- "whether the call's records held one"
unfoldable pub held_dropped : List KernelRecord → Bool
held_dropped [] = false
held_dropped (r ∷ rs) = is_dropped r || held_dropped rs
