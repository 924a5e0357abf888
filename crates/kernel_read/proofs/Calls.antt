-- A call's result, by what its records come to. Assumes nothing.
use Prim.Native.Nat.{ℕ, ◌%◌}
use native.Mathlib.Omega.{arith}
use mathlib.Core.Path.{◌≡◌, refl, sym, ap, ◌∙◌}
use mathlib.Core.Bool.{Bool, true, cond, true≢false}
use mathlib.Core.List.{List, []}
use borrow.Author.Tests.{eq-eqb, ne_eqb}
use lib.ListN.{length}
use Rattle.std.specs.Prelude.{Result, Ok, Err}
use Rattle.kernel_record.specs.Records.{record_bytes, held_dropped}
use Rattle.kernel_touch.specs.declared.slots.KernelTouches.{KernelTouches}
use Rattle.kernel_touch.specs.declared.answer.KernelRefusal.{KernelRefusal}
use Rattle.kernel_touch.specs.declared.answer.KernelRefusal.TheVariants.{Length}
use Rattle.kernel_read.specs.Read.{KernelOutcome, refused, taken, run, all_records, read, kernel_of, words_of, feed_of, answer_of, read_of, is_taken, row_of, outcome_row, Reads}
use Rattle.kernel_read.specs.Steps.{looked, Fills}

looked_refused : (b : Bool) (o : KernelOutcome) (q : KernelRefusal) → looked b o ≡ Err q → o ≡ refused q
unfolding looked
looked_refused b (refused x) q e = let same : x ≡ q = cc in ap refused same
looked_refused b (taken next es) q e = let z : ◌≡◌ {A = ℕ} 0 1 = cc in absurd (omega arith)

looked_fits : (b : Bool) (o : KernelOutcome) (d : Bool) → looked b o ≡ Ok d → (is_taken o ≡ true) × (d ≡ b)
unfolding looked is_taken
looked_fits b (refused x) d e = let z : ◌≡◌ {A = ℕ} 0 1 = cc in absurd (omega arith)
looked_fits b (taken next es) d e = let same : d ≡ b = cc in (refl, same)

taken_answer : (b : Bool) (o : KernelOutcome) → is_taken o ≡ true → answer_of b o ≡ Ok (record { words = length (words_of o); dropped = b })
unfolding is_taken answer_of words_of
taken_answer b (refused q) e = absurd (true≢false (sym e))
taken_answer b (taken next es) e = refl

answer_row : (b : Bool) (o : KernelOutcome) → row_of (answer_of b o) ≡ outcome_row o
unfolding answer_of
answer_row b (refused q) = refl
answer_row b (taken next es) = refl

module _ (k : KernelTouches) (device : ℕ) (bytes feed : List ℕ) where
  abbrev outcome : KernelOutcome
  outcome = run device (length feed) (all_records bytes) k []

  -- a refused call leaves all as before
  refused_reads : (q : KernelRefusal) → read k device bytes (length feed) ≡ refused q → Reads k device bytes feed (record { kernel = k; answer = Err q }) feed
  unfolding read_of kernel_of answer_of feed_of words_of
  refused_reads q e =
      record { result = sym (ap (read_of k (held_dropped (all_records bytes))) e); row = sym (ap outcome_row e); feed_is = sym (ap (feed_of feed) e) }

  read_run : length bytes % record_bytes ≡ 0 → read k device bytes (length feed) ≡ outcome
  unfolding read
  read_run h = ap (λ (b : Bool). cond b outcome (refused Length)) (eq-eqb (length bytes % record_bytes) 0 h)

  pub wrong_length : (length bytes % record_bytes ≡ 0 → ⊥) → Reads k device bytes feed (record { kernel = k; answer = Err Length }) feed
  unfolding read
  wrong_length h = refused_reads Length (ap (λ (b : Bool). cond b outcome (refused Length)) (ne_eqb (length bytes % record_bytes) 0 h))

  pub refused_record : (q : KernelRefusal) (l : Result Bool KernelRefusal) → length bytes % record_bytes ≡ 0 → l ≡ looked (held_dropped (all_records bytes)) outcome → l ≡ Err q →
      Reads k device bytes feed (record { kernel = k; answer = Err q }) feed
  refused_record q l h e f = refused_reads q (read_run h ∙ looked_refused (held_dropped (all_records bytes)) outcome q (sym e ∙ f))

  pub will_fit : (d : Bool) (l : Result Bool KernelRefusal) → l ≡ looked (held_dropped (all_records bytes)) outcome → l ≡ Ok d → is_taken outcome ≡ true
  will_fit d l e f = (looked_fits (held_dropped (all_records bytes)) outcome d (sym e ∙ f)).0

  pub taken_reads : (d : Bool) (l : Result Bool KernelRefusal) (next : KernelTouches) (words : ℕ) (feed' : List ℕ) → length bytes % record_bytes ≡ 0 → l ≡ looked (held_dropped (all_records bytes)) outcome → l ≡ Ok d →
      Fills k outcome feed next words feed' → Reads k device bytes feed (record { kernel = next; answer = Ok (record { words = words; dropped = d }) }) feed'
  unfolding read_of
  taken_reads d l next words feed' h e f s =
      let held = held_dropped (all_records bytes) in
      let fits = looked_fits held outcome d (sym e ∙ f) in
      let answers : Ok (record { words = words; dropped = d }) ≡ answer_of held outcome = (λ j. Ok (record { words = s.words j; dropped = fits.1 j })) ∙ sym (taken_answer held outcome fits.0) in
      record {
        result = (λ j. record { kernel = s.kernel j; answer = answers j }) ∙ sym (ap (read_of k held) (read_run h));
        row = ap row_of answers ∙ answer_row held outcome ∙ sym (ap outcome_row (read_run h));
        feed_is = s.feed_is ∙ sym (ap (feed_of feed) (read_run h));
      }
