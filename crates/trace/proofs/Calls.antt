-- Arrays that are equal part by part. Assumes nothing.
use mathlib.Core.Path.{◌≡◌, refl, sym, ap, ◌∙◌}
use mathlib.Core.List.{List}
use Prim.Native.Nat.{ℕ}
use lib.Ieee.{Float}
use Rattle.input_state.specs.View.{Lent, lent}
use native.Mathlib.Omega.{arith}
use Rattle.std.specs.Prelude.{Ok, Err}
use Rattle.trace_words.specs.declared.calls.Call.{Call}
use Rattle.trace_words.specs.declared.calls.Call.TheVariants.{Reset, Pass, Insert, ClearWidgets, Interact, Ask, Dump, SetTally, Kernel, Rested, Exp, Park, RestoreLast, Restore}
use Rattle.trace_words.specs.declared.calls.NoSuchCall.{NoSuchCall}
use Rattle.trace_words.specs.Calls.{call_of}
use Rattle.trace.specs.Call.{arrays}

module _ {ws ns rs is : List ℕ} {es : List Float} where
  -- of the pass's arrays the presses alone
  pub same_presses : {ts ps qs : List Float} {cs ks ks' : List ℕ} → ks' ≡ ks → arrays (lent ts ps cs qs ks') ws ns es rs is ≡ arrays (lent ts ps cs qs ks) ws ns es rs is
  same_presses e = rw e

  pub same_lent : {l l' : Lent} → l' ≡ l → arrays l' ws ns es rs is ≡ arrays l ws ns es rs is
  same_lent e = rw e

  -- the last image
  pub same_image : {l : Lent} {is' : List ℕ} → is' ≡ is → arrays l ws ns es rs is' ≡ arrays l ws ns es rs is
  same_image e = rw e

  -- the set's arrays and the records
  pub same_rest : {l : Lent} {ws' ns' rs' : List ℕ} {es' : List Float} → (ws' ≡ ws) × (ns' ≡ ns) × (es' ≡ es) × (rs' ≡ rs) → arrays l ws' ns' es' rs' is ≡ arrays l ws ns es rs is
  same_rest e = rw (e.0, e.1, e.2, e.3)

-- ---- a number is that of one call

-- the numbers
abbrev pub number : Call → ℕ
number Reset = 0
number Pass = 1
number Insert = 2
number ClearWidgets = 3
number Interact = 4
number Ask = 5
number Dump = 6
number SetTally = 8
number Kernel = 9
number Rested = 10
number Exp = 11
number Park = 12
number RestoreLast = 13
number Restore = 14

pub same_call : (k n : ℕ) (x y : Call) → call_of k ≡ Ok x → call_of n ≡ Ok y → k ≡ n → x ≡ y
same_call k n x y e f h =
    let same : Ok x ≡ Ok y = sym e ∙ ap call_of h ∙ f in
    let one : x ≡ y = cc in
    one

pub not_this : (k n : ℕ) (x y : Call) → call_of k ≡ Ok x → call_of n ≡ Ok y → (number x ≡ number y → ⊥) → k ≡ n → ⊥
not_this k n x y e f differ h = differ (ap number (same_call k n x y e f h))

pub no_call : (k n : ℕ) (x : NoSuchCall) (y : Call) → call_of k ≡ Err x → call_of n ≡ Ok y → k ≡ n → ⊥
no_call k n x y e f h =
    let same : Err x ≡ Ok y = sym e ∙ ap call_of h ∙ f in
    let z : ◌≡◌ {A = ℕ} 0 1 = cc in
    absurd (omega arith)

pub is_reset : call_of 0 ≡ Ok Reset
unfolding call_of
is_reset = refl

pub is_pass : call_of 1 ≡ Ok Pass
unfolding call_of
is_pass = refl

pub is_park : call_of 12 ≡ Ok Park
unfolding call_of
is_park = refl

pub is_restore_last : call_of 13 ≡ Ok RestoreLast
unfolding call_of
is_restore_last = refl

pub is_restore : call_of 14 ≡ Ok Restore
unfolding call_of
is_restore = refl
