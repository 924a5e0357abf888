-- What `event_at` says where a verdict is known. Assumes nothing.
use Rattle.std.specs.Prelude.{Ok, Err, Result}
use mathlib.Core.Path.{◌≡◌, refl, sym, ap}
use mathlib.Core.List.{List}
use Prim.Native.Nat.{ℕ}
use native.Mathlib.Omega.{arith}
use lib.ListN.{get_or}
use Rattle.feed.specs.Types.{Event}
use Rattle.feed.specs.Split.{kind}
use Rattle.feed.specs.declared.found.FeedError.{FeedError}
use Rattle.data.specs.declared.event.Event.{Event}
use Rattle.feed.specs.declared.found.FeedError.TheVariants as fault
use Rattle.feed.specs.Decode.{event_at}
use Rattle.event_loop.specs.declared.lists.Reader.{Reader}
use Rattle.event_loop.specs.Lists.{reader_of}
use Rattle.feed_check.specs.Verdict.{verdict_of, verdict_at}

no : {P : Type 0} → ◌≡◌ {A = ℕ} 0 1 → P
no z = absurd (omega arith)

-- an event, and its reader
pub record EventFound (r : Result (Event × ℕ) FeedError) (own reader : Reader) (next : ℕ) : Type 0 where
  pub event : Event
  pub found : r ≡ Ok (event, next)
  pub reader_is : reader ≡ own

good_of : (r : Result (Event × ℕ) FeedError) (own reader : Reader) (next : ℕ) → verdict_of own r ≡ Ok (reader, next) → EventFound r own reader next
unfolding verdict_of
good_of (Ok (e, n)) own reader next h =
    let p : (own, n) ≡ (reader, next) = cc in
    record { event = e; found = ap (λ (x : Reader × ℕ). Ok (e, x.1)) p; reader_is = sym (ap (λ (x : Reader × ℕ). x.0) p) }
good_of (Err fault.Malformed) own reader next h = no (cc)
good_of (Err fault.OutsideDomain) own reader next h = no (cc)

malformed_of : (r : Result (Event × ℕ) FeedError) (own : Reader) → verdict_of own r ≡ Err fault.Malformed → r ≡ Err fault.Malformed
unfolding verdict_of
malformed_of (Ok (e, n)) own h = no (cc)
malformed_of (Err fault.Malformed) own h = refl
malformed_of (Err fault.OutsideDomain) own h = no (cc)

outside_of : (r : Result (Event × ℕ) FeedError) (own : Reader) → verdict_of own r ≡ Err fault.OutsideDomain → r ≡ Err fault.OutsideDomain
unfolding verdict_of
outside_of (Ok (e, n)) own h = no (cc)
outside_of (Err fault.Malformed) own h = no (cc)
outside_of (Err fault.OutsideDomain) own h = refl

module _ (ws : List ℕ) (at : ℕ) where
  abbrev own : Reader
  own = reader_of (kind (get_or ws at 0))

  pub good_at : (reader : Reader) (next : ℕ) → verdict_at ws at ≡ Ok (reader, next) → EventFound (event_at ws at) own reader next
  unfolding verdict_at
  good_at reader next h = good_of (event_at ws at) own reader next h

  pub malformed_at : verdict_at ws at ≡ Err fault.Malformed → event_at ws at ≡ Err fault.Malformed
  unfolding verdict_at
  malformed_at h = malformed_of (event_at ws at) own h

  pub outside_at : verdict_at ws at ≡ Err fault.OutsideDomain → event_at ws at ≡ Err fault.OutsideDomain
  unfolding verdict_at
  outside_at h = outside_of (event_at ws at) own h
