-- What is shaped and checked, by two tests; the force of a touch. Assumes nothing.
use Rattle.std.specs.Prelude.{Option, None, Some, Result}
use mathlib.Core.Path.{◌≡◌, refl}
use mathlib.Core.Bool.{Bool, true, false, ◌&&◌, cond}
use Prim.Native.Nat.{ℕ, ◌/◌, ◌%◌, ◌≤◌, ◌<◌}
use native.Mathlib.Omega.{arith}
use lib.Dec.{ltb}
use Rattle.data.specs.Limits.{force_ok, maybe_force_ok, event_ok}
use Rattle.feed.specs.Types.{Event}
use Rattle.data.specs.declared.event.Event.{Event}
use Rattle.feed.specs.Shape.{float_of, force_of, clean, field_below}
use Rattle.feed.specs.Decode.{good, outside_domain, check_floats, found_at}
use Rattle.feed.specs.declared.found.FeedError.{FeedError}
use Rattle.event_loop.specs.declared.lists.Reader.{Reader}
use Rattle.feed_check.specs.Verdict.{verdict_of, judged}

module _ (e : Event) (reader : Reader) (next : ℕ) where
  abbrev told : Option Event → Result (Reader × ℕ) FeedError
  told m = verdict_of reader (found_at (check_floats m) next)

  floats_are : (b : Bool) → verdict_of reader (found_at (cond b (good e) outside_domain) next) ≡ judged true b reader next
  unfolding verdict_of found_at judged
  floats_are true = refl
  floats_are false = refl

  one_test : (b : Bool) → told (cond b (Some e) None) ≡ judged b (event_ok e) reader next
  unfolding verdict_of found_at check_floats judged
  one_test true = floats_are (event_ok e)
  one_test false = refl

  two_tests : (b d : Bool) → told (cond b (cond d (Some e) None) None) ≡ judged (b && d) (event_ok e) reader next
  unfolding verdict_of found_at check_floats judged
  two_tests true d = one_test d
  two_tests false d = refl

  pub clean_is : (limit low : ℕ) → told (clean limit low (Some e)) ≡ judged (ltb low limit) (event_ok e) reader next
  unfolding clean
  clean_is limit low = one_test (ltb low limit)

  pub field_is : (limit low most field : ℕ) →
      told (clean limit low (field_below most field (Some e))) ≡ judged (ltb low limit && ltb field most) (event_ok e) reader next
  unfolding clean field_below
  field_is limit low most field = two_tests (ltb low limit) (ltb field most)

-- a touch's bit 2 says whether its force is there
module _ (low w : ℕ) where
  pub no_force : low < 4 → maybe_force_ok (force_of (low / 4 % 2) w) ≡ true
  unfolding maybe_force_ok force_of
  no_force h =
      let bit : low / 4 % 2 ≡ 0 = omega arith in
      rw bit

  pub force_is : 4 ≤ low → low < 8 → maybe_force_ok (force_of (low / 4 % 2) w) ≡ force_ok (float_of w)
  unfolding maybe_force_ok force_of
  force_is h l =
      let bit : low / 4 % 2 ≡ 1 = omega arith in
      rw bit
