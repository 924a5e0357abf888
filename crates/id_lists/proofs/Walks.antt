-- Putting the ids of a hit list into a buffer, an entry at a time. Assumes nothing.
use Rattle.std.specs.Prelude.{Option, None, Some}
use Rattle.std.specs.Option as now
use Rattle.std.specs.Option.{option_or}
use Prim.Native.Nat.{ℕ, suc, ◌+◌, ◌<◌, ◌≤◌}
use mathlib.Core.Path.{◌≡◌, refl, ap}
use mathlib.Core.Bool.{Bool, true, false, not, ◌&&◌, ◌||◌}
use mathlib.Core.List.{List, [], ◌∷◌, ◌++◌}
use native.Mathlib.Omega.{arith}
use lib.Dec.{leb}
use lib.ListN.{length, take, get_or}
use Rattle.data.specs.Sense.{senses_click, senses_drag}
use Rattle.model.specs.Interact.{Hit, is_some, insert_id, insert_some, insert_hits, insert_on_top, order}
use Rattle.hit_lists.specs.Hits.{hits_of, hit_of}
use Rattle.hit_lists.proofs.Walk.{short, split}
use Rattle.id_set.specs.Ids.{Written}
use Rattle.id_set.proofs.Insert.{one_more, some_more}
use Rattle.id_set.proofs.Written.{list, again, then_by}
use Rattle.id_lists.specs.Ids.{on_top, insert_if}

-- ---- lengths: an id more at the most

pub if_more : (keep : Bool) (d : ℕ) (s : List ℕ) → (length s ≤ length (insert_if keep d s)) × (length (insert_if keep d s) ≤ suc (length s))
if_more true d s = one_more d s
if_more false d s = (omega arith, omega arith)

pub hits_more : (hs : List Hit) (s : List ℕ) → length s ≤ length (insert_hits hs s)
unfolding insert_hits
hits_more [] s = omega arith
hits_more (h ∷ hs) s = omega (arith, hits_more hs (insert_id h.id s), (one_more h.id s).0)

pub top_more : (top : ℕ) (close hs : List Hit) (s : List ℕ) → length s ≤ length (insert_on_top top close hs s)
unfolding insert_on_top
top_more top close [] s = omega arith
top_more top close (h ∷ hs) s =
    let keep = not (senses_click h.sense || senses_drag h.sense) && leb top (order h.id close) in
    omega (arith, top_more top close hs (insert_if keep h.id s), (if_more keep h.id s).0)

-- a step that puts an id more at the most
pub record Grows (f : List ℕ → List ℕ) : Type 0 where
  pub lower : (s : List ℕ) → length s ≤ length (f s)
  pub upper : (s : List ℕ) → length (f s) ≤ suc (length s)

pub id_grows : (d : ℕ) → Grows (insert_id d)
id_grows d = record { lower = λ s. (one_more d s).0; upper = λ s. (one_more d s).1 }

pub if_grows : (keep : Bool) (d : ℕ) → Grows (insert_if keep d)
if_grows keep d = record { lower = λ s. (if_more keep d s).0; upper = λ s. (if_more keep d s).1 }

module _ (a b : List ℕ) (r : ℕ) (w : Written (take r b) a r b) (f : List ℕ → List ℕ) (g : Grows f) (r' : ℕ) (b' : List ℕ) (w' : Written (f (take r b)) b r' b') where
  pub stepped : Written (take r' b') a r' b'
  stepped = again _ a r' b' (then_by _ a r b w f g.lower r' b' w')

  pub step_list : take r' b' ≡ f (take r b)
  step_list = list _ b r' b' w'

  pub step_bound : r' ≤ r + 1
  step_bound = omega (arith, w.counted, w'.counted, g.upper (take r b))

module _ (ahead one more : List ℕ) (e : ahead ≡ one ++ more) (two : length one ≡ 2) where
  pub one_less : length (hits_of ahead) ≡ suc (length (hits_of more))
  one_less = ap length (split ahead one more e two)

  pub hits_next : (s : List ℕ) → insert_hits (hits_of ahead) s ≡ insert_hits (hits_of more) (insert_id (get_or one 0 0) s)
  unfolding insert_hits
  hits_next s = rw (split ahead one more e two)

  pub top_next : (top : ℕ) (close : List Hit) (s : List ℕ)
      → insert_on_top top close (hits_of ahead) s ≡ insert_on_top top close (hits_of more) (insert_if (on_top top close (hit_of (get_or one 0 0) (get_or one 1 0))) (get_or one 0 0) s)
  unfolding insert_on_top on_top
  top_next top close s = rw (split ahead one more e two)

module _ (ahead : List ℕ) (h : length ahead < 2) where
  pub hits_done : (s : List ℕ) → insert_hits (hits_of ahead) s ≡ s
  unfolding insert_hits
  hits_done s = rw (short ahead h)

  pub top_done : (top : ℕ) (close : List Hit) (s : List ℕ) → insert_on_top top close (hits_of ahead) s ≡ s
  unfolding insert_on_top
  top_done top close s = rw (short ahead h)

-- the count after an id that may be there
pub after_some : (o : Option ℕ) (s a : List ℕ) (r : ℕ) (b : List ℕ) → Written (insert_some o s) a r b → r ≤ suc (length s)
after_some o s a r b w = omega (arith, w.counted, (some_more o s).1)

pub after_two : (o p : Option ℕ) (a : List ℕ) (r : ℕ) (b : List ℕ) → Written (insert_some o (insert_some p [])) a r b → r ≤ 2
after_two o p a r b w = omega (arith, after_some o (insert_some p []) a r b w, (some_more p []).1)

-- one of the three is there
pub some_of : (a b c : Option ℕ) → now.is_some (option_or (option_or a b) c) ≡ (is_some a || is_some b || is_some c)
unfolding is_some
some_of (Some x) b c = refl
some_of None (Some x) c = refl
some_of None None (Some x) = refl
some_of None None None = refl
