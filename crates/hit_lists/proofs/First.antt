-- Where the first place of an id lies: before an entry, from it on, or nowhere. Assumes nothing.
use Prim.Native.Nat.{ℕ, zero, suc, ◌+◌, ◌*◌, ◌/◌, ◌<◌, ◌≤◌}
use mathlib.Core.Path.{◌≡◌, refl, sym, ap}
use mathlib.Core.Bool.{Bool, true, false, cond, ◌||◌, ◌&&◌}
use mathlib.Core.List.{List, [], ◌∷◌}
use native.Mathlib.Numerals.{add-one}
use native.Mathlib.Omega.{arith}
use lib.Dec.{leb, ltb, eqb}
use borrow.Author.Tests.{lt-ltb, lt-leb, le-leb, ltb-true, eqb-true}
use lib.ListN.{length, get_or, take}
use lib.Seq.{length-take-le, get_or-take}
use Rattle.model.specs.Interact.{Hit, has_hit, order, order_from}
use Rattle.hit_lists.specs.Hits.{hits_of, hit_of, hit_at}
use Rattle.hit_lists.proofs.Walk.{rest, at, next, entries, hit_here}

-- ---- by cases of an entry's test b, where c is the test of the later entries

no : {A : Type 0} → ◌≡◌ {A = Bool} true false → A
no e = let z : ◌≡◌ {A = ℕ} 0 1 = cc in absurd (omega arith)

if_none : (b c : Bool) (n m k : ℕ) → (b || c) ≡ false → (c ≡ false → m ≡ k) → cond b n m ≡ k
if_none true c n m k e f = no e
if_none false c n m k e f = f e

if_some : (b c : Bool) (n m : ℕ) → (b || c) ≡ true → (c ≡ true → n ≤ m) → n ≤ cond b n m
if_some true c n m e f = omega arith
if_some false c n m e f = f e

if_below : (b c : Bool) (n m l : ℕ) → (b || c) ≡ true → n < l → (c ≡ true → m < l) → cond b n m < l
if_below true c n m l e h f = h
if_below false c n m l e h f = f e

if_beyond : (b c c' : Bool) (n m l : ℕ) → (b || c) ≡ false → (b || c') ≡ true → (c ≡ false → c' ≡ true → l ≤ m) → l ≤ cond b n m
if_beyond true c c' n m l e e' f = no e
if_beyond false c c' n m l e e' f = f e e'

either_below : (b : Bool) (n m l : ℕ) → n < l → m < l → cond b n m < l
either_below true n m l h k = h
either_below false n m l h k = k

or-true : (b c : Bool) → c ≡ true → (b || c) ≡ true
or-true true c e = refl
or-true false c e = e

-- ---- entries

nowhere : (d n : ℕ) (hs : List Hit) → has_hit d hs ≡ false → order_from d n hs ≡ 0
unfolding has_hit order_from
nowhere d n [] e = refl
nowhere d n (h ∷ hs) e = if_none (eqb d h.id) (has_hit d hs) n (order_from d (suc n) hs) 0 e (nowhere d (suc n) hs)

from_first : (d n : ℕ) (hs : List Hit) → has_hit d hs ≡ true → n ≤ order_from d n hs
unfolding has_hit order_from
from_first d n [] e = no (sym e)
from_first d n (h ∷ hs) e =
    if_some (eqb d h.id) (has_hit d hs) n (order_from d (suc n) hs) e (λ q. omega (arith, from_first d (suc n) hs q))

before : (d n t : ℕ) (hs : List Hit) → has_hit d (take t hs) ≡ true → order_from d n hs < n + t
unfolding has_hit order_from
before d n zero hs e = no (sym e)
before d n (suc t) [] e = no (sym e)
before d n (suc t) (h ∷ hs) e =
    if_below (eqb d h.id) (has_hit d (take t hs)) n (order_from d (suc n) hs) (n + suc t) e (omega arith) (λ q. omega (arith, before d (suc n) t hs q))

beyond : (d n t : ℕ) (hs : List Hit) → has_hit d (take t hs) ≡ false → has_hit d hs ≡ true → n + t ≤ order_from d n hs
unfolding has_hit order_from
beyond d n zero hs e q = omega (arith, from_first d n hs q)
beyond d n (suc t) [] e q = no (sym q)
beyond d n (suc t) (h ∷ hs) e q =
    if_beyond (eqb d h.id) (has_hit d (take t hs)) (has_hit d hs) n (order_from d (suc n) hs) (n + suc t) e q
    (λ e' q'. omega (arith, beyond d (suc n) t hs e' q'))

within : (d n l : ℕ) (hs : List Hit) → 0 < l → n + length hs ≤ l → order_from d n hs < l
unfolding order_from
within d n l [] p h = p
within d n l (x ∷ hs) p h = either_below (eqb d x.id) n (order_from d (suc n) hs) l (omega arith) (within d (suc n) l hs p (omega arith))

-- ---- words

pairs : (t : ℕ) (ws : List ℕ) → ((vs : List ℕ) → hits_of (take (t * 2) vs) ≡ take t (hits_of vs)) → hits_of (take (suc (suc (t * 2))) ws) ≡ take (suc t) (hits_of ws)
unfolding hits_of
pairs t [] f = refl
pairs t (a ∷ []) f = refl
pairs t (a ∷ b ∷ ws) f = ap (λ (hs : List Hit). hit_of a b ∷ hs) (f ws)

hits_take : (t : ℕ) (ws : List ℕ) → hits_of (take (t * 2) ws) ≡ take t (hits_of ws)
unfolding hits_of
hits_take zero ws = refl
hits_take (suc t) ws = let e : suc t * 2 ≡ suc (suc (t * 2)) = omega arith in rw e (pairs t ws (hits_take t))

has_rest : (d : ℕ) (ws : List ℕ) (n : ℕ) → n ≤ length ws / 2 → has_hit d (rest ws n) ≡ true → has_hit d (hits_of ws) ≡ true
unfolding has_hit
has_rest d ws zero h e = e
has_rest d ws (suc n) h e =
    has_rest d ws n (omega arith) (rw (next ws n (omega arith), add-one n) (or-true (eqb d (at ws n).id) (has_hit d (rest ws (suc n))) e))

both_true : (p q : Bool) → (p && q) ≡ true → (p ≡ true) × (q ≡ true)
both_true true q e = (refl, e)
both_true false q e = no (sym e)

pub stands : (d n : ℕ) (ws : List ℕ) → hit_at d n ws ≡ true → has_hit d (hits_of ws) ≡ true
unfolding hit_at
stands d n ws e =
    let b = both_true (ltb n (length ws / 2)) (eqb d (get_or ws (n * 2) 0)) e in
    let h : n < length ws / 2 = ltb-true _ _ b.0 in
    has_rest d ws n (omega arith) (hit_here ws d n h (eqb-true _ _ b.1))

-- an entry before entry t is one of the first t
pub stands_below : (d n t : ℕ) (ws : List ℕ) → t * 2 ≤ length ws → (ltb n t && hit_at d n ws) ≡ true → has_hit d (hits_of (take (t * 2) ws)) ≡ true
unfolding hit_at
stands_below d n t ws l e =
    let a = both_true (ltb n t) (hit_at d n ws) e in
    let b = both_true (ltb n (length ws / 2)) (eqb d (get_or ws (n * 2) 0)) a.1 in
    let h : n < t = ltb-true _ _ a.0 in
    let k : n < length (take (t * 2) ws) / 2 = rw (length-take-le (t * 2) ws l) (omega arith) in
    stands d n (take (t * 2) ws) (rw (lt-ltb _ _ k, get_or-take (t * 2) ws (n * 2) 0 (omega arith)) b.1)

module _ (d top : ℕ) (ws : List ℕ) where
  pub lies_below : has_hit d (hits_of (take (top * 2) ws)) ≡ true → leb top (order d (hits_of ws)) ≡ false
  unfolding order
  lies_below e = lt-leb top _ (omega (arith, before d 0 top (hits_of ws) (rw (hits_take top ws) at e)))

  pub too_far : 0 < top → length ws / 2 ≤ top → leb top (order d (hits_of ws)) ≡ false
  unfolding order
  too_far p h = lt-leb _ _ (within d 0 top (hits_of ws) p (omega (arith, entries ws)))

  lies_if : (b : Bool) → 0 < top → has_hit d (hits_of (take (top * 2) ws)) ≡ false → has_hit d (hits_of ws) ≡ b → leb top (order d (hits_of ws)) ≡ b
  unfolding order
  lies_if true p e q = le-leb top _ (omega (arith, beyond d 0 top (hits_of ws) (rw (hits_take top ws) at e) q))
  lies_if false p e q = rw (nowhere d 0 (hits_of ws) q) (lt-leb top 0 p)

  pub lies : 0 < top → has_hit d (hits_of (take (top * 2) ws)) ≡ false → leb top (order d (hits_of ws)) ≡ has_hit d (hits_of ws)
  lies p e = lies_if (has_hit d (hits_of ws)) p e refl
