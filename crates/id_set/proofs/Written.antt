-- Lists written one after the other to the same buffer. Assumes nothing.
use Prim.Native.Nat.{ℕ, ◌+◌, ◌-◌, ◌<◌, ◌≤◌}
use mathlib.Core.Path.{◌≡◌, refl, sym, ap, ◌∙◌}
use mathlib.Core.Bool.{Bool, true, false, ◌&&◌}
use mathlib.Core.List.{List, ◌∷◌, ◌++◌}
use native.Mathlib.Omega.{arith}
use lib.Dec.{ltb, eqb}
use borrow.Author.Tests.{lt-ltb, ltb-true, eq-eqb, eqb-true}
use lib.ListN.{length, get_or, take, drop, length-append, length-drop, take-append-drop}
use lib.Seq.{take_at, drop_at, drop-drop, take-take, length-take-le}
use Rattle.model.specs.Interact.{insert_id}
use Rattle.id_set.specs.Ids.{Written, Place, stands_at}
use Rattle.id_set.proofs.Insert.{present, placed}

-- nothing written yet, or nothing more
pub kept : (n : ℕ) (a : List ℕ) → n ≤ length a → Written (take n a) a n a
kept n a h = record { counted = sym (length-take-le n a h); contents = sym (take-append-drop n a) }

module _ (s a : List ℕ) (r : ℕ) (b : List ℕ) (w : Written s a r b) where
  pub list : take r b ≡ s
  list = rw w.contents (take_at s (drop r a) r (sym w.counted))

  pub beyond : drop r b ≡ drop r a
  beyond = rw w.contents (drop_at s (drop r a) r (sym w.counted))

  pub as_long : r ≤ length a → length b ≡ length a
  as_long h = ap length w.contents ∙ (length-append s (drop r a) ∙ omega (arith, length-drop r a, w.counted))

  pub and_then : (s' : List ℕ) (r' : ℕ) (b' : List ℕ) → Written s' b r' b' → r ≤ r' → Written s' a r' b'
  and_then s' r' b' w' h =
      let e : r' ≡ r + (r' - r) = omega arith in
      let f : drop r' b ≡ drop r' a = rw (e, ← drop-drop (r' - r) r b, ← drop-drop (r' - r) r a, beyond) in
      record { counted = w'.counted; contents = w'.contents ∙ ap (λ (t : List ℕ). s' ++ t) f }

  -- the same list, read from the buffer
  pub again : Written (take r b) a r b
  again = rw list w

  -- one list after the other, where the second starts with the first and only grows
  pub then_by : (f : List ℕ → List ℕ) → ((t : List ℕ) → length t ≤ length (f t))
      → (r' : ℕ) (b' : List ℕ) → Written (f (take r b)) b r' b' → Written (f s) a r' b'
  then_by f up r' b' w' =
      let v : Written (f s) b r' b' = rw list at w' in
      and_then (f s) r' b' v (omega (arith, up s, w.counted, v.counted))

-- ---- one id

both_true : (p q : Bool) → (p && q) ≡ true → (p ≡ true) × (q ≡ true)
both_true true q e = (refl, e)
both_true false q e = let z : ◌≡◌ {A = ℕ} 0 1 = cc in absurd (omega arith)

module _ (a : List ℕ) (n d at : ℕ) (p : Place d (take n a) at) where
  pub found : n ≤ length a → stands_at d (take n a) at ≡ true → Written (insert_id d (take n a)) a n a
  unfolding stands_at
  found h e =
      let t = both_true (ltb at (length (take n a))) (eqb (get_or (take n a) at 0) d) e in
      rw (present d (take n a) at p (ltb-true _ _ t.0) (eqb-true _ _ t.1)) (kept n a h)

  missing : stands_at d (take n a) at ≡ false → at < length (take n a) → get_or (take n a) at 0 ≡ d → ⊥
  unfolding stands_at
  missing e h q =
      let z : ◌≡◌ {A = ℕ} 0 1 = (let f : (true && true) ≡ false = (rw (lt-ltb _ _ h, eq-eqb _ _ q) at e) in cc) in omega arith

  pub put : n < length a → stands_at d (take n a) at ≡ false → (b : List ℕ)
      → b ≡ (take at a ++ (d ∷ drop at (take n a))) ++ drop (n + 1) a → Written (insert_id d (take n a)) a (n + 1) b
  put h e b q =
      let s = take n a in
      let l : length s ≡ n = length-take-le n a (omega arith) in
      let w : at ≤ n = rw l at p.within in
      let i : insert_id d s ≡ take at a ++ (d ∷ drop at s) = placed d s at p (missing e) ∙ ap (λ (t : List ℕ). t ++ (d ∷ drop at s)) (take-take at n a w) in
      let k : length (take at a) ≡ at = length-take-le at a (omega arith) in
      record {
        counted = rw i (omega (arith, length-append (take at a) (d ∷ drop at s), length-drop at s));
        contents = rw i q;
      }
