-- Reading gives what writing wrote, and takes only that: one induction over the descriptions each. Assumes nothing.
use Rattle.std.specs.Prelude.{Option, None, Some}
use Prim.Native.Nat.{ℕ, zero, suc, ◌+◌, ◌-◌, ◌*◌, ◌/◌, ◌%◌, ◌<◌}
use native.Mathlib.Omega.{arith}
use native.Mathlib.Nat.{mul-div_cancel}
use mathlib.Core.Path.{◌≡◌, refl, sym, ap, ap₂, ◌∙◌, subst}
use mathlib.Core.Bool.{Bool, true, false, ◌&&◌, cond}
use mathlib.Core.List.{List, [], ◌∷◌, ◌++◌, append_assoc}
use lib.Dec.{T, eqb, ltb, leb, eqb→eq, eqb_refl, ltb→lt, lt→ltb}
use lib.ListN.{length}
use lib.Ieee.{Float, binary32, binary64, of_bits, to_bits, fits}
use lib.Ieee.Fits.{and_l}
use lib.Ieee.Bits.{of_bits-to_bits}
use Rattle.image.specs.Codes.{Code, word, single, double, id, both, array, maybe, group, table, blank, choice, keyed, ranked, El, size, half, header, zeros, all, option_words, write, entry_words}
use Rattle.image.specs.Codes.{Read, bad, good, then, read_word, read_two, single_ok, double_ok, read_zeros, read_option, read_times, read_keyed, count_of, table_ok, read, In, Each, Keyed, Words, ReadsBack, IsWritten}

impossible : {A : Type 0} → ◌≡◌ {A = ℕ} 0 1 → A
impossible z = absurd (omega arith)

-- ---- the tests
is_true : (b : Bool) → T b → b ≡ true
is_true true t = refl
is_true false t = absurd t

same32 : (p : Float → Bool) (w : ℕ) → T (single_ok p w) → to_bits binary32 (of_bits binary32 w) ≡ w
unfolding single_ok
same32 p w h = eqb→eq (to_bits binary32 (of_bits binary32 w)) w (and_l (eqb (to_bits binary32 (of_bits binary32 w)) w) (p (of_bits binary32 w)) h)

same64 : (p : Float → Bool) (w : ℕ) → T (double_ok p w) → to_bits binary64 (of_bits binary64 w) ≡ w
unfolding double_ok
same64 p w h = eqb→eq (to_bits binary64 (of_bits binary64 w)) w (and_l (eqb (to_bits binary64 (of_bits binary64 w)) w) (p (of_bits binary64 w)) h)

both_true : (a b : Bool) → T a → T b → T (a && b)
both_true true b s t = t
both_true false b s t = s

single_back : (p : Float → Bool) (v : Float) → T (fits binary32 v) × T (p v) → T (single_ok p (to_bits binary32 v))
unfolding single_ok
single_back p v h =
    let e : v ≡ of_bits binary32 (to_bits binary32 v) = sym (of_bits-to_bits binary32 v h.0) in
    subst (λ (x : Float). T (eqb (to_bits binary32 x) (to_bits binary32 v) && p x)) e (both_true (eqb (to_bits binary32 v) (to_bits binary32 v)) (p v) (eqb_refl (to_bits binary32 v)) h.1)

double_back : (p : Float → Bool) (v : Float) → T (fits binary64 v) × T (p v) → T (double_ok p (to_bits binary64 v))
unfolding double_ok
double_back p v h =
    let e : v ≡ of_bits binary64 (to_bits binary64 v) = sym (of_bits-to_bits binary64 v h.0) in
    subst (λ (x : Float). T (eqb (to_bits binary64 x) (to_bits binary64 v) && p x)) e (both_true (eqb (to_bits binary64 v) (to_bits binary64 v)) (p v) (eqb_refl (to_bits binary64 v)) h.1)

table_header : (n m s w : ℕ) → T (table_ok n m s w) → header n (count_of n s w * s) ≡ w
unfolding table_ok
table_header n m s w h = eqb→eq (header n (count_of n s w * s)) w (and_l (eqb (header n (count_of n s w * s)) w) (leb (count_of n s w) m) h)

count_back : (n s k : ℕ) → T (ltb 0 s) → count_of n s (header n (k * s)) ≡ k
unfolding count_of
count_back n s k h =
    let e : header n (k * s) - header n 0 ≡ k * s = omega arith in
    ap (λ (z : ℕ). z / s) e ∙ mul-div_cancel k (ltb→lt 0 s h)

table_back : (n m s k : ℕ) → T (ltb 0 s) → T (leb k m) → T (table_ok n m s (header n (k * s)))
unfolding table_ok
table_back n m s k h b =
    let e : k ≡ count_of n s (header n (k * s)) = sym (count_back n s k h) in
    subst (λ (z : ℕ). T (eqb (header n (z * s)) (header n (k * s)) && leb z m)) e (both_true (eqb (header n (k * s)) (header n (k * s))) (leb k m) (eqb_refl (header n (k * s))) b)

abbrev chosen : (f : ℕ → Code) (k : ℕ) → El (f k) → ℕ → List ℕ → Read ((k : ℕ) × El (f k))
chosen f k v l more = good (k, v) l more

-- ---- what is accepted was written
record Came {A B : Type 0} (r : Read A) (f : A → ℕ → List ℕ → Read B) (out : Read B) : Type 0 where
  value : A
  at : ℕ
  left : List ℕ
  first : r ≡ good value at left
  next : f value at left ≡ out

came : {A B : Type 0} (r : Read A) (f : A → ℕ → List ℕ → Read B) (v : B) (j : ℕ) (rest : List ℕ) → then r f ≡ good v j rest → Came r f (good v j rest)
unfolding then
came (bad i) f v j rest h = impossible (cc)
came (good u i ws) f v j rest h = record { value = u; at = i; left = ws; first = refl; next = h }

value_of : {A : Type 0} (d : A) (r : Read A) → A
value_of d (bad i) = d
value_of d (good v i ws) = v

rest_of : {A : Type 0} (r : Read A) → List ℕ
rest_of (bad i) = []
rest_of (good v i ws) = ws

good_value : {A : Type 0} (u v : A) (i j : ℕ) (ws rest : List ℕ) → good u i ws ≡ good v j rest → u ≡ v
unfolding value_of
good_value u v i j ws rest h = ap (value_of u) h

good_rest : {A : Type 0} (u v : A) (i j : ℕ) (ws rest : List ℕ) → good u i ws ≡ good v j rest → ws ≡ rest
unfolding rest_of
good_rest u v i j ws rest h = ap rest_of h

record Word (p : ℕ → Bool) (ws : List ℕ) (v : ℕ) (rest : List ℕ) : Type 0 where
  is : ws ≡ v ∷ rest
  ok : T (p v)

word_came : (p : ℕ → Bool) (i : ℕ) (ws : List ℕ) (v j : ℕ) (rest : List ℕ) → read_word p i ws ≡ good v j rest → Word p ws v rest
unfolding read_word
word_came p i [] v j rest h = impossible (cc)
word_came p i (w ∷ ws) v j rest h = go (p w) refl h
  where
    go : (b : Bool) → p w ≡ b → cond b (good w (suc i) ws) (bad i) ≡ good v j rest → Word p (w ∷ ws) v rest
    go false e h = impossible (cc)
    go true e h =
        let a : w ≡ v = good_value w v (suc i) j ws rest h in
        let b : ws ≡ rest = good_rest w v (suc i) j ws rest h in
        record { is = ap₂ (λ (x : ℕ) (y : List ℕ). x ∷ y) a b; ok = subst (λ (x : ℕ). T (p x)) a (subst T (sym e) tt) }

record Two (p : ℕ → Bool) (ws : List ℕ) (v : ℕ) (rest : List ℕ) : Type 0 where
  is : ws ≡ v / half ∷ v % half ∷ rest
  ok : T (p v)

two_came : (p : ℕ → Bool) (i : ℕ) (ws : List ℕ) → Words ws → (v j : ℕ) (rest : List ℕ) → read_two p i ws ≡ good v j rest → Two p ws v rest
unfolding read_two
two_came p i [] k v j rest h = impossible (cc)
two_came p i (a ∷ []) k v j rest h = impossible (cc)
two_came p i (a ∷ l ∷ ws) k v j rest h = go (p (a * half + l)) refl h
  where
    low : l < half
    low = ltb→lt l half k.1.0

    go : (b : Bool) → p (a * half + l) ≡ b → cond b (good (a * half + l) (suc (suc i)) ws) (bad i) ≡ good v j rest → Two p (a ∷ l ∷ ws) v rest
    go false e h = impossible (cc)
    go true e h =
        let m : a * half + l ≡ v = good_value (a * half + l) v (suc (suc i)) j ws rest h in
        let n : ws ≡ rest = good_rest (a * half + l) v (suc (suc i)) j ws rest h in
        let x : a ≡ v / half = omega (arith, m, low) in
        let y : l ≡ v % half = omega (arith, m, low) in
        record { is = (λ q. x q ∷ y q ∷ n q); ok = subst (λ (x : ℕ). T (p x)) m (subst T (sym e) tt) }

-- the words that are left
tail : (v : ℕ) (ws rest : List ℕ) → ws ≡ v ∷ rest → Words ws → Words rest
tail v ws rest e k = (subst Words e k).1

tail_two : (v u : ℕ) (ws rest : List ℕ) → ws ≡ v ∷ u ∷ rest → Words ws → Words rest
tail_two v u ws rest e k = (subst Words e k).1.1

-- ws is the words of v, and then the rest
record Is {A : Type 0} (f : A → List ℕ) (ws : List ℕ) (v : A) (rest : List ℕ) : Type 0 where
  is : ws ≡ f v ++ rest
  words : Words rest

abbrev Taken : {A : Type 0} → (A → List ℕ) → (ℕ → List ℕ → Read A) → Type 0
Taken {A} f r = (i : ℕ) (ws : List ℕ) → Words ws → (v : A) (j : ℕ) (rest : List ℕ) → r i ws ≡ good v j rest → Is f ws v rest

record Zeros (n : ℕ) (ws : List ℕ) (rest : List ℕ) : Type 0 where
  is : ws ≡ zeros n ++ rest
  words : Words rest

zeros_came : (n i : ℕ) (ws : List ℕ) → Words ws → (u : Unit) (j : ℕ) (rest : List ℕ) → read_zeros n i ws ≡ good u j rest → Zeros n ws rest
unfolding read_zeros zeros
zeros_came zero i ws k u j rest h = let e : ws ≡ rest = good_rest tt u i j ws rest h in record { is = e; words = subst Words e k }
zeros_came (suc n) i ws k u j rest h =
    let c = came (read_word (eqb 0) i ws) (λ w j rest. read_zeros n j rest) u j rest h in
    let w = word_came (eqb 0) i ws c.value c.at c.left c.first in
    let z = zeros_came n c.at c.left (tail c.value ws c.left w.is k) u j rest c.next in
    record { is = w.is ∙ ap₂ (λ (x : ℕ) (y : List ℕ). x ∷ y) (sym (eqb→eq 0 c.value w.ok)) z.is; words = z.words }

option_came : {A : Type 0} (n : ℕ) (f : A → List ℕ) (r : ℕ → List ℕ → Read A) → Taken f r → (w i : ℕ) (ws : List ℕ) → Words ws → T (ltb w 2) → (v : Option A) (j : ℕ) (rest : List ℕ)
    → read_option n r w i ws ≡ good v j rest → Is (option_words n f) (w ∷ ws) v rest
unfolding read_option option_words
option_came n f r t zero i ws k b v j rest h =
    let c = came (read_zeros n i ws) (λ u j rest. good None j rest) v j rest h in
    let z = zeros_came n i ws k c.value c.at c.left c.first in
    let e : None ≡ v = good_value None v c.at j c.left rest c.next in
    let l : c.left ≡ rest = good_rest None v c.at j c.left rest c.next in
    subst (λ (o : Option _). Is (option_words n f) (0 ∷ ws) o rest) e
    (record { is = ap (λ (y : List ℕ). 0 ∷ y) (z.is ∙ ap (λ (y : List ℕ). zeros n ++ y) l); words = subst Words l z.words })
option_came n f r t (suc m) i ws k b v j rest h =
    let c = came (r i ws) (λ u j rest. good (Some u) j rest) v j rest h in
    let z = t i ws k c.value c.at c.left c.first in
    let e : Some c.value ≡ v = good_value (Some c.value) v c.at j c.left rest c.next in
    let l : c.left ≡ rest = good_rest (Some c.value) v c.at j c.left rest c.next in
    let x : m ≡ 0 = (let y = ltb→lt (suc m) 2 b in omega (arith, y)) in
    subst (λ (o : Option _). Is (option_words n f) (suc m ∷ ws) o rest) e
    (record { is = ap₂ (λ (x : ℕ) (y : List ℕ). suc x ∷ y) x (z.is ∙ ap (λ (y : List ℕ). f c.value ++ y) l); words = subst Words l z.words })

record Many {A : Type 0} (k : ℕ) (f : A → List ℕ) (ws : List ℕ) (vs : List A) (rest : List ℕ) : Type 0 where
  is : ws ≡ all f vs ++ rest
  count : length vs ≡ k
  words : Words rest

times_came : {A : Type 0} (k : ℕ) (f : A → List ℕ) (r : ℕ → List ℕ → Read A) → Taken f r → (i : ℕ) (ws : List ℕ) → Words ws → (vs : List A) (j : ℕ) (rest : List ℕ)
    → read_times k r i ws ≡ good vs j rest → Many k f ws vs rest
unfolding read_times all
times_came zero f r t i ws q vs j rest h =
    let e : [] ≡ vs = good_value [] vs i j ws rest h in
    let l : ws ≡ rest = good_rest [] vs i j ws rest h in
    subst (λ (x : List _). Many 0 f ws x rest) e (record { is = l; count = refl; words = subst Words l q })
times_came (suc k) f r t i ws q vs j rest h =
    let c = came (r i ws) (λ v j rest. then (read_times k r j rest) (λ vs l more. good (v ∷ vs) l more)) vs j rest h in
    let z = t i ws q c.value c.at c.left c.first in
    let d = came (read_times k r c.at c.left) (λ vs l more. good (c.value ∷ vs) l more) vs j rest c.next in
    let m = times_came k f r t c.at c.left z.words d.value d.at d.left d.first in
    let e : c.value ∷ d.value ≡ vs = good_value (c.value ∷ d.value) vs d.at j d.left rest d.next in
    let l : d.left ≡ rest = good_rest (c.value ∷ d.value) vs d.at j d.left rest d.next in
    subst (λ (x : List _). Many (suc k) f ws x rest) e
    (record {
      is = z.is ∙ ap (λ (y : List ℕ). f c.value ++ y) (m.is ∙ ap (λ (y : List ℕ). all f d.value ++ y) l) ∙ sym (append_assoc (f c.value) (all f d.value) rest);
      count = ap suc m.count;
      words = subst Words l m.words;
    })

keyed_came : {A : Type 0} (k : ℕ) (p : List ℕ → ℕ → Bool) (f : A → List ℕ) (r : ℕ → List ℕ → Read A) → Taken f r → (seen : List ℕ) (i : ℕ) (ws : List ℕ) → Words ws
    → (vs : List (ℕ × A)) (j : ℕ) (rest : List ℕ) → read_keyed k p r seen i ws ≡ good vs j rest → Many k (entry_words f) ws vs rest
unfolding read_keyed all entry_words
keyed_came zero p f r t seen i ws q vs j rest h =
    let e : [] ≡ vs = good_value [] vs i j ws rest h in
    let l : ws ≡ rest = good_rest [] vs i j ws rest h in
    subst (λ (x : List _). Many 0 (entry_words f) ws x rest) e (record { is = l; count = refl; words = subst Words l q })
keyed_came {A} (suc k) p f r t seen i ws q vs j rest h =
    let b = came (read_two (p seen) i ws) (λ d j rest. then (r j rest) (λ v l more. then (read_keyed k p r (d ∷ seen) l more) (λ vs o left. good ((d, v) ∷ vs) o left))) vs j rest h in
    let d = b.value in
    let w = two_came (p seen) i ws q d b.at b.left b.first in
    let c = came (r b.at b.left) (λ v l more. then (read_keyed k p r (d ∷ seen) l more) (λ vs o left. good ((d, v) ∷ vs) o left)) vs j rest b.next in
    let z = t b.at b.left (tail_two _ _ ws b.left w.is q) c.value c.at c.left c.first in
    let g = came (read_keyed k p r (d ∷ seen) c.at c.left) (λ vs o left. good ((d, c.value) ∷ vs) o left) vs j rest c.next in
    let m = keyed_came k p f r t (d ∷ seen) c.at c.left z.words g.value g.at g.left g.first in
    let x : ℕ × A = (d, c.value) in
    let e : x ∷ g.value ≡ vs = good_value (x ∷ g.value) vs g.at j g.left rest g.next in
    let l : g.left ≡ rest = good_rest (x ∷ g.value) vs g.at j g.left rest g.next in
    subst (λ (y : List (ℕ × A)). Many (suc k) (entry_words f) ws y rest) e
    (record {
      is = w.is ∙ ap (λ (y : List ℕ). d / half ∷ d % half ∷ y) (z.is ∙ ap (λ (y : List ℕ). f c.value ++ y) (m.is ∙ ap (λ (y : List ℕ). all (entry_words f) g.value ++ y) l) ∙ sym (append_assoc (f c.value) (all (entry_words f) g.value) rest));
      count = ap suc m.count;
      words = subst Words l m.words;
    })

taken : (c : Code) → Taken (write c) (read c)
unfolding read write
taken (word p) i ws k v j rest h = let w = word_came p i ws v j rest h in record { is = w.is; words = tail v ws rest w.is k }
taken (single p) i ws k v j rest h =
    let c = came (read_word (single_ok p) i ws) (λ w j rest. good (of_bits binary32 w) j rest) v j rest h in
    let w = word_came (single_ok p) i ws c.value c.at c.left c.first in
    let e : of_bits binary32 c.value ≡ v = good_value (of_bits binary32 c.value) v c.at j c.left rest c.next in
    let l : c.left ≡ rest = good_rest (of_bits binary32 c.value) v c.at j c.left rest c.next in
    let b : c.value ≡ to_bits binary32 v = sym (same32 p c.value w.ok) ∙ ap (to_bits binary32) e in
    record { is = w.is ∙ ap₂ (λ (x : ℕ) (y : List ℕ). x ∷ y) b l; words = subst Words l (tail c.value ws c.left w.is k) }
taken (double p) i ws k v j rest h =
    let c = came (read_two (double_ok p) i ws) (λ b j rest. good (of_bits binary64 b) j rest) v j rest h in
    let w = two_came (double_ok p) i ws k c.value c.at c.left c.first in
    let e : of_bits binary64 c.value ≡ v = good_value (of_bits binary64 c.value) v c.at j c.left rest c.next in
    let l : c.left ≡ rest = good_rest (of_bits binary64 c.value) v c.at j c.left rest c.next in
    let b : c.value ≡ to_bits binary64 v = sym (same64 p c.value w.ok) ∙ ap (to_bits binary64) e in
    record { is = w.is ∙ ap₂ (λ (x : ℕ) (y : List ℕ). x / half ∷ x % half ∷ y) b l; words = subst Words l (tail_two _ _ ws c.left w.is k) }
taken (id p) i ws k v j rest h = let w = two_came p i ws k v j rest h in record { is = w.is; words = tail_two _ _ ws rest w.is k }
taken (both a b) i ws k v j rest h =
    let c = came (read a i ws) (λ v j rest. then (read b j rest) (λ u l more. good (v, u) l more)) v j rest h in
    let x = taken a i ws k c.value c.at c.left c.first in
    let d = came (read b c.at c.left) (λ u l more. good (c.value, u) l more) v j rest c.next in
    let y = taken b c.at c.left x.words d.value d.at d.left d.first in
    let e : ◌≡◌ {A = El a × El b} (c.value, d.value) v = good_value {A = El a × El b} (c.value, d.value) v d.at j d.left rest d.next in
    let l : d.left ≡ rest = good_rest {A = El a × El b} (c.value, d.value) v d.at j d.left rest d.next in
    subst (λ (z : El a × El b). Is (write (both a b)) ws z rest) e
    (record {
      is = x.is ∙ ap (λ (z : List ℕ). write a c.value ++ z) (y.is ∙ ap (λ (z : List ℕ). write b d.value ++ z) l) ∙ sym (append_assoc (write a c.value) (write b d.value) rest);
      words = subst Words l y.words;
    })
taken (array n a) i ws k v j rest h = let x = times_came n (write a) (read a) (taken a) i ws k v j rest h in record { is = x.is; words = x.words }
taken (maybe a) i ws k v j rest h =
    let c = came (read_word (λ w. ltb w 2) i ws) (λ w j rest. read_option (size a) (read a) w j rest) v j rest h in
    let w = word_came (λ w. ltb w 2) i ws c.value c.at c.left c.first in
    let o = option_came (size a) (write a) (read a) (taken a) c.value c.at c.left (tail c.value ws c.left w.is k) w.ok v j rest c.next in
    record { is = w.is ∙ o.is; words = o.words }
taken (group n a) i ws k v j rest h =
    let t = eqb (header n (size a)) in
    let c = came (read_word t i ws) (λ w j rest. read a j rest) v j rest h in
    let w = word_came t i ws c.value c.at c.left c.first in
    let x = taken a c.at c.left (tail c.value ws c.left w.is k) v j rest c.next in
    record { is = w.is ∙ ap₂ (λ (x : ℕ) (y : List ℕ). x ∷ y) (sym (eqb→eq (header n (size a)) c.value w.ok)) x.is; words = x.words }
taken (table n m a) i ws k v j rest h =
    let t = table_ok n m (size a) in
    let c = came (read_word t i ws) (λ w j rest. read_times (count_of n (size a) w) (read a) j rest) v j rest h in
    let w = word_came t i ws c.value c.at c.left c.first in
    let x = times_came (count_of n (size a) c.value) (write a) (read a) (taken a) c.at c.left (tail c.value ws c.left w.is k) v j rest c.next in
    let b : c.value ≡ header n (length v * size a) = sym (table_header n m (size a) c.value w.ok) ∙ ap (λ (z : ℕ). header n (z * size a)) (sym x.count) in
    record { is = w.is ∙ ap₂ (λ (x : ℕ) (y : List ℕ). x ∷ y) b x.is; words = x.words }
taken (blank n) i ws k v j rest h = let z = zeros_came n i ws k v j rest h in record { is = z.is; words = z.words }
taken (choice n f) i ws k v j rest h =
    let t : ℕ → Bool = λ w. ltb w n in
    let c = came (read_word t i ws) (λ k j rest. then (read (f k) j rest) (λ v l more. chosen f k v l more)) v j rest h in
    let w = word_came t i ws c.value c.at c.left c.first in
    let d = came (read (f c.value) c.at c.left) (λ v l more. chosen f c.value v l more) v j rest c.next in
    let y = taken (f c.value) c.at c.left (tail c.value ws c.left w.is k) d.value d.at d.left d.first in
    let x : (k : ℕ) × El (f k) = (c.value, d.value) in
    let e : x ≡ v = good_value x v d.at j d.left rest d.next in
    let l : d.left ≡ rest = good_rest x v d.at j d.left rest d.next in
    subst (λ (z : (k : ℕ) × El (f k)). Is (write (choice n f)) ws z rest) e
    (record { is = w.is ∙ ap (λ (z : List ℕ). c.value ∷ z) (y.is ∙ ap (λ (z : List ℕ). write (f c.value) d.value ++ z) l); words = subst Words l y.words })
taken (keyed m p a) i ws k v j rest h =
    let t : ℕ → Bool = λ w. leb w m in
    let s = 2 + size a in
    let c = came (read_word t i ws) (λ k j rest. then (read_keyed k p (read a) [] j rest) (λ vs l more. then (read_zeros ((m - k) * s) l more) (λ u o left. good vs o left))) v j rest h in
    let n = c.value in
    let w = word_came t i ws n c.at c.left c.first in
    let d = came (read_keyed n p (read a) [] c.at c.left) (λ vs l more. then (read_zeros ((m - n) * s) l more) (λ u o left. good vs o left)) v j rest c.next in
    let x = keyed_came n p (write a) (read a) (taken a) [] c.at c.left (tail n ws c.left w.is k) d.value d.at d.left d.first in
    let g = came (read_zeros ((m - n) * s) d.at d.left) (λ u o left. good d.value o left) v j rest d.next in
    let z = zeros_came ((m - n) * s) d.at d.left x.words g.value g.at g.left g.first in
    let e : d.value ≡ v = good_value d.value v g.at j g.left rest g.next in
    let l : g.left ≡ rest = good_rest d.value v g.at j g.left rest g.next in
    subst (λ (y : List (ℕ × El a)). Is (write (keyed m p a)) ws y rest) e
    (record {
      is = w.is ∙ ap (λ (y : List ℕ). n ∷ y) (x.is ∙ ap (λ (y : List ℕ). all (entry_words (write a)) d.value ++ y) (z.is ∙ ap (λ (y : List ℕ). zeros ((m - n) * s) ++ y) l))
          ∙ ap (λ (q : ℕ). q ∷ (all (entry_words (write a)) d.value ++ (zeros ((m - q) * s) ++ rest))) (sym x.count)
          ∙ ap (λ (y : List ℕ). length d.value ∷ y) (sym (append_assoc (all (entry_words (write a)) d.value) (zeros ((m - length d.value) * s)) rest));
      words = subst Words l z.words;
    })
taken (ranked n m p a) i ws k v j rest h =
    let s = 2 + size a in
    let t = table_ok n m s in
    let c = came (read_word t i ws) (λ w j rest. read_keyed (count_of n s w) p (read a) [] j rest) v j rest h in
    let w = word_came t i ws c.value c.at c.left c.first in
    let x = keyed_came (count_of n s c.value) p (write a) (read a) (taken a) [] c.at c.left (tail c.value ws c.left w.is k) v j rest c.next in
    let b : c.value ≡ header n (length v * s) = sym (table_header n m s c.value w.ok) ∙ ap (λ (z : ℕ). header n (z * s)) (sym x.count) in
    record { is = w.is ∙ ap₂ (λ (x : ℕ) (y : List ℕ). x ∷ y) b x.is; words = x.words }

pub is_written : IsWritten
is_written c i ws k v j rest h = (taken c i ws k v j rest h).is

-- ---- what is written is read back
zeros_back : (n i : ℕ) (rest : List ℕ) → read_zeros n i (zeros n ++ rest) ≡ good tt (i + length (zeros n)) rest
unfolding read_zeros zeros read_word then
zeros_back zero i rest = ap (λ (z : ℕ). good tt z rest) (omega arith)
zeros_back (suc n) i rest = zeros_back n (suc i) rest ∙ ap (λ (z : ℕ). good tt z rest) (omega arith)

length-append : (xs ys : List ℕ) → length (xs ++ ys) ≡ length xs + length ys
length-append [] ys = omega arith
length-append (x ∷ xs) ys = let e = length-append xs ys in omega (arith, e)

word_back : (p : ℕ → Bool) (w i : ℕ) (rest : List ℕ) → T (p w) → read_word p i (w ∷ rest) ≡ good w (suc i) rest
unfolding read_word
word_back p w i rest h = ap (λ (b : Bool). cond b (good w (suc i) rest) (bad i)) (is_true (p w) h)

two_back : (p : ℕ → Bool) (v i : ℕ) (rest : List ℕ) → T (p v) → read_two p i (v / half ∷ v % half ∷ rest) ≡ good v (suc (suc i)) rest
unfolding read_two
two_back p v i rest h =
    let e : v / half * half + v % half ≡ v = omega arith in
    ap (λ (z : ℕ). cond (p z) (good z (suc (suc i)) rest) (bad i)) e ∙ ap (λ (b : Bool). cond b (good v (suc (suc i)) rest) (bad i)) (is_true (p v) h)

abbrev paired : {A B : Type 0} → A → B → ℕ → List ℕ → Read (A × B)
paired v u l more = good (v, u) l more

abbrev absent : {A : Type 0} → ℕ → List ℕ → Read (Option A)
absent l more = good None l more

abbrev present : {A : Type 0} → A → ℕ → List ℕ → Read (Option A)
present v l more = good (Some v) l more

abbrev Back : {A : Type 0} → (A → Type 0) → (A → List ℕ) → (ℕ → List ℕ → Read A) → Type 0
Back {A} P f r = (v : A) → P v → (i : ℕ) (rest : List ℕ) → r i (f v ++ rest) ≡ good v (i + length (f v)) rest

times_back : {A : Type 0} (P : A → Type 0) (f : A → List ℕ) (r : ℕ → List ℕ → Read A) → Back P f r → (vs : List A) → Each P vs → (i : ℕ) (rest : List ℕ)
    → read_times (length vs) r i (all f vs ++ rest) ≡ good vs (i + length (all f vs)) rest
unfolding read_times all then
times_back P f r b [] h i rest = ap (λ (z : ℕ). good [] z rest) (omega arith)
times_back P f r b (v ∷ vs) h i rest =
    ap (λ (z : List ℕ). then (r i z) (λ v j rest. then (read_times (length vs) r j rest) (λ vs l more. good (v ∷ vs) l more))) (append_assoc (f v) (all f vs) rest)
    ∙ ap (λ (z : Read _). then z (λ v j rest. then (read_times (length vs) r j rest) (λ vs l more. good (v ∷ vs) l more))) (b v h.0 i (all f vs ++ rest))
    ∙ ap (λ (z : Read (List _)). then z (λ vs l more. good (v ∷ vs) l more)) (times_back P f r b vs h.1 (i + length (f v)) rest)
    ∙ ap (λ (z : ℕ). good (v ∷ vs) z rest) (let e = length-append (f v) (all f vs) in omega (arith, e))

abbrev listed : {A : Type 0} → List A → ℕ → List ℕ → Read (List A)
listed vs l more = good vs l more

keyed_back : {A : Type 0} (p : List ℕ → ℕ → Bool) (P : A → Type 0) (f : A → List ℕ) (r : ℕ → List ℕ → Read A) → Back P f r → (vs : List (ℕ × A)) (seen : List ℕ) → Keyed p P seen vs → (i : ℕ) (rest : List ℕ)
    → read_keyed (length vs) p r seen i (all (entry_words f) vs ++ rest) ≡ good vs (i + length (all (entry_words f) vs)) rest
unfolding read_keyed all then entry_words
keyed_back p P f r b [] seen h i rest = ap (λ (z : ℕ). good [] z rest) (omega arith)
keyed_back {A} p P f r b (v ∷ vs) seen h i rest =
    let d = v.0 in
    let ws = all (entry_words f) vs in
    let e = length-append (f v.1) ws in
    ap (λ (y : Read ℕ). then y (λ d j rest. then (r j rest) (λ v l more. then (read_keyed (length vs) p r (d ∷ seen) l more) (λ us o left. listed ((d, v) ∷ us) o left)))) (two_back (p seen) d i (f v.1 ++ ws ++ rest) h.0)
    ∙ ap (λ (y : List ℕ). then (r (suc (suc i)) y) (λ v l more. then (read_keyed (length vs) p r (d ∷ seen) l more) (λ us o left. listed ((d, v) ∷ us) o left))) (append_assoc (f v.1) ws rest)
    ∙ ap (λ (y : Read A). then y (λ v l more. then (read_keyed (length vs) p r (d ∷ seen) l more) (λ us o left. listed ((d, v) ∷ us) o left))) (b v.1 h.1 (suc (suc i)) (ws ++ rest))
    ∙ ap (λ (y : Read (List (ℕ × A))). then y (λ us o left. listed (v ∷ us) o left)) (keyed_back p P f r b vs (d ∷ seen) h.2 (suc (suc i) + length (f v.1)) rest)
    ∙ ap (λ (y : ℕ). listed (v ∷ vs) y rest) (omega (arith, e))

back : (c : Code) → Back (In c) (write c) (read c)
unfolding read write then option_words read_option read_word
back (word p) v h i rest = word_back p v i rest h ∙ ap (λ (z : ℕ). good v z rest) (omega arith)
back (single p) v h i rest =
    let b = to_bits binary32 v in
    let e : of_bits binary32 b ≡ v = of_bits-to_bits binary32 v h.0 in
    ap (λ (z : Read ℕ). then z (λ w j rest. good (of_bits binary32 w) j rest)) (word_back (single_ok p) b i rest (single_back p v h))
    ∙ ap₂ (λ (x : Float) (z : ℕ). good x z rest) e (omega arith)
back (double p) v h i rest =
    let b = to_bits binary64 v in
    let e : of_bits binary64 b ≡ v = of_bits-to_bits binary64 v h.0 in
    ap (λ (z : Read ℕ). then z (λ w j rest. good (of_bits binary64 w) j rest)) (two_back (double_ok p) b i rest (double_back p v h))
    ∙ ap₂ (λ (x : Float) (z : ℕ). good x z rest) e (omega arith)
back (id p) v h i rest = two_back p v i rest h ∙ ap (λ (z : ℕ). good v z rest) (omega arith)
back (both a b) v h i rest =
    ap (λ (z : List ℕ). then (read a i z) (λ v j rest. then (read b j rest) (λ u l more. paired v u l more))) (append_assoc (write a v.0) (write b v.1) rest)
    ∙ ap (λ (z : Read (El a)). then z (λ v j rest. then (read b j rest) (λ u l more. paired v u l more))) (back a v.0 h.0 i (write b v.1 ++ rest))
    ∙ ap (λ (z : Read (El b)). then z (λ u l more. paired v.0 u l more)) (back b v.1 h.1 (i + length (write a v.0)) rest)
    ∙ ap (λ (z : ℕ). paired v.0 v.1 z rest) (let e = length-append (write a v.0) (write b v.1) in omega (arith, e))
back (array n a) vs h i rest =
    ap (λ (z : ℕ). read_times z (read a) i (all (write a) vs ++ rest)) (sym h.0) ∙ times_back (In a) (write a) (read a) (back a) vs h.1 i rest
back (maybe a) v h i rest = go v h (back a)
  where
    go : (v : Option (El a)) → In (maybe a) v → Back (In a) (write a) (read a) → read (maybe a) i (option_words (size a) (write a) v ++ rest) ≡ good v (i + length (option_words (size a) (write a) v)) rest
    go None h b =
        ap (λ (z : Read Unit). then z (λ u j rest. absent {A = El a} j rest)) (zeros_back (size a) (suc i) rest)
        ∙ ap (λ (z : ℕ). absent {A = El a} z rest) (omega arith)
    go (Some v) h b =
        ap (λ (z : Read (El a)). then z (λ u j rest. present u j rest)) (b v h (suc i) rest)
        ∙ ap (λ (z : ℕ). present v z rest) (omega arith)
back (group n a) v h i rest =
    ap (λ (z : Read ℕ). then z (λ w j rest. read a j rest)) (word_back (eqb (header n (size a))) (header n (size a)) i (write a v ++ rest) (eqb_refl (header n (size a))))
    ∙ back a v h (suc i) rest ∙ ap (λ (z : ℕ). good v z rest) (omega arith)
back (table n m a) vs h i rest =
    let s = size a in
    let w = header n (length vs * s) in
    let e : count_of n s w ≡ length vs = count_back n s (length vs) h.0 in
    ap (λ (z : Read ℕ). then z (λ w j rest. read_times (count_of n s w) (read a) j rest)) (word_back (table_ok n m s) w i (all (write a) vs ++ rest) (table_back n m s (length vs) h.0 h.1))
    ∙ ap (λ (z : ℕ). read_times z (read a) (suc i) (all (write a) vs ++ rest)) e
    ∙ times_back (In a) (write a) (read a) (back a) vs h.2 (suc i) rest ∙ ap (λ (z : ℕ). good vs z rest) (omega arith)
back (blank n) v h i rest = zeros_back n i rest
back (choice n f) v h i rest =
    ap (λ (z : Read ℕ). then z (λ k j rest. then (read (f k) j rest) (λ u l more. chosen f k u l more))) (word_back (λ w. ltb w n) v.0 i (write (f v.0) v.1 ++ rest) h.0)
    ∙ ap (λ (z : Read (El (f v.0))). then z (λ u l more. chosen f v.0 u l more)) (back (f v.0) v.1 h.1 (suc i) rest)
    ∙ ap (λ (z : ℕ). chosen f v.0 v.1 z rest) (omega arith)
back (keyed m p a) vs h i rest =
    let s = 2 + size a in
    let z = zeros ((m - length vs) * s) in
    let ws = all (entry_words (write a)) vs in
    let e = length-append ws z in
    ap (λ (y : Read ℕ). then y (λ k j rest. then (read_keyed k p (read a) [] j rest) (λ us l more. then (read_zeros ((m - k) * s) l more) (λ u o left. listed us o left)))) (word_back (λ w. leb w m) (length vs) i (ws ++ z ++ rest) h.0)
    ∙ ap (λ (y : List ℕ). then (read_keyed (length vs) p (read a) [] (suc i) y) (λ us l more. then (read_zeros ((m - length vs) * s) l more) (λ u o left. listed us o left))) (append_assoc ws z rest)
    ∙ ap (λ (y : Read (List (ℕ × El a))). then y (λ us l more. then (read_zeros ((m - length vs) * s) l more) (λ u o left. listed us o left))) (keyed_back p (In a) (write a) (read a) (back a) vs [] h.1 (suc i) (z ++ rest))
    ∙ ap (λ (y : Read Unit). then y (λ u o left. listed vs o left)) (zeros_back ((m - length vs) * s) (suc i + length ws) rest)
    ∙ ap (λ (y : ℕ). listed vs y rest) (omega (arith, e))
back (ranked n m p a) vs h i rest =
    let s = 2 + size a in
    let w = header n (length vs * s) in
    let some_words : T (ltb 0 s) = lt→ltb 0 s (omega arith) in
    let e : count_of n s w ≡ length vs = count_back n s (length vs) some_words in
    ap (λ (z : Read ℕ). then z (λ w j rest. read_keyed (count_of n s w) p (read a) [] j rest)) (word_back (table_ok n m s) w i (all (entry_words (write a)) vs ++ rest) (table_back n m s (length vs) some_words h.0))
    ∙ ap (λ (z : ℕ). read_keyed z p (read a) [] (suc i) (all (entry_words (write a)) vs ++ rest)) e
    ∙ keyed_back p (In a) (write a) (read a) (back a) vs [] h.1 (suc i) rest ∙ ap (λ (z : ℕ). listed vs z rest) (omega arith)

pub reads_back : ReadsBack
reads_back c v h i rest = back c v h i rest
