-- What a loop along a list computes. Assumes nothing.
use mathlib.Core.Path.{◌≡◌, refl, sym, ap, ◌∙◌}
use mathlib.Core.Bool.{Bool, true, false, ◌||◌, cond}
use mathlib.Core.List.{List, [], ◌∷◌, ◌++◌, map, map-append, append_assoc, append-nil}
use Prim.Native.Nat.{ℕ, ◌+◌, ◌≤◌, ◌<◌}
use native.Mathlib.Omega.{arith}
use lib.ListN.{get_or, length, take, drop, length-map}
use Rattle.std.proofs.lemmas.List.{take_more, take_all, take-append-drop}
use Rattle.feed.specs.Types.{Event}
use Rattle.event_loop.specs.Shaped.{shaped_at}
use Rattle.event_loop.specs.Lists.{listed_events, reads, own}
use Rattle.event_loop.specs.Loop.{Loop, Any, OwnLaw, OwnAnyLaw}

-- ---- the events at some places
pub none : (ws : List ℕ) → listed_events ws [] ≡ []
unfolding listed_events
none ws = refl

module _ (ws ps : List ℕ) where
  pub one_more : (n : ℕ) → n < length ps → listed_events ws (take (n + 1) ps) ≡ listed_events ws (take n ps) ++ (shaped_at ws (get_or ps n 0) ∷ [])
  unfolding listed_events
  one_more n h = rw (take_more ps n 0 h) (map-append (shaped_at ws) (take n ps) (get_or ps n 0 ∷ []))

  parted : (n : ℕ) → listed_events ws ps ≡ listed_events ws (take n ps) ++ listed_events ws (drop n ps)
  unfolding listed_events
  parted n = ap (map (shaped_at ws)) (sym (take-append-drop n ps)) ∙ map-append (shaped_at ws) (take n ps) (drop n ps)

  pub count : length (listed_events ws ps) ≡ length ps
  unfolding listed_events
  count = length-map ps (shaped_at ws)

-- a loop's end, along places that are a reader's
pub ended : (ws : List ℕ) {ps qs : List ℕ} (n : ℕ) → ps ≡ qs → length ps ≤ n → listed_events ws (take n ps) ≡ listed_events ws qs
ended ws {ps} {qs} n e h = rw (take_all n ps h, e)

-- ---- a component's state
module _ {S : Type 0} (run : List Event → S → S) (step : Event → S → S) (run_none : (s : S) → run [] s ≡ s)
    (run_more : (e : Event) (es : List Event) (s : S) → run (e ∷ es) s ≡ run es (step e s)) where
  run_last : (es : List Event) (e : Event) (s : S) → run (es ++ (e ∷ [])) s ≡ step e (run es s)
  run_last [] e s = run_more e [] s ∙ run_none (step e s) ∙ ap (step e) (sym (run_none s))
  run_last (d ∷ es) e s = run_more d (es ++ (e ∷ [])) s ∙ run_last es e (step d s) ∙ ap (step e) (sym (run_more d es s))

  pub loop : Loop run step
  loop =
      record {
        begins = λ ws s. ap (λ (es : List Event). run es s) (none ws) ∙ run_none s;
        goes_on = λ ws ps n s h. ap (λ (es : List Event). run es s) (one_more ws ps n h) ∙ run_last (listed_events ws (take n ps)) _ s;
      }

  pub own_law : (l : ℕ) → OwnLaw l run step
  unfolding own
  own_law l idle [] s = refl
  own_law l idle (e ∷ es) s = go (λ t. own_law l idle es t) (reads l e) refl ∙ sym (run_more e es s)
    where
      go : ((t : S) → run (own l es) t ≡ run es t) → (b : Bool) → reads l e ≡ b → run (cond b (e ∷ own l es) (own l es)) s ≡ run es (step e s)
      go rest true t = run_more e (own l es) s ∙ rest (step e s)
      go rest false t = rest s ∙ ap (run es) (sym (idle e s t))

-- ---- a question
module _ (any : List Event → Bool) (any_none : any [] ≡ false) (any-first : (e : Event) (es : List Event) → any (e ∷ es) ≡ (any (e ∷ []) || any es)) where
  or_assoc : (a b c : Bool) → (a || (b || c)) ≡ ((a || b) || c)
  or_assoc true b c = refl
  or_assoc false b c = refl

  any_last : (es : List Event) (e : Event) → any (es ++ (e ∷ [])) ≡ (any es || any (e ∷ []))
  any_last [] e = rw any_none
  any_last (d ∷ es) e = any-first d (es ++ (e ∷ [])) ∙ rw (any_last es e, any-first d es) (or_assoc (any (d ∷ [])) (any es) (any (e ∷ [])))

  any_more : (es ds : List Event) → any es ≡ true → any (es ++ ds) ≡ true
  any_more es [] h = rw (append-nil es) h
  any_more es (d ∷ ds) h = rw (← append_assoc es (d ∷ []) ds) (any_more (es ++ (d ∷ [])) ds (any_last es d ∙ rw h))

  pub any_loop : Any any
  any_loop =
      record {
        begins = λ ws. ap any (none ws) ∙ any_none;
        goes_on = λ ws ps n h. ap any (one_more ws ps n h) ∙ any_last (listed_events ws (take n ps)) _;
        stays = λ ws ps n h. rw (parted ws ps n) (any_more (listed_events ws (take n ps)) (listed_events ws (drop n ps)) h);
      }

  pub own_any_law : (l : ℕ) → OwnAnyLaw l any
  unfolding own
  own_any_law l idle [] = refl
  own_any_law l idle (e ∷ es) = go (own_any_law l idle es) (reads l e) refl
    where
      go : any (own l es) ≡ any es → (b : Bool) → reads l e ≡ b → any (cond b (e ∷ own l es) (own l es)) ≡ any (e ∷ es)
      go rest true t = any-first e (own l es) ∙ rw rest (sym (any-first e es))
      go rest false t = rest ∙ sym (any-first e es ∙ rw (idle e t))

-- ---- the events of a list
pub own_fewer : (l : ℕ) (es : List Event) → length (own l es) ≤ length es
unfolding own
own_fewer l [] = omega arith
own_fewer l (e ∷ es) = go (own_fewer l es) (reads l e)
  where
    go : length (own l es) ≤ length es → (b : Bool) → length (cond b (e ∷ own l es) (own l es)) ≤ length (e ∷ es)
    go h true = omega arith
    go h false = omega arith
