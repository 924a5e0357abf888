-- The survey from place to place. Assumes nothing.
use Rattle.std.specs.Prelude.{Option, None, Some, Result, ⊤, Ok, Err}
use mathlib.Core.Path.{◌≡◌, refl, sym, ap, ◌∙◌}
use mathlib.Core.Bool.{Bool, true, false, cond}
use mathlib.Core.List.{List, [], ◌∷◌, ◌++◌, map, map-append, append_assoc, append-nil}
use Prim.Native.Nat.{ℕ, suc, ◌+◌, ◌*◌, ◌≤◌, ◌<◌}
use native.Mathlib.Omega.{arith}
use lib.Dec.{eqb}
use lib.ListN.{get_or, length, take, drop, length-append}
use lib.Seq.{drop-cons}
use native.Mathlib.Numerals.{add-one}
use Rattle.std.proofs.lemmas.List.{drop_all}
use borrow.Author.Tests.{eqb-true, eqb-false}
use Rattle.data.specs.Kinds.{touch_kind}
use Rattle.data.specs.Limits.{max_events, event_ok}
use Rattle.data.specs.Numbers.{kind_number}
use Rattle.data.specs.declared.event.Event.{Event}
use Rattle.feed.specs.declared.found.FeedError.TheVariants as fault
use Rattle.feed.specs.Split.{kind, piece_length}
use Rattle.feed.specs.Shape.{shape}
use Rattle.feed.specs.Decode.{Decoded, good, malformed, outside_domain, items, items_after, decode, check_floats, piece_at, found_at, event_at}
use Rattle.feed.specs.Feed.{then_refusal, first_refusal, feed_refusal}
use Rattle.feed.proofs.Steps.{steps}
use Rattle.feed.proofs.Lengths.{following_le}
use Rattle.feed.proofs.Reading.{items_first, items_none, items_next, shape_taken}
use Rattle.model.specs.Types.{PassRefusal, Malformed, OutsideDomain, TooManyEvents, NoPlace}
use Rattle.model.specs.Types.{Event, Key, ModifiersChanged, PointerMoved, MouseMoved, Button, PointerGone, Zoom, Rotate, Touch, MouseWheel, WindowFocused, Other}
use Rattle.model.specs.Touch.{TouchState}
use Rattle.model.specs.Pass.{or_else, crowded, item_refusal}
use Rattle.event_loop.specs.Shaped.{event_or_other, shaped, shaped_events, shaped_after, shaped_at}
use Rattle.event_loop.specs.Count.{list_count}
use Rattle.event_loop.specs.declared.lists.Lists.{Lists}
use Rattle.event_loop.specs.Lists.{touch_list, list_of, listed, listed_events, reads, own}
use Rattle.event_loop.specs.Loop.{Loop}
use Rattle.event_loop.proofs.Walk.{first, past, after_piece}
use Rattle.event_loop.proofs.Loops.{ended, loop, own_law}
use Rattle.event_loop.proofs.OfKind.{not_of_kind, kind_of, not_read}
use Rattle.survey.specs.Survey.{option, fits_event, fits_events, fits_item, fits_survey, crowd_then, Read}
use Rattle.data.specs.declared.refusal.PassRefusal.{PassRefusal}

no : {P : Type 0} → ◌≡◌ {A = ℕ} 0 1 → P
no z = absurd (omega arith)

-- ---- an event that is decoded is the one that is shaped
checked : (m : Option Event) (e : Event) → check_floats m ≡ good e → m ≡ Some e
unfolding check_floats
checked None e h = no (cc)
checked (Some f) e h = go (event_ok f) h
  where
    go : (b : Bool) → cond b (good f) outside_domain ≡ good e → Some f ≡ Some e
    go true h = cc
    go false h = no (cc)

pub agrees : (ws : List ℕ) (e : Event) → decode ws ≡ good e → shaped ws ≡ e
unfolding decode shaped event_or_other
agrees ws e h = rw (checked (shape ws) e h)

-- ---- what reading an event tells
found_event : (d : Decoded) (n next : ℕ) (e : Event) → found_at d n ≡ Ok (e, next) → (d ≡ good e) × (n ≡ next)
unfolding found_at
found_event (good f) n next e h = let p : (f, n) ≡ (e, next) = cc in (ap (λ (x : Event × ℕ). good x.0) p, ap (λ (x : Event × ℕ). x.1) p)
found_event malformed n next e h = no (cc)
found_event outside_domain n next e h = no (cc)

-- ---- events that are no touch events
pub not_crowded : (e : Event) (vs : List TouchState) → (kind_number e ≡ touch_kind → ⊥) → crowded e vs ≡ false
unfolding crowded
not_crowded (Key k b) vs h = refl
not_crowded (ModifiersChanged m) vs h = refl
not_crowded (PointerMoved v) vs h = refl
not_crowded (MouseMoved v) vs h = refl
not_crowded (Button v b d m) vs h = refl
not_crowded PointerGone vs h = refl
not_crowded (Zoom x) vs h = refl
not_crowded (Rotate x) vs h = refl
not_crowded (Touch d i ph v f) vs h = absurd (h refl)
not_crowded (MouseWheel u v ph s m) vs h = refl
not_crowded (WindowFocused b) vs h = refl
not_crowded Other vs h = refl

pub fits_idle : (e : Event) (vs : List TouchState) → (kind_number e ≡ touch_kind → ⊥) → fits_event e vs ≡ vs
unfolding fits_event
fits_idle (Key k b) vs h = refl
fits_idle (ModifiersChanged m) vs h = refl
fits_idle (PointerMoved v) vs h = refl
fits_idle (MouseMoved v) vs h = refl
fits_idle (Button v b d m) vs h = refl
fits_idle PointerGone vs h = refl
fits_idle (Zoom x) vs h = refl
fits_idle (Rotate x) vs h = refl
fits_idle (Touch d i ph v f) vs h = absurd (h refl)
fits_idle (MouseWheel u v ph s m) vs h = refl
fits_idle (WindowFocused b) vs h = refl
fits_idle Other vs h = refl

pub none_some : {P : Type 0} {r : PassRefusal} → None ≡ Some r → P
none_some e = no (cc)

-- ---- an event that is read at a place
module _ (ws : List ℕ) (at next : ℕ) (e : Event) (here : at < length ws) (found : event_at ws at ≡ Ok (e, next)) where
  decoded : (decode (piece_at ws at) ≡ good e) × (at + piece_length (get_or ws at 0) ≡ next)
  unfolding event_at
  decoded = found_event (decode (piece_at ws at)) (at + piece_length (get_or ws at 0)) next e found

  pub shaped_is : shaped_at ws at ≡ e
  unfolding shaped_at
  shaped_is = agrees (piece_at ws at) e decoded.0

  pub kind_is : kind_number e ≡ kind (get_or ws at 0)
  unfolding decode piece_at
  kind_is =
      let s : shape (piece_at ws at) ≡ Some e = checked (shape (piece_at ws at)) e decoded.0 in
      kind_of (get_or ws at 0) (drop (suc at) ws) e (sym (shape_taken (get_or ws at 0) (drop (suc at) ws)) ∙ rw (drop-cons ws at 0 here) at s)

  pub after_is : shaped_after ws at ≡ e ∷ shaped_after ws next
  after_is = after_piece ws at here ∙ rw (shaped_is, decoded.1)

  pub next_near : next ≤ at + 8
  unfolding piece_length
  next_near = let d = decoded.1 in omega (arith, following_le (get_or ws at 0))

-- ---- the touch events at some places, and what comes after them
module _ (ws : List ℕ) where
  pub crowd_same : (ps : List ℕ) (f g : List TouchState → Option PassRefusal) → ((us : List TouchState) → f us ≡ g us) → (vs : List TouchState) → crowd_then ws ps f vs ≡ crowd_then ws ps g vs
  unfolding crowd_then
  crowd_same [] f g h vs = h vs
  crowd_same (p ∷ ps) f g h vs = ap (cond (crowded (shaped_at ws p) vs) (Some (NoPlace p))) (crowd_same ps f g h (fits_event (shaped_at ws p) vs))

  crowd_last : (ps : List ℕ) (p : ℕ) (f : List TouchState → Option PassRefusal) (vs : List TouchState) →
      crowd_then ws (ps ++ (p ∷ [])) f vs ≡ crowd_then ws ps (crowd_then ws (p ∷ []) f) vs
  unfolding crowd_then
  crowd_last [] p f vs = refl
  crowd_last (q ∷ ps) p f vs = ap (cond (crowded (shaped_at ws q) vs) (Some (NoPlace q))) (crowd_last ps p f (fits_event (shaped_at ws q) vs))

  -- if nothing is refused, then not what comes after them
  pub crowd_none : (ps : List ℕ) (q : Option PassRefusal) (vs : List TouchState) → crowd_then ws ps (λ us. q) vs ≡ None → q ≡ None
  unfolding crowd_then
  crowd_none [] q vs h = h
  crowd_none (p ∷ ps) q vs h = go (λ us k. crowd_none ps q us k) (crowded (shaped_at ws p) vs) h
    where
      go : ((us : List TouchState) → crowd_then ws ps (λ ts. q) us ≡ None → q ≡ None) → (b : Bool) →
          cond b (Some (NoPlace p)) (crowd_then ws ps (λ ts. q) (fits_event (shaped_at ws p) vs)) ≡ None → q ≡ None
      go rest true h = none_some (sym h)
      go rest false h = rest (fits_event (shaped_at ws p) vs) h

or_cond : (b : Bool) (r : PassRefusal) (later : Option PassRefusal) → or_else (cond b (Some r) None) later ≡ cond b (Some r) later
unfolding or_else
or_cond true r later = refl
or_cond false r later = refl

-- ---- reading: after n events, `left` may still come
pub record Reads (ws : List ℕ) (left n at : ℕ) (s : Lists) : Type 0 where
  pub all : n + left ≡ max_events
  pub near : at ≤ 8 * n
  pub within : at ≤ length ws
  pub counted : (l : ℕ) → length (listed s l) ≤ n
  pub refusal : first_refusal left (items_after ws at) ≡ feed_refusal ws
  pub own_events : (l : ℕ) → l < list_count → own l (shaped_events ws) ≡ listed_events ws (listed s l) ++ own l (shaped_after ws at)
  pub crowd : (vs : List TouchState) →
      fits_survey max_events (items ws) vs ≡ crowd_then ws (listed s touch_list) (fits_survey left (items_after ws at)) vs

pub reads_first : (ws : List ℕ) (s : Lists) → ((l : ℕ) → listed s l ≡ []) → Reads ws max_events 0 0 s
unfolding feed_refusal crowd_then listed_events
reads_first ws s empty =
    record {
      all = refl;
      near = omega arith;
      within = omega arith;
      counted = λ l. rw (empty l) (omega arith);
      refusal = rw (items_first ws);
      own_events = λ l k. rw (empty l, first ws);
      crowd = λ vs. rw (empty touch_list, items_first ws);
    }

-- one event more
module _ (ws : List ℕ) (at next : ℕ) (e : Event) (here : at < length ws) (found : event_at ws at ≡ Ok (e, next))
    (left n : ℕ) (s : Lists) (r : Reads ws (suc left) n at s) where
  abbrev list : ℕ
  list = list_of (kind (get_or ws at 0))

  pub fits : length (listed s list) < max_events
  fits = let c = r.counted list in let a = r.all in omega arith

  pub narrow : at < 65536
  narrow = let a = r.all in let q = r.near in omega arith

  module _ (new : Lists) (last : listed new list ≡ listed s list ++ (at ∷ [])) (others : (l : ℕ) → (l ≡ list → ⊥) → listed new l ≡ listed s l) where
    new_counted : (l : ℕ) → length (listed new l) ≤ n + 1
    new_counted l = go (eqb l list) refl
      where
        go : (b : Bool) → eqb l list ≡ b → length (listed new l) ≤ n + 1
        go true t = let c = r.counted list in rw (eqb-true l list t, last, length-append (listed s list) (at ∷ [])) (omega arith)
        go false t = let c = r.counted l in rw (others l (eqb-false l list t)) (omega arith)

    new_own : (l : ℕ) → l < list_count → own l (shaped_events ws) ≡ listed_events ws (listed new l) ++ own l (shaped_after ws next)
    unfolding listed_events own
    new_own l h = go (eqb list l) refl
      where
        before : own l (shaped_events ws) ≡ listed_events ws (listed s l) ++ own l (e ∷ shaped_after ws next)
        before = r.own_events l h ∙ rw (after_is ws at next e here found)

        reads_is : reads l e ≡ eqb list l
        reads_is = rw (kind_is ws at next e here found)

        go : (b : Bool) → eqb list l ≡ b → own l (shaped_events ws) ≡ listed_events ws (listed new l) ++ own l (shaped_after ws next)
        go true t =
            let same : list ≡ l = eqb-true list l t in
            let appended : listed new l ≡ listed s l ++ (at ∷ []) = rw same at last in
            before ∙ rw (reads_is, t)
            (rw (appended, map-append (shaped_at ws) (listed s l) (at ∷ []), shaped_is ws at next e here found)
            (sym (append_assoc (map (shaped_at ws) (listed s l)) (e ∷ []) (own l (shaped_after ws next)))))
        go false t =
            let other : l ≡ list → ⊥ = λ (q : l ≡ list). eqb-false list l t (sym q) in
            before ∙ rw (reads_is, t, others l other)

    -- the survey at this event
    after_event : (us : List TouchState) →
        fits_survey (suc left) (items_after ws at) us ≡ cond (crowded e us) (Some (NoPlace at)) (fits_survey left (items_after ws next) (fits_event e us))
    unfolding fits_survey item_refusal fits_item
    after_event us = rw (steps.event ws at next e here found).0 (or_cond (crowded e us) (NoPlace at) (fits_survey left (items_after ws next) (fits_event e us)))

    new_crowd : (vs : List TouchState) →
        fits_survey max_events (items ws) vs ≡ crowd_then ws (listed new touch_list) (fits_survey left (items_after ws next)) vs
    unfolding crowd_then
    new_crowd vs = r.crowd vs ∙ go (eqb list touch_list) refl
      where
        go : (b : Bool) → eqb list touch_list ≡ b →
            crowd_then ws (listed s touch_list) (fits_survey (suc left) (items_after ws at)) vs ≡ crowd_then ws (listed new touch_list) (fits_survey left (items_after ws next)) vs
        go true t =
            let same : list ≡ touch_list = eqb-true list touch_list t in
            let appended : listed new touch_list ≡ listed s touch_list ++ (at ∷ []) = rw same at last in
            crowd_same ws (listed s touch_list) _ (crowd_then ws (at ∷ []) (fits_survey left (items_after ws next)))
            (λ us. after_event us ∙ rw (shaped_is ws at next e here found)) vs
            ∙ sym (rw appended (crowd_last ws (listed s touch_list) at (fits_survey left (items_after ws next)) vs))
        go false t =
            let no_touch : kind_number e ≡ touch_kind → ⊥ = λ (q : kind_number e ≡ touch_kind). eqb-false list touch_list t (ap list_of (sym (kind_is ws at next e here found) ∙ q)) in
            let other : touch_list ≡ list → ⊥ = λ (q : touch_list ≡ list). eqb-false list touch_list t (sym q) in
            rw (others touch_list other)
            (crowd_same ws (listed s touch_list) _ _ (λ us. after_event us ∙ rw (not_crowded e us no_touch, fits_idle e us no_touch)) vs)

    pub reads_more : Reads ws left (n + 1) next new
    unfolding first_refusal then_refusal
    reads_more =
        let step = steps.event ws at next e here found in
        let a = r.all in
        let b = r.near in
        let d = next_near ws at next e here found in
        record {
          all = omega arith;
          near = omega arith;
          within = step.2;
          counted = new_counted;
          refusal = sym (rw step.0 at (sym r.refusal));
          own_events = new_own;
          crowd = new_crowd;
        }

-- the end of reading: a refusal at this place whatever the devices are, or none at the feed's end
pub read_done : (ws : List ℕ) (left n at : ℕ) (s : Lists) (q : Result ⊤ PassRefusal) → Reads ws left n at s →
    ((us : List TouchState) → fits_survey left (items_after ws at) us ≡ option q) → first_refusal left (items_after ws at) ≡ option q → (option q ≡ None → length ws ≤ at) →
    Read ws s q
unfolding own
read_done ws left n at s q r h f e =
    let same : option q ≡ feed_refusal ws = sym f ∙ r.refusal in
    record {
      refusal = same;
      lists = λ z l k. sym (r.own_events l k ∙ rw (past ws at (e (same ∙ z)), append-nil (listed_events ws (listed s l))));
      crowd = λ vs. r.crowd vs ∙ crowd_same ws _ _ _ (λ us. h us ∙ same) vs;
    }

module _ (ws : List ℕ) (at : ℕ) (here : at < length ws) where
  over_item : items_after ws at ≡ record { index = at; what = decode (piece_at ws at) } ∷ items_after ws (at + piece_length (get_or ws at 0))
  over_item = items_next ws at here

  pub over_is : (us : List TouchState) → (fits_survey 0 (items_after ws at) us ≡ Some (TooManyEvents at)) × (first_refusal 0 (items_after ws at) ≡ Some (TooManyEvents at))
  unfolding first_refusal fits_survey
  over_is us = (rw over_item, rw over_item)

  pub malformed_is : (left : ℕ) → event_at ws at ≡ Err fault.Malformed → (us : List TouchState) →
      (fits_survey (suc left) (items_after ws at) us ≡ Some (Malformed at)) × (first_refusal (suc left) (items_after ws at) ≡ Some (Malformed at))
  unfolding first_refusal then_refusal fits_survey item_refusal or_else
  malformed_is left h us = (rw (steps.refused_1 ws at here h), rw (steps.refused_1 ws at here h))

  pub outside_is : (left : ℕ) → event_at ws at ≡ Err fault.OutsideDomain → (us : List TouchState) →
      (fits_survey (suc left) (items_after ws at) us ≡ Some (OutsideDomain at)) × (first_refusal (suc left) (items_after ws at) ≡ Some (OutsideDomain at))
  unfolding first_refusal then_refusal fits_survey item_refusal or_else
  outside_is left h us = (rw (steps.refused_2 ws at here h), rw (steps.refused_2 ws at here h))

pub none_is : (ws : List ℕ) (left at : ℕ) → length ws ≤ at → (us : List TouchState) →
    (fits_survey left (items_after ws at) us ≡ None) × (first_refusal left (items_after ws at) ≡ None)
unfolding first_refusal fits_survey
none_is ws left at h us = (rw (items_none ws at h), rw (items_none ws at h))

-- ---- the touch events
pub no_event_9 : (ws : List ℕ) (at : ℕ) → (kind (get_or ws at 0) ≡ touch_kind → ⊥) → kind_number (shaped_at ws at) ≡ touch_kind → ⊥
no_event_9 ws at h = not_of_kind ws at touch_kind h (λ k. omega arith)

pub fits_loop : Loop fits_events fits_event
unfolding fits_events
fits_loop = loop fits_events fits_event (λ s. refl) (λ e es s. refl)

fits_own : (es : List Event) (vs : List TouchState) → fits_events (own touch_list es) vs ≡ fits_events es vs
unfolding fits_events
fits_own es vs = own_law fits_events fits_event (λ s. refl) (λ e es s. refl) touch_list (λ e s h. fits_idle e s (not_read touch_list e touch_kind h refl)) es vs

-- with the first i touch events done
abbrev pub Holds : List ℕ → List ℕ → Option PassRefusal → ℕ → List TouchState → List TouchState → Type 0
Holds ws ps later i vs held =
    (crowd_then ws ps (λ us. later) vs ≡ crowd_then ws (drop i ps) (λ us. later) held)
    × (held ≡ fits_events (listed_events ws (take i ps)) vs)

pub holds_first : (ws ps : List ℕ) (later : Option PassRefusal) (vs : List TouchState) → Holds ws ps later 0 vs vs
holds_first ws ps later vs = (refl, sym (fits_loop.begins ws vs))

module _ (ws ps : List ℕ) (later : Option PassRefusal) (i : ℕ) (here : i < length ps) (vs held : List TouchState) (holds : Holds ws ps later i vs held) where
  abbrev place : ℕ
  place = get_or ps i 0

  rest : drop i ps ≡ place ∷ drop (i + 1) ps
  rest = drop-cons ps i 0 here ∙ rw (add-one i)

  pub holds_more : crowded (shaped_at ws place) held ≡ false → (new : List TouchState) → new ≡ fits_event (shaped_at ws place) held → Holds ws ps later (i + 1) vs new
  unfolding crowd_then
  holds_more free new e =
      rw e (holds.0 ∙ rw (rest, free), ap (fits_event (shaped_at ws place)) holds.1 ∙ sym (fits_loop.goes_on ws ps i vs here))

  pub no_place_at : crowded (shaped_at ws place) held ≡ true → Some (NoPlace place) ≡ crowd_then ws ps (λ us. later) vs
  unfolding crowd_then
  no_place_at full = sym (holds.0 ∙ rw (rest, full))

pub holds_last : (ws ps : List ℕ) (later : Option PassRefusal) (n : ℕ) (vs held : List TouchState) → length ps ≤ n → Holds ws ps later n vs held →
    (later ≡ crowd_then ws ps (λ us. later) vs) × (held ≡ fits_events (listed_events ws ps) vs)
unfolding crowd_then
holds_last ws ps later n vs held h holds = (sym (holds.0 ∙ rw (drop_all n ps h)), holds.1 ∙ rw (ended ws n refl h))

-- after what reading refuses: the survey
module _ (ws : List ℕ) (s : Lists) (r : Result ⊤ PassRefusal) (vs : List TouchState) (read : Read ws s r) where
  pub survey_is : crowd_then ws (listed s touch_list) (λ us. option r) vs ≡ fits_survey max_events (items ws) vs
  survey_is = rw read.refusal (sym (read.crowd vs))

  pub none_refused : fits_survey max_events (items ws) vs ≡ None → feed_refusal ws ≡ None
  none_refused z = crowd_none ws (listed s touch_list) (feed_refusal ws) vs (sym (read.crowd vs) ∙ z)

  pub devices_are : fits_survey max_events (items ws) vs ≡ None → fits_events (listed_events ws (listed s touch_list)) vs ≡ fits_events (shaped_events ws) vs
  devices_are z = rw (read.lists (none_refused z) touch_list (omega arith)) (fits_own (shaped_events ws) vs)
