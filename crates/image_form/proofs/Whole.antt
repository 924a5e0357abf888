-- A whole image: reading it is asking by places; reading gives what writing wrote, and takes only that. Assumes nothing.
use Rattle.std.specs.Prelude.{Option, None, Some}
use Prim.Native.Nat.{ℕ, zero, suc, ◌+◌, ◌≤◌, ◌<◌}
use native.Mathlib.Omega.{arith}
use mathlib.Core.Path.{◌≡◌, refl, sym, ap, ap₂, ◌∙◌}
use mathlib.Core.Bool.{Bool, true, false, cond}
use mathlib.Core.List.{List, [], ◌∷◌, ◌++◌, append-nil}
use lib.Dec.{eqb, ltb}
use lib.ListN.{length, get_or, drop, length-drop, drop_of_length-le}
use borrow.Author.Tests.{lt-ltb, le-ltb, ltb-false, eqb-true}
use Rattle.model.specs.Pass.{Panel}
use Rattle.image.specs.Codes.{size, Read, bad, good, read, write, El, In}
use Rattle.image.specs.Places.{or_else, bad_at, value_at, span, Placed, Fixed, Sized, Told}
use Rattle.image.proofs.RoundTrip.{reads_back}
use Rattle.image.proofs.Placed.{reads_by_places, sound_is_written}
use Rattle.image.proofs.Sound.{sound_is_in}
use Rattle.image.proofs.Lists.{or_else_none}
use Rattle.image_fixed.specs.Fixed.{fixed_code}
use Rattle.image_events.specs.Events.{by_kind}
use Rattle.image_form.specs.Form.{first_word, panel_code, el, panel_of, image, Answer, taken, no_image, wrong, ended, read_image, ImageReadsBack, ImageIsWritten}
use Rattle.image_form.specs.Placed.{groups_place, end_bad, image_bad, answer, ReadsImage}
use Rattle.image_form.proofs.Trip.{panel_back, panel_forth}

-- ---- the description is read by places, and its tables have entries of some words
kind_fixed : (k : ℕ) → Fixed (by_kind k) × (size (by_kind k) ≡ size (by_kind 0))
unfolding size
kind_fixed zero = omega arith
kind_fixed (suc zero) = omega arith
kind_fixed (suc (suc zero)) = omega arith
kind_fixed (suc (suc (suc k))) = omega arith

kind_sized : (k : ℕ) → Sized (by_kind k)
kind_sized zero = omega arith
kind_sized (suc zero) = omega arith
kind_sized (suc (suc zero)) = omega arith
kind_sized (suc (suc (suc k))) = omega arith

fixed_placed : Placed fixed_code
fixed_placed = (omega arith, (omega arith, (omega arith, (omega arith, (omega arith, (omega arith, (omega arith, (omega arith, omega arith))))))))

panel_placed : Placed panel_code
panel_placed = (fixed_placed, (omega arith, (kind_fixed, omega arith)))

fixed_sized : Sized fixed_code
fixed_sized = (omega arith, (omega arith, (omega arith, (omega arith, (omega arith, (omega arith, (omega arith, (omega arith, omega arith))))))))

panel_sized : Sized panel_code
unfolding size
panel_sized = (fixed_sized, ((tt, omega arith), ((tt, kind_sized), omega arith)))

-- ---- reading is told by places
ended_told : (ws : List ℕ) (r : Read (El panel_code)) (b : Option ℕ) (v : El panel_code) (k : ℕ) → Told r b v ws k → ended r ≡ answer (or_else b (end_bad ws k)) v
unfolding ended answer or_else
ended_told ws (bad j) b v k t = rw t
ended_told ws (good u j []) b v k t =
    let d = length-drop k ws in
    let l = ap length t.3 in
    let n : length ws ≤ k = omega (arith, d, l) in
    rw (t.0, le-ltb k (length ws) n) (ap (λ (x : El panel_code). taken (panel_of x)) t.1)
ended_told ws (good u j (x ∷ xs)) b v k t =
    let d = length-drop k ws in
    let l = ap length t.3 in
    let n : k < length ws = omega (arith, d, l) in
    rw (t.0, lt-ltb k (length ws) n) (ap wrong t.2)

pub reads_image : ReadsImage
unfolding read_image image_bad
reads_image [] = refl
reads_image (w ∷ ws) =
    ap (λ (z : Answer). cond (eqb first_word w) z no_image)
    (ended_told (w ∷ ws) (read panel_code 1 ws) (bad_at panel_code (w ∷ ws) 1) (value_at panel_code (w ∷ ws) 1) (1 + span panel_code (w ∷ ws) 1) (reads_by_places panel_code panel_placed (w ∷ ws) 1))

-- ---- what was written is read back
pub image_reads_back : ImageReadsBack
unfolding read_image image ended
image_reads_back p h k n =
    ap ended (ap (read panel_code 1) (sym (append-nil (write panel_code (el p)))) ∙ reads_back panel_code (el p) h 1 []) ∙ ap taken (panel_back p k n)

-- ---- a panel that was taken is that of the value there, whose words are all there are
pub record Taken (ws : List ℕ) (p : Panel) : Type 0 where
  pub first : first_word ≡ get_or ws 0 0
  pub sound : image_bad ws ≡ None
  pub is : p ≡ panel_of (value_at panel_code ws groups_place)

panel_in : Panel → Answer → Panel
panel_in d (taken p) = p
panel_in d no_image = d
panel_in d (wrong i) = d

-- one answer gives one panel
pub same_panel : (p q : Panel) → taken p ≡ taken q → p ≡ q
unfolding panel_in
same_panel p q h = ap (panel_in p) h

none_taken : {A : Type 0} (p : Panel) → no_image ≡ taken p → A
none_taken p h = let z : ◌≡◌ {A = ℕ} 0 1 = cc in absurd (omega arith)

wrong_taken : {A : Type 0} (i : ℕ) (p : Panel) → wrong i ≡ taken p → A
wrong_taken i p h = let z : ◌≡◌ {A = ℕ} 0 1 = cc in absurd (omega arith)

pub image_taken : (ws : List ℕ) (p : Panel) → read_image ws ≡ taken p → Taken ws p
unfolding answer
image_taken ws p h = go (eqb first_word (get_or ws 0 0)) (image_bad ws) refl refl (sym (reads_image ws) ∙ h)
  where
    v : El panel_code
    v = value_at panel_code ws groups_place

    go : (b : Bool) (o : Option ℕ) → eqb first_word (get_or ws 0 0) ≡ b → image_bad ws ≡ o → cond b (answer o v) no_image ≡ taken p → Taken ws p
    go false o e f g = none_taken p g
    go true (Some i) e f g = wrong_taken i p g
    go true None e f g = record { first = eqb-true first_word (get_or ws 0 0) e; sound = f; is = sym (same_panel _ p g) }

-- nothing is wrong with the groups, and nothing is behind them
groups_sound : (ws : List ℕ) → image_bad ws ≡ None → bad_at panel_code ws groups_place ≡ None
unfolding image_bad
groups_sound ws h = (or_else_none _ _ h).0

groups_end : (ws : List ℕ) → image_bad ws ≡ None → drop (groups_place + span panel_code ws groups_place) ws ≡ []
unfolding image_bad
groups_end ws h = go (ltb k (length ws)) refl (or_else_none (bad_at panel_code ws groups_place) (end_bad ws k) h).1
  where
    k : ℕ
    k = groups_place + span panel_code ws groups_place

    go : (b : Bool) → ltb k (length ws) ≡ b → cond b (Some k) None ≡ None → drop k ws ≡ []
    go true e g = let z : ◌≡◌ {A = ℕ} 0 1 = cc in absurd (omega arith)
    go false e g = drop_of_length-le ws (ltb-false k (length ws) e)

-- the value there is in range
pub value_in : (ws : List ℕ) → image_bad ws ≡ None → In panel_code (value_at panel_code ws groups_place)
value_in ws h = sound_is_in panel_code panel_sized ws groups_place (groups_sound ws h)

pub image_is_written : ImageIsWritten
unfolding image
image_is_written [] k p h = let t = image_taken [] p h in let z = t.first in absurd (omega arith)
image_is_written (w ∷ ws) k p h = ap₂ (λ (x : ℕ) (y : List ℕ). x ∷ y) (sym t.first) rest
  where
    t : Taken (w ∷ ws) p
    t = image_taken (w ∷ ws) p h

    v : El panel_code
    v = value_at panel_code (w ∷ ws) groups_place

    rest : ws ≡ write panel_code (el p)
    rest =
        sound_is_written panel_code panel_placed (w ∷ ws) groups_place k.1 (groups_sound (w ∷ ws) t.sound)
        ∙ ap (λ (y : List ℕ). write panel_code v ++ y) (groups_end (w ∷ ws) t.sound)
        ∙ append-nil (write panel_code v)
        ∙ ap (write panel_code) (sym (panel_forth v (value_in (w ∷ ws) t.sound)) ∙ ap el (sym t.is))
