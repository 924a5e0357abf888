-- Groups one after the other, each at its place. Assumes nothing.
use Rattle.std.specs.Prelude.{Option}
use Prim.Native.Nat.{ℕ, ◌+◌}
use mathlib.Core.Path.{◌≡◌, refl, sym, ap, ap₂, ◌∙◌}
use mathlib.Core.List.{List, ◌++◌}
use lib.ListN.{length}
use lib.Seq.{sets}
use Rattle.model.specs.Pass.{Interaction}
use Rattle.model.specs.Pointer.{Place}
use Rattle.image.specs.Codes.{Code, both, El, write, size}
use Rattle.image.specs.Places.{or_else, bad_at, span}
use Rattle.image.proofs.Lists.{sets_at}
use Rattle.image_clock.specs.Clock.{clock_code, clock_place}
use Rattle.image_screen.specs.Screen.{screen_code, screen_place}
use Rattle.image_pointer.specs.Place.{place_code, place_el, place_place}
use Rattle.image_pointer.specs.Press.{press_code, press_place}
use Rattle.image_pointer.proofs.Words.{place_list}
use Rattle.image_wheel.specs.Wheel.{wheel_code, wheel_place}
use Rattle.image_keys.specs.Keys.{keys_code, keys_place}
use Rattle.image_interaction.specs.Groups.{sums_code, interaction_code, tally_code, sums_place, interaction_place, tally_place, interaction_el}
use Rattle.image_interaction.proofs.Trip.{interaction_list}
use Rattle.image_fixed.specs.Fixed.{fixed_code, fixed_place}

-- ---- checking
both_bad : (a b : Code) (ws : List ℕ) (i n : ℕ) (x y : Option ℕ) → i + span a ws i ≡ n → x ≡ bad_at a ws i → y ≡ bad_at b ws n → or_else x y ≡ bad_at (both a b) ws i
unfolding bad_at
both_bad a b ws i n x y e f g = rw (f, g, e)

module _ (ws : List ℕ) where
  clock_end : clock_place + span clock_code ws clock_place ≡ screen_place
  unfolding span size
  clock_end = refl

  screen_end : screen_place + span screen_code ws screen_place ≡ place_place
  unfolding span size
  screen_end = refl

  place_end : place_place + span place_code ws place_place ≡ press_place
  unfolding span size
  place_end = refl

  press_end : press_place + span press_code ws press_place ≡ wheel_place
  unfolding span size
  press_end = refl

  wheel_end : wheel_place + span wheel_code ws wheel_place ≡ keys_place
  unfolding span size
  wheel_end = refl

  keys_end : keys_place + span keys_code ws keys_place ≡ sums_place
  unfolding span size
  keys_end = refl

  sums_end : sums_place + span sums_code ws sums_place ≡ interaction_place
  unfolding span size
  sums_end = refl

  interaction_end : interaction_place + span interaction_code ws interaction_place ≡ tally_place
  unfolding span size
  interaction_end = refl

  groups_bad : (a b c d e f g h i : Option ℕ)
      → a ≡ bad_at clock_code ws clock_place → b ≡ bad_at screen_code ws screen_place → c ≡ bad_at place_code ws place_place → d ≡ bad_at press_code ws press_place
      → e ≡ bad_at wheel_code ws wheel_place → f ≡ bad_at keys_code ws keys_place → g ≡ bad_at sums_code ws sums_place
      → h ≡ bad_at interaction_code ws interaction_place → i ≡ bad_at tally_code ws tally_place
      → or_else a (or_else b (or_else c (or_else d (or_else e (or_else f (or_else g (or_else h i))))))) ≡ bad_at fixed_code ws fixed_place
  groups_bad a b c d e f g h i ea eb ec ed ee ef eg eh ei =
      both_bad _ _ ws clock_place screen_place a _ clock_end ea
      (both_bad _ _ ws screen_place place_place b _ screen_end eb
      (both_bad _ _ ws place_place press_place c _ place_end ec
      (both_bad _ _ ws press_place wheel_place d _ press_end ed
      (both_bad _ _ ws wheel_place keys_place e _ wheel_end ee
      (both_bad _ _ ws keys_place sums_place f _ keys_end ef
      (both_bad _ _ ws sums_place interaction_place g _ sums_end eg (both_bad _ _ ws interaction_place tally_place h i interaction_end eh ei)))))))

  pub fixed_chain : bad_at fixed_code ws fixed_place
      ≡ or_else (bad_at clock_code ws clock_place) (or_else (bad_at screen_code ws screen_place) (or_else (bad_at place_code ws place_place) (or_else (bad_at press_code ws press_place)
      (or_else (bad_at wheel_code ws wheel_place) (or_else (bad_at keys_code ws keys_place) (or_else (bad_at sums_code ws sums_place)
      (or_else (bad_at interaction_code ws interaction_place) (bad_at tally_code ws tally_place))))))))
  fixed_chain = sym (groups_bad _ _ _ _ _ _ _ _ _ refl refl refl refl refl refl refl refl refl)

-- ---- writing: how long each group is
pub clock_length : (v : El clock_code) → length (write clock_code v) ≡ 8
unfolding write size
clock_length v = refl

pub place_length : (p : Place) → length (write place_code (place_el p)) ≡ 16
place_length p = ap length (sym (place_list p _ _ _ _ _ _ _ _ _ refl refl refl refl refl refl refl refl refl))

pub wheel_length : (v : El wheel_code) → length (write wheel_code v) ≡ 10
unfolding write size
wheel_length v = refl

pub sums_length : (v : El sums_code) → length (write sums_code v) ≡ 6
unfolding write size
sums_length v = refl

pub interaction_length : (s : Interaction) → length (write interaction_code (interaction_el s)) ≡ 10
interaction_length s = ap length (sym (interaction_list s _ _ _ refl refl refl))

-- two groups, one behind the other
pub two : (o x y a b u v : List ℕ) (i n k : ℕ) → x ≡ sets o i a → y ≡ sets x n b → a ≡ u → b ≡ v → length u ≡ k → n ≡ i + k → y ≡ sets o i (u ++ v)
two o x y a b u v i n k e f g h l m =
    f ∙ ap (λ (z : List ℕ). sets z n b) e ∙ sets_at o i n a b (m ∙ ap (λ (z : ℕ). i + z) (sym l ∙ ap length (sym g))) ∙ ap₂ (λ (p q : List ℕ). sets o i (p ++ q)) g h

-- and three
pub three : (o x y z a b d u v w : List ℕ) (i n m j k : ℕ) → x ≡ sets o i a → y ≡ sets x n b → z ≡ sets y m d → a ≡ u → b ≡ v → d ≡ w
    → length u ≡ j → length v ≡ k → n ≡ i + j → m ≡ n + k → z ≡ sets o i (u ++ (v ++ w))
three o x y z a b d u v w i n m j k e f g ea eb ed lu lv en em =
    g ∙ ap (λ (q : List ℕ). sets q m d) f
    ∙ sets_at x n m b d (em ∙ ap (λ (q : ℕ). n + q) (sym lv ∙ ap length (sym eb)))
    ∙ two o x (sets x n (b ++ d)) a (b ++ d) u (v ++ w) i n j e refl ea (ap₂ (λ (p q : List ℕ). p ++ q) eb ed) lu en
