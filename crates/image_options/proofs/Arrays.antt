-- Words that stand in an array of their own, put into a larger one by their places. Assumes nothing.
use Rattle.std.specs.Prelude.{Option, None, Some}
use Rattle.std.specs.Bool.{then_some}
use Rattle.std.specs.Option.{option_map}
use mathlib.Core.Bool.{Bool, true, false, not, cond}
use Prim.Native.Nat.{ℕ}
use native.Mathlib.Omega.{arith}
use mathlib.Core.Path.{◌≡◌, refl}
use mathlib.Core.List.{List, [], ◌∷◌, ◌++◌}
use lib.ListN.{length, get_or}
use Rattle.image.specs.Codes.{El, In, write, option_words, zeros, size}
use Rattle.image_options.specs.Options.{maybe_pair, maybe_time, maybe_id}

pub spread_3 : (vs ys : List ℕ) → length vs ≡ 3 → get_or vs 0 0 ∷ get_or vs 1 0 ∷ get_or vs 2 0 ∷ ys ≡ vs ++ ys
spread_3 [] ys h = absurd (omega arith)
spread_3 (a ∷ []) ys h = absurd (omega arith)
spread_3 (a ∷ b ∷ []) ys h = absurd (omega arith)
spread_3 (a ∷ b ∷ d ∷ []) ys h = refl
spread_3 (a ∷ b ∷ d ∷ e ∷ vs) ys h = absurd (omega arith)

pub words_3 : (xs vs ys ws : List ℕ) → xs ≡ vs → length vs ≡ 3 → ys ≡ ws → get_or xs 0 0 ∷ get_or xs 1 0 ∷ get_or xs 2 0 ∷ ys ≡ vs ++ ws
words_3 xs vs ys ws e h f = rw (e, f) (spread_3 vs ws h)

pub pair_length : (v : El maybe_pair) → length (write maybe_pair v) ≡ 3
unfolding write option_words zeros size
pair_length None = refl
pair_length (Some v) = refl

pub time_length : (v : El maybe_time) → length (write maybe_time v) ≡ 3
unfolding write option_words zeros size
time_length None = refl
time_length (Some v) = refl

pub id_length : (v : El maybe_id) → length (write maybe_id v) ≡ 3
unfolding write option_words zeros size
id_length None = refl
id_length (Some v) = refl

-- two words read one by one
pub spread_2 : (vs : List ℕ) → length vs ≡ 2 → get_or vs 0 0 ∷ get_or vs 1 0 ∷ [] ≡ vs
spread_2 [] h = absurd (omega arith)
spread_2 (a ∷ []) h = absurd (omega arith)
spread_2 (a ∷ b ∷ []) h = refl
spread_2 (a ∷ b ∷ d ∷ vs) h = absurd (omega arith)

-- none, or the value, by the flag
pub held : {T A : Type 0} (f : A → T) (absent : Bool) (v : A) → then_some (not absent) (f v) ≡ option_map f (cond absent None (Some v))
held f true v = refl
held f false v = refl

-- an id is kept as it stands
pub as_it_is : {A : Type 0} (v : Option A) → option_map (λ (x : A). x) v ≡ v
as_it_is None = refl
as_it_is (Some x) = refl

pub id_written : (o : Option ℕ) (ws : List ℕ) → (ws ≡ write maybe_id (option_map (λ (d : ℕ). d) o)) × In maybe_id (option_map (λ (d : ℕ). d) o) → (ws ≡ write maybe_id o) × In maybe_id o
id_written None ws h = h
id_written (Some d) ws h = h
