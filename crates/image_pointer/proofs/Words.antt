-- Groups 3 and 4: the words put together are those of the record. Assumes nothing.
use Rattle.std.specs.Prelude.{Option, Float}
use Prim.Native.Nat.{ℕ, ◌/◌, ◌%◌}
use mathlib.Core.Path.{◌≡◌, ap, ◌∙◌}
use mathlib.Core.Bool.{Bool}
use mathlib.Core.List.{List, [], ◌∷◌, ◌++◌, append-nil}
use lib.ListN.{get_or}
use lib.Ieee.{binary32, binary64, to_bits}
use Rattle.data.specs.Bits.{bit_number}
use Rattle.model.specs.Pointer.{Place, Press}
use Rattle.image.specs.Codes.{write, size, half}
use Rattle.image_options.specs.Options.{maybe_pair, maybe_time, maybe_pos_el, maybe_vec_el, maybe_time_el}
use Rattle.image_options.proofs.Arrays.{spread_3, pair_length, time_length}
use Rattle.image_pointer.specs.Place.{place_code, place_el}
use Rattle.image_pointer.specs.Press.{press_code, press_el, buttons_number}

pub place_list : (p : Place) (l i m : List ℕ) (a b d e f g : ℕ)
    → l ≡ write maybe_pair (maybe_pos_el p.latest_pos) → i ≡ write maybe_pair (maybe_pos_el p.interact_pos) → m ≡ write maybe_pair (maybe_vec_el p.motion)
    → a ≡ to_bits binary32 p.delta.x → b ≡ to_bits binary32 p.delta.y → d ≡ to_bits binary32 p.velocity.x → e ≡ to_bits binary32 p.velocity.y
    → f ≡ to_bits binary32 p.direction.x → g ≡ to_bits binary32 p.direction.y
    → 0x3000_000F ∷ get_or l 0 0 ∷ get_or l 1 0 ∷ get_or l 2 0 ∷ get_or i 0 0 ∷ get_or i 1 0 ∷ get_or i 2 0 ∷ a ∷ b ∷ get_or m 0 0 ∷ get_or m 1 0 ∷ get_or m 2 0 ∷ d ∷ e ∷ f ∷ g ∷ []
    ≡ write place_code (place_el p)
unfolding write size
place_list p l i m a b d e f g el ei em ea eb ed ee ef eg =
    rw (el, ei, em, ea, eb, ed, ee, ef, eg)
    (ap (λ (z : List ℕ). 0x3000_000F ∷ z)
    (spread_3 (write maybe_pair (maybe_pos_el p.latest_pos)) _ (pair_length (maybe_pos_el p.latest_pos))
    ∙ ap (λ (z : List ℕ). write maybe_pair (maybe_pos_el p.latest_pos) ++ z)
    (spread_3 (write maybe_pair (maybe_pos_el p.interact_pos)) _ (pair_length (maybe_pos_el p.interact_pos))
    ∙ ap (λ (z : List ℕ). write maybe_pair (maybe_pos_el p.interact_pos) ++ (to_bits binary32 p.delta.x ∷ to_bits binary32 p.delta.y ∷ z))
    (spread_3 (write maybe_pair (maybe_vec_el p.motion)) _ (pair_length (maybe_vec_el p.motion))))))

pub press_list : (p : Press) (started : Bool) (moved : Option Float) (o s c m : List ℕ) (d b g last before h l k n : ℕ)
    → o ≡ write maybe_pair (maybe_pos_el p.held.press_origin) → s ≡ write maybe_time (maybe_time_el p.held.press_start_time)
    → c ≡ write maybe_pair (maybe_pos_el p.past.last_click_pos) → m ≡ write maybe_time (maybe_time_el moved)
    → d ≡ buttons_number p.held.down → b ≡ bit_number p.past.has_moved_too_much_for_a_click → g ≡ bit_number started
    → last ≡ to_bits binary64 p.past.last_click_time → before ≡ to_bits binary64 p.past.last_last_click_time
    → h ≡ last / half → l ≡ last % half → k ≡ before / half → n ≡ before % half
    → 0x4000_0013 ∷ d ∷ get_or o 0 0 ∷ get_or o 1 0 ∷ get_or o 2 0 ∷ get_or s 0 0 ∷ get_or s 1 0 ∷ get_or s 2 0 ∷ b ∷ get_or c 0 0 ∷ get_or c 1 0 ∷ get_or c 2 0 ∷ h ∷ l ∷ k ∷ n ∷ g
    ∷ get_or m 0 0 ∷ get_or m 1 0 ∷ get_or m 2 0 ∷ []
    ≡ write press_code (press_el p started moved)
unfolding write size
press_list p started moved o s c m d b g last before h l k n eo es ec em ed eb eg ea ef eh el ek en =
    let last_words : List ℕ → List ℕ = λ z. to_bits binary64 p.past.last_click_time / half ∷ to_bits binary64 p.past.last_click_time % half ∷ z in
    let before_words : List ℕ → List ℕ = λ z. to_bits binary64 p.past.last_last_click_time / half ∷ to_bits binary64 p.past.last_last_click_time % half ∷ z in
    rw (eo, es, ec, em, ed, eb, eg, eh, el, ek, en, ea, ef)
    (ap (λ (z : List ℕ). 0x4000_0013 ∷ buttons_number p.held.down ∷ z)
    (spread_3 (write maybe_pair (maybe_pos_el p.held.press_origin)) _ (pair_length (maybe_pos_el p.held.press_origin))
    ∙ ap (λ (z : List ℕ). write maybe_pair (maybe_pos_el p.held.press_origin) ++ z)
    (spread_3 (write maybe_time (maybe_time_el p.held.press_start_time)) _ (time_length (maybe_time_el p.held.press_start_time))
    ∙ ap (λ (z : List ℕ). write maybe_time (maybe_time_el p.held.press_start_time) ++ (bit_number p.past.has_moved_too_much_for_a_click ∷ z))
    (spread_3 (write maybe_pair (maybe_pos_el p.past.last_click_pos)) _ (pair_length (maybe_pos_el p.past.last_click_pos))
    ∙ ap (λ (z : List ℕ). write maybe_pair (maybe_pos_el p.past.last_click_pos) ++ last_words (before_words (bit_number started ∷ z)))
    (spread_3 (write maybe_time (maybe_time_el moved)) [] (time_length (maybe_time_el moved)) ∙ append-nil (write maybe_time (maybe_time_el moved)))))))
