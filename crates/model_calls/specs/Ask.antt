-- Everything that can be asked of a panel after a call, as words in a fixed order, each computed by `ask`. Definitions only.
use Rattle.std.specs.Prelude.{ℕ, zero, suc, ◌+◌, ◌*◌, List, [], ◌∷◌, ◌++◌, length, get_or}
use Rattle.std.specs.Float.{binary32, binary64}
use Rattle.feed.specs.Encode.{id_words}
use Rattle.model.specs.Types.{PointerButton, Primary, Secondary, Middle, Extra1, Extra2}
use Rattle.model.specs.Touch.{TouchState}
use Rattle.model.specs.Pass.{Panel}
use Rattle.model.specs.Questions.{Question, settled, time_since_last_click, has_touch_screen, Settled, ask}
use Rattle.model.specs.Questions as Q
use Rattle.edges.specs.Words.{reply_words}

-- the words of one answer: numbers as f32, or as f64
unfoldable pub f32 : Settled → Panel → List ℕ
f32 q p = reply_words binary32 (ask (settled q) p)

unfoldable pub f64 : Settled → Panel → List ℕ
f64 q p = reply_words binary64 (ask (settled q) p)

-- an answer of one word, and the bits of several, the first one lowest
unfoldable pub word : Question → Panel → ℕ
word q p = get_or (reply_words binary32 (ask q p)) 0 0

unfoldable pub bits : List Question → Panel → ℕ
bits [] p = 0
bits (q ∷ qs) p = word q p + 2 * bits qs p

-- f of k and the n - 1 numbers after it, as the digits of one number, the first one lowest
unfoldable pub packed : (ℕ → ℕ) → ℕ → ℕ → ℕ → ℕ
packed f base k zero = 0
packed f base k (suc n) = f k + base * packed f base (suc k) n

-- words of so many digits each, from k on
unfoldable pub packs : (ℕ → ℕ) → ℕ → ℕ → ℕ → ℕ → List ℕ
packs f base digits k zero = []
packs f base digits k (suc n) = packed f base k digits ∷ packs f base digits (k + digits) n

-- a bit for each key, and a byte for each key
unfoldable pub keys_down_words : Panel → List ℕ
keys_down_words p = packs (λ k. word (settled (Q.key_down k)) p) 2 32 0 5

unfoldable pub presses_words : Panel → List ℕ
presses_words p = packs (λ k. word (settled (Q.num_presses k)) p) 256 4 0 37

unfoldable pub button_bits : PointerButton → Panel → ℕ
button_bits b p =
    bits
    (settled (Q.button_pressed b) ∷ settled (Q.button_released b) ∷ settled (Q.button_clicked b)
    ∷ settled (Q.button_double_clicked b) ∷ settled (Q.button_triple_clicked b) ∷ settled (Q.button_down b) ∷ []) p

-- by device: id, any_touches, info
unfoldable pub devices_words : List TouchState → Panel → List ℕ
devices_words [] p = []
devices_words (v ∷ vs) p =
    id_words v.device_id ++ (f32 (Q.any_touches_of_device v.device_id) p ++ (f32 (Q.info_of_device v.device_id) p ++ devices_words vs p))

unfoldable pub input_words : Panel → List ℕ
input_words p =
    f64 Q.time p
    ++ (f32 Q.unstable_dt p ++ (f32 Q.predicted_dt p ++ (f32 Q.stable_dt p
    ++ (f32 Q.focused p ++ (f32 Q.modifiers p
    ++ (f32 Q.viewport_rect p ++ (f32 Q.pixels_per_point p ++ (f32 Q.physical_pixel_size p ++ (f32 Q.aim_radius p
    ++ (f32 Q.smooth_scroll_delta p ++ (f32 Q.zoom_delta p ++ (f32 Q.zoom_delta_2d p ++ (f32 Q.rotation_delta p ++ (f32 Q.translation_delta p
    ++ (f32 Q.is_scrolling p ++ (f32 Q.scroll_source p ++ (f32 Q.time_since_last_scroll p ++ (f32 Q.wants_repaint_after p
    ++ (keys_down_words p ++ (presses_words p ++ (f32 Q.feed_was_empty p
    ++ (bits (settled Q.any_touches ∷ has_touch_screen ∷ settled Q.is_long_touch ∷ []) p ∷ f32 Q.multi_touch p))))))))))))))))))))))

unfoldable pub pointer_words : Panel → List ℕ
pointer_words p =
    f32 Q.delta p
    ++ (f32 Q.motion p ++ (f32 Q.velocity p ++ (f32 Q.direction p
    ++ (f32 Q.press_origin p ++ (f32 Q.total_drag_delta p ++ (f64 Q.press_start_time p ++ (f32 Q.latest_pos p ++ (f32 Q.interact_pos p
    ++ (bits
    (settled Q.has_pointer ∷ settled Q.is_still ∷ settled Q.is_moving ∷ settled Q.any_pressed ∷ settled Q.any_released
    ∷ settled Q.any_down ∷ settled Q.any_click ∷ settled Q.could_any_button_be_click ∷ settled Q.is_decidedly_dragging ∷ settled Q.is_long_press ∷ []) p
    ∷ word time_since_last_click p
    ∷ button_bits Primary p ∷ button_bits Secondary p ∷ button_bits Middle p ∷ button_bits Extra1 p ∷ button_bits Extra2 p
    ∷ f32 Q.pointer_events p)))))))))

unfoldable pub ask_words : Panel → List ℕ
ask_words p = input_words p ++ (pointer_words p ++ (length p.touch_states ∷ devices_words p.touch_states p))
