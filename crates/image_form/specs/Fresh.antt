-- The image of a fresh panel, word by word, as docs/IMAGE.md lists it.
use Rattle.std.specs.Prelude.{ℕ, ◌≡◌, List, [], ◌∷◌, ◌++◌}
use Rattle.model.specs.Pass.{fresh}
use Rattle.image.specs.Codes.{zeros}
use Rattle.image_form.specs.Form.{image}

unfoldable pub clock_words : List ℕ
clock_words = 0x1000_0007 ∷ 0 ∷ 0 ∷ 0xFFF0_0000 ∷ 0 ∷ 0x3C88_8889 ∷ 0x3C88_8889 ∷ 0x3C88_8889 ∷ []

unfoldable pub screen_words : List ℕ
screen_words = 0x2000_0010 ∷ 0 ∷ 0 ∷ 0x461C_4000 ∷ 0x461C_4000 ∷ 0x3F80_0000 ∷ 0 ∷ []

-- line speed, zoom speed, click distance; click duration, delay; the modifiers command, shift, alt
unfoldable pub options_words : List ℕ
options_words = 0x4220_0000 ∷ 0x3BA3_D70A ∷ 0x40C0_0000 ∷ 0x3FE9_9999 ∷ 0x9999_999A ∷ 0x3FD3_3333 ∷ 0x3333_3333 ∷ 0x10 ∷ 4 ∷ 1 ∷ []

-- no last click: minus infinity, twice
unfoldable pub press_words : List ℕ
press_words = 0x4000_0013 ∷ zeros 11 ++ (0xFFF0_0000 ∷ 0 ∷ 0xFFF0_0000 ∷ 0 ∷ zeros 4)

unfoldable pub wheel_words : List ℕ
wheel_words = 0x5000_0009 ∷ 0 ∷ 0 ∷ 0 ∷ 0xFFF0_0000 ∷ 0 ∷ zeros 4

-- no key, no modifier; the last feed was empty; no press
unfoldable pub keys_words : List ℕ
keys_words = 0x6000_0098 ∷ zeros 6 ++ (1 ∷ zeros 145)

unfoldable pub sums_words : List ℕ
sums_words = 0x7000_0005 ∷ 0x3F80_0000 ∷ zeros 4

-- "image-of-fresh": 246 words
unfoldable pub fresh_words : List ℕ
fresh_words =
    0xD000_0001
    ∷ clock_words
    ++ (screen_words
    ++ (options_words
    ++ (0x3000_000F
    ∷ zeros 15
    ++ (press_words
    ++ (wheel_words ++ (keys_words ++ (sums_words ++ (0x8000_0009 ∷ zeros 9 ++ (0x9000_0001 ∷ 0 ∷ 0xA000_0000 ∷ 0xB000_0000 ∷ 0xC000_0000 ∷ [])))))))))

abbrev pub FreshImage : Type 0
FreshImage = image fresh ≡ fresh_words
