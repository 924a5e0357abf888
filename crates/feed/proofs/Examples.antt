-- 01's example, evaluated on the definitions. Assumes nothing.
use mathlib.Core.Path.{refl}
use lib.Ieee.{le, lt, fits, of_bits, to_bits, of_int}
use Rattle.data.specs.Modifiers.{no_modifiers, modifiers_of, modifiers_number}
use Rattle.data.specs.Limits.{within32, max_coordinate, min_coordinate, coordinate_ok, pos_ok, event_ok}
use Rattle.feed.specs.Split.{following}
use Rattle.feed.specs.Shape.{clean, field_below, button_of, float_of, pos_of, button_shape, shape_by_kind, shape}
use Rattle.feed.specs.Decode.{decode, check_floats}
use Rattle.feed.specs.Encode.{float_word, pos_words, fields, words_after, encode}
use Rattle.feed.specs.Laws.{primary_press, primary_press_words, PrimaryPress}

pub primary_press_is : PrimaryPress
unfolding primary_press primary_press_words decode check_floats shape shape_by_kind button_shape clean field_below button_of float_of pos_of following event_ok pos_ok coordinate_ok within32 max_coordinate min_coordinate le lt fits of_bits of_int no_modifiers modifiers_of encode fields words_after pos_words float_word to_bits modifiers_number
primary_press_is = (refl, refl)
