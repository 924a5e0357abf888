-- A fresh panel's image, by evaluation. Assumes nothing.
use mathlib.Core.Path.{refl}
use Rattle.model.proofs.Opened.{opened}
use Rattle.key_state.specs.View.{numbers_of}
use Rattle.image.specs.Codes.{zeros, all, option_words, size, write}
use Rattle.image_options.specs.Options.{maybe_pos_el, maybe_vec_el, maybe_time_el}
use Rattle.image_pointer.specs.Press.{buttons_number}
use Rattle.image_keys.specs.Keys.{bits_number}
use Rattle.image_history.specs.History.{history_el}
use Rattle.image_events.specs.Events.{events_el}
use Rattle.image_devices.specs.Devices.{devices_el}
use Rattle.image_form.specs.Form.{image}
use Rattle.image_form.specs.Fresh.{clock_words, screen_words, options_words, press_words, wheel_words, keys_words, sums_words, fresh_words, FreshImage}

pub fresh_image : FreshImage
unfolding opened image write all option_words zeros size maybe_pos_el maybe_vec_el maybe_time_el buttons_number bits_number numbers_of history_el events_el devices_el clock_words screen_words options_words press_words wheel_words keys_words sums_words fresh_words
fresh_image = refl
