-- Group 3, where the pointer is: its code, the value that stands for the model's record without its history, and back.
use Rattle.std.specs.Prelude.{ℕ, List}
use Rattle.emath.specs.History.{Sample}
use Rattle.model.specs.Pointer.{Place}
use Rattle.image.specs.Codes.{Code, both, group, El}
use Rattle.image_options.specs.Options.{pair, maybe_pair, vec_el, vec_of, maybe_pos_el, maybe_pos_of, maybe_vec_el, maybe_vec_of}

-- the place of its leading word
abbrev pub place_place : ℕ
place_place = 26

-- any values: sums made inside may overflow, and a direction can be no number
abbrev pub place_code : Code
place_code = group 3 (both maybe_pair (both maybe_pair (both pair (both maybe_pair (both pair pair)))))

abbrev pub place_el : Place → El place_code
place_el p =
    (maybe_pos_el p.latest_pos, (maybe_pos_el p.interact_pos, (vec_el p.delta, (maybe_vec_el p.motion, (vec_el p.velocity, vec_el p.direction)))))

abbrev pub place_of : El place_code → List Sample → Place
place_of v samples =
    record {
      latest_pos = maybe_pos_of v.0;
      interact_pos = maybe_pos_of v.1.0;
      delta = vec_of v.1.1.0;
      motion = maybe_vec_of v.1.1.1.0;
      velocity = vec_of v.1.1.1.1.0;
      direction = vec_of v.1.1.1.1.1;
      pos_history = samples;
    }
