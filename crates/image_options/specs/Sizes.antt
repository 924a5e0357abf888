-- How many words the values of two words take.
use Rattle.std.specs.Prelude.{◌≡◌, refl, length}
use Rattle.image.specs.Codes.{double, id, El, write, size}
use Rattle.image_words.specs.Leaves.{any, any_id}
use Rattle.image_options.specs.Options.{pair}

pub pair_size : size pair ≡ 2
unfolding size
pair_size = refl

pub pair_long : (v : El pair) → length (write pair v) ≡ 2
unfolding write
pair_long v = refl

pub double_size : size (double any) ≡ 2
unfolding size
double_size = refl

pub double_long : (v : El (double any)) → length (write (double any) v) ≡ 2
unfolding write
double_long v = refl

pub id_size : size (id any_id) ≡ 2
unfolding size
id_size = refl

pub id_long : (v : El (id any_id)) → length (write (id any_id) v) ≡ 2
unfolding write
id_long v = refl
