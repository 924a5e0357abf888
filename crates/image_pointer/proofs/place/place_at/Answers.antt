use Rattle.image.specs.Places.{value_at, span}
use Rattle.image.specs.Codes.{size}
use Rattle.image_options.specs.Options.{pair, pos_of, vec_of, maybe_pos_of, maybe_vec_of}
use Rattle.image_pointer.proofs.place.place_at.Goals as goal

pub returns : goal.returns
unfolding value_at span size maybe_pos_of maybe_vec_of
returns c = λ ts ps.
    let l = c.maybe_at-latest_pos.ensures pair pos_of c.pos_at.ensures in
    let i = c.maybe_at-interact_pos.ensures pair pos_of c.pos_at-2.ensures in
    let m = c.maybe_at-motion.ensures pair vec_of c.vec_at.ensures in
    rw (c.vec_at-direction.ensures, c.vec_at-velocity.ensures, m, c.vec_at-delta.ensures, i, l)
