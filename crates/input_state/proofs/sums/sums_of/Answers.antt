use lib.Ieee.{of_bits}
use Rattle.model.specs.Pass.{sums_of}
use Rattle.input_state.proofs.sums.sums_of.Goals as goal

pub returns-then-matches_any : goal.returns-then-matches_any
unfolding sums_of
returns-then-matches_any c = rw (← c.matches_any.ensures, c.if-matches_any.true, c.zero.ensures, c.rotation_of-rotation_radians.ensures, c.zoom_of-zoom_factor.ensures)

pub returns : goal.returns
unfolding sums_of of_bits
returns c = rw (← c.matches_any.ensures, c.if-matches_any.false, c.rotation_of-rotation_radians.ensures, c.zoom_of-zoom_factor.ensures)
