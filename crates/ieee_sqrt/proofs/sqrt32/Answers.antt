use mathlib.Core.Path.{refl, sym, subst}
use lib.Dec.{T}
use lib.Ieee.{binary32, fits}
use Rattle.ieee_sqrt.proofs.Special.{negative_root, own_root, some_bits, infinity_root, rooted_at, rooted_no_nan}
use Rattle.ieee_sqrt.proofs.sqrt32.Goals as goal
use Rattle.ieee_sqrt.proofs.sqrt32.Goals.{Start}

-- what owning the float tells: the format holds it
held : (c : Start) → T (fits binary32 c.args.x)
held c = subst T (sym c.well_formed.0.1) tt

pub returns-then-x : goal.returns-then-x
returns-then-x c = negative_root binary32 c.args.x (subst T (sym c.if-x.true) tt)

pub root_bits-requires : goal.root_bits-requires
root_bits-requires c =
    record { format = binary32; keeps = refl; least = refl; above = some_bits binary32 c.args.x (held (goal.at.root_bits-requires c).Start) (subst T (sym c.if-x-2.true) tt); below = c.if-b-lt2139095040.true }

pub float_from_bits-result : goal.float_from_bits-result
float_from_bits-result c =
    rooted_no_nan binary32 c.root_bits.result (rooted_at binary32 c.args.x c.root_bits.result (held (goal.at.float_from_bits-result c).Start) c.if-b-lt2139095040.true c.root_bits.ensures).0

pub returns-then-b-lt2139095040 : goal.returns-then-b-lt2139095040
returns-then-b-lt2139095040 c =
    (rooted_at binary32 c.args.x c.root_bits.result (held (goal.at.returns-then-b-lt2139095040 c).Start) c.if-b-lt2139095040.true c.root_bits.ensures).1

pub returns-else-b-lt2139095040 : goal.returns-else-b-lt2139095040
returns-else-b-lt2139095040 c =
    infinity_root binary32 c.args.x (held (goal.at.returns-else-b-lt2139095040 c).Start) (subst T (sym c.if-x-2.true) tt) c.if-b-lt2139095040.false

pub returns-else-x-2 : goal.returns-else-x-2
returns-else-x-2 c = own_root binary32 c.args.x c.if-x.false c.if-x-2.false
