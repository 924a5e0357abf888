use Rattle.feed.proofs.Nan.{no_nan}
use Rattle.std.proofs.Common.{rules}
use Rattle.bench_calls.proofs.sums.double.Goals as goal

pub float_to_bits-x : goal.float_to_bits-x
float_to_bits-x c = no_nan c.args.x c.if-x.false
