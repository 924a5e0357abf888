use Prim.Native.Nat.{◌<◌}
use lib.ListN.{length}
use borrow.Author.Rules.{rules}
use Rattle.data.specs.Limits.{max_events}
use Rattle.event_loop.specs.Lists.{listed}
use Rattle.event_loop.proofs.Rows.{room, counted, still_long, row_last, row_other}
use Rattle.event_loop.proofs.lists.Lists.push.Goals as goal

pub bounds-self-k : goal.bounds-self-k
unfolding listed
bounds-self-k c =
    let s = c.args.self.now in
    let n = c.number-list.ensures in
    room s.places s.counts _ max_events (s.long _ n.below) (s.within _) (rw n.number c.requires)

pub invariant_of-self : goal.invariant_of-self
unfolding listed
invariant_of-self c =
    let s = c.args.self.now in
    let i = c.number-list.result in
    let n = c.number-list.ensures in
    let here : i < length s.counts = search rules in
    let there : i < length s.places = search rules in
    record {
      long = still_long s.places i _ c.args.at max_events there s.long n.below;
      within = counted s.counts i max_events s.within here (room s.places s.counts i max_events (s.long i n.below) (s.within i) (rw n.number c.requires));
    }

pub returns-clause-last : goal.returns-clause-last
unfolding listed
returns-clause-last c =
    let s = c.args.self.now in
    let i = c.number-list.result in
    let n = c.number-list.ensures in
    let here : i < length s.counts = search rules in
    let there : i < length s.places = search rules in
    let free = room s.places s.counts i max_events (s.long i n.below) (s.within i) (rw n.number c.requires) in
    rw (← n.number) (row_last s.places s.counts i c.args.at there here (rw (s.long i n.below) free))

pub returns-clause-others : goal.returns-clause-others
unfolding listed
returns-clause-others c l other = row_other c.args.self.now.places c.args.self.now.counts c.number-list.result l _ _ (rw c.number-list.ensures.number other)
