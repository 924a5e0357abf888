use mathlib.Core.Path.{refl, sym, ap, ◌∙◌}
use Rattle.std.proofs.lemmas.Result.{err_from_is_err_and}
use Rattle.survey.specs.Survey.{option}
use Rattle.input_pass.proofs.Passed.{own_refused, surveyed, devices_held, ready, refused_pass, taken_pass}
use Rattle.input_pass.proofs.begin.begin_pass.Goals as goal

pub returns-in_err-own_refusal : goal.returns-in_err-own_refusal
unfolding option
returns-in_err-own_refusal c =
    let q = err_from_is_err_and c.from_residual.result c.from_residual.ensures.1 in
    let own = sym (c.own_refusal.ensures c.args.feed.now) ∙ ap option c.in_err-own_refusal.was in
    let first = own_refused _ _ _ _ _ own in
    rw (q.1, q.2) (refused_pass _ _ _ _ _ _ _ _ (sym first) refl refl refl refl)

pub returns-in_err-devices : goal.returns-in_err-devices
unfolding option
returns-in_err-devices c =
    let q = err_from_is_err_and c.from_residual-in_err-devices.result c.from_residual-in_err-devices.ensures.1 in
    let own = sym (c.own_refusal.ensures c.args.feed.now) ∙ ap option c.in_ok-own_refusal.was in
    let passed = rw c.places-touches.ensures.listed at c.in_err-devices.ensures in
    let first = passed.refusal ∙ surveyed _ _ _ _ _ _ own c.read-later.ensures in
    rw (q.1, q.2) (refused_pass _ _ _ _ _ _ _ _ first refl refl refl refl)

pub act-state-requires : goal.act-state-requires
unfolding option
act-state-requires c =
    let own = sym (c.own_refusal.ensures c.args.feed.now) ∙ ap option c.in_ok-own_refusal.was in
    let passed = rw c.places-touches.ensures.listed at c.in_ok-devices.ensures in
    let first = passed.refusal ∙ surveyed _ _ _ _ _ _ own c.read-later.ensures in
    ready _ _ _ _ _ _ own c.read-later.ensures (sym first)

pub returns : goal.returns
unfolding option
returns c =
    let own = sym (c.own_refusal.ensures c.args.feed.now) ∙ ap option c.in_ok-own_refusal.was in
    let read = c.read-later.ensures in
    let passed = rw c.places-touches.ensures.listed at c.in_ok-devices.ensures in
    let first = passed.refusal ∙ surveyed _ _ _ _ _ _ own read in
    taken_pass _ _ _ _ _ _ _ _ _ _ first refl (devices_held _ _ _ _ _ _ own read) (ready _ _ _ _ _ _ own read) c.time_of-time.ensures
    passed.devices c.act-state.ensures
