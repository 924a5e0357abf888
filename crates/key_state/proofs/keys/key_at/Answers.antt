use borrow.Enum.Refused.{opened}
use Rattle.data.specs.Kinds.{key_kind, modifiers_kind, focus_kind}
use Rattle.model.specs.Pass.{key_event}
use Rattle.key_state.proofs.Idle.{key_idle}
use Rattle.event_loop.proofs.OfKind.{not_of_kind, is_other, fields}
use Rattle.key_state.proofs.Steps.{named_below}
use native.Mathlib.Omega.{arith}
use mathlib.Core.Path.{refl, sym, ◌∙◌}
use Rattle.key_state.proofs.keys.key_at.Goals as goal

pub returns-in_default : goal.returns-in_default
unfolding key_event
returns-in_default c =
    let k = sym c.kind_at-kind.ensures ∙ c.if-kind-eq-KEY_KIND.true in
    rw (is_other _ _ 0 _ k c.key_at-e.ensures (opened c.in_default.in_default-own.keys2) tt) (record { result = refl; places = refl })

pub key-requires : goal.key-requires
key-requires c =
    let a = c.args in
    let named = rw (← c.key_at-e.ensures, c.in-Key.is) at (fields a.feed.now a.at) in
    record { place_lt_key_count = named_below _ _ named; room = c.requires }

pub returns-then-kind-eq-KEY_KIND : goal.returns-then-kind-eq-KEY_KIND
returns-then-kind-eq-KEY_KIND c =
    rw (← c.key_at-e.ensures, c.in-Key.is) c.key.ensures

pub returns-in_default-e : goal.returns-in_default-e
unfolding key_event
returns-in_default-e c =
    let k = sym c.kind_at-kind.ensures ∙ c.if-kind-eq-MODIFIERS_KIND.true in
    rw (is_other _ _ 1 _ k c.modifiers_at-e.ensures (opened c.in_default-e.in_default-e-own.keys2) tt) (record { result = refl; places = refl })

pub returns-then-kind-eq-MODIFIERS_KIND : goal.returns-then-kind-eq-MODIFIERS_KIND
unfolding key_event
returns-then-kind-eq-MODIFIERS_KIND c =
    rw (← c.modifiers_at-e.ensures, c.in-ModifiersChanged.is) (record { result = refl; places = refl })

pub returns-in_default-e-2 : goal.returns-in_default-e-2
unfolding key_event
returns-in_default-e-2 c =
    let k = sym c.kind_at-kind.ensures ∙ c.if-kind-eq-FOCUS_KIND.true in
    rw (is_other _ _ 10 _ k c.focus_at-e.ensures (opened c.in_default-e-2.in_default-e-2-own.keys2) tt) (record { result = refl; places = refl })

pub returns-then-kind-eq-FOCUS_KIND : goal.returns-then-kind-eq-FOCUS_KIND
returns-then-kind-eq-FOCUS_KIND c =
    rw (← c.focus_at-e.ensures, c.in-WindowFocused.is) (record { result = c.focus.ensures c.args.presses.now; places = refl })

pub returns : goal.returns
returns c =
    let k = c.kind_at-kind.ensures in
    let idle =
    key_idle _ _
    (not_of_kind _ _ key_kind (λ e. c.if-kind-eq-KEY_KIND.false (k ∙ e)) (λ e. omega arith))
    (not_of_kind _ _ modifiers_kind (λ e. c.if-kind-eq-MODIFIERS_KIND.false (k ∙ e)) (λ e. omega arith))
    (not_of_kind _ _ focus_kind (λ e. c.if-kind-eq-FOCUS_KIND.false (k ∙ e)) (λ e. omega arith)) in
    record { result = sym idle; places = refl }
