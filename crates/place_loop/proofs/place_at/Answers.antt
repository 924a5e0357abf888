use borrow.Enum.Refused.{opened}
use mathlib.Core.Path.{refl, sym, ◌∙◌}
use native.Mathlib.Omega.{arith}
use Rattle.data.specs.Kinds.{moved_kind, motion_kind, button_kind, gone_kind}
use Rattle.model.specs.Pointer.{place_event}
use Rattle.event_loop.proofs.OfKind.{not_of_kind, is_other}
use Rattle.place_loop.proofs.Loops.{place_idle}
use Rattle.place_loop.proofs.place_at.Goals as goal

pub returns-in_default-moved_at : goal.returns-in_default-moved_at
unfolding place_event
returns-in_default-moved_at c =
    let k = sym c.kind_at.ensures ∙ c.in-3.is in
    rw (is_other _ _ 2 _ k c.moved_at.ensures (opened c.in_default-moved_at.in_default-moved_at-own.keys2) tt) (record { result = λ times positions. refl; start = refl })

pub returns-in_default-motion_at : goal.returns-in_default-motion_at
unfolding place_event
returns-in_default-motion_at c =
    let k = sym c.kind_at.ensures ∙ c.in-4.is in
    rw (is_other _ _ 3 _ k c.motion_at.ensures (opened c.in_default-motion_at.in_default-motion_at-own.keys2) tt) (record { result = λ times positions. refl; start = refl })

pub returns-in_default-button_at : goal.returns-in_default-button_at
unfolding place_event
returns-in_default-button_at c =
    let k = sym c.kind_at.ensures ∙ c.in-5.is in
    rw (is_other _ _ 4 _ k c.button_at.ensures (opened c.in_default-button_at.in_default-button_at-own.keys2) tt) (record { result = λ times positions. refl; start = refl })

pub returns-in_default-gone_at : goal.returns-in_default-gone_at
unfolding place_event
returns-in_default-gone_at c =
    let k = sym c.kind_at.ensures ∙ c.in-6.is in
    rw (is_other _ _ 5 _ k c.gone_at.ensures (opened c.in_default-gone_at.in_default-gone_at-own.keys2) tt) (record { result = λ times positions. refl; start = refl })

pub returns-in-PointerButton : goal.returns-in-PointerButton
returns-in-PointerButton c =
    rw (← c.button_at.ensures, c.in-PointerButton.is) (c.button_place.ensures _ _)

pub returns-in_default : goal.returns-in_default
returns-in_default c =
    let k = c.kind_at.ensures in
    let r = c.in_default.in_default-own.rest in
    record {
      result =
          λ times positions.
          sym
          (place_idle _ _
          (not_of_kind _ _ moved_kind (λ e. r.0.0.0.1 (k ∙ e)) (λ e. omega arith))
          (not_of_kind _ _ motion_kind (λ e. r.0.0.1 (k ∙ e)) (λ e. omega arith))
          (not_of_kind _ _ button_kind (λ e. r.0.1 (k ∙ e)) (λ e. omega arith))
          (not_of_kind _ _ gone_kind (λ e. r.1 (k ∙ e)) (λ e. omega arith)));
      start = refl;
    }
