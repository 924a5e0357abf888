use mathlib.Core.Logic.{inl, inr}
use Rattle.model.specs.Touch.{on_touch, insert_touch, move_touch, remove_touch}
use Rattle.touches.specs.Touches.{if_room, on_touch_if_room}
use Rattle.touches.proofs.first.Goals as goal

pub returns-in-Start : goal.returns-in-Start
unfolding on_touch_if_room if_room on_touch insert_touch
returns-in-Start c = rw c.in-Start.is

pub returns-in-Move : goal.returns-in-Move
unfolding on_touch_if_room if_room on_touch move_touch remove_touch
returns-in-Move c =
    elim c.in-Move.is [
      | inl e ↦ rw (e, c.none.ensures)
      | inr e ↦ elim e [
        | inl f ↦ rw (f, c.none.ensures)
        | inr f ↦ rw (f, c.none.ensures)
      ]
    ]
