-- Written by compare/vectors/opened.py: the definitions that a theorem evaluates. One that says `unfolding opened` computes with all of them.
use Rattle.theorems.specs.Balance as theorems_Balance
use Rattle.theorems.specs.Clearing as theorems_Clearing
use Rattle.theorems.specs.Example as theorems_Example
use Rattle.model.proofs.Opened as Model

unfoldable pub theorems_balance : Type 1
unfolding theorems_Balance.one_if_is theorems_Balance.starts theorems_Balance.stops theorems_Balance.last_dragged theorems_Balance.all_starts
theorems_balance = Type 0

unfoldable pub theorems_clearing : Type 1
unfolding theorems_Clearing.is_ended theorems_Clearing.button_event theorems_Clearing.first_button theorems_Clearing.is_no_place theorems_Clearing.may_differ
theorems_clearing = Type 0

unfoldable pub theorems_example : Type 1
unfolding theorems_Example.hundred theorems_Example.zero32 theorems_Example.corner theorems_Example.screen theorems_Example.pass_at theorems_Example.on_widget theorems_Example.on_nothing theorems_Example.drag_without_end theorems_Example.clearing_pass theorems_Example.press_pass theorems_Example.malformed_pass theorems_Example.release_pass theorems_Example.later
theorems_example = Type 0

unfoldable pub opened : Type 1
unfolding theorems_balance theorems_clearing theorems_example Model.opened
opened = Type 0
