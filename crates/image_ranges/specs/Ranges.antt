-- The ranges of an image's fields hold of every panel that passes and interacts reach. Statements only.
use Rattle.std.specs.Prelude.{List}
use Rattle.model.specs.Pass.{Panel, fresh}
use Rattle.model.specs.Calls.{Call, run}
use Rattle.image_clock.specs.Clock.{ClockOk}
use Rattle.image_screen.specs.Screen.{ScreenOk}

-- the fields of groups 1 to 9 whose ranges leave values out, of those that a panel can hold
abbrev pub Ranged : Panel → Type 0
Ranged p = ClockOk p.clock × ScreenOk p.screen

-- calls, refused ones included, stay in range, from whatever panel they go on
abbrev pub RunsStayInRange : Type 0
RunsStayInRange = (p : Panel) → Ranged p → (calls : List Call) → Ranged (run p calls)

-- 02 A.6: "of a panel that the operations gave"
abbrev pub EveryRunIsInRange : Type 0
EveryRunIsInRange = (calls : List Call) → Ranged (run fresh calls)
