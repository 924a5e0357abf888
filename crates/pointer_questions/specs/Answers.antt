-- When an answer is the model's: its `reply` to the question, of every panel that shows this pointer, whatever else it shows.
use Rattle.std.specs.Prelude.{ℕ, ◌≡◌, List, Float, Option}
use Rattle.model.specs.Pass.{Panel}
use Rattle.model.specs.Questions.{Settled, Question, Reply, Shown, reply, ask}
use Rattle.pointer_place.specs.declared.Place.{Place}
use Rattle.pointer_clicks.specs.declared.Held.{Held}
use Rattle.pointer_clicks.specs.declared.ClickPast.{ClickPast}
use Rattle.pointer_place.specs.View.{place}
use Rattle.pointer_clicks.specs.View.{held, past}

-- a question that reads where the pointer is; the history's lent places don't matter
abbrev pub OfPlace : Settled → Place → Reply → Type 0
OfPlace q p a = (times positions : List Float) (s : Shown) → s.place ≡ place times positions p → reply q s ≡ a

-- a question that reads buttons and events, of the lent places only the codes
abbrev pub OfHeld : Settled → List ℕ → Held → Reply → Type 0
OfHeld q codes h a = (positions : List Float) (s : Shown) → s.held ≡ held codes positions h → reply q s ≡ a

-- one that reads neither array
abbrev pub OfButtons : Settled → Held → Reply → Type 0
OfButtons q h a = (codes : List ℕ) → OfHeld q codes h a

abbrev pub OfBoth : Settled → Place → Held → Reply → Type 0
OfBoth q p h a =
    (times positions : List Float) (codes : List ℕ) (places : List Float) (s : Shown) → s.place ≡ place times positions p → s.held ≡ held codes places h → reply q s ≡ a

-- one that reads the clicks
abbrev pub OfPast : Question → Float → ClickPast → Reply → Type 0
OfPast q time p a = (s : Panel) → s.clock.pointer_time ≡ time → s.press.past ≡ past p → ask q s ≡ a

-- one that reads the last movement's time
abbrev pub OfLastMove : Question → Float → Option Float → Reply → Type 0
OfLastMove q time last a = (s : Panel) → s.clock.pointer_time ≡ time → s.last_move_time ≡ last → ask q s ≡ a
