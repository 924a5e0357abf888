-- What a pass and an interact promise of every panel that shows what they are given.
use Rattle.std.specs.Prelude.{ℕ, ◌≡◌, List, Float, length, Option, Result}
use Rattle.model.specs.Types.{WidgetRect}
use Rattle.model.specs.Pass.{Panel}
use Rattle.model.specs.Interact as Model
use Rattle.model.specs.Widgets as Widgets
use Rattle.pointer_place.specs.View.{place}
use Rattle.pointer_state.specs.View.{press}
use Rattle.touch_state.specs.declared.devices.Devices.{Devices}
use Rattle.touch_state.specs.View.{view}
use Rattle.key_state.specs.declared.keys.Keys.{Keys}
use Rattle.key_state.specs.View.{keys}
use Rattle.hit_lists.specs.declared.Hit.{Hit}
use Rattle.hit_refusals.specs.Refusals.{input}
use Rattle.widget_index.specs.declared.table.WidgetRects.{WidgetRects}
use Rattle.widget_index.specs.Table as Table
use Rattle.widget_rect.specs.WellFormed.{WellFormed}
use Rattle.interaction_state.specs.declared.state.Interaction.{Interaction}
use Rattle.interaction_state.specs.declared.state.Answer.{Answer}
use Rattle.data.specs.declared.refusal.InteractRefusal.{InteractRefusal}
use Rattle.interaction_state.specs.declared.state.Seen.{Seen}
use Rattle.interaction_state.specs.View.{interaction_of}
use Rattle.interaction_events.specs.View.{seen_of}
use Rattle.interaction_state.specs.Lookup.{lookup}
use Rattle.interaction.specs.Post as Post
use Rattle.input_state.specs.declared.clock.Clock.{Clock}
use Rattle.input_state.specs.declared.screen.Screen.{Screen}
use Rattle.input_state.specs.declared.pointer.Pointer.{Pointer}
use Rattle.input_state.specs.View.{clock, screen}

-- panel p shows the input that an interact reads: these records and, of the lent arrays, these codes and presses
pub record ShowsInput (c : Clock) (s : Screen) (x : Pointer) (ds : Devices) (codes presses : List ℕ) (p : Panel) : Type 0 where
  pub clock_is : p.clock ≡ clock c
  pub screen_is : p.screen ≡ screen s
  pub times : List Float
  pub positions : List Float
  pub place_is : p.place ≡ place times positions x.place
  pub places : List Float
  pub press_is : p.press ≡ press codes places x.press
  pub started_is : p.started_decidedly_dragging ≡ x.started_decidedly_dragging
  pub devices_are : p.touch_states ≡ view ds
  pub other_keys : Keys
  pub keys_are : p.keys ≡ keys presses other_keys

-- what an interact reads of them
abbrev pub Sees : Clock → Screen → Pointer → Devices → List ℕ → List ℕ → Seen → Type 0
Sees c s x ds codes presses r =
    (p : Panel) → ShowsInput c s x ds codes presses p → Model.seen p ≡ seen_of r p.press.held.pointer_events

-- the widgets of a set, by id
abbrev pub widgets_of : WidgetRects → List ℕ → List ℕ → List Float → ℕ → Option WidgetRect
widgets_of set words numbers edges d = Widgets.get d (Table.view set words numbers edges)

-- An interact of every panel p that shows these records: the model's `interact`, refused or taken.
pub record Interacts (c : Clock) (s : Screen) (x : Pointer) (ds : Devices) (codes presses : List ℕ) (n : Interaction) (tally : ℕ)
    (set : WidgetRects) (words numbers close within : List ℕ) (click drag : Option Hit) (hovered contains : List ℕ)
    (r : Result Answer InteractRefusal) (hovered' contains' : List ℕ) : Type 0 where
  -- of any set, by its own lookup, whatever its rectangles
  pub own : (p : Panel) → ShowsInput c s x ds codes presses p → p.interaction ≡ interaction_of n → p.tally ≡ tally → (edges : List Float)
      → Post.Interacts p (Model.interact p (input (lookup set words numbers edges) close within click drag (length hovered) (length contains))) r hovered contains hovered' contains'
  -- of a set that the operations made, by the model's `get`
  pub model : (p : Panel) → ShowsInput c s x ds codes presses p → p.interaction ≡ interaction_of n → p.tally ≡ tally → (edges : List Float)
      → WellFormed set words numbers edges
      → Post.Interacts p (Model.interact p (input (widgets_of set words numbers edges) close within click drag (length hovered) (length contains))) r hovered contains hovered' contains'
