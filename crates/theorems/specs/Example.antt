-- Two panels that meet all that Clearing supposes: one holds a drag whose release and whose touch's End were lost, the other is fresh. Definitions only.
use Rattle.std.specs.Prelude.{ℕ, ◌≡◌, true, false, cond, List, [], ◌∷◌, eqb, Float, None, Some}
use Rattle.std.specs.Float.{binary32, binary64}
use Rattle.std.specs.Float.Ieee.{of_bits}
use Rattle.model.specs.Options.{default_options}
use Rattle.model.specs.Types.{Pos2, Rect, WidgetRect}
use Rattle.model.specs.Pass.{PassInput, Panel, fresh}
use Rattle.model.specs.Interact.{Hit, InteractInput}
use Rattle.model.specs.Questions.{ask, settled, dragged, widget, tally, count}
use Rattle.model.specs.Calls.{Call, passes, interacts, run}
use Rattle.theorems.specs.Clearing.{Clears, Takes, Fair, twice}

-- 100.0
unfoldable pub hundred : Float
hundred = of_bits binary32 0x42c8_0000

unfoldable pub zero32 : Float
zero32 = of_bits binary32 0

unfoldable pub corner : Pos2
corner = record { x = zero32; y = zero32 }

unfoldable pub screen : Rect
screen = record { min = corner; max = record { x = hundred; y = hundred } }

-- a pass with the default options, at a time given by its f64 bits, and a feed
unfoldable pub pass_at : ℕ → List ℕ → PassInput
pass_at t feed =
    record {
      time = Some (of_bits binary64 t);
      screen_rect = Some screen;
      predicted_dt = zero32;
      smoothing_factor = zero32;
      pixels_per_point = of_bits binary32 0x3f80_0000;
      focused = true;
      requested_repaint = false;
      options = default_options;
      feed = feed;
    }

-- 1.0, 2.0 and 3.0 seconds
abbrev pub one_second : ℕ
one_second = 0x3ff0_0000_0000_0000

abbrev pub two_seconds : ℕ
two_seconds = 0x4000_0000_0000_0000

abbrev pub three_seconds : ℕ
three_seconds = 0x4008_0000_0000_0000

-- widget 5 senses drags and lies under the pointer
unfoldable pub on_widget : InteractInput
on_widget =
    let w : WidgetRect = record { id = 5; parent_id = 1; layer_id = record { order = 0; id = 1 }; rect = screen; interact_rect = screen; sense = 2; enabled = true; visible = true } in
    let h : Hit = record { id = 5; sense = 2 } in
    record { widgets = λ d. cond (eqb d 5) (Some w) None; close = h ∷ []; contains_pointer = h ∷ []; click = None; drag = Some h; hovered_places = 66; contains_places = 66 }

unfoldable pub on_nothing : InteractInput
on_nothing = record { widgets = λ d. None; close = []; contains_pointer = []; click = None; drag = None; hovered_places = 66; contains_places = 66 }

-- a primary press and the Start of touch 1 of device 7, both at (10, 20), on the widget: nothing of it ends
unfoldable pub drag_without_end : List Call
drag_without_end =
    passes (pass_at one_second (0x5000_0100 ∷ 0x4120_0000 ∷ 0x41a0_0000 ∷ 0x9000_0000 ∷ 7 ∷ 0 ∷ 1 ∷ 0 ∷ 0x4120_0000 ∷ 0x41a0_0000 ∷ []))
    ∷ interacts on_widget
    ∷ []

-- the clearing pass at 2.0 s: End of that touch; the five releases at (0, 0); relative motion; wheel End; focus lost; pointer gone
unfoldable pub clearing_pass : PassInput
clearing_pass =
    pass_at two_seconds
    (0x9000_0002 ∷ 7 ∷ 0 ∷ 1 ∷ 0 ∷ 0 ∷ 0 ∷ 0x5000_0000 ∷ 0 ∷ 0 ∷ 0x5000_0020 ∷ 0 ∷ 0 ∷ 0x5000_0040 ∷ 0 ∷ 0 ∷ 0x5000_0060 ∷ 0 ∷ 0 ∷ 0x5000_0080 ∷ 0 ∷ 0
    ∷ 0x4000_0000 ∷ 0 ∷ 0 ∷ 0xa000_0100 ∷ 0 ∷ 0 ∷ 0xb000_0000 ∷ 0x6000_0000 ∷ [])

-- at 3.0 s a press on the widget; then a malformed feed; then its release
unfoldable pub press_pass : PassInput
press_pass = pass_at three_seconds (0x5000_0100 ∷ 0x4120_0000 ∷ 0x41a0_0000 ∷ [])

unfoldable pub malformed_pass : PassInput
malformed_pass = pass_at three_seconds (0 ∷ [])

unfoldable pub release_pass : PassInput
release_pass = pass_at three_seconds (0x5000_0000 ∷ 0x4120_0000 ∷ 0x41a0_0000 ∷ [])

unfoldable pub later : List Call
later = passes press_pass ∷ interacts on_widget ∷ passes malformed_pass ∷ passes release_pass ∷ interacts on_widget ∷ []

-- all that Clearing supposes of them
pub record Example : Type 0 where
  pub p : Panel
  pub q : Panel
  pub clears : Clears clearing_pass (run fresh drag_without_end) fresh
  pub takes_p : Takes drag_without_end clearing_pass on_nothing p
  pub takes_q : Takes [] clearing_pass on_nothing q
  pub fair : Fair (λ o. o ≡ clearing_pass.options) (twice clearing_pass.options.max_double_click_delay) clears.time false p q later
  -- before it, one drags the widget; after it, the tallies differ
  pub p_drags : ask (settled dragged) (run fresh drag_without_end) ≡ widget (Some 5)
  pub q_drags_none : ask (settled dragged) fresh ≡ widget None
  pub p_tally : ask tally p ≡ count 1
  pub q_tally : ask tally q ≡ count 0
