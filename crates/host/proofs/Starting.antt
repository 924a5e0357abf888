-- A fresh panel in memory, from `panel`'s fresh one. Assumes nothing.
use Prim.Native.Nat.{ℕ}
use mathlib.Core.Path.{◌≡◌, refl, sym, ap, ◌∙◌, subst}
use mathlib.Core.Bool.{Bool}
use mathlib.Core.List.{List, []}
use lib.ListN.{get_or}
use lib.Ieee.{Float}
use Rattle.model.specs.Pointer.{no_buttons, flags_down, CountTrue}
use Rattle.model.specs.Pass.{fresh, fresh_press}
use Rattle.model.specs.Pass as Model
use Rattle.touch_state.specs.View.{view}
use Rattle.interaction_state.specs.View.{interaction_of}
use Rattle.input_state.specs.View.{Lent, lent, panel}
use Rattle.panel.specs.declared.state.Panel.{Panel}
use Rattle.panel.specs.View.{Fresh}
use Rattle.host_input.specs.Places as at
use Rattle.host_input.specs.Held.{input_of}
use Rattle.host_input.specs.Kept.{counts_of}
use Rattle.host_pass.specs.Memory.{Starts}

module _ (presses : List ℕ) (r : Panel) (f : Fresh presses r) where
  no_devices : (l : Lent) → l.presses ≡ presses → [] ≡ view r.devices
  unfolding fresh
  no_devices l e = sym (ap (λ (p : Model.Panel). p.touch_states) (f.shows_fresh l e))

  pub no_button_down : CountTrue r.input.pointer.press.held.down
  unfolding fresh fresh_press no_buttons flags_down
  no_button_down = subst CountTrue (sym (ap (λ (p : Model.Panel). p.press.held.down) (f.shows_fresh (lent [] [] [] [] presses) refl))) refl

  pub starts : (ts fs : List Float) (ns : List ℕ) (bs : List Bool) (ks : List ℕ) (n : Model.Interaction) (t : ℕ)
      → input_of ts fs ns bs ks ≡ r.input → ns ≡ counts_of r.input 0 → n ≡ interaction_of r.interaction → t ≡ r.tally
      → Starts ts fs ns bs ks presses n t
  starts ts fs ns bs ks n t es ec en et =
      record {
        no_device = ap (λ (l : List ℕ). get_or l at.devices 0) ec;
        no_press = f.no_press;
        shows_fresh = λ l e.
            ap (λ s. panel l s [] n t) es
            ∙ ap (λ vs. panel l r.input vs n t) (no_devices l e)
            ∙ ap (λ m. panel l r.input (view r.devices) m t) en
            ∙ ap (λ k. panel l r.input (view r.devices) (interaction_of r.interaction) k) et
            ∙ f.shows_fresh l e;
      }
