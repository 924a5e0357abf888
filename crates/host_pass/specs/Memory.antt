-- What the host's arrays hold between two calls.
use Rattle.std.specs.Prelude.{ℕ, ◌≡◌, Bool, List, [], get_or, replicate, Float, Option, None}
use Rattle.model.specs.Types.{PassRefusal}
use Rattle.model.specs.Touch.{TouchState, InOrder}
use Rattle.data.specs.Limits.{key_count}
use Rattle.model.specs.Pass.{fresh}
use Rattle.model.specs.Pass as Model
use Rattle.survey.specs.Survey.{fits_events}
use Rattle.input_state.specs.declared.state.InputState.{InputState}
use Rattle.input_state.specs.View.{Lent, panel, input, begin_by, Storage}
use Rattle.input_pass.specs.Begun.{refusal_of, outcome}
use Rattle.host_touch.specs.All.{known_of}
use Rattle.host_input.specs.Places as at
use Rattle.host_input.specs.Held.{input_of}
use Rattle.host_pass.specs.declared.HostPass.{HostPass}
use Rattle.host_pass.specs.declared.HostRefusal.{HostRefusal}
use Rattle.host_pass.specs.Given.{given_of, answer_of}

-- five arrays for the records, three for each of four touch devices, and the times at which their gestures started
pub record Memory : Type 0 where
  pub seconds : List Float
  pub floats : List Float
  pub counts : List ℕ
  pub flags : List Bool
  pub keys_down : List ℕ
  pub ids0 : List ℕ
  pub floats0 : List Float
  pub flags0 : List Bool
  pub ids1 : List ℕ
  pub floats1 : List Float
  pub flags1 : List Bool
  pub ids2 : List ℕ
  pub floats2 : List Float
  pub flags2 : List Bool
  pub ids3 : List ℕ
  pub floats3 : List Float
  pub flags3 : List Bool
  pub starts : List Float

abbrev pub memory : List Float → List Float → List ℕ → List Bool → List ℕ
    → List ℕ → List Float → List Bool
    → List ℕ → List Float → List Bool
    → List ℕ → List Float → List Bool
    → List ℕ → List Float → List Bool
    → List Float → Memory
memory ts fs ns bs ks i0 f0 b0 i1 f1 b1 i2 f2 b2 i3 f3 b3 ss =
    record {
      seconds = ts;
      floats = fs;
      counts = ns;
      flags = bs;
      keys_down = ks;
      ids0 = i0;
      floats0 = f0;
      flags0 = b0;
      ids1 = i1;
      floats1 = f1;
      flags1 = b1;
      ids2 = i2;
      floats2 = f2;
      flags2 = b2;
      ids3 = i3;
      floats3 = f3;
      flags3 = b3;
      starts = ss;
    }

-- the input state, and the devices that are known
abbrev pub state : Memory → InputState
state m = input_of m.seconds m.floats m.counts m.flags m.keys_down

abbrev pub devices : Memory → List TouchState
devices m =
    known_of (get_or m.counts at.devices 0) m.starts
    m.ids0 m.floats0 m.flags0
    m.ids1 m.floats1 m.flags1
    m.ids2 m.floats2 m.flags2
    m.ids3 m.floats3 m.flags3

-- the refusal of a pass, if there is one
abbrev pub refusal : HostPass → List ℕ → Memory → Option PassRefusal
refusal g ws m = refusal_of (given_of g) ws (state m).clock.time (devices m)

-- the model's panel after the events of a taken pass, for any interaction and tally beside it
abbrev pub begun : HostPass → List ℕ → Lent → Memory → Model.Interaction → ℕ → Model.Panel
begun g ws l m n t =
    begin_by (Model.pass_events (input ws (given_of g))) (fits_events (Model.pass_events (input ws (given_of g))) (devices m)) (panel l (state m) (devices m) n t)
    (input ws (given_of g))

-- A pass of any memory: what `panel`'s pass promises (Begun.antt of input_pass), of the state and the devices that the memory holds before and after.
pub record Passes (g : HostPass) (ws : List ℕ) (l : Lent) (m : Memory) (l' : Lent) (m' : Memory) (r : HostRefusal) : Type 0 where
  -- 01's number and index of the refusal, or zeros
  pub answer : r ≡ answer_of (refusal g ws m)
  -- refused: every place is as before
  pub refused : (refusal g ws m ≡ None → ⊥) → (m' ≡ m) × (l' ≡ l)
  -- taken: the model's `begin_pass` of the feed's events
  pub taken : refusal g ws m ≡ None → (n : Model.Interaction) (t : ℕ) → panel l' (state m') (devices m') n t ≡ begun g ws l m n t
  -- and every place of the lent arrays
  pub storage : refusal g ws m ≡ None → (n : Model.Interaction) (t : ℕ) → Storage (Model.pass_events (input ws (given_of g))) (begun g ws l m n t) l (state m) l'
  -- of devices in order, refused or taken: the model's `pass`
  pub whole : InOrder (devices m) → (n : Model.Interaction) (t : ℕ) →
      outcome (refusal g ws m) (panel l' (state m') (devices m') n t) ≡ Model.pass (panel l (state m) (devices m) n t) (input ws (given_of g))
  -- and it leaves them in order
  pub in_order : InOrder (devices m) → InOrder (devices m')

-- A fresh panel in memory, with interaction n and tally t: the model's, whatever the devices' arrays and the other lent arrays hold.
pub record Starts (ts fs : List Float) (ns : List ℕ) (bs : List Bool) (ks presses : List ℕ) (n : Model.Interaction) (t : ℕ) : Type 0 where
  pub no_device : get_or ns at.devices 0 ≡ 0
  pub no_press : presses ≡ replicate key_count 0
  pub shows_fresh : (l : Lent) → l.presses ≡ presses → panel l (input_of ts fs ns bs ks) [] n t ≡ fresh
