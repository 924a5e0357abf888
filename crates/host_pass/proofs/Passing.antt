-- A pass of what the memory holds, from `panel`'s pass of the records that were read from it. Assumes nothing.
use Rattle.std.specs.Prelude.{Option, None, Some, Result, Ok, Err}
use Prim.Native.Nat.{ℕ}
use mathlib.Core.Path.{◌≡◌, refl, sym, ap, subst, ◌∙◌}
use mathlib.Core.Bool.{Bool, true, false}
use mathlib.Core.List.{List}
use Rattle.model.specs.Types.{PassRefusal}
use Rattle.model.specs.Touch.{TouchState, InOrder}
use Rattle.model.specs.Pass as Model
use Rattle.touches.proofs.Upsert.{no}
use Rattle.touch_state.specs.declared.devices.Devices.{Devices}
use Rattle.touch_state.specs.View.{view}
use Rattle.survey.specs.Survey.{option, fits_events}
use Rattle.input_state.specs.declared.input.PassInput.{PassInput}
use Rattle.input_state.specs.declared.state.InputState.{InputState}
use Rattle.input_state.specs.View.{Lent, panel, input, begin_by, Storage}
use Rattle.input_pass.specs.declared.begin.Begun as declared
use Rattle.input_pass.specs.Begun.{Begun, left_by, refusal_of, outcome}
use lib.ListN.{get_or}
use lib.Ieee.{Float}
use Rattle.host_touch.specs.All.{known_of}
use Rattle.host_input.specs.Places as at
use Rattle.host_input.specs.Held.{input_of}
use Rattle.host_input.specs.Kept.{seconds_of, floats_of, counts_of, flags_of, keys_of}
use Rattle.model.specs.Pointer.{CountTrue, clear_events, press_pass}
use Rattle.theorems.proofs.Counts.{events_count}
use Rattle.host_input.proofs.Back.{input_back, held_true}
use Rattle.host_pass.specs.declared.HostPass.{HostPass}
use Rattle.host_pass.specs.declared.HostRefusal.{HostRefusal}
use Rattle.host_pass.specs.Given as goal
use Rattle.host_pass.specs.Given.{given_of, answer_of}
use Rattle.host_pass.specs.Memory.{Memory, state, devices, refusal, Passes}

is_some : Option PassRefusal → Bool
is_some None = false
is_some (Some q) = true

some_none : {P : Type 0} (q : PassRefusal) → Some q ≡ None → P
unfolding is_some
some_none q e = no (sym (ap is_some e))

-- the state that was written is held
pub written : (s : InputState) (n : ℕ) (ts fs : List Float) (ns : List ℕ) (bs : List Bool) (ks : List ℕ)
    → CountTrue s.pointer.press.held.down
    → ts ≡ seconds_of s → fs ≡ floats_of s → ns ≡ counts_of s n → bs ≡ flags_of s → ks ≡ keys_of s → input_of ts fs ns bs ks ≡ s
written s n ts fs ns bs ks h a b c d e =
    ap (λ ts. input_of ts fs ns bs ks) a
    ∙ ap (λ fs. input_of (seconds_of s) fs ns bs ks) b
    ∙ ap (λ ns. input_of (seconds_of s) (floats_of s) ns bs ks) c
    ∙ ap (λ bs. input_of (seconds_of s) (floats_of s) (counts_of s n) bs ks) d
    ∙ ap (λ ks. input_of (seconds_of s) (floats_of s) (counts_of s n) (flags_of s) ks) e
    ∙ input_back s n h

module _ (g : HostPass) (ws : List ℕ) (l l' : Lent) (m : Memory) (s : InputState) (ds : Devices) (i : PassInput) (b : Result declared.Begun PassRefusal)
    (es : s ≡ state m) (ed : view ds ≡ devices m) (ei : i ≡ given_of g) (begun : Begun i ws l s ds l' b) where
  passed : Begun (given_of g) ws l (state m) ds l' b
  passed = subst (λ s. Begun (given_of g) ws l s ds l' b) es (subst (λ i. Begun i ws l s ds l' b) ei begun)

  same_refusal : refusal_of (given_of g) ws (state m).clock.time (view ds) ≡ refusal g ws m
  same_refusal = ap (λ vs. refusal_of (given_of g) ws (state m).clock.time vs) ed

  told_is : option b ≡ refusal g ws m
  told_is = passed.refusal ∙ same_refusal

  in_order_before : InOrder (devices m) → InOrder (view ds)
  in_order_before o = subst InOrder (sym ed) o

  -- the state and the devices after it
  abbrev left : declared.Begun
  left = left_by (state m) ds b

  whole_of : (m' : Memory) → state m' ≡ left.state → devices m' ≡ view left.devices → InOrder (devices m) → (n : Model.Interaction) (t : ℕ)
      → outcome (refusal g ws m) (panel l' (state m') (devices m') n t) ≡ Model.pass (panel l (state m) (devices m) n t) (input ws (given_of g))
  whole_of m' e-state e-devices o n t =
      ap (λ r. outcome r (panel l' (state m') (devices m') n t)) (sym told_is)
      ∙ ap (λ s. outcome (option b) (panel l' s (devices m') n t)) e-state
      ∙ ap (λ vs. outcome (option b) (panel l' left.state vs n t)) e-devices
      ∙ passed.whole (in_order_before o) n t
      ∙ ap (λ vs. Model.pass (panel l (state m) vs n t) (input ws (given_of g))) ed

  pub when_refused : (q : PassRefusal) (r : HostRefusal) → b ≡ Err q → r ≡ goal.refusal_of q → Passes g ws l m l' m r
  unfolding option
  when_refused q r e-refusal e-told =
      let is_refused : refusal g ws m ≡ Some q = sym told_is ∙ ap option e-refusal in
      let kept = passed.refused (λ e. some_none q (sym is_refused ∙ sym same_refusal ∙ e)) in
      record {
        answer = e-told ∙ ap answer_of (sym is_refused);
        refused = λ _. (refl, kept.2);
        taken = λ e. some_none q (sym is_refused ∙ e);
        storage = λ e. some_none q (sym is_refused ∙ e);
        whole = whole_of m (sym kept.0) (sym ed ∙ ap view (sym kept.1));
        in_order = λ o. o;
      }

  pub when_taken : (x : declared.Begun) (m' : Memory) (r : HostRefusal) → b ≡ Ok x → r ≡ answer_of None → state m' ≡ x.state → devices m' ≡ view x.devices
      → Passes g ws l m l' m' r
  unfolding option
  when_taken x m' r e-refusal e-told e-state' e-devices' =
      let e-state : state m' ≡ left.state = e-state' ∙ sym (ap (λ (y : Result declared.Begun PassRefusal). (left_by (state m) ds y).state) e-refusal) in
      let e-devices : devices m' ≡ view left.devices = e-devices' ∙ sym (ap (λ (y : Result declared.Begun PassRefusal). view (left_by (state m) ds y).devices) e-refusal) in
      let is_taken : refusal g ws m ≡ None = sym told_is ∙ ap option e-refusal in
      record {
        answer = e-told ∙ ap answer_of (sym is_taken);
        refused = λ e. absurd (e is_taken);
        taken = λ _ n t.
            ap (λ s. panel l' s (devices m') n t) e-state
            ∙ ap (λ vs. panel l' left.state vs n t) e-devices
            ∙ passed.taken (same_refusal ∙ is_taken) n t
            ∙ ap (λ vs. begin_by (Model.pass_events (input ws (given_of g))) (fits_events (Model.pass_events (input ws (given_of g))) vs) (panel l (state m) vs n t) (input ws (given_of g))) ed;
        storage = λ _ n t.
            subst
            (λ (vs : List TouchState). Storage (Model.pass_events (input ws (given_of g)))
            (begin_by (Model.pass_events (input ws (given_of g))) (fits_events (Model.pass_events (input ws (given_of g))) vs) (panel l (state m) vs n t) (input ws (given_of g))) l (state m) l')
            ed (passed.storage (same_refusal ∙ is_taken) n t);
        whole = whole_of m' e-state e-devices;
        in_order = λ o. subst InOrder (sym e-devices) (passed.in_order (in_order_before o));
      }

  -- a pass keeps the number of buttons down true
  still_true : refusal g ws m ≡ None → CountTrue left.state.pointer.press.held.down
  unfolding begin_by press_pass clear_events
  still_true e =
      let p = panel l (state m) (view ds) Model.no_interaction 0 in
      let i = input ws (given_of g) in
      let k : (panel l' left.state (view left.devices) Model.no_interaction 0).press.held.down
      ≡ (begin_by (Model.pass_events i) (fits_events (Model.pass_events i) (view ds)) p i).press.held.down
      = ap (λ (q : Model.Panel). q.press.held.down) (passed.taken (same_refusal ∙ e) Model.no_interaction 0) in
      subst CountTrue (sym k)
      (events_count i.options (Model.time_of i p.clock.time) (Model.pass_events i) (record { held = clear_events p.press.held; past = p.press.past })
      (held_true m.seconds m.floats m.counts m.flags m.keys_down))

  pub when_kept : (x : declared.Begun) (m' : Memory) (r : HostRefusal) (n : ℕ) → b ≡ Ok x → r ≡ answer_of None
      → m'.seconds ≡ seconds_of x.state → m'.floats ≡ floats_of x.state → m'.counts ≡ counts_of x.state n
      → m'.flags ≡ flags_of x.state → m'.keys_down ≡ keys_of x.state
      → known_of n m'.starts m'.ids0 m'.floats0 m'.flags0 m'.ids1 m'.floats1 m'.flags1 m'.ids2 m'.floats2 m'.flags2 m'.ids3 m'.floats3 m'.flags3 ≡ view x.devices
      → Passes g ws l m l' m' r
  unfolding option
  when_kept x m' r n e-refusal e-told e1 e2 e3 e4 e5 e6 =
      let true_now = subst (λ (y : Result declared.Begun PassRefusal). CountTrue (left_by (state m) ds y).state.pointer.press.held.down) e-refusal (still_true (sym told_is ∙ ap option e-refusal)) in
      when_taken x m' r e-refusal e-told (written x.state n m'.seconds m'.floats m'.counts m'.flags m'.keys_down true_now e1 e2 e3 e4 e5)
      (ap (λ ns. known_of (get_or ns at.devices 0) m'.starts m'.ids0 m'.floats0 m'.flags0 m'.ids1 m'.floats1 m'.flags1 m'.ids2 m'.floats2 m'.flags2 m'.ids3 m'.floats3 m'.flags3) e3 ∙ e6)
