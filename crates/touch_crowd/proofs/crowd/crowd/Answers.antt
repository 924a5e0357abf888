use Rattle.std.specs.Prelude.{Some}
use Prim.Native.Nat.{◌+◌, ◌≤◌, ◌<◌}
use mathlib.Core.Path.{◌≡◌, refl, sym, ap, ◌∙◌}
use native.Mathlib.Omega.{arith}
use lib.ListN.{get_or, length}
use Rattle.std.proofs.lemmas.Result.{err_from_is_err_and}
use Rattle.touch_state.specs.View.{view}
use Rattle.model.specs.Types.{NoPlace}
use Rattle.survey.specs.Survey.{option, crowd_then}
use Rattle.survey.proofs.Places.{Holds, holds_first, holds_more, no_place_at, holds_last, not_crowded, fits_idle}
use Rattle.touch_crowd.proofs.TouchOf.{crowded_is, fits_is, not_9}
use Rattle.touch_crowd.proofs.Apart.{current, Apart, Turn, apart_first, current_room, none_apart, none_back, turn_stays, turn_known, turn_unknown, crowded_by, touched, not_known, added}
use Rattle.touch_crowd.proofs.crowd.crowd.Goals as goal
use Rattle.touch_crowd.proofs.crowd.crowd.Goals.{in-None, in-Some+else-is_crowded+then-k-lt-MAX_DEVICES-3, in-Some+else-is_crowded+else-k-lt-MAX_DEVICES-3, then-k-device+then-k-lt-MAX_DEVICES-2, then-k-device+else-k-lt-MAX_DEVICES-2, else-k-device, then-k-lt-MAX_DEVICES, else-k-lt-MAX_DEVICES}

pub loop-place-init : goal.loop-place-init
loop-place-init c =
    let l : length c.args.ds.places ≡ 4 = c.well_formed.0.1.1.1.0.1.0.1 in
    (apart_first _ _ l, rw (none_apart c.args.ds 4 c.new-device.result l (omega arith)) (holds_first _ _ _ _))

pub offset_bounds-held-k : goal.offset_bounds-held-k
offset_bounds-held-k c = let k = c.if-k-lt-MAX_DEVICES.true in omega arith

pub bounds-held-k : goal.bounds-held-k
bounds-held-k c = c.if-k-lt-MAX_DEVICES.true

pub offset_bounds-held-k-then-k-lt-MAX_DEVICES-2 : goal.offset_bounds-held-k-then-k-lt-MAX_DEVICES-2
offset_bounds-held-k-then-k-lt-MAX_DEVICES-2 c = let k = c.if-k-lt-MAX_DEVICES-2.true in omega arith

pub bounds-held-k-then-k-lt-MAX_DEVICES-2 : goal.bounds-held-k-then-k-lt-MAX_DEVICES-2
bounds-held-k-then-k-lt-MAX_DEVICES-2 c = c.if-k-lt-MAX_DEVICES-2.true

pub offset_bounds-held-k-then-k-lt-MAX_DEVICES-4 : goal.offset_bounds-held-k-then-k-lt-MAX_DEVICES-4
offset_bounds-held-k-then-k-lt-MAX_DEVICES-4 c = let k = c.if-k-lt-MAX_DEVICES-4.true in omega arith

pub bounds-held-k-then-k-lt-MAX_DEVICES-4 : goal.bounds-held-k-then-k-lt-MAX_DEVICES-4
bounds-held-k-then-k-lt-MAX_DEVICES-4 c = c.if-k-lt-MAX_DEVICES-4.true

pub returns-in_err-later : goal.returns-in_err-later
unfolding option
returns-in_err-later c =
    let s = c.args in
    let i = c.loop-place.invariant in
    let past : length s.places.now ≤ c.loop-place.place-index = omega arith in
    let h = holds_last s.feed.now s.places.now _ c.loop-place.place-index _ _ past i.1 in
    let q = err_from_is_err_and c.from_residual.result c.from_residual.ensures.1 in
    rw (q.1, q.2) (record { refusal = sym (ap option c.in_err-later.was) ∙ h.0; devices = tt })

pub returns-then-k-lt-MAX_DEVICES-4 : goal.returns-then-k-lt-MAX_DEVICES-4
unfolding option
returns-then-k-lt-MAX_DEVICES-4 c =
    let s = c.args in
    let i = c.loop-place.invariant in
    let past : length s.places.now ≤ c.loop-place.place-index = omega arith in
    let h = holds_last s.feed.now s.places.now _ c.loop-place.place-index _ _ past i.1 in
    record { refusal = sym (ap option c.in_ok-later.was) ∙ h.0; devices = h.1 }

pub returns-else-k-lt-MAX_DEVICES-4 : goal.returns-else-k-lt-MAX_DEVICES-4
unfolding option
returns-else-k-lt-MAX_DEVICES-4 c =
    let s = c.args in
    let i = c.loop-place.invariant in
    let past : length s.places.now ≤ c.loop-place.place-index = omega arith in
    let h = holds_last s.feed.now s.places.now _ c.loop-place.place-index _ _ past i.1 in
    record { refusal = sym (ap option c.in_ok-later.was) ∙ h.0; devices = rw (none_apart c.loop-place.held c.loop-place.k c.loop-place.device i.0.room c.if-k-lt-MAX_DEVICES-4.false) at h.1 }

pub returns-then-is_crowded : goal.returns-then-is_crowded
unfolding option
returns-then-is_crowded c =
    let s = c.args in
    let l = c.loop-place in
    let room = current_room l.held l.k l.device l.invariant.0.room in
    let j = c.if-k-device in
    let t : Turn c.in-Some.e.device_id j.held j.k j.device × (view (current j.held j.k j.device) ≡ view (current l.held l.k l.device)) =
    elim c.if-k-device.branch [
      | then-k-device+then-k-lt-MAX_DEVICES-2 v ↦
          let back : v.if-k-lt-MAX_DEVICES.held ≡ current l.held l.k l.device =
          elim v.if-k-lt-MAX_DEVICES.branch [ then-k-lt-MAX_DEVICES b ↦ b.held-is | else-k-lt-MAX_DEVICES b ↦ b.held-is ∙ none_back l.held l.k l.device l.invariant.0.room b.if-k-lt-MAX_DEVICES.false ] in
          rw (v.held-is, v.k-is, v.device-is) (turn_known _ _ v.if-k-lt-MAX_DEVICES.held v.unwrap_or-k.result room back (v.unwrap_or-k.ensures ∙ v.known_at.ensures.place) _ v.if-k-lt-MAX_DEVICES-2.true)
      | then-k-device+else-k-lt-MAX_DEVICES-2 v ↦
          let back : v.if-k-lt-MAX_DEVICES.held ≡ current l.held l.k l.device =
          elim v.if-k-lt-MAX_DEVICES.branch [ then-k-lt-MAX_DEVICES b ↦ b.held-is | else-k-lt-MAX_DEVICES b ↦ b.held-is ∙ none_back l.held l.k l.device l.invariant.0.room b.if-k-lt-MAX_DEVICES.false ] in
          rw (v.held-is, v.k-is, v.device-is) (turn_unknown _ _ v.if-k-lt-MAX_DEVICES.held v.unwrap_or-k.result room back (v.unwrap_or-k.ensures ∙ v.known_at.ensures.place) l.device v.if-k-lt-MAX_DEVICES-2.false)
      | else-k-device v ↦ rw (v.held-is, v.k-is, v.device-is) (turn_stays _ l.held l.k l.device l.invariant.0 v.if-k-device.false, refl)
    ] in
    let is = sym c.touch_event_at-found.ensures ∙ c.in-Some.is in
    let here : l.place-index < length s.places.now = omega arith in
    let told = sym (c.is_crowded.ensures ∙ crowded_by _ _ _ _ t.0 _ _ ∙ crowded_is _ _ is _) in
    let full = (told ∙ c.if-is_crowded.true) in
    let now : Holds s.feed.now s.places.now (option s.later) l.place-index (view s.ds) (view (current j.held j.k j.device)) = rw t.1 l.invariant.1 in
    let r : Some (NoPlace (get_or s.places.now l.place-index 0)) ≡ crowd_then s.feed.now s.places.now (λ us. option s.later) (view s.ds) =
    (no_place_at _ _ _ _ here _ _ now full) in
    record { refusal = r; devices = tt }

pub add-held-requires : goal.add-held-requires
add-held-requires c =
    let l = c.loop-place in
    let room = current_room l.held l.k l.device l.invariant.0.room in
    let j = c.if-k-device in
    let t : Turn c.in-Some.e.device_id j.held j.k j.device × (view (current j.held j.k j.device) ≡ view (current l.held l.k l.device)) =
    elim c.if-k-device.branch [
      | then-k-device+then-k-lt-MAX_DEVICES-2 v ↦
          let back : v.if-k-lt-MAX_DEVICES.held ≡ current l.held l.k l.device =
          elim v.if-k-lt-MAX_DEVICES.branch [ then-k-lt-MAX_DEVICES b ↦ b.held-is | else-k-lt-MAX_DEVICES b ↦ b.held-is ∙ none_back l.held l.k l.device l.invariant.0.room b.if-k-lt-MAX_DEVICES.false ] in
          rw (v.held-is, v.k-is, v.device-is) (turn_known _ _ v.if-k-lt-MAX_DEVICES.held v.unwrap_or-k.result room back (v.unwrap_or-k.ensures ∙ v.known_at.ensures.place) _ v.if-k-lt-MAX_DEVICES-2.true)
      | then-k-device+else-k-lt-MAX_DEVICES-2 v ↦
          let back : v.if-k-lt-MAX_DEVICES.held ≡ current l.held l.k l.device =
          elim v.if-k-lt-MAX_DEVICES.branch [ then-k-lt-MAX_DEVICES b ↦ b.held-is | else-k-lt-MAX_DEVICES b ↦ b.held-is ∙ none_back l.held l.k l.device l.invariant.0.room b.if-k-lt-MAX_DEVICES.false ] in
          rw (v.held-is, v.k-is, v.device-is) (turn_unknown _ _ v.if-k-lt-MAX_DEVICES.held v.unwrap_or-k.result room back (v.unwrap_or-k.ensures ∙ v.known_at.ensures.place) l.device v.if-k-lt-MAX_DEVICES-2.false)
      | else-k-device v ↦ rw (v.held-is, v.k-is, v.device-is) (turn_stays _ l.held l.k l.device l.invariant.0 v.if-k-device.false, refl)
    ] in
    not_known _ _ _ _ t.0 c.if-k-lt-MAX_DEVICES-3.false

pub loop-place-preserved : goal.loop-place-preserved
loop-place-preserved c =
    let s = c.args in
    let l = c.loop-place in
    let room = current_room l.held l.k l.device l.invariant.0.room in
    let here : l.place-index < length s.places.now = omega arith in
    let r : Apart c.match-found.held c.match-found.k c.match-found.device × Holds s.feed.now s.places.now (option s.later) (l.place-index + 1) (view s.ds) (view (current c.match-found.held c.match-found.k c.match-found.device)) =
    elim c.match-found.branch [
      | in-None w ↦
          let other = not_9 _ (sym c.touch_event_at-found.ensures ∙ w.in-None.is) in
          let all = view (current l.held l.k l.device) in
          rw (w.held-is, w.k-is, w.device-is) (l.invariant.0, holds_more _ _ _ _ here _ all l.invariant.1 (not_crowded _ all other) all (sym (fits_idle _ all other)))
      | in-Some+else-is_crowded+then-k-lt-MAX_DEVICES-3 w ↦
          let j = w.if-k-device in
          let t : Turn w.in-Some.e.device_id j.held j.k j.device × (view (current j.held j.k j.device) ≡ view (current l.held l.k l.device)) =
          elim w.if-k-device.branch [
            | then-k-device+then-k-lt-MAX_DEVICES-2 v ↦
                let back : v.if-k-lt-MAX_DEVICES.held ≡ current l.held l.k l.device =
                elim v.if-k-lt-MAX_DEVICES.branch [ then-k-lt-MAX_DEVICES b ↦ b.held-is | else-k-lt-MAX_DEVICES b ↦ b.held-is ∙ none_back l.held l.k l.device l.invariant.0.room b.if-k-lt-MAX_DEVICES.false ] in
                rw (v.held-is, v.k-is, v.device-is) (turn_known _ _ v.if-k-lt-MAX_DEVICES.held v.unwrap_or-k.result room back (v.unwrap_or-k.ensures ∙ v.known_at.ensures.place) _ v.if-k-lt-MAX_DEVICES-2.true)
            | then-k-device+else-k-lt-MAX_DEVICES-2 v ↦
                let back : v.if-k-lt-MAX_DEVICES.held ≡ current l.held l.k l.device =
                elim v.if-k-lt-MAX_DEVICES.branch [ then-k-lt-MAX_DEVICES b ↦ b.held-is | else-k-lt-MAX_DEVICES b ↦ b.held-is ∙ none_back l.held l.k l.device l.invariant.0.room b.if-k-lt-MAX_DEVICES.false ] in
                rw (v.held-is, v.k-is, v.device-is) (turn_unknown _ _ v.if-k-lt-MAX_DEVICES.held v.unwrap_or-k.result room back (v.unwrap_or-k.ensures ∙ v.known_at.ensures.place) l.device v.if-k-lt-MAX_DEVICES-2.false)
            | else-k-device v ↦ rw (v.held-is, v.k-is, v.device-is) (turn_stays _ l.held l.k l.device l.invariant.0 v.if-k-device.false, refl)
          ] in
          let is = sym c.touch_event_at-found.ensures ∙ w.in-Some.is in
          let told = sym (w.is_crowded.ensures ∙ crowded_by _ _ _ _ t.0 _ _ ∙ crowded_is _ _ is _) in
          let free = (told ∙ w.if-is_crowded.false) in
          let now : Holds s.feed.now s.places.now (option s.later) l.place-index (view s.ds) (view (current j.held j.k j.device)) = rw t.1 l.invariant.1 in
          let u = touched _ _ _ _ t.0 _ _ w.on_touch-device.result w.if-k-lt-MAX_DEVICES-3.true w.on_touch-device.ensures in
          rw (w.held-is, w.k-is, w.device-is) (u.0, holds_more _ _ _ _ here _ _ now free _ ((u.1 ∙ fits_is _ _ is _)))
      | in-Some+else-is_crowded+else-k-lt-MAX_DEVICES-3 w ↦
          let j = w.if-k-device in
          let t : Turn w.in-Some.e.device_id j.held j.k j.device × (view (current j.held j.k j.device) ≡ view (current l.held l.k l.device)) =
          elim w.if-k-device.branch [
            | then-k-device+then-k-lt-MAX_DEVICES-2 v ↦
                let back : v.if-k-lt-MAX_DEVICES.held ≡ current l.held l.k l.device =
                elim v.if-k-lt-MAX_DEVICES.branch [ then-k-lt-MAX_DEVICES b ↦ b.held-is | else-k-lt-MAX_DEVICES b ↦ b.held-is ∙ none_back l.held l.k l.device l.invariant.0.room b.if-k-lt-MAX_DEVICES.false ] in
                rw (v.held-is, v.k-is, v.device-is) (turn_known _ _ v.if-k-lt-MAX_DEVICES.held v.unwrap_or-k.result room back (v.unwrap_or-k.ensures ∙ v.known_at.ensures.place) _ v.if-k-lt-MAX_DEVICES-2.true)
            | then-k-device+else-k-lt-MAX_DEVICES-2 v ↦
                let back : v.if-k-lt-MAX_DEVICES.held ≡ current l.held l.k l.device =
                elim v.if-k-lt-MAX_DEVICES.branch [ then-k-lt-MAX_DEVICES b ↦ b.held-is | else-k-lt-MAX_DEVICES b ↦ b.held-is ∙ none_back l.held l.k l.device l.invariant.0.room b.if-k-lt-MAX_DEVICES.false ] in
                rw (v.held-is, v.k-is, v.device-is) (turn_unknown _ _ v.if-k-lt-MAX_DEVICES.held v.unwrap_or-k.result room back (v.unwrap_or-k.ensures ∙ v.known_at.ensures.place) l.device v.if-k-lt-MAX_DEVICES-2.false)
            | else-k-device v ↦ rw (v.held-is, v.k-is, v.device-is) (turn_stays _ l.held l.k l.device l.invariant.0 v.if-k-device.false, refl)
          ] in
          let is = sym c.touch_event_at-found.ensures ∙ w.in-Some.is in
          let told = sym (w.is_crowded.ensures ∙ crowded_by _ _ _ _ t.0 _ _ ∙ crowded_is _ _ is _) in
          let free = (told ∙ w.if-is_crowded.false) in
          let now : Holds s.feed.now s.places.now (option s.later) l.place-index (view s.ds) (view (current j.held j.k j.device)) = rw t.1 l.invariant.1 in
          let full : length w.add-held.result.places ≡ 4 = w.add-held.type_inv.1.1.1.0.1.0.1 in
          let u = added _ _ _ _ t.0 _ _ w.add-held.result w.if-k-lt-MAX_DEVICES-3.false full w.add-held.ensures in
          rw (w.held-is, w.k-is, w.device-is) (u.0, holds_more _ _ _ _ here _ _ now free _ ((u.1 ∙ fits_is _ _ is _)))
    ] in
    r
