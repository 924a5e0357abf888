-- Edges of the definitions of an insertion and of an interact that 01 names no case for. Definitions only.
use Rattle.std.specs.Prelude.{ℕ, zero, suc, ◌+◌, Bool, true, false, cond, List, [], ◌∷◌, ◌++◌, eqb, replicate, Option, None, Some}
use Rattle.data.specs.Limits.{id_places, max_tally, max_layers, max_hits}
use Rattle.data.specs.Modifiers.{no_modifiers}
use Rattle.data.specs.Numbers.{Row}
use Rattle.data.specs.Sense.{senses_click, senses_drag}
use Rattle.model.specs.Types.{Rect, LayerId, WidgetRect, Secondary, Key, PointerMoved, PointerGone, Button}
use Rattle.model.specs.Interact.{Hit, InteractInput, InteractionSnapshot}
use Rattle.model.specs.Widgets.{WidgetRects, Known}
use Rattle.model.specs.Questions.{count, widget, tally}
use Rattle.model.specs.Questions as Q
use Rattle.edges.specs.Steps.{Step, answers, replies, snapshots, interacts, refuses_interact, tallies, inserts, refuses_insert, stands_at, records, lends, keeps}
use Rattle.edges.specs.Cases.{dec, pos, at, press, release, click_duration, finger_starts, on_it}
use Rattle.edges.specs.Cases as Cases
use Rattle.edges.specs.PassEdges.{past32, on_x, then, row, bare_row}

-- ---- how a case is written

-- a widget by id, parent, layer, sense, enabled and visible, and its two rectangles
unfoldable pub made : ℕ → ℕ → LayerId → ℕ → Bool → Bool → Rect → Rect → WidgetRect
made id parent layer sense enabled visible rect interact-rect =
    record {
      id = id;
      parent_id = parent;
      layer_id = layer;
      rect = rect;
      interact_rect = interact-rect;
      sense = sense;
      enabled = enabled;
      visible = visible;
    }

unfoldable pub nine : Rect
nine = record { min = pos 0 0; max = pos 9 9 }

unfoldable pub eight : Rect
eight = record { min = pos 1 1; max = pos 8 8 }

-- one unit past the domain
unfoldable pub outside : Rect
outside = record { min = pos 0 0; max = on_x (past32 (dec 65536 0)) }

unfoldable pub layer : ℕ → ℕ → LayerId
layer order id = record { order = order; id = id }

-- a clickable widget of a layer
unfoldable pub in_layer : ℕ → LayerId → WidgetRect
in_layer id l = made id 1 l 1 true true nine nine

-- ---- insertion

-- the records that 01 refuses by themselves: "1 (layer order over 4, a sense bit that `sense.rs` doesn't name), 9, 2"
unfoldable pub records_refused : List Step
records_refused =
    refuses_insert (made 7 1 (layer 5 1) 1 true true nine nine) (row 1 0)
    ∷ refuses_insert (made 7 1 (layer 1 1) 8 true true nine nine) (row 1 0)
    ∷ refuses_insert (made 0 1 (layer 1 1) 1 true true nine nine) (bare_row 9)
    ∷ refuses_insert (made 7 0 (layer 1 1) 1 true true nine nine) (bare_row 9)
    ∷ refuses_insert (made 7 1 (layer 1 0) 1 true true nine nine) (bare_row 9)
    ∷ refuses_insert (made 7 1 (layer 1 1) 1 true true outside nine) (row 2 0)
    ∷ refuses_insert (made 7 1 (layer 1 1) 1 true true nine outside) (row 2 0)
    ∷ inserts false (made 7 1 (layer 4 1) 7 true true nine nine) (7 ∷ 99 ∷ 99 ∷ []) ∷ []

-- layers n down to 1, each with a widget of the layer's id; every layer has a slice of its own
unfoldable pub layers : ℕ → List Step
layers zero = []
layers (suc n) = lends (Cases.widget 99 0 ∷ []) ∷ inserts false (in_layer (suc n) (layer 1 (suc n))) (suc n ∷ []) ∷ layers n

-- 6: "new layer at 32"; a known layer takes one more
unfoldable pub thirty_third_layer : List Step
thirty_third_layer =
    layers max_layers
    ++ (refuses_insert (in_layer 33 (layer 1 33)) (bare_row 6) ∷ refuses_insert (in_layer 33 (layer 2 1)) (bare_row 6)
    ∷ lends (replicate 2 (Cases.widget 99 0)) ∷ inserts false (in_layer 33 (layer 1 32)) (99 ∷ 33 ∷ []) ∷ stands_at 33 1 ∷ stands_at 1 0 ∷ [])

-- a set of n widgets in layer (1,1), with ids from 101 on
unfoldable pub entries : ℕ → List Known
entries zero = []
entries (suc n) = record { position = n; widget = in_layer (suc n + 100) (layer 1 1) } ∷ entries n

unfoldable pub filled : ℕ → WidgetRects
filled n = record { by_layer = record { layer_id = layer 1 1; count = n } ∷ []; by_id = entries n }

-- 6: "new widget at 1,024", in a known layer and in a new one
unfoldable pub full_set : List Step
full_set =
    keeps (filled 1023) ∷ lends [] ∷ refuses_insert (in_layer 7 (layer 1 1)) (bare_row 8)
    ∷ lends (Cases.widget 99 0 ∷ []) ∷ inserts false (in_layer 7 (layer 2 1)) (7 ∷ [])
    ∷ refuses_insert (in_layer 8 (layer 1 1)) (bare_row 6) ∷ refuses_insert (in_layer 8 (layer 2 1)) (bare_row 6) ∷ refuses_insert (in_layer 8 (layer 3 1)) (bare_row 6)
    ∷ inserts true (in_layer 7 (layer 2 1)) (7 ∷ []) ∷ []

-- "Insert: 1, 9, 2, 7, 6, 8": what breaks two rows answers the earlier
unfoldable pub insert_order : List Step
insert_order =
    inserts false (in_layer 7 (layer 1 1)) (7 ∷ 99 ∷ 99 ∷ [])
    ∷ refuses_insert (made 0 1 (layer 5 1) 1 true true nine nine) (row 1 0)
    ∷ refuses_insert (made 0 1 (layer 1 1) 1 true true outside nine) (bare_row 9)
    ∷ refuses_insert (made 7 1 (layer 2 1) 1 true true outside nine) (row 2 0)
    ∷ refuses_insert (in_layer 7 (layer 2 1)) (bare_row 7)
    ∷ refuses_insert (in_layer 7 (layer 1 2)) (bare_row 7)
    ∷ lends [] ∷ refuses_insert (in_layer 7 (layer 2 1)) (bare_row 7) ∷ refuses_insert (in_layer 7 (layer 1 1)) (bare_row 8)
    ∷ keeps (filled 1024)
    ∷ refuses_insert (made 7 1 (layer 1 1) 1 true true outside nine) (row 2 0)
    ∷ refuses_insert (in_layer 7 (layer 1 1)) (bare_row 6) ∷ refuses_insert (in_layer 101 (layer 2 1)) (bare_row 7) ∷ []

-- 8: "a lent slice too short for the layer's widgets after the insertion": of a known id they are no more
unfoldable pub short_slices : List Step
short_slices =
    inserts false (in_layer 11 (layer 1 1)) (11 ∷ 99 ∷ 99 ∷ []) ∷ inserts false (in_layer 12 (layer 1 1)) (11 ∷ 12 ∷ 99 ∷ [])
    ∷ lends (replicate 2 (Cases.widget 99 0)) ∷ refuses_insert (in_layer 13 (layer 1 1)) (bare_row 8) ∷ inserts true (in_layer 11 (layer 1 1)) (99 ∷ 11 ∷ [])
    ∷ lends (Cases.widget 99 0 ∷ []) ∷ refuses_insert (in_layer 11 (layer 1 1)) (bare_row 8) ∷ []

-- 01 item 5: "A known id takes the new rectangles and the union of sense, enabled and visible": parent and layer stay
unfoldable pub known_again : List Step
known_again =
    inserts false (made 7 2 (layer 1 1) 1 false true nine nine) (7 ∷ 99 ∷ 99 ∷ [])
    ∷ inserts false (made 8 2 (layer 1 1) 2 false false nine nine) (7 ∷ 8 ∷ 99 ∷ [])
    ∷ inserts false (made 7 3 (layer 1 1) 6 true false eight nine) (7 ∷ 8 ∷ 99 ∷ [])
    ∷ records (made 7 2 (layer 1 1) 7 true true eight nine) ∷ records (made 8 2 (layer 1 1) 2 false false nine nine)
    ∷ inserts true (made 7 3 (layer 1 1) 0 false false nine eight) (8 ∷ 7 ∷ 99 ∷ [])
    ∷ records (made 7 2 (layer 1 1) 7 true true nine eight) ∷ records (made 8 2 (layer 1 1) 2 false false nine nine) ∷ []

-- "every later position falls by one", of the layer: not of another, and not the earlier ones
unfoldable pub other_layers_stay : List Step
other_layers_stay =
    lends (replicate 2 (Cases.widget 99 0)) ∷ inserts false (in_layer 21 (layer 2 1)) (21 ∷ 99 ∷ []) ∷ inserts false (in_layer 22 (layer 2 1)) (21 ∷ 22 ∷ [])
    ∷ lends (replicate 3 (Cases.widget 99 0)) ∷ inserts false (in_layer 11 (layer 1 1)) (11 ∷ 99 ∷ 99 ∷ []) ∷ inserts false (in_layer 12 (layer 1 1)) (11 ∷ 12 ∷ 99 ∷ [])
    ∷ inserts false (in_layer 13 (layer 1 1)) (11 ∷ 12 ∷ 13 ∷ []) ∷ inserts true (in_layer 12 (layer 1 1)) (11 ∷ 13 ∷ 12 ∷ [])
    ∷ stands_at 11 0 ∷ stands_at 13 1 ∷ stands_at 12 2
    ∷ inserts true (in_layer 11 (layer 1 1)) (13 ∷ 12 ∷ 11 ∷ []) ∷ stands_at 13 0 ∷ stands_at 12 1 ∷ stands_at 11 2 ∷ stands_at 21 0 ∷ stands_at 22 1 ∷ []

unfoldable pub of_insertion : List (List Step)
of_insertion = records_refused ∷ thirty_third_layer ∷ full_set ∷ insert_order ∷ short_slices ∷ known_again ∷ other_layers_stay ∷ []

-- ---- interact

-- the widget with an id
unfoldable pub among : List WidgetRect → ℕ → Option WidgetRect
among [] d = None
among (w ∷ ws) d = cond (eqb d w.id) (Some w) (among ws d)

-- widgets and hits: close, contains_pointer, click, drag; both id buffers have the places that they need
unfoldable pub hits : List WidgetRect → List Hit → List Hit → Option Hit → Option Hit → InteractInput
hits ws close contains click drag =
    record {
      widgets = among ws;
      close = close;
      contains_pointer = contains;
      click = click;
      drag = drag;
      hovered_places = id_places;
      contains_places = id_places;
    }

unfoldable pub hit : ℕ → ℕ → Hit
hit id sense = record { id = id; sense = sense }

-- the pointer on one widget, and on none while the widget is still there
unfoldable pub on : WidgetRect → InteractInput
on w =
    let h = hit w.id w.sense in
    hits (w ∷ []) (h ∷ []) (h ∷ []) (cond (senses_click w.sense) (Some h) None) (cond (senses_drag w.sense) (Some h) None)

unfoldable pub off : WidgetRect → InteractInput
off w = hits (w ∷ []) [] [] None None

-- no widget at all
unfoldable pub on_nothing : InteractInput
on_nothing = hits [] [] [] None None

-- widgets that sense clicks, drags, both
unfoldable pub button : ℕ → WidgetRect
button id = Cases.widget id 1

unfoldable pub handle : ℕ → WidgetRect
handle id = Cases.widget id 2

unfoldable pub both : ℕ → WidgetRect
both id = Cases.widget id 3

-- an answer: clicked and long_touched; drag_started, dragged, drag_stopped; hovered, contains_pointer
unfoldable pub answer : Option ℕ → Option ℕ → Option ℕ → Option ℕ → Option ℕ → List ℕ → List ℕ → InteractionSnapshot
answer c l s d p hovered contains =
    record {
      clicked = c;
      long_touched = l;
      drag_started = s;
      dragged = d;
      drag_stopped = p;
      hovered = hovered;
      contains_pointer = contains;
    }

-- what an interact answers of drags: started, dragged, stopped
unfoldable pub drags : InteractInput → Option ℕ → Option ℕ → Option ℕ → Step
drags x s d p = interacts x (record { drag_started = s; dragged = d; drag_stopped = p })

unfoldable pub nothing_happens : InteractInput → Step
nothing_happens x = drags x None None None

-- what might be clicked, what might be dragged
unfoldable pub might : Option ℕ → Option ℕ → List Step
might c d = answers Q.potential_click_id (widget c) ∷ answers Q.potential_drag_id (widget d) ∷ []

-- a disabled widget is not dragged; it is clicked and hovered as any other
unfoldable pub disabled : ℕ → WidgetRect
disabled sense = made 7 1 (layer 1 1) sense false true nine nine

unfoldable pub disabled_drag : List Step
disabled_drag =
    then (dec 1 0) (press (pos 5 5) ∷ [])
    ∷ snapshots (on (disabled 2)) (answer None None None None None (7 ∷ []) (7 ∷ [])) ∷ (might None (Some 7) ++ (replies tally (count 0) ∷ []))

unfoldable pub disabled_click : List Step
disabled_click =
    then (dec 1 0) (press (pos 5 5) ∷ release (pos 5 5) ∷ []) ∷ snapshots (on (disabled 1)) (answer (Some 7) None None None None (7 ∷ []) (7 ∷ [])) ∷ []

-- pressed and released: a click, once; the second release of that pass clicks nothing, and leaves the click
unfoldable pub clicked_once : List Step
clicked_once =
    then (dec 1 0) (press (pos 5 5) ∷ []) ∷ nothing_happens (on (button 7)) ∷ (might (Some 7) None
    ++ (then (dec 1 1250) (release (pos 5 5) ∷ release (pos 5 5) ∷ [])
    ∷ snapshots (on (button 7)) (answer (Some 7) None None None None (7 ∷ []) (7 ∷ [])) ∷ (might None None
    ++ (then (dec 1 2500) [] ∷ snapshots (off (button 7)) (answer None None None None None [] []) ∷ []))))

-- the widget that might be clicked is gone for a pass, and so is the click
unfoldable pub clicked_and_gone : List Step
clicked_and_gone =
    then (dec 1 0) (press (pos 5 5) ∷ []) ∷ nothing_happens (on (button 7)) ∷ then (dec 1 1250) [] ∷ nothing_happens on_nothing ∷ (might None None
    ++ (then (dec 1 2500) (release (pos 5 5) ∷ []) ∷ snapshots (on (button 7)) (answer None None None None None (7 ∷ []) (7 ∷ [])) ∷ []))

-- a second press names no other widget
unfoldable pub pressed_twice : List Step
pressed_twice =
    then (dec 1 0) (press (pos 5 5) ∷ []) ∷ nothing_happens (on (both 7)) ∷ then (dec 1 1250) (Button (pos 5 5) Secondary true no_modifiers ∷ [])
    ∷ nothing_happens (hits (both 7 ∷ both 8 ∷ []) [] (hit 7 3 ∷ []) (Some (hit 8 3)) (Some (hit 8 3))) ∷ might (Some 7) (Some 7)

-- a widget that senses both waits until the press is decided, and is no click then
unfoldable pub decided_drag : List Step
decided_drag =
    then (dec 1 0) (press (pos 5 5) ∷ []) ∷ nothing_happens (on (both 7))
    ∷ then (dec 1 1250) (PointerMoved (pos 100 5) ∷ []) ∷ snapshots (on (both 7)) (answer None None (Some 7) (Some 7) None (7 ∷ []) (7 ∷ [])) ∷ (might None (Some 7)
    ++ (then (dec 1 2500) (release (pos 100 5) ∷ []) ∷ snapshots (on (both 7)) (answer None None None None (Some 7) (7 ∷ []) (7 ∷ []))
    ∷ replies tally (count 1) ∷ []))

-- or until the pointer has left it: neither in contains_pointer nor the click's hit
unfoldable pub left_by_the_pointer : InteractInput → Option ℕ → List Step
left_by_the_pointer x d =
    then (dec 1 0) (press (pos 5 5) ∷ []) ∷ nothing_happens (on (both 7)) ∷ then (dec 1 1250) (PointerMoved (pos 6 5) ∷ []) ∷ drags x d d None ∷ []

unfoldable pub undecided : List (List Step)
undecided =
    left_by_the_pointer (off (both 7)) (Some 7) ∷ left_by_the_pointer (hits (both 7 ∷ []) [] (hit 7 3 ∷ []) (Some (hit 8 1)) None) None
    ∷ left_by_the_pointer (hits (both 7 ∷ []) [] (hit 8 3 ∷ []) (Some (hit 7 3)) None) None
    ∷ left_by_the_pointer (hits (both 7 ∷ []) (hit 7 3 ∷ []) (hit 8 3 ∷ []) (Some (hit 8 1)) (Some (hit 7 3))) (Some 7) ∷ []

-- 01, "Slips to refuse": "Removing a dragged widget's drag when the widget vanishes." It stays; Escape ends it, another key doesn't
unfoldable pub dragged_and_gone : List Step
dragged_and_gone =
    then (dec 1 0) (press (pos 5 5) ∷ []) ∷ drags (on (handle 7)) (Some 7) (Some 7) None
    ∷ then (dec 1 1250) [] ∷ snapshots on_nothing (answer None None None (Some 7) None (7 ∷ []) []) ∷ (might None (Some 7)
    ++ (then (dec 1 2500) (PointerGone ∷ Key 5 true ∷ []) ∷ drags (on (handle 7)) None (Some 7) None ∷ (might None None
    ++ (then (dec 1 3750) (Key 4 true ∷ []) ∷ drags (on (handle 7)) None None (Some 7) ∷ []))))

unfoldable pub escaped : List Step
escaped =
    then (dec 1 0) (press (pos 5 5) ∷ []) ∷ drags (on (handle 7)) (Some 7) (Some 7) None ∷ then (dec 1 1250) (Key 4 true ∷ []) ∷ drags (on (handle 7)) None None (Some 7)
    ∷ (might None None ++ (then (dec 1 2500) [] ∷ nothing_happens (on (handle 7)) ∷ []))

-- a release and a press on another widget in one pass: one drag stops, the other starts
unfoldable pub another_dragged : List Step
another_dragged =
    then (dec 1 0) (press (pos 5 5) ∷ []) ∷ drags (on (handle 7)) (Some 7) (Some 7) None
    ∷ then (dec 1 1250) (release (pos 5 5) ∷ press (pos 6 6) ∷ []) ∷ drags (on (handle 8)) (Some 8) (Some 8) (Some 7) ∷ replies tally (count 2) ∷ []

-- a long touch is a click of what might be clicked, and no drag; the release clicks no more
unfoldable pub long_touched : List Step
long_touched =
    at (dec 1 0) (click_duration (dec 0 7500)) (press (pos 5 5) ∷ finger_starts 1 (pos 5 5) ∷ []) ∷ nothing_happens (on (both 7))
    ∷ at (dec 2 0) (click_duration (dec 0 7500)) [] ∷ snapshots (on (both 7)) (answer (Some 7) (Some 7) None None None (7 ∷ []) (7 ∷ [])) ∷ (might None None
    ++ (at (dec 2 1250) (click_duration (dec 0 7500)) (release (pos 5 5) ∷ []) ∷ snapshots (on (both 7)) (answer None None None None None (7 ∷ []) (7 ∷ [])) ∷ []))

-- held as long without a finger, it is no touch
unfoldable pub long_pressed : List Step
long_pressed =
    at (dec 1 0) (click_duration (dec 0 7500)) (press (pos 5 5) ∷ []) ∷ nothing_happens (on (button 7))
    ∷ at (dec 2 0) (click_duration (dec 0 7500)) [] ∷ snapshots (on (button 7)) (answer None None None None None (7 ∷ []) (7 ∷ [])) ∷ might None None

-- with no button down: hits, hovered, contains_pointer
unfoldable pub hovers : List Hit → List Hit → Option Hit → Option Hit → List ℕ → List ℕ → List Step
hovers close contains click drag hovered all = snapshots (hits [] close contains click drag) (answer None None None None None hovered all) ∷ []

-- a label on top of the button is hovered with it, one below it is not, and one that is not close counts as the lowest; ids leave ascending, once each
unfoldable pub hovered_sets : List (List Step)
hovered_sets =
    hovers (hit 30 0 ∷ hit 20 1 ∷ hit 10 4 ∷ []) (hit 30 0 ∷ hit 20 1 ∷ hit 10 4 ∷ hit 30 0 ∷ []) (Some (hit 20 1)) None (10 ∷ 20 ∷ []) (10 ∷ 20 ∷ 30 ∷ [])
    ∷ hovers (hit 20 1 ∷ hit 15 0 ∷ hit 30 2 ∷ []) (hit 15 0 ∷ []) (Some (hit 20 1)) (Some (hit 30 2)) (20 ∷ 30 ∷ []) (15 ∷ 20 ∷ 30 ∷ [])
    ∷ hovers (hit 30 2 ∷ hit 15 0 ∷ hit 20 1 ∷ []) (hit 15 0 ∷ []) (Some (hit 20 1)) (Some (hit 30 2)) (20 ∷ 30 ∷ []) (15 ∷ 20 ∷ 30 ∷ [])
    ∷ hovers (hit 5 0 ∷ hit 20 1 ∷ []) (hit 9 0 ∷ []) (Some (hit 20 1)) None (20 ∷ []) (9 ∷ 20 ∷ [])
    ∷ hovers (hit 20 1 ∷ []) (hit 9 0 ∷ hit 8 1 ∷ hit 7 2 ∷ []) (Some (hit 20 1)) None (9 ∷ 20 ∷ []) (7 ∷ 8 ∷ 9 ∷ 20 ∷ []) ∷ []

-- ---- refusals of an interact

unfoldable pub with_places : ℕ → ℕ → InteractInput → InteractInput
with_places hovered contains x =
    record {
      widgets = x.widgets;
      close = x.close;
      contains_pointer = x.contains_pointer;
      click = x.click;
      drag = x.drag;
      hovered_places = hovered;
      contains_places = contains;
    }

-- an interact with no widgets that is refused
unfoldable pub refuses : List Hit → List Hit → Option Hit → Option Hit → Row → Step
refuses close contains click drag r = refuses_interact (hits [] close contains click drag) r

unfoldable pub good : Hit
good = hit 1 7

-- an unnamed sense bit; an id of 0; both
unfoldable pub bad_sense : Hit
bad_sense = hit 1 8

unfoldable pub bad_id : Hit
bad_id = hit 0 7

unfoldable pub bad : Hit
bad = hit 0 8

-- "Interact: 8, then by list close, contains_pointer, click, drag: 4, 1, 9 by entry": what breaks two answers the earlier
unfoldable pub interact_order : List Step
interact_order =
    refuses_interact (with_places 65 66 (hits [] (bad ∷ []) [] None None)) (bare_row 8) ∷ refuses_interact (with_places 66 65 on_it) (bare_row 8)
    ∷ refuses (replicate max_hits good ++ (bad ∷ [])) (bad_sense ∷ []) None None (row 4 64)
    ∷ refuses (good ∷ bad_id ∷ replicate max_hits good) (bad_sense ∷ []) None None (bare_row 9)
    ∷ refuses (good ∷ good ∷ bad ∷ []) (bad_id ∷ []) None None (row 1 2)
    ∷ refuses (good ∷ bad_id ∷ bad_sense ∷ []) [] None None (bare_row 9)
    ∷ refuses [] (replicate max_hits good ++ (good ∷ [])) (Some bad_sense) None (row 4 64)
    ∷ refuses [] (good ∷ bad_sense ∷ []) (Some bad_id) None (row 1 1)
    ∷ refuses [] [] (Some bad) (Some bad_id) (row 1 0) ∷ refuses [] [] (Some bad_id) (Some bad_sense) (bare_row 9)
    ∷ refuses [] [] None (Some bad_sense) (row 1 0) ∷ refuses [] [] None (Some bad_id) (bare_row 9)
    ∷ nothing_happens (hits [] (replicate max_hits good) (replicate max_hits good) (Some good) (Some good)) ∷ []

-- "last 10": with the tally full only a start is refused, and only if nothing else is
unfoldable pub full_tally : List Step
full_tally =
    then (dec 1 0) (press (pos 5 5) ∷ []) ∷ tallies max_tally ∷ nothing_happens (off (handle 7)) ∷ refuses_interact (on (handle 7)) (bare_row 10)
    ∷ refuses_interact (with_places 65 66 (on (handle 7))) (bare_row 8) ∷ nothing_happens (on (disabled 2))
    ∷ tallies 4294967294 ∷ drags (on (handle 7)) (Some 7) (Some 7) None ∷ replies tally (count max_tally)
    ∷ then (dec 2 0) (release (pos 5 5) ∷ []) ∷ drags (on (handle 7)) None None (Some 7) ∷ replies tally (count max_tally) ∷ []

unfoldable pub of_interact : List (List Step)
of_interact =
    disabled_drag ∷ disabled_click ∷ clicked_once ∷ clicked_and_gone ∷ pressed_twice ∷ decided_drag ∷ dragged_and_gone ∷ escaped ∷ another_dragged ∷ long_touched ∷ long_pressed
    ∷ interact_order ∷ full_tally ∷ (undecided ++ hovered_sets)

unfoldable pub interact_edges : List (List Step)
interact_edges = of_insertion ++ of_interact
