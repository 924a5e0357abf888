-- The id sets of an interact. Lists of ids are the model's.
use Rattle.std.specs.Prelude.{ℕ, max, Bool, not, ◌&&◌, ◌||◌, cond, List, [], leb, Option}
use Rattle.data.specs.Sense.{senses_click, senses_drag}
use Rattle.model.specs.Interact.{Hit, hit_id, insert_id, insert_some, insert_on_top, order, order_of, contains_pointer_of, hovered_of}
use Rattle.hit_lists.specs.declared.Hit as declared
use Rattle.hit_lists.specs.Hits.{hits_of, view}
use Rattle.hit_refusals.specs.Refusals.{input, unknown}

-- the test that `insert_on_top` makes of an entry
unfoldable pub on_top : ℕ → List Hit → Hit → Bool
on_top top close h = not (senses_click h.sense || senses_drag h.sense) && leb top (order h.id close)

abbrev pub insert_if : Bool → ℕ → List ℕ → List ℕ
insert_if keep d ids = cond keep (insert_id d ids) ids

-- ---- the model's sets, of the parts of an input that they read

abbrev pub both_ids : Option declared.Hit → Option declared.Hit → List ℕ
both_ids click drag = insert_some (hit_id (view click)) (insert_some (hit_id (view drag)) [])

abbrev pub contains_ids : List ℕ → Option declared.Hit → Option declared.Hit → List ℕ
contains_ids within click drag = contains_pointer_of (input unknown [] within click drag 0 0)

abbrev pub busy_ids : Option ℕ → Option ℕ → Option ℕ → List ℕ
busy_ids clicked dragged touched = insert_some clicked (insert_some dragged (insert_some touched []))

abbrev pub free_ids : List ℕ → List ℕ → Option declared.Hit → Option declared.Hit → List ℕ
free_ids close within click drag =
    insert_on_top (max (order_of (view click) (hits_of close)) (order_of (view drag) (hits_of close))) (hits_of close) (hits_of within) (both_ids click drag)

abbrev pub hovered_ids : List ℕ → List ℕ → Option declared.Hit → Option declared.Hit → Option ℕ → Option ℕ → Option ℕ → List ℕ
hovered_ids close within click drag clicked dragged touched =
    hovered_of (input unknown close within click drag 0 0) clicked dragged touched
