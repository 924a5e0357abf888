-- What the words of a hit list, and a hit that may be there, stand for in the model.
use Rattle.std.specs.Prelude.{ℕ, suc, ◌*◌, ◌/◌, Bool, cond, ◌&&◌, List, [], ◌∷◌, ltb, eqb, length, get_or, Option, None, Some}
use Rattle.model.specs.Interact as Model
use Rattle.hit_lists.specs.Types.{Hit}

abbrev pub hit_of : ℕ → ℕ → Model.Hit
hit_of id sense = record { id = id; sense = sense }

-- two words an entry; a lone last word is no entry
unfoldable pub hits_of : List ℕ → List Model.Hit
hits_of [] = []
hits_of (id ∷ []) = []
hits_of (id ∷ sense ∷ words) = hit_of id sense ∷ hits_of words

-- whether entry n of the words has the id
unfoldable pub hit_at : ℕ → ℕ → List ℕ → Bool
hit_at id n words = ltb n (length words / 2) && eqb id (get_or words (n * 2) 0)

-- the first place of the id among the entries from entry n on
unfoldable pub position_from : ℕ → ℕ → List Model.Hit → Option ℕ
position_from id n [] = None
position_from id n (h ∷ hs) = cond (eqb id h.id) (Some n) (position_from id (suc n) hs)

-- the first place of the id among the entries from entry n on; past the last of them if it has none
unfoldable pub seek_from : ℕ → ℕ → List Model.Hit → ℕ
seek_from id n [] = n
seek_from id n (h ∷ hs) = cond (eqb id h.id) n (seek_from id (suc n) hs)

-- Option<Hit>
unfoldable pub view : Option Hit → Option Model.Hit
view None = None
view (Some h) = Some (hit_of h.id h.sense)
