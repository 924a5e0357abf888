-- Words written into a lent buffer.
use Rattle.std.specs.Prelude.{ℕ, suc, List, [], ◌∷◌, set}

-- word after word, from place `at` on
unfoldable pub put : ℕ → List ℕ → List ℕ → List ℕ
put at [] feed = feed
put at (w ∷ ws) feed = put (suc at) ws (set feed at w)
