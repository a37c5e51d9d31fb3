-- What a seat that is tied to its store has of the table.
use Rattle.shelf.proofs.Names.{◌≡◌, List, [], ◌∷◌, Role}

-- a seat without slots has one role
pub its_role : (views : List Role) (m v : Role) → views ≡ m ∷ [] → views ≡ v ∷ [] → m ≡ v
its_role views m v one other = cc
