-- What the private functions of the checks leave. No public promise speaks of it: those are in Checks.
use Rattle.std.specs.Prelude.{Bool, true, List, [], ◌∷◌, ℕ, set}

-- each part of a list is marked
unfoldable pub ended : List ℕ → List Bool → List Bool
ended [] l = l
ended (p ∷ ps) l = ended ps (set l p true)
