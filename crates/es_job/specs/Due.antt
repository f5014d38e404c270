-- Composed roles that are to be published.
use Rattle.std.specs.Prelude.{◌≡◌, List, [], ◌∷◌, map as list_map, Option, Some, None}
use Rattle.es_role.specs.declared.kinds.Descriptor.{Descriptor}
use Rattle.es_keys.specs.declared.kinds.RoleKey.{RoleKey}
use Rattle.es_decide.specs.declared.kinds.Halves.{Halves}
use Rattle.es_vault.specs.declared.names.HalfKeys.{HalfKeys}
use Rattle.es_job.specs.declared.due.Pair.{Pair}
use Rattle.es_job.specs.declared.due.Due.{Due}

abbrev pub pair_of : Pair → RoleKey × List Descriptor
pair_of pair = (pair.key, pair.role)

abbrev pub with_pair : Option Pair → List (RoleKey × List Descriptor) → List (RoleKey × List Descriptor)
with_pair None pairs = pairs
with_pair (Some pair) pairs = pair_of pair ∷ pairs

-- what is still to be published, in order
abbrev pub due_pairs : Due → List (RoleKey × List Descriptor)
due_pairs due = with_pair due.first (with_pair due.limit (with_pair due.target []))

-- the names alone
abbrev pub due_keys : Due → List RoleKey
due_keys due = list_map (λ pair. pair.0) (due_pairs due)

-- a half that may be absent, with its composed role
abbrev pub paired : Option RoleKey → Option (List Descriptor) → List (RoleKey × List Descriptor) → List (RoleKey × List Descriptor)
paired None role pairs = pairs
paired (Some key) None pairs = pairs
paired (Some key) (Some role) pairs = (key, role) ∷ pairs

-- the halves of these names, in the order of the steps
abbrev pub pairs_for : HalfKeys → Halves → List (RoleKey × List Descriptor)
pairs_for keys halves = (keys.first, halves.first) ∷ paired keys.limit halves.limit (paired keys.target halves.target [])

-- all but the first
abbrev pub rest_of : {X : Type 0} → List X → List X
rest_of [] = []
rest_of (x ∷ xs) = xs

-- the first, if there is one
abbrev pub first_of : {X : Type 0} → List X → Option X
first_of [] = None
first_of (x ∷ xs) = Some x
