-- The scalars that are reached where a part of a path is left, for private clauses.
use Rattle.std.specs.Prelude.{ℕ, List, [], ◌∷◌, map, Bool, true, false, Option, Some, None, ◌==◌, if◌then◌else◌}
use Rattle.std.specs.List.{filter}
use Rattle.std.specs.Option.{option_copied}
use Rattle.std.specs.Str.{bytes_eq}
use Rattle.es_tree.specs.declared.tree.Tree.{Tree}
use Rattle.es_tree.specs.declared.tree.Named.{Named}
use Rattle.es_tree.specs.Leaves.{dotted_after, paths_of}
use Rattle.es_path.specs.declared.left.Left.{Left}

-- whether a scalar is at the path with no names further, and the text of the names that may lead on
abbrev pub Rest : Type 0
Rest = Bool × Option (List ℕ)

abbrev pub left_of : Left → Rest
left_of left = (left.is_end, option_copied left.names)

-- what is left at the top of a tree
abbrev pub whole_path : List ℕ → Rest
whole_path path = (bytes_eq [] path, Some path)

abbrev pub leads_by : List ℕ → Option (List ℕ) → Bool
leads_by text None = false
leads_by text (Some names) = bytes_eq text names

-- whether the names lead to a scalar at the path
abbrev pub leads : Rest → List (List ℕ) → Bool
leads rest [] = rest.0
leads rest (name ∷ names) = leads_by (dotted_after name names) rest.1

-- the scalars at the path, where this is left of it
unfoldable pub reached : Rest → Tree → List Tree
reached rest t = map (λ p. p.1) (filter (λ p. leads rest p.0) (paths_of t))

-- what follows the beginning of a text
abbrev pub text_behind : List ℕ → List ℕ → Option (List ℕ)
text_behind [] text = Some text
text_behind (x ∷ xs) [] = None
text_behind (x ∷ xs) (y ∷ ys) = if x == y then text_behind xs ys else None

-- the path ends here, or goes on behind a dot
abbrev pub behind_dot : Option (List ℕ) → Option Rest
behind_dot None = None
behind_dot (Some []) = Some (true, None)
behind_dot (Some (c ∷ names)) = if 46 == c then Some (false, Some names) else None

-- what is left behind a member's name
unfoldable pub behind : List ℕ → List ℕ → Option Rest
behind name names = behind_dot (text_behind name names)

abbrev pub reached_by : Option Rest → Tree → List Tree
reached_by None t = []
reached_by (Some rest) t = reached rest t

-- the scalars at the path in a member
unfoldable pub reached_in : List ℕ → Named Tree → List Tree
reached_in names m = reached_by (behind m.name names) m.value
