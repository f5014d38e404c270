-- Forms of the values in a descriptor.
use Rattle.std.specs.Prelude.{ℕ, List, [], ◌∷◌, Option, Some, None, Result, Ok, Err, true, false, if◌then◌else◌}
use Rattle.es_tree.specs.declared.tree.Tree.{Tree, out-Tree}
use Rattle.es_tree.specs.declared.tree.Tree.TheOpen.{Tree-F}
use Rattle.es_grammar.specs.Values.{spelled_form}
use Rattle.es_grammar.specs.Members.{ends_of}
use Rattle.es_glob.specs.Patterns.{is_pattern}
use Rattle.es_priv.specs.declared.kinds.IndexPrivilege.{IndexPrivilege}
use Rattle.es_priv.specs.declared.kinds.ClusterPrivilege.{ClusterPrivilege}
use Rattle.es_priv.specs.Names.{index_named, cluster_named}

-- the pattern that a text is
abbrev pub pattern_named : List ℕ → Option (List ℕ)
pattern_named text = if is_pattern text then Some text else None

-- a text that is a pattern
abbrev pub pattern_form : Tree → Result (List ℕ) (List ℕ)
pattern_form = spelled_form pattern_named

-- the name of a privilege on indices
abbrev pub index_privilege_form : Tree → Result IndexPrivilege (List ℕ)
index_privilege_form = spelled_form index_named

-- the name of a privilege on the cluster
abbrev pub cluster_privilege_form : Tree → Result ClusterPrivilege (List ℕ)
cluster_privilege_form = spelled_form cluster_named

abbrev pub nothing_in : Tree-F Tree → Result (Unit {0}) (List ℕ)
nothing_in Tree-F.Null = Err []
nothing_in (Tree-F.Bool b) = Err []
nothing_in (Tree-F.Int z) = Err []
nothing_in (Tree-F.Text s) = Err []
nothing_in (Tree-F.List []) = Ok tt
nothing_in (Tree-F.List (t ∷ ts)) = Err []
nothing_in (Tree-F.Object ms) = ends_of ms

-- an empty list, or an object without members
abbrev pub nothing_form : Tree → Result (Unit {0}) (List ℕ)
nothing_form t = nothing_in (out-Tree t)

abbrev pub false_in : Tree-F Tree → Result (Unit {0}) (List ℕ)
false_in Tree-F.Null = Err []
false_in (Tree-F.Bool true) = Err []
false_in (Tree-F.Bool false) = Ok tt
false_in (Tree-F.Int z) = Err []
false_in (Tree-F.Text s) = Err []
false_in (Tree-F.List ts) = Err []
false_in (Tree-F.Object ms) = Err []

-- the truth value false
abbrev pub false_form : Tree → Result (Unit {0}) (List ℕ)
false_form t = false_in (out-Tree t)
