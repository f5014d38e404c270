-- Descriptors whose queries were checked.
use Rattle.std.specs.Prelude.{◌≡◌, ℕ, List, [], Option, option_map, Result, Ok, Err, codes, bytes_eq, if◌then◌else◌}
use Rattle.es_tree.specs.declared.tree.Tree.{Tree, out-Tree}
use Rattle.es_tree.specs.declared.tree.Tree.TheOpen.{Tree-F}
use Rattle.es_tree.specs.declared.fault.TreeFault.{TreeFault}
use Rattle.es_tree.specs.Read.{read_of}
use Rattle.es_grammar.specs.Reading.{◌>>=◌ as ◌then◌, below}
use Rattle.es_grammar.specs.Members.{inside}
use Rattle.es_grammar.specs.Grammar.{◌>>=◌, object, member, no_more, required, only_member}
use Rattle.es_grammar.specs.Values.{items_of}
use Rattle.es_grammar.specs.Printing.{single}
use Rattle.es_query.specs.declared.kinds.Query as query
use Rattle.es_query.specs.Queries.{query_clause_form}
use Rattle.es_query.specs.Printed.{query_tree}
use Rattle.es_template.specs.declared.kinds.Template.{Template}
use Rattle.es_template.specs.Sources.{source_form}
use Rattle.es_template.specs.Printed.{template_tree}
use Rattle.es_role.specs.declared.kinds.IndexGroup.{IndexGroup}
use Rattle.es_role.specs.declared.kinds.Descriptor.{Descriptor}
use Rattle.es_role.specs.Descriptors.{descriptor_form}
use Rattle.es_role.specs.Printed.{descriptor_tree}
use Rattle.es_compose.specs.declared.query.RoleQuery.{RoleQuery}
use Rattle.es_compose.specs.declared.query.RoleQuery.TheVariants.{Fixed, Filled}

-- a template by its source
unfoldable pub template_form : Tree → Result Template (List ℕ)
template_form = object (do
  source ← member (codes "source") source_form
  end ← no_more
  required source)

-- the one member of a role's query, by its name: a template, or a clause of a query
unfoldable pub role_clause_form : List ℕ → Tree → Result RoleQuery (List ℕ)
role_clause_form name t = if bytes_eq name (codes "template") then (template_form t then λ template. Ok (Filled template)) else (query_clause_form name t then λ query. Ok (Fixed query))

-- an object whose one member is such a one
unfoldable pub role_object_form : Tree → Result RoleQuery (List ℕ)
role_object_form = object (only_member role_clause_form)

-- the query of a role that a text was read as
abbrev pub role_query_read : Result Tree TreeFault → Result RoleQuery (List ℕ)
role_query_read (Ok t) = role_object_form t
role_query_read (Err fault) = Err []

abbrev pub role_query_in : Tree → Tree-F Tree → Result RoleQuery (List ℕ)
role_query_in t Tree-F.Null = Err []
role_query_in t (Tree-F.Bool b) = Err []
role_query_in t (Tree-F.Int z) = Err []
role_query_in t (Tree-F.Text s) = role_query_read (read_of s)
role_query_in t (Tree-F.List ts) = Err []
role_query_in t (Tree-F.Object ms) = role_object_form t

-- The query of a role: an object, or a text that is read as one. A place inside a text that was read goes on from the text's.
unfoldable pub role_query_form : Tree → Result RoleQuery (List ℕ)
role_query_form t = role_query_in t (out-Tree t)

-- the tree of a role's query: the query in its canonical form, or the template with its source as a tree
abbrev pub role_query_tree : RoleQuery → Tree
role_query_tree (Fixed query) = query_tree query
role_query_tree (Filled template) = single (codes "template") (single (codes "source") (template_tree template))

-- a member of `indices` with the tree of its query, which was read
abbrev pub with_query : IndexGroup → Option RoleQuery → IndexGroup
with_query group found = record { names = group.names; privileges = group.privileges; fields = group.fields; query = option_map role_query_tree found }

-- a member of `indices` whose query is one, with its tree
abbrev pub checked_group : IndexGroup → Result IndexGroup (List ℕ)
checked_group group = inside (codes "query") role_query_form group.query then λ found. Ok (with_query group found)

-- the descriptor with these members of `indices`
abbrev pub with_indices : Descriptor → List IndexGroup → Descriptor
with_indices descriptor indices = record { cluster = descriptor.cluster; indices = indices; run_as = descriptor.run_as; metadata = descriptor.metadata }

-- a descriptor each of whose queries is one, with their trees, or the place of the first that isn't, in the order of `indices`
unfoldable pub checked_of : Descriptor → Result Descriptor (List ℕ)
checked_of descriptor = below (codes "indices") (items_of checked_group 0 descriptor.indices) then λ indices. Ok (with_indices descriptor indices)

-- A descriptor that is read and then checked: the faults of queries come after all others.
unfoldable pub checked_form : Tree → Result Descriptor (List ℕ)
checked_form t = descriptor_form t then checked_of

-- what is printed of it is read and checked to the same
abbrev pub IsChecked : Descriptor → Type 0
IsChecked descriptor = checked_form (descriptor_tree descriptor) ≡ Ok descriptor

-- a query, and nothing for what isn't one
abbrev pub or_nothing : Result RoleQuery (List ℕ) → RoleQuery
or_nothing (Ok found) = found
or_nothing (Err place) = Fixed query.Nothing

-- the query that the tree of a checked member is; nothing holds for a tree that isn't one
unfoldable pub role_query : Tree → RoleQuery
role_query t = or_nothing (role_query_form t)
