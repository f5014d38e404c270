-- Descriptors of roles, as trees are read.
use Rattle.std.specs.Prelude.{ℕ, List, [], ◌∷◌, Option, Some, None, Result, Bool, ◌&&◌, ◌||◌, not, is_some, codes}
use Rattle.std.specs.List.{list_all}
use Rattle.es_tree.specs.declared.tree.Tree.{Tree}
use Rattle.es_grammar.specs.Reading.{or_empty, or_no_members}
use Rattle.es_grammar.specs.Grammar.{◌>>=◌, object, member, no_more, required, means, means_where}
use Rattle.es_grammar.specs.Values.{any_form, text_form, object_form, is_object, list_form, one_or_list_form, one_or_more_form, empty_list_form, has_some}
use Rattle.es_glob.specs.declared.field.FieldPair.{FieldPair}
use Rattle.es_role.specs.declared.kinds.IndexGroup.{IndexGroup}
use Rattle.es_role.specs.declared.kinds.Descriptor.{Descriptor}
use Rattle.es_role.specs.Values.{pattern_form, index_privilege_form, cluster_privilege_form, nothing_form, false_form}

-- the patterns that grant; an absent list grants every field
abbrev pub or_every_field : Option (List (List ℕ)) → List (List ℕ)
or_every_field None = codes "*" ∷ []
or_every_field (Some patterns) = patterns

-- fields that are granted, and exceptions; at least one of both lists is there
unfoldable pub pair_form : Tree → Result FieldPair (List ℕ)
pair_form = object (do
  except ← member (codes "except") (list_form pattern_form)
  grant ← member (codes "grant") (list_form pattern_form)
  end ← no_more
  means_where (λ pair. is_some grant || is_some except) (record { grant = or_every_field grant; except = or_empty except }))

-- a member of `indices`; any tree is taken for its query
unfoldable pub group_form : Tree → Result IndexGroup (List ℕ)
group_form = object (do
  allow_restricted_indices ← member (codes "allow_restricted_indices") false_form
  fields ← member (codes "field_security") pair_form
  names ← member (codes "names") (one_or_more_form pattern_form)
  privileges ← member (codes "privileges") (one_or_list_form index_privilege_form)
  query ← member (codes "query") any_form
  end ← no_more
  the_names ← required names
  the_privileges ← required privileges
  means (record { names = the_names; privileges = the_privileges; fields = fields; query = query }))

-- a descriptor
unfoldable pub descriptor_form : Tree → Result Descriptor (List ℕ)
descriptor_form = object (do
  applications ← member (codes "applications") empty_list_form
  cluster ← member (codes "cluster") (list_form cluster_privilege_form)
  description ← member (codes "description") text_form
  everywhere ← member (codes "global") nothing_form
  indices ← member (codes "indices") (list_form group_form)
  metadata ← member (codes "metadata") object_form
  remote_cluster ← member (codes "remote_cluster") empty_list_form
  remote_indices ← member (codes "remote_indices") empty_list_form
  run_as ← member (codes "run_as") (list_form pattern_form)
  transient_metadata ← member (codes "transient_metadata") object_form
  end ← no_more
  means (record { cluster = or_empty cluster; indices = or_empty indices; run_as = or_empty run_as; metadata = or_no_members metadata }))

-- a member of `indices` that a reader may give: it has names
unfoldable pub is_sound_group : IndexGroup → Bool
is_sound_group group = has_some group.names

-- a descriptor that a reader may give: its metadata is an object, and each member of `indices` is such a one
unfoldable pub is_sound : Descriptor → Bool
is_sound descriptor = is_object descriptor.metadata && list_all is_sound_group descriptor.indices

-- whether it grants nothing: it has no privilege on the cluster, no member of `indices`, and no pattern of users to run as
abbrev pub grants_nothing : Descriptor → Bool
grants_nothing descriptor = not (has_some descriptor.cluster) && (not (has_some descriptor.indices) && not (has_some descriptor.run_as))
