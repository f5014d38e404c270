-- Trails of names through a document, as texts. For private clauses.
use Rattle.std.specs.Prelude.{ℕ, List, [], ◌∷◌, ◌++◌, Option, ◌==◌, codes, if◌then◌else◌}
use Rattle.es_glob.specs.declared.field.FieldRule.{FieldRule}
use Rattle.es_glob.specs.Fields.{rule_grants}
use Rattle.es_tree.specs.declared.tree.Tree.{Tree}
use Rattle.es_tree.specs.declared.tree.Named.{Named}
use Rattle.es_fields.specs.Projection.{NamesTest, test_behind, member_if, left_of}

-- the names, with a dot before each
abbrev pub dots_before : List (List ℕ) → List ℕ
dots_before [] = []
dots_before (name ∷ names) = codes "." ++ (name ++ dots_before names)

-- the text without a dot at its front
abbrev pub without_dot : List ℕ → List ℕ
without_dot [] = []
without_dot (c ∷ cs) = if c == 46 then cs else c ∷ cs

-- whether the rule grants the field to which a trail leads, and these names behind it
abbrev pub grants_behind : FieldRule → List ℕ → NamesTest
grants_behind rule trail names = rule_grants rule (without_dot (trail ++ dots_before names))

-- what is left of a member
abbrev pub left_in : NamesTest → Named Tree → Option (Named Tree)
left_in granted m = member_if m.name (left_of m.value (test_behind granted m.name))
