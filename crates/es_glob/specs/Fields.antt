-- Which fields a rule grants, each named by its path.
use Rattle.std.specs.Prelude.{ℕ, List, Bool, true, false, ◌&&◌, not}
use Rattle.std.specs.List.{list_any}
use Rattle.es_glob.specs.Patterns.{any_fits}
use Rattle.es_glob.specs.declared.field.FieldPair.{FieldPair}
use Rattle.es_glob.specs.declared.field.FieldClause.{FieldClause}
use Rattle.es_glob.specs.declared.field.FieldClause.TheVariants.{All, Any}
use Rattle.es_glob.specs.declared.field.FieldRule.{FieldRule}

-- whether one of the patterns that grant fits the path, and none of the exceptions does
abbrev pub pair_grants : FieldPair → List ℕ → Bool
pair_grants pair path = any_fits pair.grant path && not (any_fits pair.except path)

-- whether the clause grants every path, or one of its pairs grants this one
abbrev pub clause_grants : FieldClause → List ℕ → Bool
clause_grants All path = true
clause_grants (Any pairs) path = list_any (λ pair. pair_grants pair path) pairs

-- whether both clauses grant the path
abbrev pub rule_grants : FieldRule → List ℕ → Bool
rule_grants rule path = clause_grants rule.first path && clause_grants rule.second path

-- whether the clause is the one that grants every path
abbrev pub clause_grants_all : FieldClause → Bool
clause_grants_all All = true
clause_grants_all (Any pairs) = false

-- whether both clauses grant every path
abbrev pub grants_all : FieldRule → Bool
grants_all rule = clause_grants_all rule.first && clause_grants_all rule.second
