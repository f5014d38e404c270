-- The rule that a grammar of objects follows: a table of names, each with a form of values. The first member, in the byte order of the names, whose name isn't in the table or whose value isn't of its form is the first fault; a fault at the object itself comes only where there is none.
use Rattle.std.specs.Prelude.{◌≡◌, ⊤, ℕ, pos, List, [], ◌∷◌, map, Option, true, Result, Ok, Err, if◌then◌else◌, ℤ, codes}
use Rattle.std.specs.Str.{bytes_eq}
use Rattle.es_tree.specs.declared.tree.Tree.{Tree}
use Rattle.es_tree.specs.declared.tree.Tree as tree
use Rattle.es_tree.specs.declared.tree.Named.{Named}
use Rattle.es_tree.specs.Rising.{name_of, is_rising}
use Rattle.es_grammar.specs.Reading.{◌>>=◌ as ◌then◌}
use Rattle.es_grammar.specs.Values.{text_form, whole_form}
use Rattle.es_grammar.specs.Members.{each_of}
use Rattle.es_grammar.specs.Grammar.{◌>>=◌, member, no_more, required, means, object}

-- whether a value is of the form, whatever it means
abbrev pub fits : {A : Type 0} → (Tree → Result A (List ℕ)) → Tree → Result (Unit {0}) (List ℕ)
fits form t = form t then λ _. Ok tt

-- names, each with the form of its values
abbrev pub Table : Type 0
Table = List (Named (Tree → Result (Unit {0}) (List ℕ)))

abbrev pub row : {A : Type 0} → List ℕ → (Tree → Result A (List ℕ)) → Named (Tree → Result (Unit {0}) (List ℕ))
row name form = record { name = name; value = fits form }

-- a member whose name is in the table has a value of its form; no other member is permitted
abbrev pub in_table : Table → List ℕ → Tree → Result (Unit {0}) (List ℕ)
in_table [] name t = Err []
in_table (r ∷ rows) name t = if bytes_eq r.name name then r.value t else in_table rows name t

-- if there is a fault, it stands at the object itself
abbrev pub FaultsHere : {A : Type 0} → Result A (List ℕ) → Type 0
FaultsHere (Ok x) = ⊤
FaultsHere (Err place) = place ≡ []

-- the fault of the walk over all members; where it has none, at most one at the object itself
abbrev pub Agrees : {A B : Type 0} → Result A (List ℕ) → Result B (List ℕ) → Type 0
Agrees (Ok x) reading = FaultsHere reading
Agrees (Err place) reading = reading ≡ Err place

-- the lines of a grammar follow the table
pub record Follows {A : Type 0} (table : Table) (lines : List (Named Tree) → Result (A × List (Named Tree)) (List ℕ)) : Type 0 where
  pub agrees : (ms : List (Named Tree)) → is_rising (map name_of ms) ≡ true → Agrees (each_of (in_table table) ms) (lines ms)

-- a form of objects follows the table
abbrev pub ObjectFollows : {A : Type 0} → Table → (Tree → Result A (List ℕ)) → Type 0
ObjectFollows table form = (ms : List (Named Tree)) → is_rising (map name_of ms) ≡ true → Agrees (each_of (in_table table) ms) (form (tree.Object ms))

-- ---- the rule at a small grammar: a level from 1 to 9, which may be absent, and a name, which may not

abbrev pub sample_form : Tree → Result (Option ℤ × List ℕ) (List ℕ)
sample_form = object (do
  level ← member (codes "level") (whole_form (pos 1) (pos 9))
  name ← member (codes "name") text_form
  end ← no_more
  the_name ← required name
  means (level, the_name))

abbrev pub sample_table : Table
sample_table = row (codes "level") (whole_form (pos 1) (pos 9)) ∷ row (codes "name") text_form ∷ []
