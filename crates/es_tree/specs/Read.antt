-- The tree that bytes are.
use Rattle.std.specs.Prelude.{◌≡◌, ◌⊎◌, ℕ, List, [], ◌∷◌, Option, Some, None, option_map, option_and_then, Result, Ok, Err, if◌then◌else◌, nat_lt}
use Rattle.std.specs.Str.{is_utf8}
use Rattle.serde_json.specs.Data.{Data, null, boolean, number, string, array, object, Items, no_items, item, Members, no_members, member, depth}
use Rattle.serde_json.specs.Find.{as_i64}
use Rattle.serde_json.specs.Read.{read}
use Rattle.es_tree.specs.declared.tree.Tree.{Tree}
use Rattle.es_tree.specs.declared.tree.Tree as tree
use Rattle.es_tree.specs.declared.tree.Named.{Named}
use Rattle.es_tree.specs.declared.fault.TreeFault.{TreeFault}
use Rattle.es_tree.specs.declared.fault.TreeFault.TheVariants.{NotJson, TooDeep, NotWhole, NoMemory}

-- The JSON that the bytes are, of at most 127 levels. Of members with one name the last stands, and they stand in the order of their names' bytes.
unfoldable pub json_of : List ℕ → Option Data
json_of bytes = if is_utf8 bytes then read bytes else None

-- its tree, if each number is whole and fits
abbrev mutual
  pub tree_of : Data → Option Tree
  tree_of null = Some tree.Null
  tree_of (boolean b) = Some (tree.Bool b)
  tree_of (number n) = option_map tree.Int (as_i64 n)
  tree_of (string s) = Some (tree.Text s)
  tree_of (array ds) = option_map tree.List (trees_of ds)
  tree_of (object ms) = option_map tree.Object (members_of ms)

  pub trees_of : Items → Option (List Tree)
  trees_of no_items = Some []
  trees_of (item d ds) = option_and_then (λ t. option_map (λ ts. t ∷ ts) (trees_of ds)) (tree_of d)

  pub members_of : Members → Option (List (Named Tree))
  members_of no_members = Some []
  members_of (member name d ms) = option_and_then (λ t. option_map (λ rest. record { name = name; value = t } ∷ rest) (members_of ms)) (tree_of d)

-- how many lists and objects may stand inside one another
abbrev pub max_levels : ℕ
max_levels = 30

abbrev pub or_not_whole : Option Tree → Result Tree TreeFault
or_not_whole None = Err NotWhole
or_not_whole (Some t) = Ok t

-- the tree of what the bytes are, or the first of the faults: no JSON, more levels than the limit, a number that isn't whole or doesn't fit
abbrev pub or_fault : ℕ → Option Data → Result Tree TreeFault
or_fault limit None = Err NotJson
or_fault limit (Some d) = if nat_lt limit (depth d) then Err TooDeep else or_not_whole (tree_of d)

-- what reading bytes of at most so many levels gives, while memory lasts
unfoldable pub read_within_of : ℕ → List ℕ → Result Tree TreeFault
read_within_of limit bytes = or_fault limit (json_of bytes)

-- what reading bytes of at most 30 levels gives
unfoldable pub read_of : List ℕ → Result Tree TreeFault
read_of = read_within_of max_levels

-- ---- for private clauses

-- what was converted, or that a number isn't whole, unless memory was refused
abbrev pub Converts : {A : Type 0} → Result A TreeFault → Option A → Type 0
Converts (Ok a) o = o ≡ Some a
Converts (Err f) o = (f ≡ NoMemory) ⊎ ((f ≡ NotWhole) × (o ≡ None))
