-- What a request's body is.
use Rattle.std.specs.Prelude.{ℕ, List, [], ◌∷◌, codes, Result, Ok, Err}
use Rattle.es_tree.specs.Read.{read_of}
use Rattle.es_tree.specs.declared.tree.Tree.{Tree}
use Rattle.es_tree.specs.declared.tree.Named.{Named}
use Rattle.es_tree.specs.declared.fault.TreeFault.{TreeFault}
use Rattle.es_tree.specs.declared.fault.TreeFault.TheVariants as fault
use Rattle.es_grammar.specs.Reading.{placed, or_empty}
use Rattle.es_grammar.specs.Grammar.{◌>>=◌, object, member, no_more, means}
use Rattle.es_grammar.specs.Values.{object_form}
use Rattle.es_value.specs.declared.kinds.FieldType.{FieldType}
use Rattle.es_mapping.specs.Mappings.{mapping_form}
use Rattle.es_role.specs.declared.kinds.Descriptor.{Descriptor}
use Rattle.es_compose.specs.Checked.{checked_form}
use Rattle.es_cred.specs.declared.users.UserRecord.{UserRecord}
use Rattle.es_cred.specs.Users.{user_form}
use Rattle.es_response.specs.Reply.{ReplyValue}
use Rattle.es_reply.specs.Bodies.{bad_json, bad_body}

-- why bytes are no tree; a definition is never refused memory
abbrev pub json_reason : TreeFault → List ℕ
json_reason fault.NotJson = codes "the body is not JSON"
json_reason fault.TooDeep = codes "the body is nested too deeply"
json_reason fault.NotWhole = codes "the body has a number that is not a 64-bit whole number"
json_reason fault.NoMemory = []

-- what was read of the body's tree, or the reply that names the place of the first fault
abbrev pub or_bad_body : {A : Type 0} → Result A (List ℕ) → Result A ReplyValue
or_bad_body (Ok x) = Ok x
or_bad_body (Err place) = Err (bad_body place)

abbrev pub or_bad_json : Result Tree TreeFault → Result Tree ReplyValue
or_bad_json (Ok t) = Ok t
or_bad_json (Err fault) = Err (bad_json (json_reason fault))

-- the tree that a body is
abbrev pub tree_of_body : List ℕ → Result Tree ReplyValue
tree_of_body body = or_bad_json (read_of body)

abbrev pub of_tree : {A : Type 0} → (Tree → Result A (List ℕ)) → Result Tree ReplyValue → Result A ReplyValue
of_tree form (Ok t) = or_bad_body (placed [] (form t))
of_tree form (Err reply) = Err reply

-- what a body of the form means, or the refusal of another body
unfoldable pub body_of : {A : Type 0} → (Tree → Result A (List ℕ)) → List ℕ → Result A ReplyValue
body_of form body = of_tree form (tree_of_body body)

-- a document is an object
abbrev pub document_of : List ℕ → Result Tree ReplyValue
document_of = body_of object_form

abbrev pub descriptor_of : List ℕ → Result Descriptor ReplyValue
descriptor_of = body_of checked_form

-- the user of this name
abbrev pub user_of : List ℕ → List ℕ → Result UserRecord ReplyValue
user_of name = body_of (user_form name)

-- what an index is created with: its mapping, and settings without effect
unfoldable pub creation_form : Tree → Result (List (Named FieldType)) (List ℕ)
creation_form = object (do
  mapping ← member (codes "mappings") mapping_form
  settings ← member (codes "settings") object_form
  end ← no_more
  means (or_empty mapping))

-- the mapping of an index that is created with this body; without a body it has no fields
abbrev pub mapping_of_creation : List ℕ → Result (List (Named FieldType)) ReplyValue
mapping_of_creation [] = Ok []
mapping_of_creation (b ∷ body) = body_of creation_form (b ∷ body)
