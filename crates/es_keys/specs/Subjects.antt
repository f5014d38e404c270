-- How denials name the subject of a request.
use Rattle.std.specs.Prelude.{ℕ, List, [], ◌++◌, codes}
use Rattle.es_keys.specs.declared.kinds.Caller.{Caller}
use Rattle.es_keys.specs.declared.kinds.Caller.TheVariants as caller
use Rattle.es_keys.specs.declared.kinds.Target.{Target}
use Rattle.es_keys.specs.declared.kinds.Target.TheVariants as target
use Rattle.es_keys.specs.declared.kinds.Subject.{Subject}

-- a user by its name; a key by its id and its owner's name
unfoldable pub caller_text : Caller → List ℕ
caller_text (caller.User user) = codes "user [" ++ (user.person.username ++ codes "]")
caller_text (caller.Key kept) = codes "API key id [" ++ (kept.id ++ (codes "] of user [" ++ (kept.owner.username ++ codes "]")))

-- a user that the caller runs as by its name; nothing where it runs as itself, or as a user that there isn't
abbrev pub target_text : Target → List ℕ
target_text target.Own = []
target_text (target.As user) = codes " run as [" ++ (user.person.username ++ codes "]")
target_text target.Unknown = []

-- the caller, and the user that it runs as
unfoldable pub subject_text : Subject → List ℕ
subject_text subject = caller_text subject.caller ++ target_text subject.target
