-- What holds of records, their changes, and the halves of the subjects in them.
use Rattle.std.specs.Prelude.{◌≡◌, ⊤, ℕ, ◌+◌, false, List, [], ◌∷◌, ◌++◌, Option, Some, None, is_some, IsTrue, IfSome}
use Rattle.std.specs.FinMap as map
use Rattle.es_cred.specs.declared.credentials.Credentials.{Credentials}
use Rattle.es_keys.specs.declared.kinds.KeyRecord.{KeyRecord}
use Rattle.es_keys.specs.declared.kinds.RoleKey.{RoleKey}
use Rattle.es_keys.specs.declared.kinds.RoleKey.TheVariants.{Names, Assigned, Limits}
use Rattle.es_keys.specs.declared.kinds.Subject.{Subject}
use Rattle.es_keys.specs.Halves.{halves_of}
use Rattle.es_decide.specs.Decisions.{IsFitting}
use Rattle.es_records.specs.declared.change.SecurityChange.{SecurityChange}
use Rattle.es_records.specs.declared.change.SecurityChange.TheVariants.{AddKey}
use Rattle.es_records.specs.Records.{RecordsValue, IsNamed, who, named, descriptors_of}
use Rattle.es_records.specs.Changes.{with_security, Fits, drops}
use Rattle.es_records.specs.Halves.{roles_of, halves_in, halves_by, first_name, limit_name, target_name, IsOf}

-- ---- counts of changes

-- the records after a list of changes of any kind, each of which is a change of users, roles or keys, a clearing, or something else, for which nothing stands
abbrev pub records_after : RecordsValue → List (Option SecurityChange) → RecordsValue
records_after records [] = records
records_after records (None ∷ changes) = records_after records changes
records_after records (Some change ∷ changes) = records_after (with_security records change) changes

-- how many of them are such changes or clearings
abbrev pub count_of : List (Option SecurityChange) → ℕ
count_of [] = 0
count_of (None ∷ changes) = count_of changes
count_of (Some change ∷ changes) = count_of changes + 1

-- equal counts after some changes and after more of them mean equal records: what isn't counted leaves them
abbrev pub CountTells : Type 0
CountTells = (records : RecordsValue) (changes more : List (Option SecurityChange)) → count_of (changes ++ more) ≡ count_of changes → records_after records (changes ++ more) ≡ records_after records changes

-- ---- drops

-- the key that the half is of stands
abbrev pub IsStanding : RecordsValue → RoleKey → Type 0
IsStanding records (Names names) = ⊤
IsStanding records (Assigned id) = IsTrue (is_some (map.get records.keys id))
IsStanding records (Limits id) = IsTrue (is_some (map.get records.keys id))

-- a half whose key stands, and that the table of drops keeps, stands for the same descriptors after a change that fits as before
abbrev pub DropsTell : Type 0
DropsTell = (records : RecordsValue) (change : SecurityChange) (key : RoleKey) → IsStanding records key → Fits records change → drops change key ≡ false → roles_of (with_security records change) key ≡ roles_of records key

-- a key that stands goes on standing
abbrev pub StandingStays : Type 0
StandingStays = (records : RecordsValue) (change : SecurityChange) (key : RoleKey) → IsStanding records key → IsStanding (with_security records change) key

-- ---- halves

abbrev pub listed : Option RoleKey → List RoleKey
listed None = []
listed (Some key) = key ∷ []

-- by the names of its halves the subject has the halves of these records, and the keys that they are of stand
pub record HasHalves (records : RecordsValue) (subject : Subject) : Type 0 where
  pub names : halves_of subject ≡ first_name subject.caller ∷ (listed (limit_name subject.caller) ++ listed (target_name subject.target))
  pub same : halves_by (roles_of records) subject ≡ halves_in records subject
  pub fitting : IsFitting subject (halves_in records subject)
  pub first_stands : IsStanding records (first_name subject.caller)
  pub limit_stands : IfSome (limit_name subject.caller) (IsStanding records)

-- what is decided by the composed roles of a subject's halves is decided by the records
abbrev pub HalvesTell : Type 0
HalvesTell = (records : RecordsValue) (subject : Subject) → IsOf records subject.caller → HasHalves records subject

-- a key that is known is the one that stands at its id
abbrev pub WhoIsOf : Type 0
WhoIsOf = (records : RecordsValue) (credentials : Credentials) (run_as : Option (List ℕ)) (moment : ℕ) (subject : Subject) → IsNamed records → who records credentials run_as moment ≡ Some subject → IsOf records subject.caller

-- ---- the limits of keys

-- each of the changes fits the records before it
abbrev pub AllFit : RecordsValue → List SecurityChange → Type 0
AllFit records [] = ⊤
AllFit records (change ∷ changes) = Fits records change × AllFit (with_security records change) changes

abbrev pub after_all : RecordsValue → List SecurityChange → RecordsValue
after_all records [] = records
after_all records (change ∷ changes) = after_all (with_security records change) changes

-- the limits of a key that was made of the descriptors of these names are these descriptors as they were then, whatever is changed later
abbrev pub LimitsStay : Type 0
LimitsStay = (records : RecordsValue) (kept : KeyRecord) (names : List (List ℕ)) (changes : List SecurityChange) → kept.limits ≡ named records names → AllFit (with_security records (AddKey kept)) changes
    → roles_of (after_all (with_security records (AddKey kept)) changes) (Limits kept.id) ≡ descriptors_of records names

-- ---- names

-- changes keep each user at its name and each key at its id
abbrev pub NamedStays : Type 0
NamedStays = (records : RecordsValue) (change : SecurityChange) → IsNamed records → IsNamed (with_security records change)
