-- The halves of a subject by their names, and who is known.
use Rattle.std.proofs.Common.{◌≡◌, ℕ, List, [], ◌∷◌, ◌++◌, Bool, true, false, ◌&&◌, not, cond, Option, Some, None, option_map, is_some, IsTrue, IfOk, if◌then◌else◌, refl, sym, ap, ap₂, ◌∙◌, subst}
use Rattle.std.specs.declared.result.Result.{Result}
use Rattle.std.specs.Prelude.{IfSome, bytes_eq}
use Rattle.std.specs.FinMap as map
use Rattle.es_cred.specs.declared.credentials.Credentials.{Credentials}
use Rattle.es_cred.specs.declared.credentials.Credentials.TheVariants as credentials
use Rattle.es_cred.specs.declared.users.UserRecord.{UserRecord}
use Rattle.es_cred.specs.Digest.{digest_of}
use Rattle.es_cred.specs.Names.{is_secret}
use Rattle.es_keys.specs.declared.kinds.NamedPart.{NamedPart}
use Rattle.es_keys.specs.declared.kinds.KeyRecord.{KeyRecord}
use Rattle.es_keys.specs.declared.kinds.RoleKey.{RoleKey}
use Rattle.es_keys.specs.declared.kinds.Caller.{Caller}
use Rattle.es_keys.specs.declared.kinds.Caller.TheVariants as caller
use Rattle.es_keys.specs.declared.kinds.Target.{Target}
use Rattle.es_keys.specs.declared.kinds.Target.TheVariants as target
use Rattle.es_keys.specs.declared.kinds.Subject.{Subject}
use Rattle.es_keys.specs.Halves.{halves_of, key_halves, caller_halves, target_halves}
use Rattle.es_keys.specs.Keys.{is_secret_of, is_expired}
use Rattle.es_grammar.specs.Values.{has_some}
use Rattle.es_decide.specs.Decisions.{IsFitting, has_assigned, is_as}
use Rattle.es_map.proofs.Forks.{ok_same}
use Rattle.es_records.specs.Found.{key_by}
use Rattle.es_records.specs.Records.{RecordsValue, IsNamed, who, caller_of, known_user, known_key, as_user, target_of, parts_of}
use Rattle.es_records.specs.Halves.{roles_of, halves_in, halves_by, first_half, limit_half, target_half, key_first, key_limit, key_first_name, key_limit_name, first_name, limit_name, target_name, limits_in, assigned_in, IsOf}
use Rattle.es_records.specs.Laws.{HalvesTell, WhoIsOf, IsStanding, listed}

-- ---- names of halves

target_listed : (t : Target) → target_halves t ≡ listed (target_name t)
target_listed target.Own = refl
target_listed (target.As user) = refl
target_listed target.Unknown = refl

key_listed : (id : List ℕ) (assigned : List NamedPart) → key_halves id assigned ≡ key_first_name id assigned ∷ listed (key_limit_name id assigned)
key_listed id [] = refl
key_listed id (n ∷ ns) = refl

caller_listed : (c : Caller) → caller_halves c ≡ first_name c ∷ listed (limit_name c)
caller_listed (caller.User user) = refl
caller_listed (caller.Key kept) = key_listed kept.id kept.assigned

names_are : (c : Caller) (t : Target) → halves_of (record { caller = c; target = t }) ≡ first_name c ∷ (listed (limit_name c) ++ listed (target_name t))
unfolding halves_of
names_are c t = ap₂ (λ (xs ys : List RoleKey). xs ++ ys) (caller_listed c) (target_listed t)

-- ---- what they stand for

module _ (records : RecordsValue) where
  key_first_same : (kept : KeyRecord) (assigned : List NamedPart) → kept.assigned ≡ assigned → map.get records.keys kept.id ≡ Some kept → roles_of records (key_first_name kept.id assigned) ≡ key_first assigned kept.limits
  unfolding roles_of
  key_first_same kept [] is stands = ap limits_in stands
  key_first_same kept (n ∷ ns) is stands = ap assigned_in stands ∙ ap parts_of is

  first_same : (c : Caller) → IsOf records c → roles_of records (first_name c) ≡ first_half records c
  unfolding roles_of
  first_same (caller.User user) stands = refl
  first_same (caller.Key kept) stands = key_first_same kept kept.assigned refl stands

  key_limit_same : (kept : KeyRecord) (assigned : List NamedPart) → map.get records.keys kept.id ≡ Some kept → option_map (roles_of records) (key_limit_name kept.id assigned) ≡ key_limit assigned kept.limits
  unfolding roles_of
  key_limit_same kept [] stands = refl
  key_limit_same kept (n ∷ ns) stands = ap (λ o. Some (limits_in o)) stands

  limit_same : (c : Caller) → IsOf records c → option_map (roles_of records) (limit_name c) ≡ limit_half c
  limit_same (caller.User user) stands = refl
  limit_same (caller.Key kept) stands = key_limit_same kept kept.assigned stands

  target_same : (t : Target) → option_map (roles_of records) (target_name t) ≡ target_half records t
  unfolding roles_of
  target_same target.Own = refl
  target_same (target.As user) = refl
  target_same target.Unknown = refl

  halves_same : (c : Caller) (t : Target) → IsOf records c → halves_by (roles_of records) (record { caller = c; target = t }) ≡ halves_in records (record { caller = c; target = t })
  unfolding halves_by halves_in
  halves_same c t stands = λ i. record { first = first_same c stands i; limit = limit_same c stands i; target = target_same t i }

  -- ---- their form
  key_limit_form : (assigned limits : List NamedPart) → is_some (key_limit assigned limits) ≡ has_some assigned
  key_limit_form [] limits = refl
  key_limit_form (n ∷ ns) limits = refl

  limit_form : (c : Caller) → is_some (limit_half c) ≡ has_assigned c
  limit_form (caller.User user) = refl
  limit_form (caller.Key kept) = key_limit_form kept.assigned kept.limits

  target_form : (t : Target) → is_some (target_half records t) ≡ is_as t
  target_form target.Own = refl
  target_form (target.As user) = refl
  target_form target.Unknown = refl

  fitting_halves : (c : Caller) (t : Target) → IsFitting (record { caller = c; target = t }) (halves_in records (record { caller = c; target = t }))
  unfolding halves_in
  fitting_halves c t = record { limit = limit_form c; target = target_form t }

  -- ---- the keys that they are of
  key_first_stands : (id : List ℕ) (assigned : List NamedPart) → IsTrue (is_some (map.get records.keys id)) → IsStanding records (key_first_name id assigned)
  key_first_stands id [] stands = stands
  key_first_stands id (n ∷ ns) stands = stands

  caller_stands : (c : Caller) → IsOf records c → IsStanding records (first_name c)
  caller_stands (caller.User user) stands = tt
  caller_stands (caller.Key kept) stands = key_first_stands kept.id kept.assigned (ap is_some stands)

  key_limit_stands : (id : List ℕ) (assigned : List NamedPart) → IsTrue (is_some (map.get records.keys id)) → IfSome (key_limit_name id assigned) (IsStanding records)
  key_limit_stands id [] stands = tt
  key_limit_stands id (n ∷ ns) stands = stands

  caller_limit_stands : (c : Caller) → IsOf records c → IfSome (limit_name c) (IsStanding records)
  caller_limit_stands (caller.User user) stands = tt
  caller_limit_stands (caller.Key kept) stands = key_limit_stands kept.id kept.assigned (ap is_some stands)

pub halves_tell : HalvesTell
halves_tell records subject is = record {
  names = names_are subject.caller subject.target;
  same = halves_same records subject.caller subject.target is;
  fitting = fitting_halves records subject.caller subject.target;
  first_stands = caller_stands records subject.caller is;
  limit_stands = caller_limit_stands records subject.caller is;
}

-- ---- who is known

abbrev pub subject_with : Target → Caller → Subject
subject_with t c = record { caller = c; target = t }

module _ (records : RecordsValue) where
  user_of : (digest : List ℕ) (found : Option UserRecord) → IfSome (known_user digest found) (IsOf records)
  user_of digest None = tt
  user_of digest (Some user) = either (bytes_eq digest user.digest)
    where
      either : (b : Bool) → IfSome (cond b (Some (caller.User user)) None) (IsOf records)
      either true = tt
      either false = tt

  key_of : (id secret : List ℕ) (moment : ℕ) (found : Option KeyRecord) → map.get records.keys id ≡ found → IfSome found (λ kept. kept.id ≡ id) → IfSome (known_key secret moment found) (IsOf records)
  key_of id secret moment None at is = tt
  key_of id secret moment (Some kept) at is = either (is_secret_of kept secret && (not kept.invalidated && not (is_expired kept moment)))
    where
      either : (b : Bool) → IfSome (cond b (Some (caller.Key kept)) None) (IsOf records)
      either true = ap (map.get records.keys) is ∙ at
      either false = tt

  if_secret : (b : Bool) (o : Option Caller) → IfSome o (IsOf records) → IfSome (cond b o None) (IsOf records)
  if_secret true o h = h
  if_secret false o h = tt

  -- a caller that is known is one of the records
  pub caller_is_of : IsNamed records → (said : Credentials) (moment : ℕ) → IfSome (caller_of records said moment) (IsOf records)
  unfolding caller_of
  caller_is_of h (credentials.User name secret) moment = if_secret (is_secret secret) _ (user_of (digest_of name secret) (map.get records.users name))
  caller_is_of h (credentials.Key id secret) moment = if_secret (is_secret secret) _ (key_of id secret moment (map.get records.keys id) refl (h.keys id))
  caller_is_of h credentials.Absent moment = tt
  caller_is_of h credentials.Malformed moment = tt

  pub subject_is_of : (t : Target) (found : Option Caller) → IfSome found (IsOf records) → IfSome (option_map (subject_with t) found) (λ (subject : Subject). IsOf records subject.caller)
  subject_is_of t None h = tt
  subject_is_of t (Some c) h = h

-- the subject that is found is one of the records
pub who_is_in : (records : RecordsValue) (said : Credentials) (run_as : Option (List ℕ)) (moment : ℕ) → IsNamed records → IfSome (who records said run_as moment) (λ subject. IsOf records subject.caller)
unfolding who
who_is_in records said run_as moment h = subject_is_of records (target_of records run_as) (caller_of records said moment) (caller_is_of records h said moment)

pub who_is_of : WhoIsOf
who_is_of records said run_as moment subject h is = subst (λ o. IfSome o (λ (s : Subject). IsOf records s.caller)) is (who_is_in records said run_as moment h)

-- ---- by what is looked up

module _ (records : RecordsValue) (run_as : Option (List ℕ)) (name : List ℕ) (named : run_as ≡ Some name) where
  pub target_known : (user share : UserRecord) → Some user ≡ map.get records.users name → share ≡ user → target.As share ≡ target_of records run_as
  target_known user share stands same = ap (λ u. target.As u) same ∙ ap as_user stands ∙ ap (target_of records) (sym named)

  pub target_unknown : None ≡ map.get records.users name → target.Unknown ≡ target_of records run_as
  target_unknown stands = ap as_user stands ∙ ap (target_of records) (sym named)

module _ (records : RecordsValue) (said : Credentials) (run_as : Option (List ℕ)) (moment : ℕ) where
  pub who_known : (c : Caller) (t : Target) → Some c ≡ caller_of records said moment → t ≡ target_of records run_as → Some (subject_with t c) ≡ who records said run_as moment
  unfolding who
  who_known c t known acts = (λ i. Some (subject_with (acts i) c)) ∙ ap (option_map (subject_with (target_of records run_as))) known

  pub who_unknown : None ≡ caller_of records said moment → None ≡ who records said run_as moment
  unfolding who
  who_unknown unknown = ap (option_map (subject_with (target_of records run_as))) unknown

pub known_is_of : (records : RecordsValue) (said : Credentials) (moment : ℕ) (c : Caller) → IsNamed records → Some c ≡ caller_of records said moment → IsOf records c
known_is_of records said moment c h known = subst (λ o. IfSome o (IsOf records)) (sym known) (caller_is_of records h said moment)

module _ {E : Type 0} (r : Result (Option Caller) E) (good : Bool) (is : good ≡ true) where
  pub user_told : (digest made : List ℕ) (stands found : Option UserRecord) → made ≡ digest → found ≡ stands → IfOk r (λ f. f ≡ known_user made found) → IfOk r (λ f. f ≡ (if good then known_user digest stands else None))
  user_told digest made stands found d f h = ok_same r _ _ h (ap₂ known_user d f ∙ ap (λ b. if b then known_user digest stands else None) (sym is))

  same_secret : (id secret : List ℕ) (moment : ℕ) (found : Option KeyRecord) → IfSome found (λ kept. kept.id ≡ id) → key_by (digest_of id secret) moment found ≡ known_key secret moment found
  unfolding is_secret_of
  same_secret id secret moment None own = refl
  same_secret id secret moment (Some kept) own = ap (λ q. key_by (digest_of q secret) moment (Some kept)) (sym own)

  pub key_told : (id secret made : List ℕ) (moment : ℕ) (stands found : Option KeyRecord) → IfSome stands (λ kept. kept.id ≡ id) → made ≡ digest_of id secret → found ≡ stands
      → IfOk r (λ f. f ≡ key_by made moment found) → IfOk r (λ f. f ≡ (if good then known_key secret moment stands else None))
  key_told id secret made moment stands found own d f h =
      ok_same r _ _ h (ap₂ (λ m o. key_by m moment o) d f ∙ same_secret id secret moment stands own ∙ ap (λ b. if b then known_key secret moment stands else None) (sym is))
