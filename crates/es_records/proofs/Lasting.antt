-- What holds of records after changes.
use Rattle.std.proofs.Common.{◌≡◌, ℕ, ◌+◌, List, [], ◌∷◌, ◌++◌, Bool, true, false, ◌||◌, cond, Option, Some, None, is_some, IsTrue, refl, sym, ap, ap₂, ◌∙◌, arith}
use Rattle.std.specs.Prelude.{bytes_eq}
use Rattle.std.specs.List.{list_any}
use Rattle.std.specs.Ordering.{is_eq, eq_by_cmp}
use Rattle.std.specs.Cmp.{tied_itself}
use Rattle.std.specs.FinMap as map
use Rattle.std.proofs.lemmas.Bool.{false≢true}
use Rattle.std.proofs.lemmas.Cmp.{nat_list_cmp_total}
use Rattle.std.proofs.lemmas.Map.Text.{is_eq-slice_cmp}
use Rattle.es_role.specs.declared.kinds.Descriptor.{Descriptor}
use Rattle.es_cred.specs.declared.users.UserRecord.{UserRecord}
use Rattle.es_keys.specs.declared.kinds.KeyRecord.{KeyRecord}
use Rattle.es_keys.specs.declared.kinds.RoleKey.TheVariants.{Names, Assigned, Limits}
use Rattle.es_map.specs.Views.{text_cmp}
use Rattle.es_records.specs.declared.change.SecurityChange.{SecurityChange}
use Rattle.es_records.specs.declared.change.SecurityChange.TheVariants.{PutRole, DeleteRole, PutUser, DeleteUser, AddKey, Invalidate, ClearCache}
use Rattle.es_records.specs.Records.{RecordsValue, parts_of, before_others, named}
use Rattle.es_records.specs.Changes.{with_security, drops, has_role, is_names, invalidated_in}
use Rattle.es_records.specs.Halves.{roles_of, assigned_in, limits_in}
use Rattle.es_records.specs.Laws.{CountTells, DropsTell, StandingStays, LimitsStay, NamedStays, IsStanding, records_after, count_of, AllFit, after_all}
use Rattle.es_records.proofs.Standing.{equal, insert_own, remove_own, invalidated_own, read_invalidated}

-- ---- names

pub named_stays : NamedStays
unfolding with_security
named_stays records (PutRole name role) h = record { users = h.users; keys = h.keys }
named_stays records (DeleteRole name) h = record { users = h.users; keys = h.keys }
named_stays records (PutUser user) h = record { users = insert_own (λ (u : UserRecord). u.person.username) records.users h.users user.person.username user refl; keys = h.keys }
named_stays records (DeleteUser name) h = record { users = remove_own (λ (u : UserRecord). u.person.username) records.users h.users name; keys = h.keys }
named_stays records (AddKey key) h = record { users = h.users; keys = insert_own (λ (k : KeyRecord). k.id) records.keys h.keys key.id key refl }
named_stays records (Invalidate ids) h = record { users = h.users; keys = invalidated_own ids records.keys h.keys }
named_stays records (ClearCache names every) h = h

-- ---- counts

count_append : (changes more : List (Option SecurityChange)) → count_of (changes ++ more) ≡ count_of changes + count_of more
count_append [] more = omega arith
count_append (None ∷ changes) more = count_append changes more
count_append (Some change ∷ changes) more = let rest = count_append changes more in omega (arith, rest)

after_append : (records : RecordsValue) (changes more : List (Option SecurityChange)) → records_after records (changes ++ more) ≡ records_after (records_after records changes) more
after_append records [] more = refl
after_append records (None ∷ changes) more = after_append records changes more
after_append records (Some change ∷ changes) more = after_append (with_security records change) changes more

after_none : (records : RecordsValue) (changes : List (Option SecurityChange)) → count_of changes ≡ 0 → records_after records changes ≡ records
after_none records [] none = refl
after_none records (None ∷ changes) none = after_none records changes none
after_none records (Some change ∷ changes) none = absurd (omega (arith, none))

pub count_tells : CountTells
count_tells records changes more same =
    let none : count_of more ≡ 0 = omega (arith, same, count_append changes more) in
    after_append records changes more ∙ after_none (records_after records changes) more none

-- ---- drops

or_none : (a b : Bool) → (a || b) ≡ false → (a ≡ false) × (b ≡ false)
or_none true b h = absurd (false≢true (sym h))
or_none false b h = (refl, h)

-- two tables of roles have the same descriptors of names that stand for the same in both
module _ (one other : RecordsValue) where
  named_alike : (q : List ℕ) (names : List (List ℕ)) → ((name : List ℕ) → bytes_eq name q ≡ false → map.get one.roles name ≡ map.get other.roles name)
      → list_any (λ name. bytes_eq name q) names ≡ false → named one names ≡ named other names
  named_alike q [] alike none = refl
  named_alike q (name ∷ names) alike none =
      let parts = or_none (bytes_eq name q) (list_any (λ name. bytes_eq name q) names) none in
      ap₂ (λ found others. before_others name found others) (alike name parts.0) (named_alike q names alike parts.1)

module _ (records : RecordsValue) (q : List ℕ) where
  put_elsewhere : (role : Descriptor) (name : List ℕ) → bytes_eq name q ≡ false → map.get (map.insert records.roles q role) name ≡ map.get records.roles name
  put_elsewhere role name apart =
      map.get-insert nat_list_cmp_total records.roles q role name ∙ ap (λ b. cond b (Some role) (map.get records.roles name)) (is_eq-slice_cmp name q ∙ apart)

  gone_elsewhere : (name : List ℕ) → bytes_eq name q ≡ false → map.get (map.remove records.roles q) name ≡ map.get records.roles name
  gone_elsewhere name apart =
      map.get-remove nat_list_cmp_total records.roles q name ∙ ap (λ b. cond b None (map.get records.roles name)) (is_eq-slice_cmp name q ∙ apart)

-- the same table of roles
only_roles : (one other : RecordsValue) (names : List (List ℕ)) → one.roles ≡ other.roles → named one names ≡ named other names
only_roles one other [] same = refl
only_roles one other (name ∷ names) same = ap₂ (λ found others. before_others name found others) (ap (λ roles. map.get roles name) same) (only_roles one other names same)

-- a key that stands isn't the one that is added
module _ {Y : Type 0} (read : Option KeyRecord → Y) (keys : map.FinMap text_cmp KeyRecord) (added : KeyRecord) (id : List ℕ) where
  added_choice : (b : Bool) → (b ≡ true → id ≡ added.id) → IsTrue (is_some (map.get keys id)) → map.get keys added.id ≡ None → read (cond b (Some added) (map.get keys id)) ≡ read (map.get keys id)
  added_choice true same stands new = absurd (false≢true (sym (ap is_some (ap (map.get keys) (same refl) ∙ new)) ∙ stands))
  added_choice false same stands new = refl

  read_added : IsTrue (is_some (map.get keys id)) → map.get keys added.id ≡ None → read (map.get (map.insert keys added.id added) id) ≡ read (map.get keys id)
  read_added stands new = ap read (map.get-insert nat_list_cmp_total keys added.id added id) ∙ added_choice (eq_by_cmp text_cmp id added.id) (equal id added.id) stands new

pub drops_tell : DropsTell
unfolding with_security drops roles_of
drops_tell records (PutRole name role) (Names names) stands fits kept =
    ap parts_of (named_alike (with_security records (PutRole name role)) records name names (put_elsewhere records name role) kept)
drops_tell records (PutRole name role) (Assigned id) stands fits kept = refl
drops_tell records (PutRole name role) (Limits id) stands fits kept = refl
drops_tell records (DeleteRole name) (Names names) stands fits kept =
    ap parts_of (named_alike (with_security records (DeleteRole name)) records name names (gone_elsewhere records name) kept)
drops_tell records (DeleteRole name) (Assigned id) stands fits kept = refl
drops_tell records (DeleteRole name) (Limits id) stands fits kept = refl
drops_tell records (PutUser user) (Names names) stands fits kept = ap parts_of (only_roles (with_security records (PutUser user)) records names refl)
drops_tell records (PutUser user) (Assigned id) stands fits kept = refl
drops_tell records (PutUser user) (Limits id) stands fits kept = refl
drops_tell records (DeleteUser name) (Names names) stands fits kept = ap parts_of (only_roles (with_security records (DeleteUser name)) records names refl)
drops_tell records (DeleteUser name) (Assigned id) stands fits kept = refl
drops_tell records (DeleteUser name) (Limits id) stands fits kept = refl
drops_tell records (AddKey added) (Names names) stands fits kept = ap parts_of (only_roles (with_security records (AddKey added)) records names refl)
drops_tell records (AddKey added) (Assigned id) stands fits kept = read_added assigned_in records.keys added id stands fits
drops_tell records (AddKey added) (Limits id) stands fits kept = read_added limits_in records.keys added id stands fits
drops_tell records (Invalidate ids) (Names names) stands fits kept = ap parts_of (only_roles (with_security records (Invalidate ids)) records names refl)
drops_tell records (Invalidate ids) (Assigned id) stands fits kept = read_invalidated assigned_in (λ _. refl) ids records.keys id
drops_tell records (Invalidate ids) (Limits id) stands fits kept = read_invalidated limits_in (λ _. refl) ids records.keys id
drops_tell records (ClearCache names every) key stands fits kept = refl

-- ---- standing keys

added_stands : (keys : map.FinMap text_cmp KeyRecord) (added : KeyRecord) (id : List ℕ) → IsTrue (is_some (map.get keys id)) → IsTrue (is_some (map.get (map.insert keys added.id added) id))
added_stands keys added id stands = ap is_some (map.get-insert nat_list_cmp_total keys added.id added id) ∙ either (eq_by_cmp text_cmp id added.id)
  where
    either : (b : Bool) → is_some (cond b (Some added) (map.get keys id)) ≡ true
    either true = refl
    either false = stands

invalidated_stands : (keys : map.FinMap text_cmp KeyRecord) (ids : List (List ℕ)) (id : List ℕ) → IsTrue (is_some (map.get keys id)) → IsTrue (is_some (map.get (invalidated_in keys ids) id))
invalidated_stands keys ids id stands = read_invalidated is_some (λ _. refl) ids keys id ∙ stands

pub standing_stays : StandingStays
unfolding with_security
standing_stays records change (Names names) stands = tt
standing_stays records (PutRole name role) (Assigned id) stands = stands
standing_stays records (PutRole name role) (Limits id) stands = stands
standing_stays records (DeleteRole name) (Assigned id) stands = stands
standing_stays records (DeleteRole name) (Limits id) stands = stands
standing_stays records (PutUser user) (Assigned id) stands = stands
standing_stays records (PutUser user) (Limits id) stands = stands
standing_stays records (DeleteUser name) (Assigned id) stands = stands
standing_stays records (DeleteUser name) (Limits id) stands = stands
standing_stays records (AddKey added) (Assigned id) stands = added_stands records.keys added id stands
standing_stays records (AddKey added) (Limits id) stands = added_stands records.keys added id stands
standing_stays records (Invalidate ids) (Assigned id) stands = invalidated_stands records.keys ids id stands
standing_stays records (Invalidate ids) (Limits id) stands = invalidated_stands records.keys ids id stands
standing_stays records (ClearCache names every) (Assigned id) stands = stands
standing_stays records (ClearCache names every) (Limits id) stands = stands

-- ---- limits

none_of : (names : List (List ℕ)) (id : List ℕ) → list_any (has_role (Limits id)) names ≡ false
none_of [] id = refl
none_of (name ∷ names) id = none_of names id

cleared : (every : Bool) (names : List (List ℕ)) (id : List ℕ) → cond every (is_names (Limits id)) (list_any (has_role (Limits id)) names) ≡ false
cleared true names id = refl
cleared false names id = none_of names id

never_dropped : (change : SecurityChange) (id : List ℕ) → drops change (Limits id) ≡ false
unfolding drops
never_dropped (PutRole name role) id = refl
never_dropped (DeleteRole name) id = refl
never_dropped (PutUser user) id = refl
never_dropped (DeleteUser name) id = refl
never_dropped (AddKey added) id = refl
never_dropped (Invalidate ids) id = refl
never_dropped (ClearCache names every) id = cleared every names id

limits_last : (changes : List SecurityChange) (records : RecordsValue) (id : List ℕ) → IsStanding records (Limits id) → AllFit records changes → roles_of (after_all records changes) (Limits id) ≡ roles_of records (Limits id)
limits_last [] records id stands fit = refl
limits_last (change ∷ changes) records id stands fit =
    limits_last changes (with_security records change) id (standing_stays records change (Limits id) stands) fit.1
    ∙ drops_tell records change (Limits id) stands fit.0 (never_dropped change id)

-- what was put stands
put_stands : (keys : map.FinMap text_cmp KeyRecord) (kept : KeyRecord) → map.get (map.insert keys kept.id kept) kept.id ≡ Some kept
put_stands keys kept = map.get-insert nat_list_cmp_total keys kept.id kept kept.id ∙ ap (λ b. cond b (Some kept) (map.get keys kept.id)) (ap is_eq (tied_itself nat_list_cmp_total kept.id))

limits_of_added : (records : RecordsValue) (kept : KeyRecord) → IsStanding (with_security records (AddKey kept)) (Limits kept.id) × (roles_of (with_security records (AddKey kept)) (Limits kept.id) ≡ parts_of kept.limits)
unfolding with_security roles_of
limits_of_added records kept = (ap is_some (put_stands records.keys kept), ap limits_in (put_stands records.keys kept))

pub limits_stay : LimitsStay
limits_stay records kept names changes are fit =
    let added = limits_of_added records kept in
    limits_last changes (with_security records (AddKey kept)) kept.id added.0 fit ∙ added.1 ∙ ap parts_of are
