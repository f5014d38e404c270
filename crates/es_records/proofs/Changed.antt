-- The maps of records after a change, by the lists of their entries.
use Rattle.std.proofs.Common.{◌≡◌, ℕ, ◌+◌, ◌<◌, List, [], ◌∷◌, ◌++◌, length, take, get_or, Bool, Option, Some, None, IfOk, refl, sym, ap, ◌∙◌, subst}
use Rattle.std.specs.declared.result.Result.{Result}
use Rattle.std.specs.Prelude.{IfSome}
use Rattle.std.specs.Map.{lookup, remove_entry}
use Rattle.std.specs.BTreeMap.{insert_entry, is_at}
use Rattle.std.specs.FinMap as map
use Rattle.std.proofs.lemmas.List.{take_more}
use Rattle.es_role.specs.declared.kinds.Descriptor.{Descriptor}
use Rattle.es_cred.specs.Names.{user_name, role_name}
use Rattle.es_cred.specs.declared.users.UserRecord.{UserRecord}
use Rattle.es_keys.specs.declared.kinds.KeyRecord.{KeyRecord}
use Rattle.es_keys.specs.Keys.{invalidated}
use Rattle.es_map.specs.Entries.{IsRising}
use Rattle.es_map.specs.Views.{text_cmp, map_of}
use Rattle.es_map.proofs.Forks.{ok_same}
use Rattle.es_map.proofs.Kept.{get_seen, insert_seen, insert_rising, remove_seen, remove_rising, none_kept, none_rising}
use Rattle.es_records.specs.declared.change.SecurityChange.{SecurityChange}
use Rattle.es_records.specs.declared.change.SecurityChange.TheVariants.{PutRole, DeleteRole, PutUser, DeleteUser, AddKey, Invalidate, ClearCache}
use Rattle.es_records.specs.Records.{RecordsValue, IsNamed, opening_user, opening_role, opening_records}
use Rattle.es_records.specs.Changes.{with_security, replaced}
use Rattle.es_records.specs.Views.{records_of, IsKept}
use Rattle.es_records.proofs.Standing.{insert_own, invalidated_append}
use Rattle.es_records.proofs.Lasting.{named_stays}

module _ (users : List (List ℕ × UserRecord)) (roles : List (List ℕ × Descriptor)) (keys : List (List ℕ × KeyRecord)) (kept : IsKept users roles keys) (seen : RecordsValue) (view : records_of users roles keys ≡ seen) where
  users_seen : map_of users ≡ seen.users
  users_seen = ap (λ (r : RecordsValue). r.users) view

  roles_seen : map_of roles ≡ seen.roles
  roles_seen = ap (λ (r : RecordsValue). r.roles) view

  keys_seen : map_of keys ≡ seen.keys
  keys_seen = ap (λ (r : RecordsValue). r.keys) view

  -- what stands at a name or an id
  pub user_at : (q : List ℕ) → map.get seen.users q ≡ lookup (is_at (text_cmp q)) users
  user_at q = get_seen users kept.users_rising seen.users users_seen q

  pub role_at : (q : List ℕ) → map.get seen.roles q ≡ lookup (is_at (text_cmp q)) roles
  role_at q = get_seen roles kept.roles_rising seen.roles roles_seen q

  pub key_found : (q : List ℕ) → map.get seen.keys q ≡ lookup (is_at (text_cmp q)) keys
  key_found q = get_seen keys kept.keys_rising seen.keys keys_seen q

  pub named_seen : IsNamed seen
  named_seen = subst IsNamed view kept.named

  module _ (us : List (List ℕ × UserRecord)) (rs : List (List ℕ × Descriptor)) (ks : List (List ℕ × KeyRecord)) where
    -- the parts are kept and seen as the records after the change
    abbrev pub AreAfter : SecurityChange → Type 0
    AreAfter change = IsKept us rs ks × (records_of us rs ks ≡ with_security seen change)

    after : (change : SecurityChange) → IsRising us → IsRising rs → IsRising ks → records_of us rs ks ≡ with_security seen change → AreAfter change
    after change u r k is =
        (record { users_rising = u; roles_rising = r; keys_rising = k; named = subst IsNamed (sym is) (named_stays seen change named_seen) }, is)

    pub shared : us ≡ users → rs ≡ roles → ks ≡ keys → IsKept us rs ks × (records_of us rs ks ≡ seen)
    shared u r k =
        let is : records_of us rs ks ≡ seen = (λ i. records_of (u i) (r i) (k i)) ∙ view in (
          record {
            users_rising = subst IsRising (sym u) kept.users_rising;
            roles_rising = subst IsRising (sym r) kept.roles_rising;
            keys_rising = subst IsRising (sym k) kept.keys_rising;
            named = subst IsNamed (sym is) named_seen;
          },
          is,
        )

    role_put_is : (name copy : List ℕ) (role part : Descriptor) → us ≡ users → copy ≡ name → part ≡ role → rs ≡ insert_entry text_cmp roles copy part → ks ≡ keys → records_of us rs ks ≡ with_security seen (PutRole name role)
    unfolding with_security
    role_put_is name copy role part u same is r k = λ i. record {
      users = (ap map_of u ∙ users_seen) i;
      roles = (insert_seen roles kept.roles_rising seen.roles roles_seen name copy part rs same r ∙ ap (map.insert seen.roles name) is) i;
      keys = (ap map_of k ∙ keys_seen) i;
    }

    pub role_put : (name copy : List ℕ) (role part : Descriptor) → us ≡ users → copy ≡ name → part ≡ role → rs ≡ insert_entry text_cmp roles copy part → ks ≡ keys → AreAfter (PutRole name role)
    role_put name copy role part u same is r k =
        after (PutRole name role) (subst IsRising (sym u) kept.users_rising) (subst IsRising (sym r) (insert_rising roles kept.roles_rising copy part)) (subst IsRising (sym k) kept.keys_rising)
        (role_put_is name copy role part u same is r k)

    role_gone_is : (name : List ℕ) → us ≡ users → rs ≡ remove_entry (is_at (text_cmp name)) roles → ks ≡ keys → records_of us rs ks ≡ with_security seen (DeleteRole name)
    unfolding with_security
    role_gone_is name u r k = λ i. record {
      users = (ap map_of u ∙ users_seen) i;
      roles = remove_seen roles kept.roles_rising seen.roles roles_seen name rs r i;
      keys = (ap map_of k ∙ keys_seen) i;
    }

    pub role_gone : (name : List ℕ) → us ≡ users → rs ≡ remove_entry (is_at (text_cmp name)) roles → ks ≡ keys → AreAfter (DeleteRole name)
    role_gone name u r k =
        after (DeleteRole name) (subst IsRising (sym u) kept.users_rising) (subst IsRising (sym r) (remove_rising roles kept.roles_rising name)) (subst IsRising (sym k) kept.keys_rising)
        (role_gone_is name u r k)

    user_put_is : (copy : List ℕ) (user share : UserRecord) → copy ≡ user.person.username → share ≡ user → us ≡ insert_entry text_cmp users copy share → rs ≡ roles → ks ≡ keys → records_of us rs ks ≡ with_security seen (PutUser user)
    unfolding with_security
    user_put_is copy user share same is u r k = λ i. record {
      users = (insert_seen users kept.users_rising seen.users users_seen user.person.username copy share us same u ∙ ap (map.insert seen.users user.person.username) is) i;
      roles = (ap map_of r ∙ roles_seen) i;
      keys = (ap map_of k ∙ keys_seen) i;
    }

    pub user_put : (copy : List ℕ) (user share : UserRecord) → copy ≡ user.person.username → share ≡ user → us ≡ insert_entry text_cmp users copy share → rs ≡ roles → ks ≡ keys → AreAfter (PutUser user)
    user_put copy user share same is u r k =
        after (PutUser user) (subst IsRising (sym u) (insert_rising users kept.users_rising copy share)) (subst IsRising (sym r) kept.roles_rising) (subst IsRising (sym k) kept.keys_rising)
        (user_put_is copy user share same is u r k)

    user_gone_is : (name : List ℕ) → us ≡ remove_entry (is_at (text_cmp name)) users → rs ≡ roles → ks ≡ keys → records_of us rs ks ≡ with_security seen (DeleteUser name)
    unfolding with_security
    user_gone_is name u r k = λ i. record {
      users = remove_seen users kept.users_rising seen.users users_seen name us u i;
      roles = (ap map_of r ∙ roles_seen) i;
      keys = (ap map_of k ∙ keys_seen) i;
    }

    pub user_gone : (name : List ℕ) → us ≡ remove_entry (is_at (text_cmp name)) users → rs ≡ roles → ks ≡ keys → AreAfter (DeleteUser name)
    user_gone name u r k =
        after (DeleteUser name) (subst IsRising (sym u) (remove_rising users kept.users_rising name)) (subst IsRising (sym r) kept.roles_rising) (subst IsRising (sym k) kept.keys_rising)
        (user_gone_is name u r k)

    key_put_is : (copy : List ℕ) (key : KeyRecord) → copy ≡ key.id → us ≡ users → rs ≡ roles → ks ≡ insert_entry text_cmp keys copy key → records_of us rs ks ≡ with_security seen (AddKey key)
    unfolding with_security
    key_put_is copy key same u r k = λ i. record {
      users = (ap map_of u ∙ users_seen) i;
      roles = (ap map_of r ∙ roles_seen) i;
      keys = insert_seen keys kept.keys_rising seen.keys keys_seen key.id copy key ks same k i;
    }

    pub key_put : (copy : List ℕ) (key : KeyRecord) → copy ≡ key.id → us ≡ users → rs ≡ roles → ks ≡ insert_entry text_cmp keys copy key → AreAfter (AddKey key)
    key_put copy key same u r k =
        after (AddKey key) (subst IsRising (sym u) kept.users_rising) (subst IsRising (sym r) kept.roles_rising) (subst IsRising (sym k) (insert_rising keys kept.keys_rising copy key))
        (key_put_is copy key same u r k)

-- ---- by the kind of the change

module _ {E : Type 0} (r : Result RecordsValue E) (records : RecordsValue) where
  pub changed_so : (change other : SecurityChange) → change ≡ other → IfOk r (λ m. m ≡ with_security records other) → IfOk r (λ m. m ≡ with_security records change)
  changed_so change other is h = ok_same r _ _ h (ap (with_security records) (sym is))

  pub unchanged_so : (change : SecurityChange) (names : List (List ℕ)) (every : Bool) → change ≡ ClearCache names every → IfOk r (λ m. m ≡ records) → IfOk r (λ m. m ≡ with_security records change)
  unfolding with_security
  unchanged_so change names every is h = ok_same r _ _ h (ap (with_security records) (sym is))

-- ---- keys that are invalidated

key_again : (keys : map.FinMap text_cmp KeyRecord) (id : List ℕ) (kept again : KeyRecord) (found : Option KeyRecord) → found ≡ Some kept → again ≡ invalidated kept → kept.id ≡ id → map.insert keys again.id again ≡ replaced keys id found
key_again keys id kept again found at is own =
    (λ i. map.insert keys (is i).id (is i)) ∙ ap (λ q. map.insert keys q (invalidated kept)) own ∙ ap (replaced keys id) (sym at)

module _ {E : Type 0} (r : Result RecordsValue E) (records : RecordsValue) (id : List ℕ) where
  -- a key that stands and is put again as invalidated
  pub one_put : (kept again : KeyRecord) → IsNamed records → map.get records.keys id ≡ Some kept → again ≡ invalidated kept → IfOk r (λ m. m ≡ with_security records (AddKey again)) → IfOk r (λ m. m ≡ with_security records (Invalidate (id ∷ [])))
  unfolding with_security
  one_put kept again h at is put =
      let own : kept.id ≡ id = subst (λ o. IfSome o (λ (k : KeyRecord). k.id ≡ id)) at (h.keys id) in
      ok_same r _ _ put (λ i. record { users = records.users; roles = records.roles; keys = key_again records.keys id kept again (map.get records.keys id) at is own i })

  -- an id that no key has
  pub none_put : map.get records.keys id ≡ None → IfOk r (λ m. m ≡ records) → IfOk r (λ m. m ≡ with_security records (Invalidate (id ∷ [])))
  unfolding with_security
  none_put at h = ok_same r _ _ h (λ i. record { users = records.users; roles = records.roles; keys = ap (replaced records.keys id) (sym at) i })

pub invalidated_none : (records : RecordsValue) → with_security records (Invalidate []) ≡ records
unfolding with_security
invalidated_none records = refl

pub invalidated_more : (records : RecordsValue) (ids more : List (List ℕ)) → with_security (with_security records (Invalidate ids)) (Invalidate more) ≡ with_security records (Invalidate (ids ++ more))
unfolding with_security
invalidated_more records ids more = λ i. record { users = records.users; roles = records.roles; keys = sym (invalidated_append ids more records.keys) i }

-- the keys of the first ids and of one more
pub one_id_more : (records : RecordsValue) (ids : List (List ℕ)) (i : ℕ) (id text : List ℕ) (before new : RecordsValue) → i < length ids → id ≡ get_or ids i id → text ≡ id → before ≡ with_security records (Invalidate (take i ids))
    → new ≡ with_security before (Invalidate (text ∷ [])) → new ≡ with_security records (Invalidate (take (i + 1) ids))
one_id_more records ids i id text before new within at same so_far put =
    let more : take (i + 1) ids ≡ take i ids ++ id ∷ [] = take_more ids i id within ∙ ap (λ k. take i ids ++ k ∷ []) (sym at) in
    put ∙ (λ j. with_security (so_far j) (Invalidate (same j ∷ []))) ∙ invalidated_more records (take i ids) (id ∷ []) ∙ ap (λ l. with_security records (Invalidate l)) (sym more)

-- ---- the opening records

none_named : (keys : map.FinMap text_cmp KeyRecord) → keys ≡ map.empty → (q : List ℕ) → IfSome (map.get keys q) (λ kept. kept.id ≡ q)
none_named keys none q = subst (λ o. IfSome o (λ (k : KeyRecord). k.id ≡ q)) (sym (ap (λ (m : map.FinMap text_cmp KeyRecord). map.get m q) none ∙ map.get-empty text_cmp q)) tt

nobody_named : (q : List ℕ) → IfSome (map.get (map.empty {X = UserRecord} {R = text_cmp}) q) (λ user. user.person.username ≡ q)
nobody_named q = subst (λ o. IfSome o (λ (u : UserRecord). u.person.username ≡ q)) (sym (map.get-empty text_cmp q)) tt

module _ (secret : List ℕ) (us : List (List ℕ × UserRecord)) (rs : List (List ℕ × Descriptor)) (ks : List (List ℕ × KeyRecord)) where
  module _ (no_users : List (List ℕ × UserRecord)) (no_roles : List (List ℕ × Descriptor)) (name role : List ℕ) (user : UserRecord) (descriptor : Descriptor) where
    pub opened : no_users ≡ [] → no_roles ≡ [] → ks ≡ [] → name ≡ user_name → role ≡ role_name → user ≡ opening_user secret → descriptor ≡ opening_role
        → us ≡ insert_entry text_cmp no_users name user → rs ≡ insert_entry text_cmp no_roles role descriptor → IsKept us rs ks × (records_of us rs ks ≡ opening_records secret)
    opened nu nr nk n m u d iu ir =
        let users : map_of us ≡ map.insert map.empty user_name (opening_user secret) = insert_seen no_users (none_rising _ nu) map.empty (none_kept _ nu) user_name name user us n iu ∙ ap (map.insert map.empty user_name) u in
        let roles : map_of rs ≡ map.insert map.empty role_name opening_role = insert_seen no_roles (none_rising _ nr) map.empty (none_kept _ nr) role_name role descriptor rs m ir ∙ ap (map.insert map.empty role_name) d in
        let is : records_of us rs ks ≡ opening_records secret = λ i. record { users = users i; roles = roles i; keys = none_kept ks nk i } in
        let named : IsNamed (opening_records secret) = record {
          users = insert_own (λ (u : UserRecord). u.person.username) map.empty nobody_named user_name (opening_user secret) refl;
          keys = none_named map.empty refl;
        } in (
          record {
            users_rising = subst IsRising (sym iu) (insert_rising no_users (none_rising _ nu) name user);
            roles_rising = subst IsRising (sym ir) (insert_rising no_roles (none_rising _ nr) role descriptor);
            keys_rising = none_rising ks nk;
            named = subst IsNamed (sym is) named;
          },
          is,
        )
