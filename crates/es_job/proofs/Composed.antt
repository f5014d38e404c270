-- The composed roles that are to be published after a miss.
use Rattle.std.proofs.Common.{◌≡◌, ◌+◌, ◌≤◌, List, [], ◌∷◌, ◌++◌, map as list_map, length, All, Option, Some, None, option_map, is_some, refl, sym, ap, ap₂, subst, ◌∙◌, arith, append-nil}
use Rattle.std.specs.Prelude.{IfSome}
use Rattle.std.proofs.lemmas.List.Elements.{All-nil, All-cons, All-same}
use Rattle.es_role.specs.declared.kinds.Descriptor.{Descriptor}
use Rattle.es_keys.specs.declared.kinds.RoleKey.{RoleKey}
use Rattle.es_keys.specs.declared.kinds.Target.{Target}
use Rattle.es_keys.specs.declared.kinds.Target.TheVariants as target
use Rattle.es_keys.specs.declared.kinds.Subject.{Subject}
use Rattle.es_decide.specs.declared.kinds.Halves.{Halves}
use Rattle.es_records.specs.Records.{RecordsValue}
use Rattle.es_records.specs.Halves.{roles_of, halves_in, halves_by, first_name, limit_name, target_name, IsOf}
use Rattle.es_records.specs.Laws.{IsStanding, listed}
use Rattle.es_records.proofs.Deciding.{halves_tell}
use Rattle.es_request.specs.declared.call.Call.{Call}
use Rattle.es_vault.specs.declared.names.HalfKeys.{HalfKeys}
use Rattle.es_vault.specs.declared.look.Snapshot.{Snapshot}
use Rattle.es_vault.specs.Names.{keys_for, key_list}
use Rattle.es_vault.specs.Vault.{IsRight}
use Rattle.es_job.specs.declared.due.Due.{Due}
use Rattle.es_job.specs.declared.work.Work.TheVariants as work
use Rattle.es_job.specs.Due.{due_pairs, paired, pairs_for, first_of}
use Rattle.es_job.specs.Steps.{publishing, next_with}
use Rattle.es_job.specs.Job.{IsLooked, IsWorked}

abbrev Pairs : Type 0
Pairs = List (RoleKey × List Descriptor)

abbrev names : Pairs → List RoleKey
names pairs = list_map (λ pair. pair.0) pairs

-- no more than one pair more
paired_length : (key : Option RoleKey) (role : Option (List Descriptor)) (pairs : Pairs) → length (paired key role pairs) ≤ length pairs + 1
paired_length None role pairs = omega arith
paired_length (Some key) None pairs = omega arith
paired_length (Some key) (Some role) pairs = omega arith

pairs_length : (keys : HalfKeys) (halves : Halves) → length (pairs_for keys halves) ≤ 3
pairs_length keys halves =
    let limit = paired_length keys.limit halves.limit (paired keys.target halves.target []) in
    let last = paired_length keys.target halves.target [] in
    omega (arith, limit, last)

target_stands : (records : RecordsValue) (t : Target) → IfSome (target_name t) (IsStanding records)
target_stands records target.Own = tt
target_stands records (target.As user) = tt
target_stands records target.Unknown = tt

module _ (records : RecordsValue) where
  paired_names : (key : Option RoleKey) (pairs : Pairs) → names (paired key (option_map (roles_of records) key) pairs) ≡ listed key ++ names pairs
  paired_names None pairs = refl
  paired_names (Some key) pairs = refl

  paired_right : (key : Option RoleKey) (pairs : Pairs) → IfSome key (IsStanding records) → All (IsRight records) pairs → All (IsRight records) (paired key (option_map (roles_of records) key) pairs)
  paired_right None pairs stands right = right
  paired_right (Some key) pairs stands right = All-cons (IsRight records) (key, roles_of records key) pairs (record { roles = refl; stands = stands }) right

  module _ (subject : Subject) (is : IsOf records subject.caller) where
    abbrev by_names : Pairs
    by_names =
        (first_name subject.caller, roles_of records (first_name subject.caller))
        ∷ paired (limit_name subject.caller) (option_map (roles_of records) (limit_name subject.caller)) (paired (target_name subject.target) (option_map (roles_of records) (target_name subject.target)) [])

    pairs_by : pairs_for (keys_for subject) (halves_in records subject) ≡ by_names
    unfolding halves_by
    pairs_by = ap (pairs_for (keys_for subject)) (sym (halves_tell records subject is).same)

    names_by : names by_names ≡ key_list (keys_for subject)
    names_by =
        ap (λ ks. first_name subject.caller ∷ ks)
        (paired_names (limit_name subject.caller) (paired (target_name subject.target) (option_map (roles_of records) (target_name subject.target)) [])
        ∙ ap (λ ks. listed (limit_name subject.caller) ++ ks) (paired_names (target_name subject.target) [] ∙ append-nil (listed (target_name subject.target))))

    right_by : All (IsRight records) by_names
    right_by =
        All-cons (IsRight records) (first_name subject.caller, roles_of records (first_name subject.caller)) _
        (record { roles = refl; stands = (halves_tell records subject is).first_stands })
        (paired_right (limit_name subject.caller) _ (halves_tell records subject is).limit_stands
        (paired_right (target_name subject.target) [] (target_stands records subject.target) (All-nil (IsRight records))))

-- the halves that a look missed, composed, are to be published
pub composed_work : (call : Call) (s share : Snapshot) (keys : HalfKeys) (halves : Halves) (due : Due) → IsLooked call s → keys ≡ keys_for s.subject → share ≡ s → halves ≡ halves_in s.records s.subject
    → due_pairs due ≡ pairs_for keys halves → IsWorked call (work.Missed s keys) (work.Looked share halves due) 1
composed_work call s share keys halves due looked keys_are same are pairs_are =
    let pairs : due_pairs due ≡ by_names s.records s.subject looked.is_of = pairs_are ∙ ap₂ pairs_for keys_are are ∙ pairs_by s.records s.subject looked.is_of in
    let few = pairs_length keys halves in
    let count : length (due_pairs due) ≡ length (pairs_for keys halves) = ap (λ (p : Pairs). length p) pairs_are in
    subst (λ (t : Snapshot). IsWorked call (work.Missed s keys) (work.Looked t halves due) 1) (sym same) (record {
      phase =
          ap (λ (p : Pairs). next_with s (names p) call) pairs
          ∙ ap (publishing s) (names_by s.records s.subject looked.is_of ∙ ap key_list (sym keys_are));
      ready = ap (λ (p : Pairs). is_some (first_of p)) pairs;
      good = (record { looked = looked; halves_are = are }, All-same (IsRight s.records) _ _ pairs (right_by s.records s.subject looked.is_of));
      few = omega (arith, few, count);
    })
