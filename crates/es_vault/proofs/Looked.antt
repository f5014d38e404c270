-- What a look answers.
use Rattle.std.proofs.Common.{◌≡◌, ℕ, List, true, false, Option, Some, None, refl, sym, ap, ap₂, subst, ◌∙◌}
use Rattle.std.specs.Prelude.{IfSome}
use Rattle.es_keys.specs.declared.kinds.Subject.{Subject}
use Rattle.es_keys.specs.Halves.{halves_of}
use Rattle.es_decide.specs.declared.kinds.Halves.{Halves}
use Rattle.es_records.specs.Records.{RecordsValue}
use Rattle.es_records.specs.Halves.{halves_in, IsOf}
use Rattle.es_vault.specs.declared.names.HalfKeys.{HalfKeys}
use Rattle.es_vault.specs.declared.look.Snapshot.{Snapshot}
use Rattle.es_vault.specs.Names.{keys_for, key_list}
use Rattle.es_vault.specs.Found.{IsFound}
use Rattle.es_vault.specs.Vault.{VaultValue, AreRight, has_all, brought_all, with_roles}
use Rattle.es_vault.specs.Steps.{snapshot_for}
use Rattle.es_vault.proofs.Looking.{listed_keys, halves_right, all_found}

module _ (v seen : VaultValue) (same : v ≡ seen) where
  same_records : v.at.world.records ≡ seen.at.world.records
  same_records = ap (λ (u : VaultValue). u.at.world.records) same

  same_subject : (subject : Subject) (snapshot : Snapshot) → snapshot ≡ snapshot_for seen subject → subject ≡ snapshot.subject
  same_subject subject snapshot is = sym (ap (λ (s : Snapshot). s.subject) is)

  known_of : (found : Option Subject) (subject : Subject) → found ≡ Some subject → IfSome found (λ s. IsOf v.at.world.records s.caller) → IsOf seen.at.world.records subject.caller
  known_of found subject is of = subst (λ (r : RecordsValue). IsOf r subject.caller) same_records (subst (λ (o : Option Subject). IfSome o (λ s. IsOf v.at.world.records s.caller)) is of)

  -- a key that calls stands at its id in the records of the snapshot
  pub snapshot_is_of : (found : Option Subject) (subject : Subject) (snapshot : Snapshot) → found ≡ Some subject → IfSome found (λ s. IsOf v.at.world.records s.caller) → snapshot ≡ snapshot_for seen subject
      → IsOf snapshot.records snapshot.subject.caller
  snapshot_is_of found subject snapshot is of at = subst (λ (s : Snapshot). IsOf s.records s.subject.caller) (sym at) (known_of found subject is of)

  -- what was found is the snapshot's subject
  found_there : (found asked : Option Subject) (subject : Subject) (snapshot : Snapshot) → found ≡ asked → found ≡ Some subject → snapshot ≡ snapshot_for seen subject → asked ≡ Some snapshot.subject
  found_there found asked subject snapshot who is at = sym who ∙ is ∙ ap (λ s. Some s) (same_subject subject snapshot at)

  pub look_hit : AreRight v.at.world.records v.roles.entries → (found : Option Subject) (who : RecordsValue → Option Subject) (subject : Subject) (snapshot : Snapshot) (keys : HalfKeys) (cached : Option Halves) (halves : Halves) (new : VaultValue)
      → found ≡ who v.at.world.records → found ≡ Some subject → IfSome found (λ s. IsOf v.at.world.records s.caller) → keys ≡ keys_for subject → IsFound seen.roles.entries keys cached → cached ≡ Some halves
      → snapshot ≡ snapshot_for seen subject → new ≡ with_roles seen (brought_all (key_list keys) seen.roles.entries)
      → (who seen.at.world.records ≡ Some snapshot.subject) × (snapshot ≡ snapshot_for seen snapshot.subject) × (has_all seen.roles.entries (halves_of snapshot.subject) ≡ true)
      × (halves ≡ halves_in seen.at.world.records snapshot.subject) × (new ≡ with_roles seen (brought_all (halves_of snapshot.subject) seen.roles.entries))
  look_hit right found who subject snapshot keys cached halves new asked is of names there hit at left =
      let known = known_of found subject is of in
      let which = same_subject subject snapshot at in
      let found_all : IsFound seen.roles.entries keys (Some halves) = subst (IsFound seen.roles.entries keys) hit there in
      let right' = subst (λ (u : VaultValue). AreRight u.at.world.records u.roles.entries) same right in
      let listed = ap key_list names ∙ listed_keys seen.at.world.records subject known in (
        found_there found (who seen.at.world.records) subject snapshot (asked ∙ ap who same_records) is at,
        at ∙ ap (snapshot_for seen) which,
        ap (λ (s : Subject). has_all seen.roles.entries (halves_of s)) (sym which) ∙ ap (has_all seen.roles.entries) (sym listed) ∙ all_found seen.roles.entries keys halves found_all,
        halves_right seen.at.world.records seen.roles.entries subject keys halves right' known names found_all ∙ ap (halves_in seen.at.world.records) which,
        left ∙ ap (λ ks. with_roles seen (brought_all ks seen.roles.entries)) (listed ∙ ap halves_of which),
      )

  pub look_miss : (found : Option Subject) (who : RecordsValue → Option Subject) (subject : Subject) (snapshot : Snapshot) (keys : HalfKeys) (cached : Option Halves)
      → found ≡ who v.at.world.records → found ≡ Some subject → IfSome found (λ s. IsOf v.at.world.records s.caller) → keys ≡ keys_for subject → IsFound seen.roles.entries keys cached → cached ≡ None
      → snapshot ≡ snapshot_for seen subject
      → (who seen.at.world.records ≡ Some snapshot.subject) × (snapshot ≡ snapshot_for seen snapshot.subject) × (has_all seen.roles.entries (halves_of snapshot.subject) ≡ false)
      × (keys ≡ keys_for snapshot.subject) × (seen ≡ seen)
  look_miss found who subject snapshot keys cached asked is of names there missing at =
      let known = known_of found subject is of in
      let which = same_subject subject snapshot at in
      let none : has_all seen.roles.entries (key_list keys) ≡ false = subst (IsFound seen.roles.entries keys) missing there in
      let listed = ap key_list names ∙ listed_keys seen.at.world.records subject known in (
        found_there found (who seen.at.world.records) subject snapshot (asked ∙ ap who same_records) is at,
        at ∙ ap (snapshot_for seen) which,
        ap (λ (s : Subject). has_all seen.roles.entries (halves_of s)) (sym which) ∙ ap (has_all seen.roles.entries) (sym listed) ∙ none,
        names ∙ ap keys_for which,
        refl,
      )
