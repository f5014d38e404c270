-- What holds of the worlds of journals that can be replayed.
use Rattle.std.proofs.Common.{◌≡◌, ℕ, ◌+◌, ◌<◌, ◌≤◌, ◌^◌, List, [], ◌∷◌, ◌++◌, length, length-append, Bool, true, false, cond, Option, Some, None, is_some, refl, sym, ap, ap₂, subst, ◌∙◌, arith}
use Rattle.std.specs.Prelude.{not}
use Rattle.std.specs.Ordering.{eq_by_cmp}
use Rattle.std.specs.FinMap as map
use Rattle.std.proofs.lemmas.List.{map-append}
use Rattle.std.proofs.lemmas.Cmp.{nat_list_cmp_total}
use Rattle.es_keys.specs.declared.kinds.KeyRecord.{KeyRecord}
use Rattle.es_keys.specs.Keys.{id_of}
use Rattle.es_keys.proofs.Ids.{ids_differ}
use Rattle.es_catalog.specs.Catalog.{text_cmp}
use Rattle.es_records.specs.declared.change.SecurityChange.{SecurityChange}
use Rattle.es_records.specs.declared.change.SecurityChange.TheVariants.{PutRole, DeleteRole, PutUser, DeleteUser, AddKey, Invalidate, ClearCache}
use Rattle.es_records.specs.Records.{RecordsValue, IsNamed}
use Rattle.es_records.specs.Changes.{with_security, Fits}
use Rattle.es_records.specs.Laws.{count_of}
use Rattle.es_records.proofs.Standing.{equal, read_invalidated}
use Rattle.es_records.proofs.Lasting.{named_stays}
use Rattle.es_vault.specs.World.{World, Change, opening, security, doc, Entry, opening_world, apply, replay_from, replay, opening_entry, security_in, securities, security_count, weight_of, PlacedWorld, StandsFor, advanced}
use Rattle.es_vault.specs.Replayable.{IsNew, FitsAt, AllFitAfter, IsReplayable}
use Rattle.es_vault.specs.Versions.{HasVersionsUpTo}
use Rattle.es_vault.proofs.Versions.{versions_none, versions_doc, versions_later}

-- ---- one entry more

replay_from-push : (w : World) (n : ℕ) (J : List Entry) (e : Entry) → replay_from w n (J ++ e ∷ []) ≡ apply (replay_from w n J) (n + length J + 1) e.change
replay_from-push w n [] e = ap (λ (k : ℕ). apply w k e.change) (omega arith)
replay_from-push w n (x ∷ J) e =
    replay_from-push (apply w (n + 1) x.change) (n + 1) J e
    ∙ ap (λ (k : ℕ). apply (replay_from (apply w (n + 1) x.change) (n + 1) J) k e.change) (omega arith)

pub replay-push : (w : World) (J : List Entry) (e : Entry) → replay w (J ++ e ∷ []) ≡ apply (replay w J) (length J + 1) e.change
unfolding replay
replay-push w J e = replay_from-push w 0 J e ∙ ap (λ (k : ℕ). apply (replay_from w 0 J) k e.change) (omega arith)

weight-push : (J : List Entry) (e : Entry) → weight_of (J ++ e ∷ []) ≡ weight_of J + e.weight
weight-push [] e = omega arith
weight-push (x ∷ J) e = let more = weight-push J e in omega (arith, more)

pub stands-push : (w : World) (J : List Entry) (at : PlacedWorld) (e : Entry) → StandsFor w J at → StandsFor w (J ++ e ∷ []) (advanced at e)
stands-push w J at e stands = record {
  world = ap₂ (λ (v : World) (k : ℕ). apply v (k + 1) e.change) stands.world stands.place ∙ sym (replay-push w J e);
  place = ap (λ (k : ℕ). k + 1) stands.place ∙ sym (length-append J (e ∷ []));
  weight = ap (λ (k : ℕ). k + e.weight) stands.weight ∙ sym (weight-push J e);
}

fit-push : (n : ℕ) (J : List Entry) (e : Entry) → AllFitAfter n J → FitsAt (n + length J + 1) e.change → AllFitAfter n (J ++ e ∷ [])
fit-push n [] e fit new = (subst (λ (k : ℕ). FitsAt k e.change) (omega arith) new, tt)
fit-push n (x ∷ J) e fit new = (fit.0, fit-push (n + 1) J e fit.1 (subst (λ (k : ℕ). FitsAt k e.change) (omega arith) new))

pub replayable-push : (J : List Entry) (e : Entry) → IsReplayable J → FitsAt (length J + 1) e.change → IsReplayable (J ++ e ∷ [])
replayable-push J e good new =
    let entries : List Entry = good.entries in
    let more = fit-push 1 entries e good.fit (subst (λ (k : ℕ). FitsAt k e.change) (ap (λ (K : List Entry). length K + 1) good.opens ∙ omega arith) new) in
    record { entries = entries ++ e ∷ []; opens = ap (λ (K : List Entry). K ++ e ∷ []) good.opens; fit = more }

-- ---- counts

count-push : (changes : List (Option SecurityChange)) (o : Option SecurityChange) → count_of (changes ++ o ∷ []) ≡ count_of changes + count_of (o ∷ [])
count-push [] o = omega arith
count-push (None ∷ changes) o = count-push changes o
count-push (Some change ∷ changes) o = let more = count-push changes o in omega (arith, more)

pub security-push : (J : List Entry) (e : Entry) → security_count (J ++ e ∷ []) ≡ security_count J + count_of (security_in e.change ∷ [])
security-push J e = ap count_of (map-append (λ (x : Entry). security_in x.change) J (e ∷ [])) ∙ count-push (securities J) (security_in e.change)

count_step : (o : Option SecurityChange) (n : ℕ) → count_of (o ∷ []) + n ≤ n + 1
count_step None n = omega arith
count_step (Some change) n = omega arith

count_first : (o : Option SecurityChange) (cs : List (Option SecurityChange)) → count_of (o ∷ cs) ≤ count_of cs + 1
count_first None cs = omega arith
count_first (Some change) cs = omega arith

pub count_within : (J : List Entry) → security_count J ≤ length J
count_within [] = omega arith
count_within (e ∷ J) = let more = count_within J in let first = count_first (security_in e.change) (securities J) in omega (arith, more, first)

-- ---- what each fitting change keeps holds of every world

module _ (P : ℕ → World → Type 0) (step : (w : World) (n : ℕ) (c : Change) → FitsAt (n + 1) c → P n w → P (n + 1) (apply w (n + 1) c)) where
  along : (w : World) (n : ℕ) (J : List Entry) → AllFitAfter n J → P n w → P (n + length J) (replay_from w n J)
  along w n [] fit holds = subst (λ (k : ℕ). P k w) (omega arith) holds
  along w n (e ∷ J) fit holds =
      subst (λ (k : ℕ). P k (replay_from (apply w (n + 1) e.change) (n + 1) J)) (omega arith) (along (apply w (n + 1) e.change) (n + 1) J fit.1 (step w n e.change fit.0 holds))

  pub always : (secret : List ℕ) (J : List Entry) → IsReplayable J → P 1 (opening_world secret) → P (length J) (replay (opening_world secret) J)
  unfolding replay
  always secret J good holds =
      subst (λ (K : List Entry). P (length K) (replay_from (opening_world secret) 0 K)) (sym good.opens)
      (subst (λ (k : ℕ). P k (replay_from (opening_world secret) 1 good.entries)) (omega arith) (along (opening_world secret) 1 good.entries good.fit holds))

-- ---- versions

versions_step : (w : World) (n : ℕ) (c : Change) → FitsAt (n + 1) c → HasVersionsUpTo n w.catalog → HasVersionsUpTo (n + 1) (apply w (n + 1) c).catalog
versions_step w n opening fits holds = absurd fits
versions_step w n (security change) fits holds = versions_later w.catalog n holds
versions_step w n (doc change) fits holds = versions_doc w.catalog (n + 1) n change holds

pub versions_within : (secret : List ℕ) (J : List Entry) → IsReplayable J → HasVersionsUpTo (length J) (replay (opening_world secret) J).catalog
versions_within secret J good = always (λ (n : ℕ) (w : World). HasVersionsUpTo n w.catalog) versions_step secret J good (versions_none 1)

-- ---- ids of keys

-- no key has the id of a later place
abbrev pub HasKeysUpTo : ℕ → RecordsValue → Type 0
HasKeysUpTo n records = (later : ℕ) → n < later → later < 1000000000000 → is_some (map.get records.keys (id_of later)) ≡ false

keys_after : (n : ℕ) (records : RecordsValue) → HasKeysUpTo n records → HasKeysUpTo (n + 1) records
keys_after n records holds later above below = holds later (omega (arith, above)) below

key_added : (n : ℕ) (keys : map.FinMap text_cmp KeyRecord) (kept : KeyRecord) (later : ℕ) → kept.id ≡ id_of (n + 1) → n + 1 < later → later < 1000000000000 → is_some (map.get keys (id_of later)) ≡ false
    → is_some (map.get (map.insert keys kept.id kept) (id_of later)) ≡ false
key_added n keys kept later is above below none =
    ap is_some (map.get-insert nat_list_cmp_total keys kept.id kept (id_of later)) ∙ either (eq_by_cmp text_cmp (id_of later) kept.id) refl
  where
    either : (b : Bool) → eq_by_cmp text_cmp (id_of later) kept.id ≡ b → is_some (cond b (Some kept) (map.get keys (id_of later))) ≡ false
    either true same = let clash : later ≡ n + 1 = ids_differ later (n + 1) below (omega (arith, above, below)) (equal (id_of later) kept.id same ∙ is) in absurd (omega (arith, clash, above))
    either false same = none

keys_security : (records : RecordsValue) (n : ℕ) (change : SecurityChange) → FitsAt (n + 1) (security change) → HasKeysUpTo n records → HasKeysUpTo (n + 1) (with_security records change)
unfolding with_security
keys_security records n (PutRole name role) fits holds = keys_after n records holds
keys_security records n (DeleteRole name) fits holds = keys_after n records holds
keys_security records n (PutUser user) fits holds = keys_after n records holds
keys_security records n (DeleteUser name) fits holds = keys_after n records holds
keys_security records n (AddKey kept) fits holds = λ later above below. key_added n records.keys kept later fits.id above below (holds later (omega (arith, above)) below)
keys_security records n (Invalidate ids) fits holds = λ later above below. read_invalidated is_some (λ _. refl) ids records.keys (id_of later) ∙ holds later (omega (arith, above)) below
keys_security records n (ClearCache names every) fits holds = keys_after n records holds

keys_step : (w : World) (n : ℕ) (c : Change) → FitsAt (n + 1) c → HasKeysUpTo n w.records → HasKeysUpTo (n + 1) (apply w (n + 1) c).records
keys_step w n opening fits holds = absurd fits
keys_step w n (security change) fits holds = keys_security w.records n change fits holds
keys_step w n (doc change) fits holds = keys_after n w.records holds

pub keys_within : (secret : List ℕ) (J : List Entry) → IsReplayable J → HasKeysUpTo (length J) (replay (opening_world secret) J).records
keys_within secret J good =
    always (λ (n : ℕ) (w : World). HasKeysUpTo n w.records) keys_step secret J good (λ later above below. ap is_some (map.get-empty text_cmp (id_of later)))

none_there : {X : Type 0} (o : Option X) → is_some o ≡ false → o ≡ None
none_there None none = refl
none_there (Some x) none = cc none

-- a change that fits at the next place fits the records: a key that it adds has an id that no key has
pub fits_next : (n : ℕ) (records : RecordsValue) (change : SecurityChange) → HasKeysUpTo n records → n + 1 < 1000000000000 → FitsAt (n + 1) (security change) → Fits records change
fits_next n records (PutRole name role) holds small fits = tt
fits_next n records (DeleteRole name) holds small fits = tt
fits_next n records (PutUser user) holds small fits = tt
fits_next n records (DeleteUser name) holds small fits = tt
fits_next n records (AddKey kept) holds small fits = ap (map.get records.keys) fits.id ∙ none_there (map.get records.keys (id_of (n + 1))) (holds (n + 1) (omega arith) small)
fits_next n records (Invalidate ids) holds small fits = tt
fits_next n records (ClearCache names every) holds small fits = tt
