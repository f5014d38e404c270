-- Equal counts of changes of users, roles and keys mean equal records.
use Rattle.std.proofs.Common.{◌≡◌, ℕ, ◌+◌, List, [], ◌∷◌, ◌++◌, Option, refl, sym, ap, ◌∙◌}
use Rattle.std.proofs.lemmas.List.{map-append}
use Rattle.es_records.specs.declared.change.SecurityChange.{SecurityChange}
use Rattle.es_records.specs.Laws.{records_after, count_of}
use Rattle.es_records.proofs.Lasting.{count_tells}
use Rattle.es_vault.specs.World.{World, Change, opening, security, doc, Entry, apply, replay_from, replay, security_in, securities}
use Rattle.es_drive.specs.Laws.{EqualCounts}

one_change : (w : World) (n : ℕ) (c : Change) (cs : List (Option SecurityChange)) → records_after (apply w n c).records cs ≡ records_after w.records (security_in c ∷ cs)
one_change w n opening cs = refl
one_change w n (security change) cs = refl
one_change w n (doc change) cs = refl

records_from : (w : World) (n : ℕ) (J : List Entry) → (replay_from w n J).records ≡ records_after w.records (securities J)
records_from w n [] = refl
records_from w n (e ∷ J) = records_from (apply w (n + 1) e.change) (n + 1) J ∙ one_change w (n + 1) e.change (securities J)

pub equal_counts : EqualCounts
unfolding replay
equal_counts w J more e =
    let both : securities (J ++ more) ≡ securities J ++ securities more = map-append (λ (x : Entry). security_in x.change) J more in
    records_from w 0 (J ++ more)
    ∙ ap (records_after w.records) both
    ∙ count_tells w.records (securities J) (securities more) (sym (ap count_of both) ∙ e)
    ∙ sym (records_from w 0 J)
