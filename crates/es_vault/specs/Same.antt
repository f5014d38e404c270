-- That names of halves are compared as values.
use Rattle.std.specs.Prelude.{◌≡◌, Bool, true, false, refl}
use Rattle.std.specs.Bool.{Decides}
use Rattle.std.specs.Cmp.{IsEquivalence}
use Rattle.std.specs.Cmp.Lexicographic.{pointwise_decides, bytes_decides}
use Rattle.std.proofs.Common.{sym, ap, ◌∙◌}
use Rattle.es_keys.specs.declared.kinds.RoleKey.{RoleKey}
use Rattle.es_keys.specs.declared.kinds.RoleKey.TheVariants.{Names, Assigned, Limits}
use Rattle.es_vault.specs.Keys.{same_key, fed_key}

-- the test says exactly whether the names are equal
pub same_key_decides : (one other : RoleKey) → Decides (same_key one other) (one ≡ other)
unfolding same_key
same_key_decides (Names names) (Names others) = let d = pointwise_decides bytes_decides names others in (λ h. ap Names (d.0 h), λ e. d.1 (cc e))
same_key_decides (Names names) (Assigned id) = (λ h. cc h, λ e. cc e)
same_key_decides (Names names) (Limits id) = (λ h. cc h, λ e. cc e)
same_key_decides (Assigned id) (Names names) = (λ h. cc h, λ e. cc e)
same_key_decides (Assigned id) (Assigned other) = let d = bytes_decides id other in (λ h. ap Assigned (d.0 h), λ e. d.1 (cc e))
same_key_decides (Assigned id) (Limits other) = (λ h. cc h, λ e. cc e)
same_key_decides (Limits id) (Names names) = (λ h. cc h, λ e. cc e)
same_key_decides (Limits id) (Assigned other) = (λ h. cc h, λ e. cc e)
same_key_decides (Limits id) (Limits other) = let d = bytes_decides id other in (λ h. ap Limits (d.0 h), λ e. d.1 (cc e))

-- what decides equality compares in both directions alike
symmetric : (one other : RoleKey) → same_key one other ≡ same_key other one
symmetric one other =
    (elim (same_key one other) as (λ b. same_key one other ≡ b → b ≡ same_key other one) [
      | true ↦ λ t. sym ((same_key_decides other one).1 (sym ((same_key_decides one other).0 t)))
      | false ↦ λ f. (elim (same_key other one) as (λ b. same_key other one ≡ b → false ≡ b) [
        | true ↦ λ t. sym f ∙ (same_key_decides one other).1 (sym ((same_key_decides other one).0 t))
        | false ↦ λ _. refl
      ]) refl
    ]) refl

-- it is an equality of keys of a cache
pub same_key_equiv : IsEquivalence same_key
same_key_equiv = record {
  refl = λ key. (same_key_decides key key).1 refl;
  symm = symmetric;
  congr = λ one other third same. ap (λ key. same_key key third) ((same_key_decides one other).0 same);
}

-- equal keys feed a hasher alike
pub fed_alike : (one other : RoleKey) → same_key one other ≡ true → fed_key one ≡ fed_key other
fed_alike one other same = ap fed_key ((same_key_decides one other).0 same)
