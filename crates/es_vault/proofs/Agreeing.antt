-- An answer that says whether two names of halves are equal is that of the test.
use Rattle.std.proofs.Common.{◌≡◌, Bool, true, false, refl, sym, ◌∙◌}
use Rattle.std.specs.Prelude.{IsTrue, ◌↔◌}
use Rattle.es_keys.specs.declared.kinds.RoleKey.{RoleKey}
use Rattle.es_vault.specs.Keys.{same_key}
use Rattle.es_vault.specs.Same.{same_key_decides}

pub agrees : (answer : Bool) (one other : RoleKey) → (IsTrue answer ↔ (one ≡ other)) → answer ≡ same_key one other
agrees true one other says = sym ((same_key_decides one other).1 (says.0 refl))
agrees false one other says =
    (elim (same_key one other) as (λ b. same_key one other ≡ b → false ≡ b) [
      | true ↦ λ t. says.1 ((same_key_decides one other).0 t)
      | false ↦ λ _. refl
    ]) refl
