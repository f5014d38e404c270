-- Laws of the names and of the table.
use Rattle.std.proofs.Common.{◌≡◌, ℕ, List, [], ◌∷◌, Bool, true, false, cond, find, Some, Contains, IsTrue, ◌↔◌, refl, sym, ap, ◌∙◌}
use Rattle.std.specs.Cmp.{IsEquivalence}
use Rattle.std.specs.List.{list_any}
use Rattle.std.specs.Str.{bytes_eq}
use Rattle.std.proofs.lemmas.Cmp.{nat_list_eq_equiv}
use Rattle.std.proofs.lemmas.Slice.Eq.{bytes_eq-Decides}
use Rattle.std.proofs.lemmas.Map.Views.{Contains-from_any, list_any-from_Contains}
use Rattle.es_priv.specs.declared.kinds.Action.{Action}
use Rattle.es_priv.specs.declared.kinds.ClusterAction.{ClusterAction}
use Rattle.es_priv.specs.declared.kinds.IndexPrivilege.{IndexPrivilege}
use Rattle.es_priv.specs.declared.kinds.IndexPrivilege.TheVariants as index
use Rattle.es_priv.specs.declared.kinds.ClusterPrivilege.{ClusterPrivilege}
use Rattle.es_priv.specs.declared.kinds.ClusterPrivilege.TheVariants as cluster
use Rattle.es_priv.specs.Names.{index_name_of, cluster_name_of, index_named, cluster_named, index_privileges, cluster_privileges}
use Rattle.es_priv.specs.Table.{granting_of, granting_cluster_of, grants_of, grants_cluster_of}

-- ---- names

-- a privilege's name names it
pub index_named-index_name_of : (p : IndexPrivilege) → index_named (index_name_of p) ≡ Some p
unfolding index_named
index_named-index_name_of index.All = refl
index_named-index_name_of _ = refl

pub cluster_named-cluster_name_of : (p : ClusterPrivilege) → cluster_named (cluster_name_of p) ≡ Some p
unfolding cluster_named
cluster_named-cluster_name_of cluster.All = refl
cluster_named-cluster_name_of _ = refl

-- what is found at the head or behind it has the name
found_at : {K : Type 0} (name : K → List ℕ) (q : K) (ks : List K) (s : List ℕ) (p : K) (b : Bool) → bytes_eq (name q) s ≡ b → (find (λ k. bytes_eq (name k) s) ks ≡ Some p → s ≡ name p)
    → cond b (Some q) (find (λ k. bytes_eq (name k) s) ks) ≡ Some p → s ≡ name p
found_at name q ks s p true is later e = let same : q ≡ p = cc in sym ((bytes_eq-Decides (name q) s).0 is) ∙ ap name same
found_at name q ks s p false is later e = later e

-- what is found by a name has that name
found_by_name : {K : Type 0} (name : K → List ℕ) (ks : List K) (s : List ℕ) (p : K) → find (λ k. bytes_eq (name k) s) ks ≡ Some p → s ≡ name p
found_by_name name [] s p e = absurd (cc)
found_by_name name (q ∷ ks) s p e = found_at name q ks s p (bytes_eq (name q) s) refl (found_by_name name ks s p) e

-- what a text names has that text as its name
pub index_name_of-from_named : (s : List ℕ) (p : IndexPrivilege) → index_named s ≡ Some p → s ≡ index_name_of p
unfolding index_named
index_name_of-from_named s p e = found_by_name index_name_of index_privileges s p e

pub cluster_name_of-from_named : (s : List ℕ) (p : ClusterPrivilege) → cluster_named s ≡ Some p → s ≡ cluster_name_of p
unfolding cluster_named
cluster_name_of-from_named s p e = found_by_name cluster_name_of cluster_privileges s p e

-- privileges of one name are one
pub index_name_of-injective : (p q : IndexPrivilege) → index_name_of p ≡ index_name_of q → p ≡ q
index_name_of-injective p q e =
    let same : Some p ≡ Some q = sym (index_named-index_name_of p) ∙ ap index_named e ∙ index_named-index_name_of q in cc

pub cluster_name_of-injective : (p q : ClusterPrivilege) → cluster_name_of p ≡ cluster_name_of q → p ≡ q
cluster_name_of-injective p q e =
    let same : Some p ≡ Some q = sym (cluster_named-cluster_name_of p) ∙ ap cluster_named e ∙ cluster_named-cluster_name_of q in cc

-- for an attribute that cites the laws of names
pub ruleset name_laws = (index_named-index_name_of, cluster_named-cluster_name_of, index_name_of-from_named, cluster_name_of-from_named, index_name_of-injective, cluster_name_of-injective)

-- ---- the table

-- equal names are an equality of privileges
same_names : {K : Type 0} (name : K → List ℕ) → IsEquivalence (λ p q. bytes_eq (name p) (name q))
same_names name = record {
  refl = λ p. nat_list_eq_equiv.refl (name p);
  symm = λ p q. nat_list_eq_equiv.symm (name p) (name q);
  congr = λ p q r. nat_list_eq_equiv.congr (name p) (name q) (name r);
}

-- a list has a privilege of this name just where it has this privilege
in_row : {K : Type 0} (name : K → List ℕ) (injective : (p q : K) → name p ≡ name q → p ≡ q) (row : List K) (p : K) → IsTrue (list_any (λ q. bytes_eq (name p) (name q)) row) ↔ Contains row p
in_row name injective row p = (
  Contains-from_any {eq = λ p q. bytes_eq (name p) (name q)} (λ p q e. injective p q ((bytes_eq-Decides (name p) (name q)).0 e)) p row,
  list_any-from_Contains (same_names name) p row,
)

-- a privilege grants an action just where it stands in the action's row
pub grants_of_iff : (p : IndexPrivilege) (a : Action) → IsTrue (grants_of p a) ↔ Contains (granting_of a) p
unfolding grants_of
grants_of_iff p a = in_row index_name_of index_name_of-injective (granting_of a) p

pub grants_cluster_of_iff : (p : ClusterPrivilege) (a : ClusterAction) → IsTrue (grants_cluster_of p a) ↔ Contains (granting_cluster_of a) p
unfolding grants_cluster_of
grants_cluster_of_iff p a = in_row cluster_name_of cluster_name_of-injective (granting_cluster_of a) p

-- two tests of one fact give one answer
pub same_answer : (b c : Bool) {P : Type 0} → IsTrue b ↔ P → IsTrue c ↔ P → b ≡ c
same_answer true c x y = sym (y.1 (x.0 refl))
same_answer false true x y = x.1 (y.0 refl)
same_answer false false x y = refl
