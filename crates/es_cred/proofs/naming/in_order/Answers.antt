use Rattle.std.proofs.Common.{◌≡◌, ◌∙◌, nat_cmp, sym, ap, subst, List, ℕ, rules}
use Rattle.std.specs.Cmp.Lexicographic.{slice_cmp}
use Rattle.std.specs.Ordering.{is_lt}
use Rattle.std.specs.Str.{bytes_eq}
use Rattle.std.proofs.lemmas.Cmp.{nat_list_cmp_total}
use Rattle.std.proofs.lemmas.List.MinMax.{ranks_by}
use Rattle.std.proofs.lemmas.Fn.{always_returns_same, dedup_same}
use Rattle.std.specs.List.{dedup, Contains}
use Rattle.std.specs.List.Sorted.{IsSorted}
use Rattle.es_tree.specs.Rising.{is_rising}
use Rattle.es_cred.specs.Names.{in_order}
use Rattle.es_cred.proofs.Order.{sorted_once, in_order-rising, in_order-holds, in_order-only}
use Rattle.es_cred.proofs.naming.in_order.Goals as goal

pub returns-clause-ordered : goal.returns-clause-ordered
returns-clause-ordered c =
    let up : IsSorted (slice_cmp nat_cmp) c.sort_by.new.self.items = c.in_ok-sort_by.ensures.sorted (λ x y. is_lt (slice_cmp nat_cmp x y)) (ranks_by nat_list_cmp_total (λ x. x)) (always_returns_same _ _ _ (λ a r next called. (search rules, search rules))) in
    let once : c.dedup_by.new.self.items ≡ dedup bytes_eq c.sort_by.new.self.items = dedup_same _ bytes_eq _ (λ x y b f' x' y' k. search rules) _ _ c.dedup_by.ensures.filtered in
    c.from_vec.ensures ∙ once ∙ sorted_once c.into_vec-names.result.items c.sort_by.new.self.items c.sort_by.ensures.permutation up ∙ ap in_order c.into_vec-names.ensures

pub returns-clause-rising : goal.returns-clause-rising
returns-clause-rising c = ap is_rising (returns-clause-ordered c) ∙ in_order-rising c.args.names

pub returns-clause-members : goal.returns-clause-members
returns-clause-members c = λ name.
    let is : c.from_vec.result ≡ in_order c.args.names = returns-clause-ordered c in
    (λ h. in_order-only c.args.names name (subst (λ (names : List (List ℕ)). Contains names name) is h), λ h. subst (λ (names : List (List ℕ)). Contains names name) (sym is) (in_order-holds c.args.names name h))
