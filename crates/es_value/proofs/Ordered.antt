-- The order of values is total, and only equal values tie.
use Rattle.std.proofs.Common.{◌≡◌, ◌↔◌, ℤ, Ordering, Less, Equal, Greater, refl, ap, subst}
use Rattle.std.specs.Prelude.{◌<ℤ◌}
use Rattle.std.specs.Cmp.{IsTotalOrder}
use Rattle.std.specs.Ordering.{MatchOrdering, int_cmp, ordering_reverse}
use Rattle.std.proofs.lemmas.Cmp.{int_cmp_total, nat_list_cmp_total, int_ranked, tied_itself}
use Rattle.std.proofs.lemmas.Map.Lookups.{exact_bytes}
use Rattle.es_value.specs.declared.kinds.Value.{Value}
use Rattle.es_value.specs.declared.kinds.Value.TheVariants.{Number, Text}
use Rattle.es_value.specs.Order.{value_cmp}

antisymm : (x y : Value) → value_cmp x y ≡ ordering_reverse (value_cmp y x)
antisymm (Number y) (Number z) = int_cmp_total.antisymm y z
antisymm (Number y) (Text t) = refl
antisymm (Text s) (Number z) = refl
antisymm (Text s) (Text t) = nat_list_cmp_total.antisymm s t

trans : (x y z : Value) → value_cmp x y ≡ Less → value_cmp y z ≡ Less → value_cmp x z ≡ Less
trans (Number x) (Number y) (Number z) p q = int_cmp_total.trans x y z p q
trans (Number x) (Number y) (Text u) p q = refl
trans (Number x) (Text t) (Number z) p q = cc q
trans (Number x) (Text t) (Text u) p q = refl
trans (Text s) (Number y) (Number z) p q = cc p
trans (Text s) (Number y) (Text u) p q = cc p
trans (Text s) (Text t) (Number z) p q = cc q
trans (Text s) (Text t) (Text u) p q = nat_list_cmp_total.trans s t u p q

congr : (x y z : Value) → value_cmp x y ≡ Equal → value_cmp x z ≡ value_cmp y z
congr (Number x) (Number y) (Number z) p = int_cmp_total.congr x y z p
congr (Number x) (Number y) (Text u) p = refl
congr (Number x) (Text t) z p = cc p
congr (Text s) (Number y) z p = cc p
congr (Text s) (Text t) (Number z) p = refl
congr (Text s) (Text t) (Text u) p = nat_list_cmp_total.congr s t u p

pub value_total : IsTotalOrder value_cmp
value_total = record { antisymm = antisymm; trans = trans; congr = congr }

exact_number : (y z : ℤ) → int_cmp y z ≡ Equal → y ≡ z
exact_number y z e = subst (λ (o : Ordering). MatchOrdering o (y <ℤ z) (y ≡ z) (z <ℤ y)) e (int_ranked y z (int_cmp y z) refl)

pub exact_value : (x y : Value) → value_cmp x y ≡ Equal → x ≡ y
exact_value (Number y) (Number z) e = ap Number (exact_number y z e)
exact_value (Number y) (Text t) e = cc e
exact_value (Text s) (Number z) e = cc e
exact_value (Text s) (Text t) e = ap Text (exact_bytes s t e)

pub equal_ties : (x y : Value) → x ≡ y → value_cmp x y ≡ Equal
equal_ties x y e = subst (λ (v : Value). value_cmp x v ≡ Equal) e (tied_itself value_total x)

pub value_ties : (x y : Value) → (value_cmp x y ≡ Equal) ↔ (x ≡ y)
value_ties x y = (exact_value x y, equal_ties x y)
