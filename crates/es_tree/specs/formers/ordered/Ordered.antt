-- `Ordered` as a type that may hold the type that holds it.
use Rattle.std.specs.Prelude.{map}
use mathlib.Core.Path.{◌≡◌, refl, sym, ap, ◌∙◌}
use mathlib.Core.List.{List, [], ◌∷◌}
use mathlib.Core.Bool.{Bool-set}
use mathlib.Core.Former.{Former, this, const, pair, list, via}
use base.Stored.{code_map}
use denote.RattleType.{RattleType}
use denote.HoleLaws.{Alike}
use denote.HolePlaces.{Recodes, struct_places, laid, stays}
use denote.Hole.Fix.{over}
use denote.Param.Weighed.{Weighed, w_list, w_via, w_pair, w_const}
use denote.Model.Placed.{view_places}
use Rattle.std.specs.formers.vec.Vec as vec
use Rattle.std.specs.declared.alloc.Global.{Global}
use Rattle.std.specs.contracts.alloc.Global as heap
use Rattle.std.specs.contracts.impls.GlobalAllocator.TheImpl.{ghosts}
use Rattle.es_base.specs.declared.text.Str.{Str}
use Rattle.es_tree.specs.declared.tree.Named.{Named}
use Rattle.es_base.specs.contracts.text.Str as text
use Rattle.es_tree.specs.contracts.tree.Named as N
use Rattle.es_tree.specs.Rising.{is_rising, name_of, named_code}
use Rattle.es_tree.specs.declared.ordered.Ordered.TheInside.{Inside}
use Rattle.es_tree.specs.declared.ordered.Ordered.TheView.{view, invariant}
use Rattle.es_tree.specs.contracts.ordered.Ordered as C
use Rattle.es_tree.specs.contracts.ordered.Ordered.TheInside as I

abbrev named : Former {0} → Former {0}
named g = via (pair (const Str) (pair g (const (Unit {0})))) (λ X. Named (g.Of X)) (λ X x. (x.name, (x.value, tt))) (λ X x. record { name = x.0; value = x.1.0 }) (λ X x. refl) (λ X x. refl)

abbrev w_named : {g : Former {0}} → Weighed g → Weighed (named g)
w_named {g} w = w_via (w_pair (w_const Str) (w_pair w (w_const (Unit {0})))) (λ X. Named (g.Of X)) (λ X x. (x.name, (x.value, tt))) (λ X x. record { name = x.0; value = x.1.0 }) (λ X x. refl) (λ X x. refl)

abbrev pub the_former : Former {0} → Former {0}
the_former g = list (named g)

abbrev pub the_weighed : {g : Former {0}} → Weighed g → Weighed (the_former g)
the_weighed w = w_list (w_named w)

pub the_empty : List (Named ⊥)
the_empty = []

abbrev fields : Former {0}
fields = via (vec.the_former (named this) Global) Inside (λ X a. a.items) (λ X v. record { items = v }) (λ X a. refl) (λ X v. refl)

names_kept : {X Y : Type 0} (h : X → Y) (ms : List (Named X)) → map name_of ((the_former this).map X Y h ms) ≡ map name_of ms
names_kept h [] = refl
names_kept h (m ∷ ms) = ap (λ l. m.name ∷ l) (names_kept h ms)

module _ (R S : RattleType) (h : R.Denot → S.Denot) where
  abbrev renamed : Named R.Denot → Named S.Denot
  renamed = (named this).map R.Denot S.Denot h

  named_places : Alike R S h → Alike (N.the_row R) (N.the_row S) renamed
  named_places a = struct_places (N.the_type R) (N.the_type S) (λ x. x, (h, tt)) renamed (λ d. refl) refl (stays text.the_row, (laid _ _ _ a, tt))

  pub the_places : Alike R S h → Alike (C.the_row R) (C.the_row S) ((the_former this).map R.Denot S.Denot h)
  the_places a = view_places fields (the_former this) view (λ X Y k u. refl) (λ X u. refl) R.Denot S.Denot h (C.the_row R).coded (C.the_row S).coded
      (invariant R.Denot) (invariant S.Denot) (λ u p q. Bool-set _ _ p q) (λ u p q. Bool-set _ _ p q)
      (λ u e. ap is_rising (names_kept h u.items.items) ∙ e) (λ u e. ap is_rising (sym (names_kept h u.items.items)) ∙ e)
      (over (I.the_row R)) (over (I.the_row S))
      (struct_places (I.the_type R) (I.the_type S) (vec.mapped renamed, tt) _ (λ d. refl) refl (laid _ _ _ (vec.the_places heap.the_row ghosts (N.the_row R) (N.the_row S) renamed (named_places a)), tt))

  named_codes : Recodes R S h → (m : Named R.Denot) → (named_code S.coded).code (renamed m) ≡ (named_code R.coded).code m
  named_codes e m = rw (e m.value)

  pub the_codes_placed : Recodes R S h → Recodes (C.the_row R) (C.the_row S) ((the_former this).map R.Denot S.Denot h)
  the_codes_placed e d = sym (code_map (named_code R.coded).code (named_code S.coded).code renamed (λ m. sym (named_codes e m)) d)
