-- A `Seq` in a type that leads back to itself: it holds its items, one by one, and nothing else of theirs.
use mathlib.Core.Path.{◌≡◌, refl, sym}
use mathlib.Core.List.{List, []}
use mathlib.Core.Former.{Former, this, list, via, children}
use base.Stored.{code_map}
use denote.RattleType.{RattleType}
use denote.HoleLaws.{Alike}
use denote.HolePlaces.{Recodes, struct_places, laid}
use denote.Hole.Carrier.{listed, list-listed}
use denote.Hole.Fix.{over}
use denote.Param.Weighed.{Weighed, w_list}
use denote.Model.Placed.{view_places}
use Rattle.std.specs.formers.vec.Vec as vec
use Rattle.std.specs.declared.alloc.Global.{Global}
use Rattle.std.specs.contracts.alloc.Global as heap
use Rattle.std.specs.contracts.impls.GlobalAllocator.TheImpl.{ghosts}
use Rattle.es_base.specs.declared.seq.Seq.TheInside.{Inside}
use Rattle.es_base.specs.declared.seq.Seq.TheView.{view, invariant}
use Rattle.es_base.specs.contracts.seq.Seq as contract
use Rattle.es_base.specs.contracts.seq.Seq.TheInside as inside

-- its value is the list of its items
abbrev pub the_former : Former {0} → Former {0}
the_former item = list item

abbrev pub the_weighed : {item : Former {0}} → Weighed item → Weighed (the_former item)
the_weighed weighed = w_list weighed

pub the_empty : List ⊥
the_empty = []

abbrev pub the_items : (Item : Type 0) → List Item → List Item
the_items Item seq = seq

pub the_items_listed : (Item : Type 0) (seq : List Item) → listed _ (children (the_former this) Item seq) ≡ the_items Item seq
the_items_listed Item seq = list-listed Item seq

-- its one field is a vector of the items
abbrev field : Former {0}
field = via (vec.the_former this Global) Inside (λ Item fields. fields.items) (λ Item items. record { items = items }) (λ Item fields. refl) (λ Item items. refl)

module _ (Old New : RattleType) (along : Old.Denot → New.Denot) where
  pub the_places : Alike Old New along → Alike (contract.the_row Old) (contract.the_row New) ((the_former this).map Old.Denot New.Denot along)
  the_places alike =
      let vectors = vec.the_places heap.the_row ghosts Old New along alike in
      let fields = struct_places (inside.the_type Old) (inside.the_type New) (vec.mapped along, tt) _ (λ value. refl) refl (laid _ _ _ vectors, tt) in
      view_places field (list this) view (λ X Y h a. refl) (λ X a. refl) Old.Denot New.Denot along
      (contract.the_row Old).coded (contract.the_row New).coded
      (invariant Old.Denot) (invariant New.Denot) (λ a p q. refl) (λ a p q. refl) (λ a holds. tt) (λ a holds. tt)
      (over (inside.the_row Old)) (over (inside.the_row New)) fields

  pub the_codes_placed : Recodes Old New along → Recodes (contract.the_row Old) (contract.the_row New) ((the_former this).map Old.Denot New.Denot along)
  the_codes_placed recodes seq = sym (code_map Old.coded.code New.coded.code along (λ item. sym (recodes item)) seq)
