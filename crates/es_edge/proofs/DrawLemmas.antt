-- Draws one after another.
use Rattle.std.proofs.Common.{◌≡◌, ℕ, ◌≤◌, Bool, true, false, ◌||◌, List, [], ◌∷◌, ◌++◌, Option, Some, None, refl, ap, sym, ◌∙◌, append_assoc, append-nil, arith}
use Rattle.std.specs.List.{filter, list_any}
use Rattle.std.specs.Option.{option_map}
use Rattle.std.proofs.lemmas.List.Elements.{filter-append}
use Rattle.std.proofs.lemmas.List.Folds.{list_any-append}
use Rattle.es_edge.specs.declared.chance.Draw.{Draw}
use Rattle.es_edge.specs.declared.chance.Draw.TheVariants as draw
use Rattle.es_edge.specs.Draws.{Lots, Draws, HasDrawCause, has_bytes, has_failed}

drawn_none : (known : Option (List Draw)) → known ≡ option_map (λ (ds : List Draw). ds ++ []) known
drawn_none None = refl
drawn_none (Some ds) = ap Some (sym (append-nil ds))

drawn_twice : (known : Option (List Draw)) (a b c : List Draw) → c ≡ a ++ b
    → option_map (λ (ds : List Draw). ds ++ b) (option_map (λ (ds : List Draw). ds ++ a) known) ≡ option_map (λ (ds : List Draw). ds ++ c) known
drawn_twice None a b c e = refl
drawn_twice (Some ds) a b c e = ap Some (append_assoc ds a b ∙ ap (λ (q : List Draw). ds ++ q) (sym e))

cause_twice : (x y : Bool) (a b c : ℕ) → a ≤ b → b ≤ c → HasDrawCause x a b → HasDrawCause y b c → HasDrawCause (x || y) a c
cause_twice true true a b c p q h k = omega arith
cause_twice true false a b c p q h k = omega arith
cause_twice false true a b c p q h k = omega arith
cause_twice false false a b c p q h k = k ∙ h

-- no draw
pub Draws-none : (a : Lots) → Draws a a []
Draws-none a = record { drawn = drawn_none a.drawn; faults = omega arith; cause = refl }

-- nothing was asked for
pub Draws-undrawn : (a : Lots) → Draws a a (draw.NotDrawn ∷ [])
Draws-undrawn a = record { drawn = drawn_none a.drawn; faults = omega arith; cause = refl }

-- the answers of two stretches, one after the other
pub Draws-then : {a b c : Lots} {xs ys : List Draw} → Draws a b xs → Draws b c ys → Draws a c (xs ++ ys)
Draws-then {a} {b} {c} {xs} {ys} first second = record {
  drawn = second.drawn ∙ ap (option_map (λ (ds : List Draw). ds ++ filter has_bytes ys)) first.drawn
      ∙ drawn_twice a.drawn (filter has_bytes xs) (filter has_bytes ys) (filter has_bytes (xs ++ ys)) (filter-append has_bytes xs ys);
  faults = let f = first.faults in let g = second.faults in omega arith;
  cause = rw (list_any-append has_failed xs ys) (cause_twice (list_any has_failed xs) (list_any has_failed ys) a.faults b.faults c.faults first.faults second.faults first.cause second.cause);
}
