-- What a chance over a list drew, one draw more.
use Rattle.std.proofs.Common.{◌≡◌, ℕ, ◌+◌, ◌≤◌, ◌<◌, List, [], ◌∷◌, ◌++◌, Option, Some, None, refl, ap, sym, ◌∙◌, append-nil, arith, length, take, min, get_or, slice_get, inl, inr}
use Rattle.std.specs.List.{filter}
use Rattle.std.proofs.lemmas.List.{take_more, take_all}
use Rattle.std.proofs.lemmas.Option.{slice_get_cases}
use Rattle.std.proofs.lemmas.List.Elements.{filter-append}
use Rattle.es_edge.specs.declared.chance.Draw.{Draw}
use Rattle.es_edge.specs.declared.chance.Draw.TheVariants as draw
use Rattle.es_edge.specs.Causes.{Rose}
use Rattle.es_edge.specs.Draws.{Draws, has_bytes, answer_by}

-- the bytes of a member are those of the answer by it
member_bytes : (d : Draw) → filter has_bytes (d ∷ []) ≡ filter has_bytes (answer_by (Some d) ∷ [])
member_bytes draw.NotDrawn = refl
member_bytes draw.Failed = refl
member_bytes (draw.Bytes bytes) = refl

drawn_in : (ds : List Draw) (p : ℕ) (x : Draw) → p < length ds → slice_get ds p ≡ Some x → get_or ds p x ≡ x
    → filter has_bytes (take (p + 1) ds) ≡ filter has_bytes (take p ds) ++ filter has_bytes (answer_by (slice_get ds p) ∷ [])
drawn_in ds p x lt is at =
    ap (filter has_bytes) (take_more ds p x lt) ∙ filter-append has_bytes (take p ds) (get_or ds p x ∷ [])
    ∙ ap (λ (d : Draw). filter has_bytes (take p ds) ++ filter has_bytes (d ∷ [])) at
    ∙ ap (λ (q : List Draw). filter has_bytes (take p ds) ++ q) (member_bytes x)
    ∙ ap (λ (o : Option Draw). filter has_bytes (take p ds) ++ filter has_bytes (answer_by o ∷ [])) (sym is)

drawn_past : (ds : List Draw) (p n : ℕ) → length ds ≤ p → length ds ≤ n → slice_get ds p ≡ None
    → filter has_bytes (take n ds) ≡ filter has_bytes (take p ds) ++ filter has_bytes (answer_by (slice_get ds p) ∷ [])
drawn_past ds p n le more is =
    ap (filter has_bytes) (take_all n ds more ∙ sym (take_all p ds le)) ∙ sym (append-nil (filter has_bytes (take p ds)))
    ∙ ap (λ (o : Option Draw). filter has_bytes (take p ds) ++ filter has_bytes (answer_by o ∷ [])) (sym is)

-- the bytes before the next place are those before the place, and those of the answer
drawn_on : (ds : List Draw) (p n : ℕ) → n ≡ min (p + 1) (length ds)
    → filter has_bytes (take n ds) ≡ filter has_bytes (take p ds) ++ filter has_bytes (answer_by (slice_get ds p) ∷ [])
drawn_on ds p n e =
    elim (slice_get_cases ds p).1 [
      | inl h ↦ let next : n ≡ p + 1 = (let lt = h.1 in omega arith) in rw next (drawn_in ds p h.0 h.1 h.2 h.3)
      | inr h ↦ drawn_past ds p n h.0 (let le = h.0 in omega arith) h.1
    ]

pub listed_bytes : (ds : List Draw) (p n f : ℕ) (bytes : List ℕ) → n ≡ min (p + 1) (length ds) → draw.Bytes bytes ≡ answer_by (slice_get ds p)
    → Draws (record { drawn = Some (filter has_bytes (take p ds)); faults = f }) (record { drawn = Some (filter has_bytes (take n ds)); faults = f }) (draw.Bytes bytes ∷ [])
listed_bytes ds p n f bytes next is = record {
  drawn = ap Some (drawn_on ds p n next ∙ ap (λ (d : Draw). filter has_bytes (take p ds) ++ filter has_bytes (d ∷ [])) (sym is));
  faults = omega arith;
  cause = refl;
}

pub listed_failed : (ds : List Draw) (p n f g : ℕ) → n ≡ min (p + 1) (length ds) → draw.Failed ≡ answer_by (slice_get ds p) → Rose f g → f ≤ g
    → Draws (record { drawn = Some (filter has_bytes (take p ds)); faults = f }) (record { drawn = Some (filter has_bytes (take n ds)); faults = g }) (draw.Failed ∷ [])
listed_failed ds p n f g next is rose le = record {
  drawn = ap Some (drawn_on ds p n next ∙ ap (λ (d : Draw). filter has_bytes (take p ds) ++ filter has_bytes (d ∷ [])) (sym is));
  faults = le;
  cause = rose;
}

-- what isn't bytes is a failure
pub failed_by : (o : Option Draw) (d : Draw) → d ≡ answer_by o → ((bytes : List ℕ) → d ≡ draw.Bytes bytes → ⊥) → draw.Failed ≡ answer_by o
failed_by None d e other = refl
failed_by (Some draw.NotDrawn) d e other = refl
failed_by (Some draw.Failed) d e other = refl
failed_by (Some (draw.Bytes bytes)) d e other = absurd (other bytes e)
