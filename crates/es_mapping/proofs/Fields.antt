-- Fields as they are read, with the texts of their paths.
use Rattle.std.proofs.Common.{◌≡◌, ℕ, List, [], ◌∷◌, ◌++◌, map, Bool, true, false, Option, Some, None, option_map, Result, Ok, Err, codes, refl, sym, ap, ap₂, ◌∙◌, append_assoc}
use Rattle.es_tree.specs.declared.tree.Tree.{Tree}
use Rattle.es_tree.specs.declared.tree.Named.{Named}
use Rattle.es_tree.specs.declared.fault.BodyFault.{BodyFault}
use Rattle.es_tree.specs.declared.fault.BodyFault.TheVariants.{Bad, NoMemory}
use Rattle.es_tree.specs.Leaves.{dotted_after, dotted, longer}
use Rattle.es_tree.specs.Leaves.{under}
use Rattle.es_grammar.specs.Reading.{below, or_empty, if_holds, Fails}
use Rattle.es_grammar.specs.Reading.{◌>>=◌ as ◌then◌}
use Rattle.es_grammar.specs.Members.{members_of, next_of, inside, optional_of, ends_of}
use Rattle.es_grammar.specs.Values.{spelled_form}
use Rattle.es_value.specs.declared.kinds.FieldType.{FieldType}
use Rattle.es_mapping.specs.Mappings.{Typed, headed, joined, type_named, not_dynamic_form, means_field, properties_form, field_form, field_at, with_paths, mapping_of, in_order, most_levels, mapping_form}
use Rattle.es_mapping.specs.Paths.{are_paths}
use Rattle.es_tree.specs.Rising.{name_of}
use Rattle.es_mapping.specs.Below.{field_below, all_below, at_path, at_path_if, field_with, field_lines, mapping_lines, arranged}

-- fields behind those that are there
abbrev pub behind : List (Named FieldType) → Result (List (Named FieldType)) (List ℕ) → Result (List (Named FieldType)) (List ℕ)
behind found reading = reading then λ fields. Ok (found ++ fields)

-- ---- lines of a grammar, with a step behind the whole

module _ {X Y : Type 0} (post : Result X (List ℕ) → Result Y (List ℕ)) (stops : (p : List ℕ) → post (Err p) ≡ Err p) where
  abbrev pub first : Result (X × List (Named Tree)) (List ℕ) → Result Y (List ℕ)
  first r = post (r then λ x. Ok x.0)

  pub whole : (r : Result (List (Named Tree)) (List ℕ)) (grammar : List (Named Tree) → Result (X × List (Named Tree)) (List ℕ)) (g : List (Named Tree) → Result Y (List ℕ)) → ((ms : List (Named Tree)) → first (grammar ms) ≡ g ms)
      → post (r then λ ms. grammar ms then λ x. Ok x.0) ≡ (r then g)
  whole (Ok ms) grammar g h = h ms
  whole (Err p) grammar g h = stops p

  pub line : {A : Type 0} (r : Result A (List ℕ)) (f : A → Result (X × List (Named Tree)) (List ℕ)) (g : A → Result Y (List ℕ)) → ((x : A) → first (f x) ≡ g x) → first (r then f) ≡ (r then g)
  line (Ok x) f g h = h x
  line (Err p) f g h = stops p

  pub last_line : (ms : List (Named Tree)) (r : Result (Unit {0}) (List ℕ)) (f : Unit {0} × List (Named Tree) → Result (X × List (Named Tree)) (List ℕ)) (g : Unit {0} → Result Y (List ℕ)) → ((x : Unit {0}) → first (f (x, ms)) ≡ g x)
      → first ((r then λ x. Ok (x, ms)) then f) ≡ (r then g)
  last_line ms (Ok x) f g h = h x
  last_line ms (Err p) f g h = stops p

  given_line : (top : Bool) (path : List ℕ) (ms : List (Named Tree)) (s : Result (Option (List Typed)) (List ℕ)) (f : Option (List Typed) × List (Named Tree) → Result (X × List (Named Tree)) (List ℕ)) (g : Option (List (Named FieldType)) → Result Y (List ℕ))
      → ((v : Option (List Typed)) → first (f (v, ms)) ≡ g (option_map (all_below top path) v)) → first ((s then λ v. Ok (v, ms)) then f) ≡ (at_path_if top path s then g)
  given_line top path ms (Ok v) f g h = h v
  given_line top path ms (Err p) f g h = stops p

  pub below_line : (top : Bool) (path : List ℕ) (r : Result (Option Tree × List (Named Tree)) (List ℕ)) (k : Option Tree → Result (Option (List Typed)) (List ℕ)) (f : Option (List Typed) × List (Named Tree) → Result (X × List (Named Tree)) (List ℕ)) (g : List (Named Tree) → Option (List (Named FieldType)) → Result Y (List ℕ))
      → ((ms : List (Named Tree)) (v : Option (List Typed)) → first (f (v, ms)) ≡ g ms (option_map (all_below top path) v)) → first ((r then λ found. k found.0 then λ v. Ok (v, found.1)) then f) ≡ (r then λ found. at_path_if top path (k found.0) then g found.1)
  below_line top path (Ok found) k f g h = given_line top path found.1 (k found.0) f (g found.1) (h found.1)
  below_line top path (Err p) k f g h = stops p

-- ---- a field

field_ends : (path : List ℕ) (ms : List (Named Tree)) (kind : Option (Option FieldType)) (fields : Option (List Typed)) → first (at_path false path) (λ p. refl) (means_field kind fields ms) ≡ field_with path kind (option_map (all_below false path) fields)
field_ends path ms None None = refl
field_ends path ms None (Some fields) = refl
field_ends path ms (Some None) None = refl
field_ends path ms (Some None) (Some fields) = refl
field_ends path ms (Some (Some kind)) None = refl
field_ends path ms (Some (Some kind)) (Some fields) = refl

pub field_form-lines : (path : List ℕ) (inner : Tree → Result (List Typed) (List ℕ)) (t : Tree) → at_path false path (field_form inner t) ≡ field_lines path inner t
unfolding field_form
field_form-lines path inner t =
    whole (at_path false path) (λ p. refl) (members_of t) _ _ (λ ms.
    below_line (at_path false path) (λ p. refl) false path (next_of (codes "properties") ms) (inside (codes "properties") (properties_form inner)) _ _ (λ rest fields.
    line (at_path false path) (λ p. refl) (optional_of (codes "type") (spelled_form type_named) rest) _ _ (λ kind.
    last_line (at_path false path) (λ p. refl) kind.1 (ends_of kind.1) _ _ (λ end. field_ends path kind.1 kind.0 fields))))

-- ---- a mapping

at_top : (names : List (List ℕ)) → dotted names ≡ under true [] names
at_top [] = refl
at_top (n ∷ names) = refl

with_paths-top : (fields : List Typed) → with_paths fields ≡ all_below true [] fields
with_paths-top [] = refl
with_paths-top (f ∷ fs) = ap₂ (λ (q : List ℕ) (l : List (Named FieldType)). (record { name = q; value = f.1 }) ∷ l) (at_top f.0) (with_paths-top fs)

given-top : (fields : Option (List Typed)) → with_paths (or_empty fields) ≡ or_empty (option_map (all_below true []) fields)
given-top None = refl
given-top (Some fields) = with_paths-top fields

held : (b : Bool) (fields : List (Named FieldType)) (ms : List (Named Tree)) → first (λ r. r) (λ p. refl) (if_holds b fields then λ found. Ok (found, ms)) ≡ if_holds b fields
held true fields ms = refl
held false fields ms = refl

mapping_ends : (ms : List (Named Tree)) (fields : Option (List Typed)) → first (λ r. r) (λ p. refl) (mapping_of (with_paths (or_empty fields)) ms) ≡ arranged (or_empty (option_map (all_below true []) fields))
mapping_ends ms fields =
    held (are_paths (map name_of (with_paths (or_empty fields)))) (in_order (with_paths (or_empty fields))) ms ∙ ap arranged (given-top fields)

pub mapping_form-lines : (t : Tree) → mapping_form t ≡ mapping_lines most_levels t
unfolding mapping_form
mapping_form-lines t =
    whole (λ r. r) (λ p. refl) (members_of t) _ _ (λ ms.
    line (λ r. r) (λ p. refl) (optional_of (codes "dynamic") not_dynamic_form ms) _ _ (λ dynamic.
    below_line (λ r. r) (λ p. refl) true [] (next_of (codes "properties") dynamic.1) (inside (codes "properties") (properties_form (field_at most_levels))) _ _ (λ rest fields.
    last_line (λ r. r) (λ p. refl) rest (ends_of rest) _ _ (λ end. mapping_ends rest fields))))

-- ---- paths

further : (path name : List ℕ) (names : List (List ℕ)) → dotted_after (path ++ 46 ∷ name) names ≡ path ++ 46 ∷ dotted_after name names
further path name [] = refl
further path name (n ∷ names) = append_assoc path (46 ∷ name) (46 ∷ dotted_after n names)

deeper : (path : List ℕ) (names : List (List ℕ)) → dotted_after path names ≡ under false path names
deeper path [] = refl
deeper path (n ∷ names) = sym (further path n names)

-- the fields below a name are those of the longer path
all_below-headed : (top : Bool) (path name : List ℕ) (fields : List Typed) → all_below top path (headed name fields) ≡ all_below false (longer top path name) fields
all_below-headed top path name [] = refl
all_below-headed top path name (f ∷ fs) = ap₂ (λ (q : List ℕ) (l : List (Named FieldType)). (record { name = q; value = f.1 }) ∷ l) (deeper (longer top path name) f.0) (all_below-headed top path name fs)

pub below-at_path : (top : Bool) (path name : List ℕ) (r : Result (List Typed) (List ℕ)) → below name (at_path false (longer top path name) r) ≡ at_path top path (below name (r then λ fields. Ok (headed name fields)))
below-at_path top path name (Ok fields) = ap Ok (sym (all_below-headed top path name fields))
below-at_path top path name (Err p) = refl

-- ---- a loop over members

all_below-append : (top : Bool) (path : List ℕ) (fs gs : List Typed) → all_below top path (fs ++ gs) ≡ all_below top path fs ++ all_below top path gs
all_below-append top path [] gs = refl
all_below-append top path (f ∷ fs) gs = ap (λ l. field_below top path f ∷ l) (all_below-append top path fs gs)

-- a member's fields more, and those of the members after it
pub behind_more : (top : Bool) (path : List ℕ) (r : Result (List Typed) (List ℕ)) (s : Result (List (List Typed)) (List ℕ)) (found fs new : List (Named FieldType)) → at_path top path r ≡ Ok fs → new ≡ found ++ fs
    → behind new (at_path top path (s then λ xs. Ok (joined xs))) ≡ behind found (at_path top path ((r then λ x. s then λ xs. Ok (x ∷ xs)) then λ xs. Ok (joined xs)))
behind_more top path (Err p) s found fs new e is = absurd (cc)
behind_more top path (Ok x) (Err p) found fs new e is = refl
behind_more top path (Ok x) (Ok xs) found fs new e is =
    let here : all_below top path x ≡ fs = cc in
    ap Ok (ap (λ l. l ++ all_below top path (joined xs)) (is ∙ ap (λ l. found ++ l) (sym here)) ∙ append_assoc found (all_below top path x) (all_below top path (joined xs)) ∙ ap (λ l. found ++ l) (sym (all_below-append top path x (joined xs))))

pub behind_fails : (fault : BodyFault) (top : Bool) (path : List ℕ) (r : Result (List Typed) (List ℕ)) (s : Result (List (List Typed)) (List ℕ)) (found : List (Named FieldType)) → Fails fault (at_path top path r)
    → Fails fault (behind found (at_path top path ((r then λ x. s then λ xs. Ok (x ∷ xs)) then λ xs. Ok (joined xs))))
behind_fails NoMemory top path r s found e = tt
behind_fails (Bad place) top path (Ok x) s found e = absurd (cc)
behind_fails (Bad place) top path (Err p) s found e = let same : p ≡ place = cc in ap Err same
