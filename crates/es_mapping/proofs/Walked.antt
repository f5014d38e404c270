-- The first fault of a document, by a walk along the fields that are possible.
use Rattle.std.proofs.Common.{◌≡◌, ◌<◌, ℕ, ℤ, List, [], ◌∷◌, ◌++◌, map, Bool, true, false, ◌&&◌, not, Bor, Option, Some, None, is_some, Result, Ok, Err, IsErrAnd, ◌⊎◌, inl, inr, if◌then◌else◌, refl, sym, ap, ap₂, subst, ◌∙◌}
use Rattle.std.specs.List.{flat_map, list_all}
use Rattle.std.specs.Option.{option_or, option_copied}
use Rattle.std.specs.Str.{bytes_eq}
use Rattle.std.proofs.lemmas.Bool.{and_parts, false≢true}
use Rattle.std.proofs.lemmas.Slice.Eq.{bytes_eq-Decides}
use Rattle.es_tree.specs.declared.tree.Tree.{Tree, out-Tree}
use Rattle.es_tree.specs.declared.tree.Tree as tree
use Rattle.es_tree.specs.declared.tree.Named.{Named}
use Rattle.es_tree.specs.declared.kinds.Leaf.{Leaf}
use Rattle.es_tree.specs.Find.{value_named}
use Rattle.es_tree.specs.Rising.{name_of}
use Rattle.es_tree.specs.Leaves.{Path, extended, paths_of, dotted_after, dotted, leaves_of}
use Rattle.es_tree.proofs.Paths.{paths_of-List, paths_of-Object, paths_of-Null, paths_of-Bool, paths_of-Int, paths_of-Text}
use Rattle.es_value.specs.declared.kinds.FieldType.{FieldType}
use Rattle.es_mapping.specs.declared.kinds.ValueFault.{ValueFault}
use Rattle.es_mapping.specs.declared.kinds.ValueFault.TheVariants.{BadValue, NoMemory}
use Rattle.es_mapping.specs.Paths.{is_path}
use Rattle.es_mapping.specs.Checking.{fault_of, is_null_in, fault_at, first_fault, fault_in, IsFault, Checks}
use Rattle.es_mapping.specs.Possible.{left_from, field_left, Rest, field_under, fault_under, first_along}

abbrev Fault : Type 0
Fault = Option (List ℕ × FieldType)

or_assoc : (x y z : Fault) → option_or (option_or x y) z ≡ option_or x (option_or y z)
or_assoc None y z = refl
or_assoc (Some f) y z = refl

or_none : (x : Fault) → option_or x None ≡ x
or_none None = refl
or_none (Some f) = refl

along-append : (rest : Rest) (ps qs : List Path) → first_along rest (ps ++ qs) ≡ option_or (first_along rest ps) (first_along rest qs)
along-append rest [] qs = refl
along-append rest (p ∷ ps) qs = ap (option_or (fault_under (field_under rest p.0) p.1)) (along-append rest ps qs) ∙ sym (or_assoc (fault_under (field_under rest p.0) p.1) (first_along rest ps) (first_along rest qs))

-- ---- where nothing is possible

field_none : (from : ℕ) (names : List (List ℕ)) → field_under (None, from, []) names ≡ None
field_none from [] = refl
field_none from (name ∷ names) = refl

nowhere : (from : ℕ) (ps : List Path) → first_along (None, from, []) ps ≡ None
nowhere from [] = refl
nowhere from (p ∷ ps) = ap (λ f. option_or (fault_under f p.1) (first_along (None, from, []) ps)) (field_none from p.0) ∙ nowhere from ps

pub nothing_possible : (field : Option (Named FieldType)) (from : ℕ) (fields : List (Named FieldType)) (ps : List Path) → field ≡ None → fields ≡ [] → None ≡ first_along (field, from, fields) ps
nothing_possible field from fields ps e k = sym (ap₂ (λ (f : Option (Named FieldType)) (l : List (Named FieldType)). first_along (f, from, l) ps) e k ∙ nowhere from ps)

pub no_field : {X : Type 0} (o : Option (Bor X)) (b : Bool) → is_some o ≡ not b → b ≡ true → option_copied o ≡ None
no_field None b e h = refl
no_field (Some x) b e h = absurd (false≢true (sym (e ∙ ap not h)))

-- ---- trees

abbrev IsScalar : Tree → Type 0
IsScalar t = (t ≡ tree.Null) ⊎ (((b : Bool) × (t ≡ tree.Bool b)) ⊎ (((z : ℤ) × (t ≡ tree.Int z)) ⊎ ((s : List ℕ) × (t ≡ tree.Text s))))

itself_alone : (t u : Tree) → t ≡ u → paths_of u ≡ ([], u) ∷ [] → paths_of t ≡ ([], t) ∷ []
itself_alone t u e h = ap paths_of e ∙ h ∙ ap (λ v. ([], v) ∷ []) (sym e)

one_path : (t : Tree) → IsScalar t → paths_of t ≡ ([], t) ∷ []
one_path t (inl e) = itself_alone t tree.Null e paths_of-Null
one_path t (inr (inl w)) = itself_alone t (tree.Bool w.0) w.1 (paths_of-Bool w.0)
one_path t (inr (inr (inl w))) = itself_alone t (tree.Int w.0) w.1 (paths_of-Int w.0)
one_path t (inr (inr (inr w))) = itself_alone t (tree.Text w.0) w.1 (paths_of-Text w.0)

pub along_scalar : (rest : Rest) (t : Tree) → IsScalar t → fault_under rest.0 t ≡ first_along rest (paths_of t)
along_scalar rest t scalar = sym (ap (first_along rest) (one_path t scalar) ∙ or_none (fault_under rest.0 t))

pub along_list : (rest : Rest) (t : Tree) (ts items : List Tree) → t ≡ tree.List ts → items ≡ ts → first_along rest (flat_map paths_of items) ≡ first_along rest (paths_of t)
along_list rest t ts items e same = ap (λ l. first_along rest (flat_map paths_of l)) same ∙ sym (ap (first_along rest) (ap paths_of e ∙ paths_of-List ts))

pub along_object : (rest : Rest) (t : Tree) (ms : List (Named Tree)) → t ≡ tree.Object ms → first_along rest (flat_map (λ m. extended m.name (paths_of m.value)) ms) ≡ first_along rest (paths_of t)
along_object rest t ms e = sym (ap (first_along rest) (ap paths_of e ∙ paths_of-Object ms))

-- ---- one tree after the other

-- what has no fault is passed over
pub along_more : {X : Type 0} (rest : Rest) (f : X → List Path) (x : X) (xs : List X) → first_along rest (f x) ≡ None → first_along rest (flat_map f xs) ≡ first_along rest (flat_map f (x ∷ xs))
along_more rest f x xs e = sym (along-append rest (f x) (flat_map f xs) ∙ ap (λ o. option_or o (first_along rest (flat_map f xs))) e)

stays : (fault : ValueFault) (x y : Fault) → IsFault fault x → IsFault fault (option_or x y)
stays (BadValue path kind) x y h = ap (λ o. option_or o y) h
stays NoMemory x y h = tt

same_fault : (fault : ValueFault) (x y : Fault) → x ≡ y → IsFault fault x → IsFault fault y
same_fault fault x y e h = subst (λ (o : Fault). IsFault fault o) e h

-- and the first that has one has it for all
pub along_first : {X : Type 0} (rest : Rest) (f : X → List Path) (x : X) (xs : List X) (fault : ValueFault) → IsFault fault (first_along rest (f x)) → IsFault fault (first_along rest (flat_map f (x ∷ xs)))
along_first rest f x xs fault h = same_fault fault _ _ (sym (along-append rest (f x) (flat_map f xs))) (stays fault (first_along rest (f x)) (first_along rest (flat_map f xs)) h)

pub same_faults : (fault : ValueFault) (x y : Fault) → x ≡ y → IsFault fault x → IsFault fault y
same_faults = same_fault

-- ---- behind a name

named_under : (rest behind : Rest) (name : List ℕ) (names : List (List ℕ)) → behind.0 ≡ field_left rest.1 name rest.2 → ((text : List ℕ) → field_left behind.1 text behind.2 ≡ field_left rest.1 (name ++ 46 ∷ text) rest.2)
    → field_under rest (name ∷ names) ≡ field_under behind names
named_under rest behind name [] here below = sym here
named_under rest behind name (next ∷ names) here below = sym (below (dotted_after next names))

pub along_extended : (rest behind : Rest) (name : List ℕ) (ps : List Path) → behind.0 ≡ field_left rest.1 name rest.2 → ((text : List ℕ) → field_left behind.1 text behind.2 ≡ field_left rest.1 (name ++ 46 ∷ text) rest.2)
    → first_along behind ps ≡ first_along rest (extended name ps)
along_extended rest behind name [] here below = refl
along_extended rest behind name (p ∷ ps) here below =
    ap₂ (λ (f : Option (Named FieldType)) (o : Fault). option_or (fault_under f p.1) o) (sym (named_under rest behind name p.0 here below)) (along_extended rest behind name ps here below)

pub along_member : (rest behind : Rest) (m : Named Tree) (name : List ℕ) → name ≡ m.name → behind.0 ≡ field_left rest.1 name rest.2 → ((text : List ℕ) → field_left behind.1 text behind.2 ≡ field_left rest.1 (name ++ 46 ∷ text) rest.2)
    → first_along behind (paths_of m.value) ≡ first_along rest (extended m.name (paths_of m.value))
along_member rest behind m name same here below = along_extended rest behind name (paths_of m.value) here below ∙ ap (λ n. first_along rest (extended n (paths_of m.value))) same

-- an error that is handed on
pub err_checks : (r : Result (Unit {0}) ValueFault) (G : ValueFault → Type 0) (found : Fault) → IsErrAnd r G → ((e : ValueFault) → G e → IsFault e found) → Checks r found
err_checks (Ok done) G found h k = absurd h
err_checks (Err e) G found h k = k e h

-- ---- the whole document

no_empty_name : (name : List ℕ) → is_path name ≡ true → bytes_eq name [] ≡ false
no_empty_name [] h = absurd (false≢true h)
no_empty_name (b ∷ bs) h = refl

no_empty : (fs : List (Named FieldType)) → list_all is_path (map name_of fs) ≡ true → value_named [] fs ≡ None
no_empty [] h = refl
no_empty (f ∷ fs) h = let parts = and_parts (is_path f.name) (list_all is_path (map name_of fs)) h in rw (no_empty_name f.name parts.0) (no_empty fs parts.1)

by_name : (b : Bool) (text : List ℕ) (f : Named FieldType) (fs : List (Named FieldType)) (t : Tree) → (b ≡ true → f.name ≡ text)
    → fault_of (value_named text fs) (record { path = text; value = t }) (is_null_in (out-Tree t)) ≡ fault_under (field_left 0 text fs) t
    → fault_of (if b then Some f.value else value_named text fs) (record { path = text; value = t }) (is_null_in (out-Tree t)) ≡ fault_under (if b then Some f else field_left 0 text fs) t
by_name true text f fs t same e = ap (λ (p : List ℕ). fault_of (Some f.value) (record { path = p; value = t }) (is_null_in (out-Tree t))) (sym (same refl))
by_name false text f fs t same e = e

found_named : (text : List ℕ) (fs : List (Named FieldType)) (t : Tree) → fault_of (value_named text fs) (record { path = text; value = t }) (is_null_in (out-Tree t)) ≡ fault_under (field_left 0 text fs) t
found_named text [] t = refl
found_named text (f ∷ fs) t = by_name (bytes_eq f.name text) text f fs t (bytes_eq-Decides f.name text).0 (found_named text fs t)

abbrev leaf : List (List ℕ) → Tree → Leaf
leaf names t = record { path = dotted names; value = t }

at_top : (fs : List (Named FieldType)) → value_named [] fs ≡ None → (names : List (List ℕ)) (t : Tree) → fault_at fs (leaf names t) ≡ fault_under (field_under (None, 0, fs) names) t
at_top fs none [] t = ap (λ (k : Option FieldType). fault_of k (leaf [] t) (is_null_in (out-Tree t))) none
at_top fs none (name ∷ names) t = found_named (dotted_after name names) fs t

whole : (fs : List (Named FieldType)) → value_named [] fs ≡ None → (ps : List Path) → first_along (None, 0, fs) ps ≡ first_fault fs (map (λ p. record { path = dotted p.0; value = p.1 }) ps)
whole fs none [] = refl
whole fs none (p ∷ ps) = ap₂ option_or (sym (at_top fs none p.0 p.1)) (whole fs none ps)

pub fault_in-along : (fs : List (Named FieldType)) (t : Tree) → list_all is_path (map name_of fs) ≡ true → first_along (None, 0, fs) (paths_of t) ≡ fault_in fs t
unfolding fault_in leaves_of
fault_in-along fs t h = whole fs (no_empty fs h) (paths_of t)
