-- What is reached along a path, level by level.
use Rattle.std.proofs.Common.{◌≡◌, ◌≢◌, ℕ, ℤ, List, [], ◌∷◌, ◌++◌, map, Bool, true, false, cond, ◌&&◌, ◌||◌, Option, Some, None, length, take, drop, ◌<◌, arith, refl, sym, ap, ap₂, subst, ◌∙◌, ◌⊎◌, inl, inr, append-nil, append_assoc, Bor, fold}
use Rattle.std.specs.Prelude.{◌==◌, if◌then◌else◌}
use Rattle.std.specs.List.{filter, filter_map, cons_option, flat_map, list_any}
use Rattle.std.proofs.lemmas.List.Folds.{list_any-append}
use Rattle.std.specs.Option.{option_copied, option_to_list}
use Rattle.std.specs.Str.{bytes_eq}
use Rattle.std.proofs.lemmas.List.Elements.{filter-append, filter_map-append}
use Rattle.std.proofs.lemmas.List.{map-append, take-append-drop}
use Rattle.std.proofs.lemmas.Bool.Decides.{Decides-eqb}
use Rattle.es_tree.specs.declared.tree.Tree.{Tree}
use Rattle.es_tree.specs.declared.tree.Tree as tree
use Rattle.es_tree.specs.declared.tree.Named.{Named}
use Rattle.es_tree.specs.declared.kinds.Leaf.{Leaf}
use Rattle.es_tree.specs.Leaves.{Path, extended, paths_of, dotted_after, dotted, leaves_of}
use Rattle.es_tree.proofs.Paths.{paths_of-List, paths_of-Object, paths_of-Null, paths_of-Bool, paths_of-Int, paths_of-Text}
use Rattle.es_path.specs.declared.left.Left.{Left}
use Rattle.es_path.specs.Scalars.{scalars_at}
use Rattle.es_path.specs.Reached.{Rest, left_of, whole_path, leads, reached, text_behind, behind_dot, behind, reached_by, reached_in}

-- ---- what is left behind a name

abbrev equals_rest : List ℕ → Option (List ℕ) → Bool
equals_rest more None = false
equals_rest more (Some r) = bytes_eq more r

step_equals : (b u : Bool) (more : List ℕ) (o : Option (List ℕ)) → u ≡ equals_rest more o → (b && u) ≡ equals_rest more (if b then o else None)
step_equals true u more o e = e
step_equals false u more o e = refl

equals_behind : (name more names : List ℕ) → bytes_eq (name ++ more) names ≡ equals_rest more (text_behind name names)
equals_behind [] more names = refl
equals_behind (x ∷ xs) more [] = refl
equals_behind (x ∷ xs) more (y ∷ ys) = step_equals (x == y) (bytes_eq (xs ++ more) ys) more (text_behind xs ys) (equals_behind xs more ys)

abbrev leads_on : Option Rest → List (List ℕ) → Bool
leads_on None q = false
leads_on (Some rest) q = leads rest q

no_end : (b : Bool) (r : List ℕ) → false ≡ leads_on (if b then Some (false, Some r) else None) []
no_end true r = refl
no_end false r = refl

ends : (o : Option (List ℕ)) → equals_rest [] o ≡ leads_on (behind_dot o) []
ends None = refl
ends (Some []) = refl
ends (Some (c ∷ r)) = no_end (46 == c) r

goes_on_by : (b : Bool) (next : List ℕ) (q : List (List ℕ)) (r : List ℕ) → (b && bytes_eq (dotted_after next q) r) ≡ leads_on (if b then Some (false, Some r) else None) (next ∷ q)
goes_on_by true next q r = refl
goes_on_by false next q r = refl

goes_on : (next : List ℕ) (q : List (List ℕ)) (o : Option (List ℕ)) → equals_rest (46 ∷ dotted_after next q) o ≡ leads_on (behind_dot o) (next ∷ q)
goes_on next q None = refl
goes_on next q (Some []) = refl
goes_on next q (Some (c ∷ r)) = goes_on_by (46 == c) next q r

-- the names of a path fit where those behind the first fit what is left behind it
leads-behind : (name names : List ℕ) (q : List (List ℕ)) → bytes_eq (dotted_after name q) names ≡ leads_on (behind name names) q
unfolding behind
leads-behind name names [] = ap (λ l. bytes_eq l names) (sym (append-nil name)) ∙ equals_behind name [] names ∙ ends (text_behind name names)
leads-behind name names (next ∷ q) = equals_behind name (46 ∷ dotted_after next q) names ∙ goes_on next q (text_behind name names)

-- ---- what is left, by the code's words

too_short_step : (b : Bool) (o : Option (List ℕ)) → o ≡ None → (if b then o else None) ≡ None
too_short_step true o e = e
too_short_step false o e = refl

too_short : (name names : List ℕ) → length names < length name → text_behind name names ≡ None
too_short [] names h = absurd (omega arith)
too_short (x ∷ xs) [] h = refl
too_short (x ∷ xs) (y ∷ ys) h = too_short_step (x == y) (text_behind xs ys) (too_short xs ys (omega arith))

pub behind_short : (name names : List ℕ) → length names < length name → behind name names ≡ None
unfolding behind
behind_short name names h = ap behind_dot (too_short name names h)

split_step : (b c : Bool) (o rest : Option (List ℕ)) → o ≡ (if c then rest else None) → (if b then o else None) ≡ (if b && c then rest else None)
split_step true c o rest e = e
split_step false c o rest e = refl

split_text : (name front rest : List ℕ) → length front ≡ length name → text_behind name (front ++ rest) ≡ (if bytes_eq name front then Some rest else None)
split_text [] [] rest e = refl
split_text [] (y ∷ ys) rest e = absurd (omega arith)
split_text (x ∷ xs) [] rest e = absurd (omega arith)
split_text (x ∷ xs) (y ∷ ys) rest e = split_step (x == y) (bytes_eq xs ys) (text_behind xs (ys ++ rest)) (Some rest) (split_text xs ys rest (omega arith))

-- a path is split behind as many bytes as a name has
pub behind_split : (name names front rest : List ℕ) → front ≡ take (length name) names → rest ≡ drop (length name) names → length front ≡ length name → behind name names ≡ behind_dot (if bytes_eq name front then Some rest else None)
unfolding behind
behind_split name names front rest begins ends long =
    let is : names ≡ front ++ rest = sym (take-append-drop (length name) names) ∙ ap₂ (λ l m. l ++ m) (sym begins) (sym ends) in
    ap (λ l. behind_dot (text_behind name l)) is ∙ ap behind_dot (split_text name front rest long)

pub no_rest : (b : Bool) (rest : List ℕ) → behind_dot (Some rest) ≡ None → behind_dot (if b then Some rest else None) ≡ None
no_rest true rest e = e
no_rest false rest e = refl

pub dot_end : (r : List ℕ) → r ≡ [] → behind_dot (Some r) ≡ Some (true, None)
dot_end r e = ap (λ l. behind_dot (Some l)) e

pub dot_more : (r more : List ℕ) → r ≡ 46 ∷ more → behind_dot (Some r) ≡ Some (false, Some more)
dot_more r more e = ap (λ l. behind_dot (Some l)) e

no_dot_by : (c : ℕ) (r : List ℕ) (b : Bool) → (b ≡ true → 46 ≡ c) → ((more : List ℕ) → c ∷ r ≢ 46 ∷ more) → ◌≡◌ {A = Option Rest} (if b then Some (false, Some r) else None) None
no_dot_by c r false e h = refl
no_dot_by c r true e h = absurd (h r (ap (λ z. z ∷ r) (sym (e refl))))

pub no_dot : (r : List ℕ) → r ≢ [] → ((more : List ℕ) → r ≢ 46 ∷ more) → behind_dot (Some r) ≡ None
no_dot [] n h = absurd (n refl)
no_dot (c ∷ r) n h = no_dot_by c r (46 == c) (Decides-eqb 46 c).0 h

-- ---- trees

abbrev kept : (List (List ℕ) → Bool) → List Path → List Tree
kept f ps = map (λ p. p.1) (filter (λ p. f p.0) ps)

kept-append : (f : List (List ℕ) → Bool) (ps qs : List Path) → kept f (ps ++ qs) ≡ kept f ps ++ kept f qs
kept-append f ps qs = ap (map (λ (p : Path). p.1)) (filter-append (λ (p : Path). f p.0) ps qs) ∙ map-append (λ (p : Path). p.1) (filter (λ p. f p.0) ps) (filter (λ p. f p.0) qs)

kept-flat : {X : Type 0} (f : List (List ℕ) → Bool) (paths : X → List Path) (xs : List X) → kept f (flat_map paths xs) ≡ flat_map (λ x. kept f (paths x)) xs
kept-flat f paths [] = refl
kept-flat f paths (x ∷ xs) = kept-append f (paths x) (flat_map paths xs) ∙ ap (λ l. kept f (paths x) ++ l) (kept-flat f paths xs)

kept_one : (b : Bool) (p q : Path) (us vs : List Path) → p.1 ≡ q.1 → map (λ (r : Path). r.1) us ≡ map (λ (r : Path). r.1) vs → map (λ (r : Path). r.1) (cond b (p ∷ us) us) ≡ map (λ (r : Path). r.1) (cond b (q ∷ vs) vs)
kept_one true p q us vs e r = ap (λ t. t ∷ map (λ (r : Path). r.1) us) e ∙ ap (λ l. q.1 ∷ l) r
kept_one false p q us vs e r = r

kept-extended : (f g : List (List ℕ) → Bool) (name : List ℕ) → ((q : List (List ℕ)) → f (name ∷ q) ≡ g q) → (ps : List Path) → kept f (extended name ps) ≡ kept g ps
kept-extended f g name same [] = refl
kept-extended f g name same (p ∷ ps) =
    kept_one (f (name ∷ p.0)) (name ∷ p.0, p.1) p (filter (λ p. f p.0) (extended name ps)) (filter (λ p. g p.0) ps) refl (kept-extended f g name same ps)
    ∙ ap (λ b. map (λ (r : Path). r.1) (cond b (p ∷ filter (λ p. g p.0) ps) (filter (λ p. g p.0) ps))) (same p.0)

kept_none : (ps : List Path) → kept (λ _. false) ps ≡ []
kept_none [] = refl
kept_none (p ∷ ps) = kept_none ps

kept_by : (o : Option Rest) (t : Tree) → kept (leads_on o) (paths_of t) ≡ reached_by o t
unfolding reached
kept_by None t = kept_none (paths_of t)
kept_by (Some rest) t = refl

in_member : (is_end : Bool) (names : List ℕ) (m : Named Tree) → kept (leads (is_end, Some names)) (extended m.name (paths_of m.value)) ≡ reached_in names m
unfolding reached_in
in_member is_end names m =
    kept-extended (leads (is_end, Some names)) (leads_on (behind m.name names)) m.name (leads-behind m.name names) (paths_of m.value)
    ∙ kept_by (behind m.name names) m.value

in_members : (is_end : Bool) (names : List ℕ) (ms : List (Named Tree)) → flat_map (λ m. kept (leads (is_end, Some names)) (extended m.name (paths_of m.value))) ms ≡ flat_map (reached_in names) ms
in_members is_end names [] = refl
in_members is_end names (m ∷ ms) =
    ap (λ l. l ++ flat_map (λ m. kept (leads (is_end, Some names)) (extended m.name (paths_of m.value))) ms) (in_member is_end names m)
    ∙ ap (λ l. reached_in names m ++ l) (in_members is_end names ms)

pub reached-Object : (is_end : Bool) (names : List ℕ) (ms : List (Named Tree)) → reached (is_end, Some names) (tree.Object ms) ≡ flat_map (reached_in names) ms
unfolding reached
reached-Object is_end names ms =
    ap (kept (leads (is_end, Some names))) (paths_of-Object ms)
    ∙ kept-flat (leads (is_end, Some names)) (λ m. extended m.name (paths_of m.value)) ms
    ∙ in_members is_end names ms

in_none : (is_end : Bool) (ms : List (Named Tree)) → flat_map (λ m. kept (leads (is_end, None)) (extended m.name (paths_of m.value))) ms ≡ []
in_none is_end [] = refl
in_none is_end (m ∷ ms) =
    ap (λ l. l ++ flat_map (λ m. kept (leads (is_end, None)) (extended m.name (paths_of m.value))) ms)
    (kept-extended (leads (is_end, None)) (λ _. false) m.name (λ q. refl) (paths_of m.value) ∙ kept_none (paths_of m.value))
    ∙ in_none is_end ms

-- where nothing is left, an object gives nothing
pub reached-Object_end : (is_end : Bool) (ms : List (Named Tree)) → reached (is_end, None) (tree.Object ms) ≡ []
unfolding reached
reached-Object_end is_end ms =
    ap (kept (leads (is_end, None))) (paths_of-Object ms)
    ∙ kept-flat (leads (is_end, None)) (λ m. extended m.name (paths_of m.value)) ms
    ∙ in_none is_end ms

pub reached-List : (rest : Rest) (ts : List Tree) → reached rest (tree.List ts) ≡ flat_map (reached rest) ts
unfolding reached
reached-List rest ts = ap (kept (leads rest)) (paths_of-List ts) ∙ kept-flat (leads rest) paths_of ts

one_at : (b : Bool) (t : Tree) → map (λ (p : Path). p.1) (cond b (([], t) ∷ []) []) ≡ (if b then t ∷ [] else [])
one_at true t = refl
one_at false t = refl

reached_scalar : (rest : Rest) (t : Tree) → paths_of t ≡ ([], t) ∷ [] → reached rest t ≡ (if rest.0 then t ∷ [] else [])
unfolding reached
reached_scalar rest t e = ap (kept (leads rest)) e ∙ one_at rest.0 t

pub reached-Null : (rest : Rest) → reached rest tree.Null ≡ (if rest.0 then tree.Null ∷ [] else [])
reached-Null rest = reached_scalar rest tree.Null paths_of-Null

pub reached-Bool : (rest : Rest) (b : Bool) → reached rest (tree.Bool b) ≡ (if rest.0 then tree.Bool b ∷ [] else [])
reached-Bool rest b = reached_scalar rest (tree.Bool b) (paths_of-Bool b)

pub reached-Int : (rest : Rest) (z : ℤ) → reached rest (tree.Int z) ≡ (if rest.0 then tree.Int z ∷ [] else [])
reached-Int rest z = reached_scalar rest (tree.Int z) (paths_of-Int z)

pub reached-Text : (rest : Rest) (s : List ℕ) → reached rest (tree.Text s) ≡ (if rest.0 then tree.Text s ∷ [] else [])
reached-Text rest s = reached_scalar rest (tree.Text s) (paths_of-Text s)

pub ruleset scalar_laws = (reached-Null, reached-Bool, reached-Int, reached-Text)

abbrev IsScalar : Tree → Type 0
IsScalar t = (t ≡ tree.Null) ⊎ (((b : Bool) × (t ≡ tree.Bool b)) ⊎ (((z : ℤ) × (t ≡ tree.Int z)) ⊎ ((s : List ℕ) × (t ≡ tree.Text s))))

alike : (rest : Rest) (t u : Tree) → t ≡ u → reached rest u ≡ (if rest.0 then u ∷ [] else []) → reached rest t ≡ (if rest.0 then t ∷ [] else [])
alike rest t u e h = subst (λ (v : Tree). reached rest v ≡ (if rest.0 then v ∷ [] else [])) (sym e) h

reached_any_scalar : (rest : Rest) (t : Tree) → IsScalar t → reached rest t ≡ (if rest.0 then t ∷ [] else [])
reached_any_scalar rest t (inl e) = alike rest t tree.Null e (reached-Null rest)
reached_any_scalar rest t (inr (inl w)) = alike rest t (tree.Bool w.0) w.1 (reached-Bool rest w.0)
reached_any_scalar rest t (inr (inr (inl w))) = alike rest t (tree.Int w.0) w.1 (reached-Int rest w.0)
reached_any_scalar rest t (inr (inr (inr w))) = alike rest t (tree.Text w.0) w.1 (reached-Text rest w.0)

pub reached_here : (rest : Rest) (t : Tree) → IsScalar t → rest.0 ≡ true → reached rest t ≡ t ∷ []
reached_here rest t scalar e = reached_any_scalar rest t scalar ∙ ap (λ b. if b then t ∷ [] else []) e

pub reached_not_here : (rest : Rest) (t : Tree) → IsScalar t → rest.0 ≡ false → reached rest t ≡ []
reached_not_here rest t scalar e = reached_any_scalar rest t scalar ∙ ap (λ b. if b then t ∷ [] else []) e

-- ---- at the code's values

abbrev with_names : Bool → Option (Bor (List ℕ)) → Rest
with_names is_end names = (is_end, option_copied names)

pub reached_list : (left : Left) (t : Tree) (ts items : List Tree) → t ≡ tree.List ts → items ≡ ts → flat_map (reached (left_of left)) items ≡ reached (left_of left) t
reached_list left t ts items e same = ap (flat_map (reached (left_of left))) same ∙ sym (ap (reached (left_of left)) e ∙ reached-List (left_of left) ts)

pub reached_object : (left : Left) (names : Bor (List ℕ)) (t : Tree) (ms : List (Named Tree)) → t ≡ tree.Object ms → left.names ≡ Some names → flat_map (reached_in names.now) ms ≡ reached (left_of left) t
reached_object left names t ms e there =
    sym (ap (λ o. reached (with_names left.is_end o) t) there ∙ ap (reached (left.is_end, Some names.now)) e ∙ reached-Object left.is_end names.now ms)

pub reached_object_end : (left : Left) (t : Tree) (ms : List (Named Tree)) → t ≡ tree.Object ms → left.names ≡ None → reached (left_of left) t ≡ []
reached_object_end left t ms e none =
    ap (λ o. reached (with_names left.is_end o) t) none ∙ ap (reached (left.is_end, None)) e ∙ reached-Object_end left.is_end ms

pub reached_member : (names name : List ℕ) (m : Named Tree) (rest : Rest) → Some rest ≡ behind name names → name ≡ m.name → reached rest m.value ≡ reached_in names m
unfolding reached_in
reached_member names name m rest e same = ap (λ o. reached_by o m.value) (e ∙ ap (λ n. behind n names) same)

pub reached_member_none : (names name : List ℕ) (m : Named Tree) → None ≡ behind name names → name ≡ m.name → [] ≡ reached_in names m
unfolding reached_in
reached_member_none names name m e same = ap (λ o. reached_by o m.value) (e ∙ ap (λ n. behind n names) same)

-- where the first has none, what is found in the others is found in all
pub skipped : {X : Type 0} (b : Bool) (p : Tree → Bool) (f : X → List Tree) (x : X) (xs : List X) → list_any p (f x) ≡ false → (b || list_any p (flat_map f xs)) ≡ (b || list_any p (flat_map f (x ∷ xs)))
skipped b p f x xs e = sym (ap (λ u. b || u) (list_any-append p (f x) (flat_map f xs) ∙ ap (λ u. u || list_any p (flat_map f xs)) e))

or_true : (b u : Bool) → u ≡ true → (b || u) ≡ true
or_true true u e = refl
or_true false u e = e

-- where the first has one, there is one
pub found_first : {X : Type 0} (b : Bool) (p : Tree → Bool) (f : X → List Tree) (x : X) (xs : List X) → list_any p (f x) ≡ true → (b || list_any p (flat_map f (x ∷ xs))) ≡ true
found_first b p f x xs e = or_true b (list_any p (f x ++ flat_map f xs)) (list_any-append p (f x) (flat_map f xs) ∙ ap (λ u. u || list_any p (flat_map f xs)) e)

-- what is kept of the first, and then of the others
fold-append : {S X : Type 0} (f : S → X → S) (s : S) (xs ys : List X) → fold f s (xs ++ ys) ≡ fold f (fold f s xs) ys
fold-append f s [] ys = refl
fold-append f s (x ∷ xs) ys = fold-append f (f s x) xs ys

pub more_visited : {S X : Type 0} (h : S → Tree → S) (f : X → List Tree) (x : X) (xs : List X) (old new : S) → new ≡ fold h old (f x)
    → fold h old (flat_map f (x ∷ xs)) ≡ fold h new (flat_map f xs)
more_visited h f x xs old new e = fold-append h old (f x) (flat_map f xs) ∙ ap (λ s. fold h s (flat_map f xs)) (sym e)

-- ---- what a visitor gathers

to_front : {Y : Type 0} (o : Option Y) (ys : List Y) → option_to_list o ++ ys ≡ cons_option o ys
to_front None ys = refl
to_front (Some y) ys = refl

one_more : {Y : Type 0} (g : Tree → Option Y) (t : Tree) (ts : List Tree) → option_to_list (g t) ++ filter_map g ts ≡ filter_map g (t ∷ ts)
one_more g t ts = to_front (g t) (filter_map g ts)

given_same : {Y : Type 0} (g h : Tree → Option Y) → ((t : Tree) → g t ≡ h t) → (ts : List Tree) → filter_map g ts ≡ filter_map h ts
given_same g h same [] = refl
given_same g h same (t ∷ ts) = sym (one_more g t ts) ∙ ap₂ (λ o l. option_to_list o ++ l) (same t) (given_same g h same ts) ∙ one_more h t ts

pub gathered : {G Y : Type 0} (found : G → List Y) (given : G → Tree → Option Y) (after : G → Tree → G) → ((s : G) (t : Tree) → found (after s t) ≡ found s ++ option_to_list (given s t)) → ((s : G) (t u : Tree) → given (after s t) u ≡ given s u)
    → (s : G) (ts : List Tree) → found (fold after s ts) ≡ found s ++ filter_map (given s) ts
gathered found given after step same s [] = sym (append-nil (found s))
gathered found given after step same s (t ∷ ts) =
    gathered found given after step same (after s t) ts
    ∙ ap₂ (λ l m. l ++ m) (step s t) (given_same (given (after s t)) (given s) (same s t) ts)
    ∙ append_assoc (found s) (option_to_list (given s t)) (filter_map (given s) ts)
    ∙ ap (λ l. found s ++ l) (one_more (given s) t ts)

-- ---- the whole path

whole_leads : (path : List ℕ) (q : List (List ℕ)) → bytes_eq (dotted q) path ≡ leads (whole_path path) q
whole_leads path [] = refl
whole_leads path (name ∷ q) = refl

leaf_one : (b : Bool) (l : Leaf) (p : Path) (us : List Leaf) (vs : List Path) → l.value ≡ p.1 → map (λ (m : Leaf). m.value) us ≡ map (λ (r : Path). r.1) vs → map (λ (m : Leaf). m.value) (cond b (l ∷ us) us) ≡ map (λ (r : Path). r.1) (cond b (p ∷ vs) vs)
leaf_one true l p us vs e r = ap (λ t. t ∷ map (λ (m : Leaf). m.value) us) e ∙ ap (λ l. p.1 ∷ l) r
leaf_one false l p us vs e r = r

abbrev leaf : Path → Leaf
leaf p = record { path = dotted p.0; value = p.1 }

at_whole : (path : List ℕ) (ps : List Path) → map (λ (l : Leaf). l.value) (filter (λ l. bytes_eq l.path path) (map leaf ps)) ≡ kept (leads (whole_path path)) ps
at_whole path [] = refl
at_whole path (p ∷ ps) =
    let vs = filter (λ (p : Path). leads (whole_path path) p.0) ps in
    leaf_one (bytes_eq (dotted p.0) path) (leaf p) p (filter (λ l. bytes_eq l.path path) (map leaf ps)) vs refl (at_whole path ps)
    ∙ ap (λ b. map (λ (r : Path). r.1) (cond b (p ∷ vs) vs)) (whole_leads path p.0)

pub scalars_at_is : (path : List ℕ) (t : Tree) → scalars_at path t ≡ reached (whole_path path) t
unfolding scalars_at leaves_of reached
scalars_at_is path t = at_whole path (paths_of t)
