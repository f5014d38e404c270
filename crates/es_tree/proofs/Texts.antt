-- The text of a tree, level by level.
use Rattle.std.proofs.Common.{◌≡◌, ℕ, ℤ, Result, Ok, Err, IfOk, sym, List, [], ◌∷◌, ◌++◌, map, true, false, codes, refl, ap, ◌∙◌, append_assoc, append-nil}
use Rattle.std.specs.Fmt.{signed_decimal}
use Rattle.json.specs.Print.{quoted}
use Rattle.es_tree.specs.declared.tree.Tree.{Tree, the_lemmas}
use Rattle.es_tree.specs.declared.tree.Tree as tree
use Rattle.es_tree.specs.declared.tree.Named.{Named}
use Rattle.es_tree.specs.Text.{after_commas, with_commas, named_text, text_step, text_of, member_text}
use Rattle.es_tree.proofs.Induction.{with_value, fold-Null, fold-Bool, fold-Int, fold-Text, fold-List, fold-Object}

pub text_of-Null : text_of tree.Null ≡ codes "null"
unfolding text_of
text_of-Null = fold-Null (List ℕ) text_step

pub text_of-true : text_of (tree.Bool true) ≡ codes "true"
unfolding text_of
text_of-true = fold-Bool (List ℕ) text_step true

pub text_of-false : text_of (tree.Bool false) ≡ codes "false"
unfolding text_of
text_of-false = fold-Bool (List ℕ) text_step false

pub text_of-Int : (z : ℤ) → text_of (tree.Int z) ≡ signed_decimal z
unfolding text_of
text_of-Int z = fold-Int (List ℕ) text_step z

pub text_of-Text : (s : List ℕ) → text_of (tree.Text s) ≡ quoted s
unfolding text_of
text_of-Text s = fold-Text (List ℕ) text_step s

pub text_of-List : (ts : List Tree) → text_of (tree.List ts) ≡ codes "[" ++ (with_commas (map text_of ts) ++ codes "]")
unfolding text_of
text_of-List ts = fold-List (List ℕ) text_step ts

named_texts : (ms : List (Named Tree)) → map named_text (map (with_value text_of) ms) ≡ map member_text ms
named_texts [] = refl
named_texts (m ∷ ms) = ap (λ l. member_text m ∷ l) (named_texts ms)

text_of-Object_step : (ms : List (Named Tree)) → text_of (tree.Object ms) ≡ codes "{" ++ (with_commas (map named_text (map (with_value text_of) ms)) ++ codes "}")
unfolding text_of
text_of-Object_step ms = fold-Object (List ℕ) text_step ms

pub text_of-Object : (ms : List (Named Tree)) → text_of (tree.Object ms) ≡ codes "{" ++ (with_commas (map member_text ms) ++ codes "}")
text_of-Object ms = text_of-Object_step ms ∙ ap (λ l. codes "{" ++ (with_commas l ++ codes "}")) (named_texts ms)

-- ---- a tree whose shape is known

-- the text of a tree, with what follows it
pub spelled : Tree → List ℕ → List ℕ
spelled t rest = text_of t ++ rest

-- trees after the first of a list
abbrev pub more_items : List Tree → List ℕ → List ℕ
more_items [] rest = rest
more_items (t ∷ ts) rest = 44 ∷ spelled t (more_items ts rest)

abbrev pub spelled_items : List Tree → List ℕ → List ℕ
spelled_items [] rest = rest
spelled_items (t ∷ ts) rest = spelled t (more_items ts rest)

-- members after the first of an object
abbrev pub more_members : List (Named Tree) → List ℕ → List ℕ
more_members [] rest = rest
more_members (m ∷ ms) rest = 44 ∷ (quoted m.name ++ 58 ∷ spelled m.value (more_members ms rest))

abbrev pub spelled_members : List (Named Tree) → List ℕ → List ℕ
spelled_members [] rest = rest
spelled_members (m ∷ ms) rest = quoted m.name ++ 58 ∷ spelled m.value (more_members ms rest)

pub text_of-spelled : (t : Tree) → text_of t ≡ spelled t []
unfolding spelled
text_of-spelled t = sym (append-nil (text_of t))

pub spelled-append : (t : Tree) (xs ys : List ℕ) → spelled t xs ++ ys ≡ spelled t (xs ++ ys)
unfolding spelled
spelled-append t xs ys = append_assoc (text_of t) xs ys

pub spelled-Null : (rest : List ℕ) → spelled tree.Null rest ≡ codes "null" ++ rest
unfolding spelled
spelled-Null rest = ap (λ s. s ++ rest) text_of-Null

pub spelled-true : (rest : List ℕ) → spelled (tree.Bool true) rest ≡ codes "true" ++ rest
unfolding spelled
spelled-true rest = ap (λ s. s ++ rest) text_of-true

pub spelled-false : (rest : List ℕ) → spelled (tree.Bool false) rest ≡ codes "false" ++ rest
unfolding spelled
spelled-false rest = ap (λ s. s ++ rest) text_of-false

pub spelled-Int : (z : ℤ) (rest : List ℕ) → spelled (tree.Int z) rest ≡ signed_decimal z ++ rest
unfolding spelled
spelled-Int z rest = ap (λ s. s ++ rest) (text_of-Int z)

pub spelled-Text : (s rest : List ℕ) → spelled (tree.Text s) rest ≡ quoted s ++ rest
unfolding spelled
spelled-Text s rest = ap (λ u. u ++ rest) (text_of-Text s)

more_items-append : (ts : List Tree) (rest : List ℕ) → after_commas (map text_of ts) ++ rest ≡ more_items ts rest
unfolding spelled
more_items-append [] rest = refl
more_items-append (t ∷ ts) rest = ap (λ s. 44 ∷ s) (append_assoc (text_of t) (after_commas (map text_of ts)) rest ∙ ap (λ s. text_of t ++ s) (more_items-append ts rest))

pub spelled_items-append : (ts : List Tree) (rest : List ℕ) → with_commas (map text_of ts) ++ rest ≡ spelled_items ts rest
unfolding spelled
spelled_items-append [] rest = refl
spelled_items-append (t ∷ ts) rest = append_assoc (text_of t) (after_commas (map text_of ts)) rest ∙ ap (λ s. text_of t ++ s) (more_items-append ts rest)

pub spelled-List : (ts : List Tree) (rest : List ℕ) → spelled (tree.List ts) rest ≡ 91 ∷ spelled_items ts (93 ∷ rest)
unfolding spelled
spelled-List ts rest = ap (λ s. s ++ rest) (text_of-List ts) ∙ ap (λ s. 91 ∷ s) (append_assoc (with_commas (map text_of ts)) (93 ∷ []) rest ∙ spelled_items-append ts (93 ∷ rest))

member-append : (m : Named Tree) (more rest : List ℕ) → (member_text m ++ more) ++ rest ≡ quoted m.name ++ 58 ∷ (text_of m.value ++ (more ++ rest))
member-append m more rest = append_assoc (member_text m) more rest ∙ append_assoc (quoted m.name) (58 ∷ text_of m.value) (more ++ rest)

more_members-append : (ms : List (Named Tree)) (rest : List ℕ) → after_commas (map member_text ms) ++ rest ≡ more_members ms rest
unfolding spelled
more_members-append [] rest = refl
more_members-append (m ∷ ms) rest = ap (λ s. 44 ∷ s) (member-append m (after_commas (map member_text ms)) rest ∙ ap (λ s. quoted m.name ++ 58 ∷ (text_of m.value ++ s)) (more_members-append ms rest))

pub spelled_members-append : (ms : List (Named Tree)) (rest : List ℕ) → with_commas (map member_text ms) ++ rest ≡ spelled_members ms rest
unfolding spelled
spelled_members-append [] rest = refl
spelled_members-append (m ∷ ms) rest = member-append m (after_commas (map member_text ms)) rest ∙ ap (λ s. quoted m.name ++ 58 ∷ (text_of m.value ++ s)) (more_members-append ms rest)

pub spelled-Object : (ms : List (Named Tree)) (rest : List ℕ) → spelled (tree.Object ms) rest ≡ 123 ∷ spelled_members ms (125 ∷ rest)
unfolding spelled
spelled-Object ms rest = ap (λ s. s ++ rest) (text_of-Object ms) ∙ ap (λ s. 123 ∷ s) (append_assoc (with_commas (map member_text ms)) (125 ∷ []) rest ∙ spelled_members-append ms (125 ∷ rest))

-- What is printed of a tree whose shape is known: `simp printed`, under `unfolding escape_byte` where names are known,
-- shows `text_of` such a tree to be its bytes, written as `codes ".." ++ (quoted s ++ (codes ".." ++ ..))`.
pub ruleset printed = (text_of-spelled, spelled-append, spelled-Null, spelled-true, spelled-false, spelled-Int, spelled-Text, spelled-List, spelled-Object)

-- what was printed is also known under another spelling
pub printed_as : {E : Type 0} (r : Result (List ℕ) E) (t : Tree) (s : List ℕ) → text_of t ≡ s → IfOk r (λ text. text ≡ text_of t) → IfOk r (λ text. text ≡ s)
printed_as (Ok text) t s e h = h ∙ e
printed_as (Err fault) t s e h = tt
