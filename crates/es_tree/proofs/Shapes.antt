-- The JSON of a tree, and its tokens' text.
use Rattle.std.proofs.Common.{◌≡◌, ℕ, suc, max, ℤ, List, [], ◌∷◌, ◌++◌, map, Bool, true, false, refl, sym, ap, ap₂, ◌∙◌, append_assoc, append-nil}
use Rattle.std.specs.List.{AllByRecursion}
use Rattle.std.specs.Fmt.{signed_decimal}
use Rattle.json.specs.Token.{Token, key}
use Rattle.json.specs.Print.{print, print_from, quoted}
use Rattle.json.specs.Json as json
use Rattle.json.specs.Tree.{json_tokens, items_tokens, members_tokens}
use Rattle.json.specs.Tree as jtree
use Rattle.es_tree.specs.declared.tree.Tree.{Tree, Tree-F, fold-Tree}
use Rattle.es_tree.specs.declared.tree.Tree as tree
use Rattle.es_tree.specs.declared.tree.Named.{Named}
use Rattle.es_tree.specs.Text.{text_of, member_text}
use Rattle.es_tree.specs.Adds.{comma_if, more_texts}
use Rattle.es_tree.specs.Order.{greatest, levels_step, levels_of}
use Rattle.es_tree.proofs.Induction.{with_value, for_trees, fold-List, fold-Object, fold-Null, fold-Bool, fold-Int, fold-Text}
use Rattle.es_tree.proofs.Texts.{text_of-Null, text_of-true, text_of-false, text_of-Int, text_of-Text}
use Rattle.es_tree.proofs.Adding.{text-List, text-Object}

abbrev pub items_of : List json.Json → json.Items
items_of [] = json.no_items
items_of (j ∷ js) = json.item j (items_of js)

abbrev pub members_of : List (Named json.Json) → json.Members
members_of [] = json.no_members
members_of (m ∷ ms) = json.member m.name m.value (members_of ms)

abbrev pub shape_step : Tree-F json.Json → json.Json
shape_step Tree-F.Null = json.null
shape_step (Tree-F.Bool b) = json.boolean b
shape_step (Tree-F.Int z) = json.number (signed_decimal z)
shape_step (Tree-F.Text s) = json.string s
shape_step (Tree-F.List js) = json.array (items_of js)
shape_step (Tree-F.Object ms) = json.object (members_of ms)

abbrev pub shape : Tree → json.Json
shape = fold-Tree json.Json shape_step

-- ---- what is printed for its tokens

abbrev Prints : Tree → Type 0
Prints t = (later : Bool) (us : List Token) → print_from later (json_tokens (shape t) ++ us) ≡ comma_if later ++ (text_of t ++ print_from true us)

regroup_item : (q a b c : List ℕ) → q ++ (a ++ (b ++ c)) ≡ (q ++ (a ++ b)) ++ c
regroup_item q a b c = simp append_assoc

print_items : (ts : List Tree) → AllByRecursion Prints ts → (later : Bool) (us : List Token)
    → print_from later (items_tokens (items_of (map shape ts)) ++ us) ≡ more_texts later (map text_of ts) ++ 93 ∷ print_from true us
unfolding print_from
print_items [] h true us = refl
print_items [] h false us = refl
print_items (t ∷ ts) h later us =
    let rest = items_tokens (items_of (map shape ts)) in
    ap (print_from later) (append_assoc (json_tokens (shape t)) rest us) ∙ h.0 later (rest ++ us) ∙ ap (λ s. comma_if later ++ (text_of t ++ s)) (print_items ts h.1 true us)
    ∙ regroup_item (comma_if later) (text_of t) (more_texts true (map text_of ts)) (93 ∷ print_from true us)

regroup_member : (q n a b c : List ℕ) → q ++ ((n ++ 58 ∷ []) ++ (a ++ (b ++ c))) ≡ (q ++ ((n ++ 58 ∷ a) ++ b)) ++ c
regroup_member q n a b c = simp append_assoc

print_key : (later : Bool) (name : List ℕ) (us : List Token) → print_from later (key name ∷ us) ≡ comma_if later ++ ((quoted name ++ 58 ∷ []) ++ print_from false us)
unfolding print_from
print_key true name us = refl
print_key false name us = refl

print_members : (ms : List (Named Tree)) → AllByRecursion (λ m. Prints m.value) ms → (later : Bool) (us : List Token)
    → print_from later (members_tokens (members_of (map (with_value shape) ms)) ++ us) ≡ more_texts later (map member_text ms) ++ 125 ∷ print_from true us
unfolding print_from
print_members [] h true us = refl
print_members [] h false us = refl
print_members (m ∷ ms) h later us =
    let rest = members_tokens (members_of (map (with_value shape) ms)) in
    print_key later m.name ((json_tokens (shape m.value) ++ rest) ++ us)
    ∙ ap (λ s. comma_if later ++ ((quoted m.name ++ 58 ∷ []) ++ s))
    (ap (print_from false) (append_assoc (json_tokens (shape m.value)) rest us) ∙ h.0 false (rest ++ us) ∙ ap (λ s. text_of m.value ++ s) (print_members ms h.1 true us))
    ∙ regroup_member (comma_if later) (quoted m.name) (text_of m.value) (more_texts true (map member_text ms)) (125 ∷ print_from true us)

prints_null : Prints tree.Null
unfolding print_from
prints_null true us = rw (fold-Null json.Json shape_step, text_of-Null)
prints_null false us = rw (fold-Null json.Json shape_step, text_of-Null)

prints_bool : (b : Bool) → Prints (tree.Bool b)
unfolding print_from
prints_bool true true us = rw (fold-Bool json.Json shape_step, text_of-true)
prints_bool true false us = rw (fold-Bool json.Json shape_step, text_of-true)
prints_bool false true us = rw (fold-Bool json.Json shape_step, text_of-false)
prints_bool false false us = rw (fold-Bool json.Json shape_step, text_of-false)

prints_int : (z : ℤ) → Prints (tree.Int z)
unfolding print_from
prints_int z true us = rw (fold-Int json.Json shape_step, text_of-Int)
prints_int z false us = rw (fold-Int json.Json shape_step, text_of-Int)

prints_text : (s : List ℕ) → Prints (tree.Text s)
unfolding print_from
prints_text s true us = rw (fold-Text json.Json shape_step, text_of-Text)
prints_text s false us = rw (fold-Text json.Json shape_step, text_of-Text)

prints_list : (ts : List Tree) → AllByRecursion Prints ts → Prints (tree.List ts)
unfolding print_from
prints_list ts h true us =
    rw (fold-List json.Json shape_step ts, text-List ts) (ap (λ s. 44 ∷ 91 ∷ s) (print_items ts h false us ∙ sym (append_assoc (more_texts false (map text_of ts)) (93 ∷ []) (print_from true us))))
prints_list ts h false us =
    rw (fold-List json.Json shape_step ts, text-List ts) (ap (λ s. 91 ∷ s) (print_items ts h false us ∙ sym (append_assoc (more_texts false (map text_of ts)) (93 ∷ []) (print_from true us))))

prints_object : (ms : List (Named Tree)) → AllByRecursion (λ m. Prints m.value) ms → Prints (tree.Object ms)
unfolding print_from
prints_object ms h true us =
    rw (fold-Object json.Json shape_step ms, text-Object ms) (ap (λ s. 44 ∷ 123 ∷ s) (print_members ms h false us ∙ sym (append_assoc (more_texts false (map member_text ms)) (125 ∷ []) (print_from true us))))
prints_object ms h false us =
    rw (fold-Object json.Json shape_step ms, text-Object ms) (ap (λ s. 123 ∷ s) (print_members ms h false us ∙ sym (append_assoc (more_texts false (map member_text ms)) (125 ∷ []) (print_from true us))))

prints : (t : Tree) → Prints t
prints = for_trees Prints prints_null prints_bool prints_int prints_text prints_list prints_object

pub print-json_tokens : (t : Tree) → print (json_tokens (shape t)) ≡ text_of t
unfolding print_from
print-json_tokens t = ap print (sym (append-nil (json_tokens (shape t)))) ∙ prints t false [] ∙ append-nil (text_of t)

-- ---- how deep it nests

abbrev Nests : Tree → Type 0
Nests t = jtree.depth (shape t) ≡ levels_of t

items_nest : (ts : List Tree) → AllByRecursion Nests ts → jtree.items_depth (items_of (map shape ts)) ≡ greatest (map levels_of ts)
items_nest [] h = refl
items_nest (t ∷ ts) h = ap₂ max h.0 (items_nest ts h.1)

members_nest : (ms : List (Named Tree)) → AllByRecursion (λ m. Nests m.value) ms → jtree.members_depth (members_of (map (with_value shape) ms)) ≡ greatest (map (λ m. m.value) (map (with_value levels_of) ms))
members_nest [] h = refl
members_nest (m ∷ ms) h = ap₂ max h.0 (members_nest ms h.1)

pub depth-shape : (t : Tree) → jtree.depth (shape t) ≡ levels_of t
unfolding levels_of
depth-shape =
    for_trees Nests
    (rw (fold-Null json.Json shape_step, fold-Null ℕ levels_step))
    (λ b. rw (fold-Bool json.Json shape_step, fold-Bool ℕ levels_step))
    (λ z. rw (fold-Int json.Json shape_step, fold-Int ℕ levels_step))
    (λ s. rw (fold-Text json.Json shape_step, fold-Text ℕ levels_step))
    (λ ts h. rw (fold-List json.Json shape_step ts, fold-List ℕ levels_step ts) (ap suc (items_nest ts h)))
    (λ ms h. rw (fold-Object json.Json shape_step ms, fold-Object ℕ levels_step ms) (ap suc (members_nest ms h)))
