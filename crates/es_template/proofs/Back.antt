-- What is printed of a template that was read reads back to it.
use Rattle.std.proofs.Common.{◌≡◌, ℕ, ◌+◌, ℤ, List, [], ◌∷◌, ◌++◌, map, Bool, true, false, Option, Some, None, option_map, option_and_then, decimal, codes, Ok, Err, refl, sym, ap, ◌∙◌, subst, append-nil, append_assoc, rules}
use Rattle.std.specs.Prelude.{is_some}
use Rattle.std.specs.List.{flat_map, list_all, AllByRecursion}
use Rattle.std.proofs.lemmas.Grind.{flat_map-append}
use Rattle.es_tree.specs.declared.tree.Tree.{Tree, out-Tree, the_lemmas}
use Rattle.es_tree.specs.declared.tree.Tree as tree
use Rattle.es_tree.specs.declared.tree.Named.{Named}
use Rattle.es_tree.proofs.Induction.{for_trees}
use Rattle.es_tree.specs.Read.{read_of}
use Rattle.es_grammar.specs.Reading.{◌>>=◌, below, wanted}
use Rattle.es_grammar.specs.Printing.{named_tree}
use Rattle.es_grammar.specs.Values.{items_of, object_form}
use Rattle.es_template.specs.declared.kinds.Property.{Property}
use Rattle.es_template.specs.declared.kinds.Piece.{Piece}
use Rattle.es_template.specs.declared.kinds.Piece.TheVariants.{Tag}
use Rattle.es_template.specs.declared.kinds.Template.{Template}
use Rattle.es_template.specs.declared.kinds.Template as made
use Rattle.es_template.specs.Marks.{behind, cut, parts, behind_marks, joined}
use Rattle.es_template.specs.Tags.{opening, closing, json_opening, json_closing, is_plain, property_of, property_name, named_in_tag, if_whole, hole_of, text_pieces, tag_and_text, tag_pieces, all_tag_pieces, pieces_of_parts, pieces_of}
use Rattle.es_template.specs.Sources.{hole_or_text, text_template, member_form, members_form, member_reading, template_form, source_object, text_source, source_form, or_fault_here, with_quoted_tags}
use Rattle.es_template.specs.Printed.{piece_text, hole_text, template_tree}
use Rattle.es_template.proofs.Cutting.{some_same, none_some, behind-append, behind_is, cut_is}
use Rattle.es_template.proofs.MembersRead.{ok_same, err_ok, one_read, first_read}
use Rattle.es_template.proofs.Forms.{template_form_Null, template_form_Bool, template_form_Int, template_form_Text, template_form_List, template_form_Object}
use Rattle.es_template.proofs.Trees.{template_tree_Null, template_tree_Bool, template_tree_Int, template_tree_Text, template_tree_Hole, template_tree_List, template_tree_Object}
use Rattle.es_template.proofs.Substituting.{then_from, mapped_from, chained_from, below_ok, wanted_some, tag_read, tags_read}
use Rattle.es_template.proofs.Parting.{WellAfter, cut_of, cut_clean, plain_lacks_open, plain_lacks_close, well_parts, cut_again, other_front, parts_json}
use Rattle.es_template.proofs.Known.{known}

abbrev spell : List Piece → List ℕ
spell = flat_map piece_text

-- ---- the parts behind `{{`, with each tag as it is printed

record Normal (tagged : List (List ℕ)) (pieces : List Piece) : Type 0 where
  parts : List (List ℕ)
  spelled : spell pieces ≡ behind_marks opening parts
  read : all_tag_pieces parts ≡ Some pieces
  well : (p : List ℕ) → WellAfter p tagged → WellAfter p parts

plain_spelled : (s : List ℕ) → spell (text_pieces s) ≡ s
plain_spelled [] = refl
plain_spelled (b ∷ bs) = append-nil (b ∷ bs)

in_order : (o n c r later : List ℕ) → ((o ++ (n ++ c)) ++ r) ++ later ≡ o ++ ((n ++ (c ++ r)) ++ later)
in_order o n c r later =
    ap (λ l. l ++ later) (append_assoc o (n ++ c) r ∙ ap (λ l. o ++ l) (append_assoc n c r)) ∙ append_assoc o (n ++ (c ++ r)) later

tag_again : (name rest : List ℕ) (property : Property) → list_all is_plain name ≡ true → named_in_tag name ≡ Some property → tag_pieces (name ++ (closing ++ rest)) ≡ Some (Tag property ∷ text_pieces rest)
unfolding tag_pieces
tag_again name rest property plain is =
    ap (option_and_then tag_and_text) (cut_clean 125 (125 ∷ []) name rest (plain_lacks_close name plain))
    ∙ ap (option_map (λ p. Tag p ∷ text_pieces rest)) is

tags_again : (part : List ℕ) (later : List (List ℕ)) (first others : List Piece) → tag_pieces part ≡ Some first → all_tag_pieces later ≡ Some others → all_tag_pieces (part ∷ later) ≡ Some (first ++ others)
tags_again part later first others e f = rw (e, f) refl

well_with : (part part' p : List ℕ) (later later' : List (List ℕ)) → (WellAfter part later → WellAfter part' later') → WellAfter p (part ∷ later) → WellAfter p (part' ∷ later')
unfolding WellAfter
well_with part part' p later later' turn well = (well.0, turn well.1)

normal_tags : (tagged : List (List ℕ)) (pieces : List Piece) → all_tag_pieces tagged ≡ Some pieces → Normal tagged pieces
normal_tags [] pieces e =
    let none : [] ≡ pieces = some_same [] pieces e in
    record { parts = []; spelled = ap spell (sym none); read = ap Some none; well = λ p w. w }
normal_tags (part ∷ later) pieces e =
    let r = tags_read part later pieces e in
    let t = tag_read part r.first r.first_is in
    let n = normal_tags later r.others r.others_are in
    let k = known t.inside t.property t.is_named in
    let name = property_name t.property in
    let one = name ++ (closing ++ t.rest) in
    let whole : part ≡ t.inside ++ (closing ++ t.rest) = cut_is closing part (t.inside, t.rest) t.is_cut in
    let first : spell r.first ≡ (opening ++ (name ++ closing)) ++ t.rest = ap spell t.are ∙ ap (λ l. (opening ++ (name ++ closing)) ++ l) (plain_spelled t.rest) in
    let read_first : tag_pieces one ≡ Some r.first = tag_again name t.rest t.property k.plain k.again ∙ ap Some (sym t.are) in
    record {
      parts = one ∷ n.parts;
      spelled = ap spell r.are ∙ flat_map-append piece_text r.first r.others ∙ (λ i. first i ++ n.spelled i) ∙ in_order opening name closing t.rest (behind_marks opening n.parts);
      read = tags_again one n.parts r.first r.others read_first n.read ∙ ap Some (sym r.are);
      well = λ p w. well_with part one p later n.parts (λ v. n.well one (other_front t.inside name (closing ++ t.rest) later (plain_lacks_open t.inside k.whole) (plain_lacks_open name k.plain) (subst (λ l. WellAfter l later) whole v))) w;
    }

-- ---- texts

pieces_by : (front : List ℕ) (tagged : List (List ℕ)) (pieces : List Piece) → WellAfter front tagged → pieces_of_parts (front ∷ tagged) ≡ Some pieces → pieces_of_parts (parts opening (spell pieces)) ≡ Some pieces
pieces_by front tagged pieces well e =
    let m = mapped_from (all_tag_pieces tagged) (λ more. text_pieces front ++ more) pieces e in
    let n = normal_tags tagged m.value m.is in
    let whole : spell pieces ≡ joined opening (front ∷ n.parts) =
    ap spell (sym m.gives) ∙ flat_map-append piece_text (text_pieces front) m.value ∙ (λ i. plain_spelled front i ++ n.spelled i) in
    ap (λ l. pieces_of_parts (parts opening l)) whole ∙ ap pieces_of_parts (cut_again front n.parts (n.well front well))
    ∙ ap (option_map (λ more. text_pieces front ++ more)) n.read ∙ ap Some m.gives

pieces_back : (s : List ℕ) (pieces : List Piece) → pieces_of s ≡ Some pieces → pieces_of (spell pieces) ≡ Some pieces
unfolding pieces_of
pieces_back s pieces e =
    let c = cut_of opening s in
    pieces_by c.first c.rest pieces (well_parts s c.first c.rest c.is) (ap pieces_of_parts (sym c.is) ∙ e)

-- a text that begins with a toJson tag's opening has no pieces
no_name : named_in_tag (codes "#toJson") ≡ None
unfolding named_in_tag property_of
no_name = refl

no_tag : (rest : List ℕ) → tag_pieces (codes "#toJson}}" ++ rest) ≡ None
unfolding tag_pieces
no_tag rest =
    ap (option_and_then tag_and_text) (cut_clean 125 (125 ∷ []) (codes "#toJson") rest refl)
    ∙ ap (option_map (λ p. Tag p ∷ text_pieces rest)) no_name

no_tags : (part : List ℕ) (later : List (List ℕ)) → tag_pieces part ≡ None → pieces_of_parts ([] ∷ (part ∷ later)) ≡ None
no_tags part later e = rw e refl

no_pieces : (rest : List ℕ) → pieces_of (json_opening ++ rest) ≡ None
unfolding pieces_of
no_pieces rest =
    let c = cut_of opening rest in
    ap pieces_of_parts (parts_json rest c.first c.rest c.is) ∙ no_tags (codes "#toJson}}" ++ c.first) c.rest (no_tag c.first)

hole_or_pieces : (o : Option (List ℕ)) (s : List ℕ) (pieces : List Piece) → behind json_opening s ≡ o → pieces_of s ≡ Some pieces → option_and_then (λ rest. if_whole (cut json_closing rest)) o ≡ None
hole_or_pieces None s pieces is e = refl
hole_or_pieces (Some rest) s pieces is e = absurd (none_some pieces (sym (no_pieces rest) ∙ ap pieces_of (sym (behind_is json_opening s rest is)) ∙ e))

no_hole : (s : List ℕ) (pieces : List Piece) → pieces_of s ≡ Some pieces → hole_of s ≡ None
unfolding hole_of
no_hole s pieces e = hole_or_pieces (behind json_opening s) s pieces refl e

-- what the inside of a text that is a hole stands for
record Hole (s : List ℕ) (p : Property) : Type 0 where
  inside : List ℕ
  is_named : named_in_tag inside ≡ Some p

whole_by : (o : Option (List ℕ × List ℕ)) (s : List ℕ) (p : Property) → if_whole o ≡ Some p → Hole s p
whole_by None s p e = absurd (none_some p e)
whole_by (Some (inside, [])) s p e = record { inside = inside; is_named = e }
whole_by (Some (inside, b ∷ bs)) s p e = absurd (none_some p e)

hole_from : (s : List ℕ) (p : Property) → hole_of s ≡ Some p → Hole s p
unfolding hole_of
hole_from s p e =
    let c = chained_from (behind json_opening s) (λ rest. if_whole (cut json_closing rest)) p e in
    whole_by (cut json_closing c.value) s p c.gives

hole_again : (name : List ℕ) (p : Property) → list_all is_plain name ≡ true → named_in_tag name ≡ Some p → hole_of (json_opening ++ (name ++ json_closing)) ≡ Some p
unfolding hole_of
hole_again name p plain is =
    let ends : name ++ json_closing ≡ name ++ (json_closing ++ []) = ap (λ l. name ++ l) (sym (append-nil json_closing)) in
    ap (option_and_then (λ rest. if_whole (cut json_closing rest))) (behind-append json_opening (name ++ json_closing))
    ∙ ap (λ l. if_whole (cut json_closing l)) ends
    ∙ ap if_whole (cut_clean 123 (codes "{/toJson}}") name [] (plain_lacks_open name plain)) ∙ is

hole_back : (s : List ℕ) (p : Property) → hole_of s ≡ Some p → hole_of (hole_text p) ≡ Some p
hole_back s p e =
    let h = hole_from s p e in
    let k = known h.inside p h.is_named in
    hole_again (property_name p) p k.plain k.again

-- ---- trees

abbrev Back : Tree → Type 0
Back t = (u : Template) → template_form t ≡ Ok u → template_form (template_tree u) ≡ Ok u

scalar : (t v : Tree) (w : Template) → template_form t ≡ Ok w → template_tree w ≡ v → template_form v ≡ Ok w → Back t
scalar t v w form tree again u e =
    let same : w ≡ u = ok_same w u (sym form ∙ e) in
    subst (λ x. template_form (template_tree x) ≡ Ok x) same (ap template_form tree ∙ again)

hole_read : (s : List ℕ) (p : Property) → hole_of s ≡ Some p → text_template s ≡ Ok (made.Hole p)
unfolding text_template
hole_read s p e = ap (λ o. hole_or_text o s) e

pieces_read : (s : List ℕ) (pieces : List Piece) → hole_of s ≡ None → pieces_of s ≡ Some pieces → text_template s ≡ Ok (made.Text pieces)
unfolding text_template
pieces_read s pieces e f = ap (λ o. hole_or_text o s) e ∙ ap (λ o. wanted o >>= λ ps. Ok (made.Text ps)) f

text_by : (o : Option Property) (s : List ℕ) (u : Template) → hole_of s ≡ o → hole_or_text o s ≡ Ok u → template_form (template_tree u) ≡ Ok u
text_by (Some p) s u is e =
    let same : made.Hole p ≡ u = ok_same (made.Hole p) u e in
    subst (λ x. template_form (template_tree x) ≡ Ok x) same
    (ap template_form (template_tree_Hole p) ∙ template_form_Text (hole_text p) ∙ hole_read (hole_text p) p (hole_back s p is))
text_by None s u is e =
    let r = then_from (wanted (pieces_of s)) (λ pieces. Ok (made.Text pieces)) u e in
    let same : made.Text r.value ≡ u = ok_same (made.Text r.value) u r.later in
    let back = pieces_back s r.value (wanted_some (pieces_of s) r.value r.is) in
    subst (λ x. template_form (template_tree x) ≡ Ok x) same
    (ap template_form (template_tree_Text r.value) ∙ template_form_Text (spell r.value) ∙ pieces_read (spell r.value) r.value (no_hole (spell r.value) r.value back) back)

text_template_back : (s : List ℕ) (u : Template) → text_template s ≡ Ok u → template_form (template_tree u) ≡ Ok u
unfolding text_template
text_template_back s u e = text_by (hole_of s) s u refl e

items_back : (n : ℕ) (ts : List Tree) (items : List Template) → AllByRecursion Back ts → items_of template_form n ts ≡ Ok items → items_of template_form n (map template_tree items) ≡ Ok items
items_back n [] items all e = subst (λ xs. items_of template_form n (map template_tree xs) ≡ Ok xs) (ok_same [] items e) refl
items_back n (t ∷ ts) items all e =
    let a = then_from (below (decimal n) (template_form t)) (λ x. items_of template_form (n + 1) ts >>= λ xs. Ok (x ∷ xs)) items e in
    let b = then_from (items_of template_form (n + 1) ts) (λ xs. Ok (a.value ∷ xs)) items a.later in
    let first = all.0 a.value (below_ok (decimal n) (template_form t) a.value a.is) in
    let later = items_back (n + 1) ts b.value all.1 b.is in
    subst (λ xs. items_of template_form n (map template_tree xs) ≡ Ok xs) (ok_same (a.value ∷ b.value) items b.later) (rw (first, later) refl)

member_again : (x : Named Template) → is_some (cut opening x.name) ≡ false → template_form (template_tree x.value) ≡ Ok x.value → member_form (member_reading (named_tree template_tree x)) ≡ Ok x
member_again x free e = rw (free, e) refl

members_again : (x : Named Template) (xs : List (Named Template)) → member_form (member_reading (named_tree template_tree x)) ≡ Ok x → members_form (map member_reading (map (named_tree template_tree) xs)) ≡ Ok xs → members_form (map member_reading (map (named_tree template_tree) (x ∷ xs))) ≡ Ok (x ∷ xs)
members_again x xs e f = rw (e, f) refl

members_back : (ms : List (Named Tree)) (xs : List (Named Template)) → AllByRecursion (λ m. Back m.value) ms → members_form (map member_reading ms) ≡ Ok xs → members_form (map member_reading (map (named_tree template_tree) xs)) ≡ Ok xs
members_back [] xs all e = subst (λ ys. members_form (map member_reading (map (named_tree template_tree) ys)) ≡ Ok ys) (ok_same [] xs e) refl
members_back (m ∷ ms) xs all e =
    let f = first_read (member_reading m) (map member_reading ms) xs e in
    let o = one_read (member_reading m) f.first f.first_is in
    let first = member_again f.first (ap (λ name. is_some (cut opening name)) o.same ∙ o.free) (all.0 f.first.value o.value) in
    subst (λ ys. members_form (map member_reading (map (named_tree template_tree) ys)) ≡ Ok ys) (sym f.are)
    (members_again f.first f.later first (members_back ms f.later all.1 f.later_are))

list_back : (ts : List Tree) → AllByRecursion Back ts → Back (tree.List ts)
list_back ts all u e =
    let r = then_from (items_of template_form 0 ts) (λ items. Ok (made.List items)) u (sym (template_form_List ts) ∙ e) in
    subst (λ x. template_form (template_tree x) ≡ Ok x) (ok_same (made.List r.value) u r.later)
    (ap template_form (template_tree_List r.value) ∙ template_form_List (map template_tree r.value) ∙ ap (λ r. r >>= λ items. Ok (made.List items)) (items_back 0 ts r.value all r.is))

object_back : (ms : List (Named Tree)) → AllByRecursion (λ m. Back m.value) ms → Back (tree.Object ms)
object_back ms all u e =
    let r = then_from (members_form (map member_reading ms)) (λ members. Ok (made.Object members)) u (sym (template_form_Object ms) ∙ e) in
    subst (λ x. template_form (template_tree x) ≡ Ok x) (ok_same (made.Object r.value) u r.later)
    (ap template_form (template_tree_Object r.value) ∙ template_form_Object (map (named_tree template_tree) r.value) ∙ ap (λ r. r >>= λ members. Ok (made.Object members)) (members_back ms r.value all r.is))

form_back : (t : Tree) → Back t
form_back = for_trees Back
    (scalar tree.Null tree.Null made.Null template_form_Null template_tree_Null template_form_Null)
    (λ b. scalar (tree.Bool b) (tree.Bool b) (made.Bool b) (template_form_Bool b) (template_tree_Bool b) (template_form_Bool b))
    (λ z. scalar (tree.Int z) (tree.Int z) (made.Int z) (template_form_Int z) (template_tree_Int z) (template_form_Int z))
    (λ s u e. text_template_back s u (sym (template_form_Text s) ∙ e))
    list_back
    object_back

-- ---- sources

source_Object : (ms : List (Named Tree)) → source_form (tree.Object ms) ≡ template_form (tree.Object ms)
unfolding source_form
source_Object ms = search (rules, the_lemmas)

source_Text : (s : List ℕ) → source_form (tree.Text s) ≡ text_source s
unfolding source_form
source_Text s = search (rules, the_lemmas)

source_Null : source_form tree.Null ≡ Err []
unfolding source_form
source_Null = search (rules, the_lemmas)

source_Bool : (b : Bool) → source_form (tree.Bool b) ≡ Err []
unfolding source_form
source_Bool b = search (rules, the_lemmas)

source_Int : (z : ℤ) → source_form (tree.Int z) ≡ Err []
unfolding source_form
source_Int z = search (rules, the_lemmas)

source_List : (ts : List Tree) → source_form (tree.List ts) ≡ Err []
unfolding source_form
source_List ts = search (rules, the_lemmas)

-- the object that a template was read from
record Source (u : Template) : Type 0 where
  members : List (Named Tree)
  read : template_form (tree.Object members) ≡ Ok u

-- an object that was found is one
abbrev IsOne : Tree → Type 0
IsOne t = (v : Tree) → object_form t ≡ Ok v → (ms : List (Named Tree)) × (v ≡ tree.Object ms)

no_object : (t : Tree) → object_form t ≡ Err [] → IsOne t
no_object t none v e = absurd (err_ok [] v (sym none ∙ e))

object_Null : object_form tree.Null ≡ Err []
object_Null = search (rules, the_lemmas)

object_Bool : (b : Bool) → object_form (tree.Bool b) ≡ Err []
object_Bool b = search (rules, the_lemmas)

object_Int : (z : ℤ) → object_form (tree.Int z) ≡ Err []
object_Int z = search (rules, the_lemmas)

object_Text : (s : List ℕ) → object_form (tree.Text s) ≡ Err []
object_Text s = search (rules, the_lemmas)

object_List : (ts : List Tree) → object_form (tree.List ts) ≡ Err []
object_List ts = search (rules, the_lemmas)

object_Object : (ms : List (Named Tree)) → object_form (tree.Object ms) ≡ Ok (tree.Object ms)
object_Object ms = search (rules, the_lemmas)

is_one : (t : Tree) → IsOne t
is_one = for_trees IsOne (no_object tree.Null object_Null) (λ b. no_object (tree.Bool b) (object_Bool b)) (λ z. no_object (tree.Int z) (object_Int z)) (λ s. no_object (tree.Text s) (object_Text s)) (λ ts all. no_object (tree.List ts) (object_List ts))
    (λ ms all v e. (ms, ok_same v (tree.Object ms) (sym e ∙ object_Object ms)))

text_object : (s : List ℕ) (v : Tree) → source_object s ≡ Ok v → (ms : List (Named Tree)) × (v ≡ tree.Object ms)
unfolding source_object
text_object s v e =
    let r = then_from (or_fault_here (read_of (with_quoted_tags s))) object_form v e in
    is_one r.value v r.later

text_source_from : (s : List ℕ) (u : Template) → text_source s ≡ Ok u → Source u
text_source_from s u e =
    let r = then_from (source_object s) template_form u e in
    let o = text_object s r.value r.is in
    record { members = o.0; read = ap template_form (sym o.1) ∙ r.later }

no_source : (t : Tree) → source_form t ≡ Err [] → (u : Template) → source_form t ≡ Ok u → Source u
no_source t none u e = absurd (err_ok [] u (sym none ∙ e))

source_from : (t : Tree) → (u : Template) → source_form t ≡ Ok u → Source u
source_from = for_trees (λ t. (u : Template) → source_form t ≡ Ok u → Source u)
    (no_source tree.Null source_Null) (λ b. no_source (tree.Bool b) (source_Bool b)) (λ z. no_source (tree.Int z) (source_Int z))
    (λ s u e. text_source_from s u (sym (source_Text s) ∙ e))
    (λ ts all. no_source (tree.List ts) (source_List ts))
    (λ ms all u e. record { members = ms; read = sym (source_Object ms) ∙ e })

pub template_back : (t : Tree) (u : Template) → source_form t ≡ Ok u → source_form (template_tree u) ≡ Ok u
template_back t u e =
    let s = source_from t u e in
    let r = then_from (members_form (map member_reading s.members)) (λ members. Ok (made.Object members)) u (sym (template_form_Object s.members) ∙ s.read) in
    let same : made.Object r.value ≡ u = ok_same (made.Object r.value) u r.later in
    let printed : template_tree u ≡ tree.Object (map (named_tree template_tree) r.value) = ap template_tree (sym same) ∙ template_tree_Object r.value in
    ap source_form printed ∙ source_Object (map (named_tree template_tree) r.value) ∙ ap template_form (sym printed) ∙ form_back (tree.Object s.members) u s.read
