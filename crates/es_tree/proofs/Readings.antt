-- What the definitions of reading and printing say of one another.
use Rattle.std.proofs.Common.{◌≡◌, ◌≤◌, ℕ, List, Bool, true, false, IsTrue, Option, Some, None, Ok, Err, if◌then◌else◌, nat_lt, refl, ap, arith}
use Rattle.std.specs.Str.{is_utf8}
use Rattle.std.proofs.lemmas.Str.{IsUtf8-from_is_utf8}
use Rattle.std.proofs.lemmas.Bool.Decides.{nat_tests}
use Rattle.serde_json.specs.Data.{Data, depth}
use Rattle.serde_json.specs.Read.{read}
use Rattle.serde_json.proofs.Nesting.{depth-read}
use Rattle.es_tree.specs.declared.tree.Tree.{Tree}
use Rattle.es_tree.specs.declared.fault.TreeFault.{TreeFault}
use Rattle.es_tree.specs.Order.{is_ordered, levels_of}
use Rattle.es_tree.specs.Read.{json_of, tree_of, or_not_whole, or_fault, read_within_of}
use Rattle.es_tree.specs.Text.{text_of}
use Rattle.es_tree.proofs.Levels.{levels_of-tree_of}
use Rattle.es_tree.proofs.Faults.{text_back}
use Rattle.es_tree.proofs.Sound.{read_kept}

-- what is known of bytes that were read
pub record WasRead (limit : ℕ) (bytes : List ℕ) (t : Tree) : Type 0 where
  pub found : Data
  pub utf8 : is_utf8 bytes ≡ true
  pub json : read bytes ≡ Some found
  pub shallow : depth found ≤ limit
  pub is : tree_of found ≡ Some t

whole : (o : Option Tree) (t : Tree) → or_not_whole o ≡ Ok t → o ≡ Some t
whole None t e = absurd (cc)
whole (Some x) t e = let same : x ≡ t = cc in ap Some same

text_of_bytes : (bytes : List ℕ) (b : Bool) (d : Data) → is_utf8 bytes ≡ b → (if b then read bytes else None) ≡ Some d → (is_utf8 bytes ≡ true) × (read bytes ≡ Some d)
text_of_bytes bytes true d is e = (is, e)
text_of_bytes bytes false d is e = absurd (cc)

shallow_data : (limit : ℕ) (d : Data) (b : Bool) (t : Tree) → nat_lt limit (depth d) ≡ b → (if b then Err TreeFault.TooDeep else or_not_whole (tree_of d)) ≡ Ok t → (depth d ≤ limit) × (tree_of d ≡ Some t)
shallow_data limit d true t is e = absurd (cc)
shallow_data limit d false t is e = (grind (arith, nat_tests, is), whole (tree_of d) t e)

was_read_at : (limit : ℕ) (bytes : List ℕ) (t : Tree) (o : Option Data) → json_of bytes ≡ o → or_fault limit o ≡ Ok t → WasRead limit bytes t
unfolding json_of
was_read_at limit bytes t None is e = absurd (cc)
was_read_at limit bytes t (Some d) is e =
    let text = text_of_bytes bytes (is_utf8 bytes) d refl is in
    let tree = shallow_data limit d (nat_lt limit (depth d)) t refl e in
    record { found = d; utf8 = text.0; json = text.1; shallow = tree.0; is = tree.1 }

pub was_read : (limit : ℕ) (bytes : List ℕ) (t : Tree) → read_within_of limit bytes ≡ Ok t → WasRead limit bytes t
unfolding read_within_of
was_read limit bytes t e = was_read_at limit bytes t (json_of bytes) refl e

pub read_ordered : (limit : ℕ) (bytes : List ℕ) (t : Tree) → read_within_of limit bytes ≡ Ok t → IsTrue (is_ordered t)
read_ordered limit bytes t e = let r = was_read limit bytes t e in (read_kept bytes r.found t (IsUtf8-from_is_utf8 bytes r.utf8) r.json r.is).0

pub read_levels : (limit : ℕ) (bytes : List ℕ) (t : Tree) → read_within_of limit bytes ≡ Ok t → (levels_of t ≤ limit) × (levels_of t ≤ 127)
read_levels limit bytes t e =
    let r = was_read limit bytes t e in
    let same = levels_of-tree_of r.found t r.is in
    (rw same r.shallow, rw same (depth-read bytes r.found r.json))

pub read_back : (limit : ℕ) (bytes : List ℕ) (t : Tree) → read_within_of limit bytes ≡ Ok t → read_within_of limit (text_of t) ≡ Ok t
read_back limit bytes t e =
    let r = was_read limit bytes t e in
    let k = read_kept bytes r.found t (IsUtf8-from_is_utf8 bytes r.utf8) r.json r.is in
    let l = read_levels limit bytes t e in
    text_back limit t k.0 k.1 k.2 l.0 l.1
