-- Names that are known: what they are spelled as is read back.
use Rattle.std.proofs.Common.{◌≡◌, ℕ, List, [], ◌∷◌, ◌++◌, Bool, true, false, Option, Some, None, option_and_then, codes, refl, sym, ap, ◌∙◌}
use Rattle.std.specs.Prelude.{if◌then◌else◌}
use Rattle.std.specs.List.{list_all}
use Rattle.std.specs.Str.{bytes_eq}
use Rattle.std.proofs.lemmas.Bool.{and_parts, and_from}
use Rattle.std.proofs.lemmas.List.Folds.{list_all-append}
use Rattle.std.proofs.lemmas.Slice.Eq.{bytes_eq-Decides}
use Rattle.es_template.specs.declared.kinds.Property.{Property}
use Rattle.es_template.specs.declared.kinds.Property.TheVariants.{Username, FullName, Email, Roles, Metadata}
use Rattle.es_template.specs.Marks.{behind, parts, behind_marks, joined}
use Rattle.es_template.specs.Tags.{is_plain, has_bytes, is_name, names_of, path_of, property_of, property_name, trimmed, named_in_tag}
use Rattle.es_template.proofs.Cutting.{some_same, none_some, behind_is}
use Rattle.es_template.proofs.Substituting.{chained_from, mapped_from}
use Rattle.es_template.proofs.Spaces.{trimmed_twice, plain_whole}
use Rattle.es_template.proofs.Parting.{joined_parts}

-- a name that stands for the property
record Names (name : List ℕ) (p : Property) : Type 0 where
  spelled : property_name p ≡ name
  plain : list_all is_plain name ≡ true

is_by : (c : Bool) (name wanted : List ℕ) (q p : Property) (later : Option Property) → bytes_eq name wanted ≡ c → property_name q ≡ wanted → list_all is_plain wanted ≡ true
    → (later ≡ Some p → Names name p) → (if c then Some q else later) ≡ Some p → Names name p
is_by true name wanted q p later is spelled plain further e =
    let same : name ≡ wanted = (bytes_eq-Decides name wanted).0 is in
    record { spelled = ap property_name (sym (some_same q p e)) ∙ spelled ∙ sym same; plain = ap (list_all is_plain) same ∙ plain }
is_by false name wanted q p later is spelled plain further e = further e

-- ---- names in the metadata

plain_append : (xs ys : List ℕ) → list_all is_plain xs ≡ true → list_all is_plain ys ≡ true → list_all is_plain (xs ++ ys) ≡ true
plain_append xs ys e f = list_all-append is_plain xs ys ∙ and_from (list_all is_plain xs) (list_all is_plain ys) e f

plain_behind : (names : List (List ℕ)) → list_all is_name names ≡ true → list_all is_plain (behind_marks (codes ".") names) ≡ true
plain_behind [] e = refl
plain_behind (name ∷ names) e =
    let p = and_parts (is_name name) (list_all is_name names) e in
    plain_append (codes ".") (name ++ behind_marks (codes ".") names) refl
    (plain_append name (behind_marks (codes ".") names) (and_parts (has_bytes name) (list_all is_plain name) p.0).1 (plain_behind names p.1))

plain_joined : (names : List (List ℕ)) → list_all is_name names ≡ true → list_all is_plain (joined (codes ".") names) ≡ true
plain_joined [] e = refl
plain_joined (name ∷ names) e =
    let p = and_parts (is_name name) (list_all is_name names) e in
    plain_append name (behind_marks (codes ".") names) (and_parts (has_bytes name) (list_all is_plain name) p.0).1 (plain_behind names p.1)

record Checked (names found : List (List ℕ)) : Type 0 where
  same : names ≡ found
  each : list_all is_name names ≡ true

checked_by : (c : Bool) (names found : List (List ℕ)) → list_all is_name names ≡ c → (if c then Some names else None) ≡ Some found → Checked names found
checked_by true names found is e = record { same = some_same names found e; each = is }
checked_by false names found is e = absurd (none_some found e)

metadata_names : (name path : List ℕ) (p : Property) → name ≡ codes "_user.metadata." ++ path → path_of path ≡ Some p → Names name p
metadata_names name path p whole e =
    let m = mapped_from (names_of path) Metadata p e in
    let names = parts (codes ".") path in
    let c = checked_by (list_all is_name names) names m.value refl m.is in
    let back : joined (codes ".") names ≡ path = joined_parts 46 [] path in
    record {
      spelled = ap property_name (sym m.gives) ∙ ap (λ ns. codes "_user.metadata." ++ joined (codes ".") ns) (sym c.same) ∙ ap (λ l. codes "_user.metadata." ++ l) back ∙ sym whole;
      plain = ap (list_all is_plain) whole ∙ plain_append (codes "_user.metadata.") path refl (ap (list_all is_plain) (sym back) ∙ plain_joined names c.each);
    }

metadata_by : (name : List ℕ) (p : Property) → option_and_then path_of (behind (codes "_user.metadata.") name) ≡ Some p → Names name p
metadata_by name p e =
    let c = chained_from (behind (codes "_user.metadata.") name) path_of p e in
    metadata_names name c.value p (behind_is (codes "_user.metadata.") name c.value c.is) c.gives

-- ---- all names

abbrev or_roles : List ℕ → Option Property
or_roles name = if bytes_eq name (codes "_user.roles") then Some Roles else option_and_then path_of (behind (codes "_user.metadata.") name)

abbrev or_email : List ℕ → Option Property
or_email name = if bytes_eq name (codes "_user.email") then Some Email else or_roles name

abbrev or_full_name : List ℕ → Option Property
or_full_name name = if bytes_eq name (codes "_user.full_name") then Some FullName else or_email name

names_property : (name : List ℕ) (p : Property) → property_of name ≡ Some p → Names name p
unfolding property_of
names_property name p e =
    is_by (bytes_eq name (codes "_user.username")) name (codes "_user.username") Username p (or_full_name name) refl refl refl
    (is_by (bytes_eq name (codes "_user.full_name")) name (codes "_user.full_name") FullName p (or_email name) refl refl refl
    (is_by (bytes_eq name (codes "_user.email")) name (codes "_user.email") Email p (or_roles name) refl refl refl
    (is_by (bytes_eq name (codes "_user.roles")) name (codes "_user.roles") Roles p (option_and_then path_of (behind (codes "_user.metadata.") name)) refl refl refl
    (metadata_by name p)))) e

-- what the inside of a tag stands for is spelled without braces, and read back
pub record Known (inside : List ℕ) (p : Property) : Type 0 where
  pub again : named_in_tag (property_name p) ≡ Some p
  pub plain : list_all is_plain (property_name p) ≡ true
  pub whole : list_all is_plain inside ≡ true

pub known : (inside : List ℕ) (p : Property) → named_in_tag inside ≡ Some p → Known inside p
unfolding named_in_tag
known inside p e =
    let n = names_property (trimmed inside) p e in
    record {
      again = ap (λ l. property_of (trimmed l)) n.spelled ∙ ap property_of (trimmed_twice inside) ∙ e;
      plain = ap (list_all is_plain) n.spelled ∙ n.plain;
      whole = plain_whole inside n.plain;
    }
