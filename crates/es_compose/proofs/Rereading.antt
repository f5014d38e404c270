-- What is printed of a role's query that was read reads back to it.
use Rattle.std.proofs.Common.{◌≡◌, ℕ, List, [], ◌∷◌, Bool, true, false, Option, Some, None, Result, Ok, Err, codes, bytes_eq, if◌then◌else◌, refl, sym, ap, subst, ◌∙◌}
use Rattle.std.proofs.lemmas.Slice.Eq.{bytes_eq-Decides}
use Rattle.es_tree.specs.declared.tree.Tree.{Tree, out-Tree}
use Rattle.es_tree.specs.declared.tree.Tree.TheOpen.{Tree-F}
use Rattle.es_tree.specs.declared.tree.Named.{Named}
use Rattle.es_tree.specs.declared.fault.TreeFault.{TreeFault}
use Rattle.es_tree.specs.Read.{read_of}
use Rattle.es_grammar.specs.Reading.{◌>>=◌ as ◌then◌}
use Rattle.es_grammar.specs.Members.{members_in}
use Rattle.es_grammar.specs.Grammar.{object, only_member, required}
use Rattle.es_grammar.specs.Printing.{member_tree, single}
use Rattle.es_grammar.proofs.Back.{members_of-Object}
use Rattle.es_query.specs.declared.kinds.Query.{Query}
use Rattle.es_query.specs.Queries.{clause_form, query_clause_form, query_form}
use Rattle.es_query.specs.Printed.{query_tree}
use Rattle.es_query.proofs.Levels.{query_form-clause}
use Rattle.es_query.proofs.Lines.{then_ok, ok, ok_same}
use Rattle.es_query.proofs.Back.{query_back, query_sound}
use Rattle.es_template.specs.declared.kinds.Template.{Template}
use Rattle.es_template.specs.Sources.{source_form}
use Rattle.es_template.specs.Printed.{template_tree}
use Rattle.es_template.specs.Laws.{TemplateBack}
use Rattle.es_role.proofs.Yields.{Reads, yields_line, yields_end, reads_object, same_ok}
use Rattle.es_compose.specs.declared.query.RoleQuery.{RoleQuery}
use Rattle.es_compose.specs.declared.query.RoleQuery.TheVariants.{Fixed, Filled}
use Rattle.es_compose.specs.Checked.{template_form, role_clause_form, role_object_form, role_query_read, role_query_in, role_query_form, role_query_tree}
use Rattle.es_compose.specs.Laws.{QueryBack}
use Rattle.es_compose.proofs.Only.{Only, only_given, only_from}

-- ---- a clause of a query

template_is_none : (inner : Tree → Result Query (List ℕ)) (t : Tree) → clause_form inner (codes "template") t ≡ Err []
unfolding clause_form
template_is_none inner t = refl

-- no clause of a query has the name of a template
other_name : (name : List ℕ) (t : Tree) (q : Query) (b : Bool) → bytes_eq name (codes "template") ≡ b → query_clause_form name t ≡ Ok q → b ≡ false
other_name name t q false is e = refl
other_name name t q true is e =
    let named = (bytes_eq-Decides name (codes "template")).0 is in
    let none : query_clause_form (codes "template") t ≡ Ok q = subst (λ (n : List ℕ). query_clause_form n t ≡ Ok q) named e in
    let fault : Result.Err [] ≡ ok q = sym (template_is_none _ t) ∙ none in
    cc fault

fixed_from : (name : List ℕ) (t : Tree) (q : Query) → query_clause_form name t ≡ Ok q → role_clause_form name t ≡ Ok (Fixed q)
unfolding role_clause_form
fixed_from name t q e = rw (other_name name t q (bytes_eq name (codes "template")) refl e, e) refl

-- what the member was read from
abbrev ClauseOf : List ℕ → Tree → RoleQuery → Type 0
ClauseOf name t (Fixed q) = query_clause_form name t ≡ Ok q
ClauseOf name t (Filled template) = template_form t ≡ Ok template

clause_by : (b : Bool) (name : List ℕ) (t : Tree) (found : RoleQuery)
    → (if b then (template_form t then λ template. Ok (Filled template)) else (query_clause_form name t then λ query. Ok (Fixed query))) ≡ Ok found → ClauseOf name t found
clause_by true name t found e =
    let a = then_ok (template_form t) (λ template. Ok (Filled template)) found e in
    subst (ClauseOf name t) (ok_same (Filled a.value) found a.later) a.first
clause_by false name t found e =
    let a = then_ok (query_clause_form name t) (λ query. Ok (Fixed query)) found e in
    subst (ClauseOf name t) (ok_same (Fixed a.value) found a.later) a.first

clause_given : (name : List ℕ) (t : Tree) (found : RoleQuery) → role_clause_form name t ≡ Ok found → ClauseOf name t found
unfolding role_clause_form
clause_given name t found e = clause_by (bytes_eq name (codes "template")) name t found e

-- ---- the object of a role's query

object_from : (t : Tree) (found : RoleQuery) → Only role_clause_form t found → role_object_form t ≡ Ok found
unfolding role_object_form
object_from t found o = only_from role_clause_form t found o

object_given : (t : Tree) (found : RoleQuery) → role_object_form t ≡ Ok found → Only role_clause_form t found
unfolding role_object_form
object_given t found e = only_given role_clause_form t found e

in_object : (t : Tree) (f : Tree-F Tree) (ms : List (Named Tree)) → members_in f ≡ Ok ms → role_query_in t f ≡ role_object_form t
in_object t Tree-F.Null ms e = cc e
in_object t (Tree-F.Bool b) ms e = cc e
in_object t (Tree-F.Int z) ms e = cc e
in_object t (Tree-F.Text s) ms e = cc e
in_object t (Tree-F.List ts) ms e = cc e
in_object t (Tree-F.Object ns) ms e = refl

-- an object is read as itself
object_read : (t : Tree) (found : RoleQuery) → role_object_form t ≡ Ok found → role_query_form t ≡ Ok found
unfolding role_query_form
object_read t found e =
    let o = object_given t found e in
    in_object t (out-Tree t) (o.member ∷ []) o.members ∙ e

-- the object that was read
abbrev FromObject : RoleQuery → Type 0
FromObject found = (t : Tree) × (role_object_form t ≡ Ok found)

text_read : (r : Result Tree TreeFault) (found : RoleQuery) → role_query_read r ≡ Ok found → FromObject found
text_read (Ok t) found e = (t, e)
text_read (Err fault) found e = cc e

read_from : (t : Tree) (f : Tree-F Tree) (found : RoleQuery) → role_query_in t f ≡ Ok found → FromObject found
read_from t Tree-F.Null found e = cc e
read_from t (Tree-F.Bool b) found e = cc e
read_from t (Tree-F.Int z) found e = cc e
read_from t (Tree-F.Text s) found e = text_read (read_of s) found e
read_from t (Tree-F.List ts) found e = cc e
read_from t (Tree-F.Object ms) found e = (t, e)

query_from : (t : Tree) (found : RoleQuery) → role_query_form t ≡ Ok found → FromObject found
unfolding role_query_form
query_from t found e = read_from t (out-Tree t) found e

-- ---- queries for everyone

fixed_back : (t : Tree) (q : Query) → Only query_clause_form t q → role_object_form (query_tree q) ≡ Ok (Fixed q)
fixed_back t q o =
    let read : query_form t ≡ Ok q = query_form-clause t ∙ only_from query_clause_form t q o in
    let back : object (only_member query_clause_form) (query_tree q) ≡ Ok q = sym (query_form-clause (query_tree q)) ∙ query_back q (query_sound t q read) in
    let p = only_given query_clause_form (query_tree q) q back in
    object_from (query_tree q) (Fixed q) (record { member = p.member; members = p.members; is = fixed_from p.member.name p.member.value q p.is })

-- ---- templates

module _ (template_back : TemplateBack) where
  abbrev SourceBack : Template → Type 0
  SourceBack template = source_form (template_tree template) ≡ Ok template

  abbrev SourceIfThere : Option Template → Type 0
  SourceIfThere None = Unit {0}
  SourceIfThere (Some template) = SourceBack template

  required_given : (source : Option Template) → SourceIfThere source → (ms : List (Named Tree)) (template : Template) (rest : List (Named Tree)) → required source ms ≡ Ok (template, rest) → SourceBack template
  required_given None is ms template rest e = cc e
  required_given (Some source) is ms template rest e = subst SourceBack (ap (λ (pair : Template × List (Named Tree)). pair.0) (same_ok (source, ms) (template, rest) e)) is

  templates_read : Reads SourceBack template_form
  unfolding template_form
  templates_read =
      reads_object SourceBack _
      (yields_line SourceBack (codes "source") source_form _ SourceIfThere tt template_back (λ source is.
      yields_end SourceBack _ (record { each = required_given source is })))

  template_read : (template : Template) → SourceBack template → template_form (single (codes "source") (template_tree template)) ≡ Ok template
  unfolding template_form
  template_read template back = rw (members_of-Object (member_tree (codes "source") (template_tree template) ∷ []), back) refl

  filled_clause : (template : Template) (t : Tree) → template_form t ≡ Ok template → role_clause_form (codes "template") t ≡ Ok (Filled template)
  unfolding role_clause_form
  filled_clause template t e = rw e refl

  filled_back : (t : Tree) (template : Template) → template_form t ≡ Ok template → role_object_form (role_query_tree (Filled template)) ≡ Ok (Filled template)
  filled_back t template e =
      let source = single (codes "source") (template_tree template) in
      object_from (single (codes "template") source) (Filled template) (record {
        member = member_tree (codes "template") source;
        members = members_of-Object (member_tree (codes "template") source ∷ []);
        is = filled_clause template source (template_read template (templates_read.each t template e));
      })

  -- ---- both

  object_back : (t : Tree) (found : RoleQuery) → Only role_clause_form t found → role_object_form (role_query_tree found) ≡ Ok found
  object_back t (Fixed q) o = fixed_back t q (record { member = o.member; members = o.members; is = clause_given o.member.name o.member.value (Fixed q) o.is })
  object_back t (Filled template) o = filled_back o.member.value template (clause_given o.member.name o.member.value (Filled template) o.is)

  pub role_query_reread : QueryBack
  role_query_reread t found e =
      let from = query_from t found e in
      object_read (role_query_tree found) found (object_back from.0 found (object_given from.0 found from.1))
