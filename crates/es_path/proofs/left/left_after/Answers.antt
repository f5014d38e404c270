use Rattle.std.proofs.Common.{◌≡◌, ◌≢◌, [], ◌∷◌, length, Some, None, option_map, sym, ap, ◌∙◌}
use Rattle.std.specs.Prelude.{◌==◌}
use Rattle.std.proofs.lemmas.Bool.{false≢true}
use Rattle.std.proofs.lemmas.Bool.Decides.{Decides-eqb}
use Rattle.std.proofs.lemmas.List.{nil_from_length}
use Rattle.std.proofs.lemmas.Slice.Eq.{strip_prefix_is}
use Rattle.es_path.specs.Reached.{left_of}
use Rattle.es_path.proofs.Reaching.{dot_end, dot_more, no_dot}
use Rattle.es_path.proofs.left.left_after.Goals as goal

pub returns-then-is_empty : goal.returns-then-is_empty
returns-then-is_empty c =
    let rest = c.args.rest.now in
    let empty : rest ≡ [] = nil_from_length rest ((Decides-eqb (length rest) 0).0 (sym c.if-is_empty.ensures)) in
    sym (dot_end rest empty)

pub returns-in_err-names : goal.returns-in_err-names
returns-in_err-names c =
    let rest = c.args.rest.now in
    let more : rest ≢ [] = λ e. false≢true (c.if-is_empty.ensures ∙ ap (λ l. length l == 0) e) in
    let apart = strip_prefix_is Decides-eqb rest (46 ∷ []) None c.in_err-names.ensures.cases in
    ap (option_map left_of) c.from_residual.ensures ∙ sym (no_dot rest more apart)

pub returns : goal.returns
returns c =
    let rest = c.args.rest.now in
    let dot = strip_prefix_is Decides-eqb rest (46 ∷ []) (Some c.in_ok-names.names) c.in_ok-names.ensures.cases in
    sym (dot_more rest c.in_ok-names.names.now dot)
