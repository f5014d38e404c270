use Rattle.std.proofs.Common.{take, ap, ◌∙◌, arith}
use Rattle.std.specs.Char.{is_ascii_digit}
use Rattle.std.proofs.lemmas.List.Sums.{prefix_len-le-length}
use Rattle.es_request.proofs.Digits.{digits_front}
use Rattle.es_request.proofs.durations.cut.Goals as goal

pub split_at-requires : goal.split_at-requires
split_at-requires c = let bound = prefix_len-le-length is_ascii_digit c.args.text.now in let is = c.digits_in.ensures in omega arith

pub returns-clause-are_digits : goal.returns-clause-are_digits
returns-clause-are_digits c = digits_front c.args.text.now c.split_at.result.0.now (c.split_at.ensures.front ∙ ap (λ n. take n c.args.text.now) c.digits_in.ensures)
