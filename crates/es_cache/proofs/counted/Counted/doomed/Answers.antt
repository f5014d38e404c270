use Rattle.std.proofs.Common.{◌∷◌, ◌++◌, [], refl, ap, ◌∙◌, append-nil}
use Rattle.std.proofs.lemmas.Fn.{says_at}
use Rattle.std.specs.Map.{keys_of}
use Rattle.es_cache.specs.KeyTests.{AnswersAt}
use Rattle.es_cache.proofs.Selecting.{IsFiltered-nil, kept_one, passed_one}
use Rattle.es_cache.proofs.counted.Counted.doomed.Goals as goal

pub loop-key-preserved-in_ok-push : goal.loop-key-preserved-in_ok-push
loop-key-preserved-in_ok-push g c =
    kept_one (AnswersAt g.F.Fn) c.args.test (keys_of c.args.self.now.entries) c.loop-key.keys.items c.in-Some.key.now (keys_of c.loop-key.key-iterator) (keys_of c.next.new.self) (ap keys_of c.in-Some.ensures.steps) c.loop-key.invariant
    c.push.new.self.items (c.in_ok-push.ensures.items ∙ ap (λ k. c.loop-key.keys.items ++ k ∷ []) c.in_ok-share.ensures) (says_at g.F.Fn c.test.ensures c.if-test.true, refl)

pub loop-key-preserved : goal.loop-key-preserved
loop-key-preserved g c =
    passed_one (AnswersAt g.F.Fn) c.args.test (keys_of c.args.self.now.entries) c.loop-key.keys.items c.in-Some.key.now (keys_of c.loop-key.key-iterator) (keys_of c.next.new.self) (ap keys_of c.in-Some.ensures.steps) c.loop-key.invariant
    (says_at g.F.Fn c.test.ensures c.if-test.false, refl)

pub returns : goal.returns
returns g c = rw (c.from_vec.ensures, ← append-nil c.loop-key.keys.items) (c.loop-key.invariant [] (rw (c.in-None.ensures.steps.0) (IsFiltered-nil (AnswersAt g.F.Fn) c.args.test)))
