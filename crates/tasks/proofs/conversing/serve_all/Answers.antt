use Rattle.std.proofs.Common.{ℕ, ◌≡◌, ◌∙◌, List, Option, ap, arith, inl, map, subst}
use Rattle.std.proofs.lemmas.Grind.{common_steps}
use Rattle.tasks.specs.Queries.{AnswersLines}
use Rattle.tasks.proofs.conversing.serve_all.Goals as goal

pub returns-in-Ok-clause-answers : goal.returns-in-Ok-clause-answers
returns-in-Ok-clause-answers g c =
    let written = g.O.Output.written in
    let Answers : List (Option (List ℕ)) → Type 0 = λ told. AnswersLines told (g.I.Input.remaining c.args.input.now) (written c.args.out.now)
    (written c.serve.new.out) (c.serve.new.out ≡ c.args.out.now) c.answered_outcome.result in
    let answers : Answers (map (λ index. index.text) c.deref_mut.result.now) = grind (arith, common_steps) in
    inl (subst Answers (ap (map (λ index. index.text)) c.deref_mut.ensures.value ∙ c.in-Ok.ensures) answers)
