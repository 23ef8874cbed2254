use Rattle.std.proofs.Common.{ℕ, ◌≡◌, ◌∙◌, List, Option, ap, arith, inl, map, subst}
use Rattle.std.proofs.lemmas.Grind.{common_steps}
use Rattle.tasks.specs.Queries.{AnswersPages}
use Rattle.tasks.proofs.queries.open_and_write_pages.Goals as goal

pub returns-in-Ok-clause-answers : goal.returns-in-Ok-clause-answers
returns-in-Ok-clause-answers g c =
    let written = g.O.Output.written in
    let text = g.F.Index.Source.text in
    let Answers : List (Option (List ℕ)) → Type 0 = λ told. AnswersPages c.args.query.now c.args.sizes.now told (written c.args.out.now)
    (written c.pages.new.out) (c.pages.new.out ≡ c.args.out.now) c.answered_outcome.result in
    let answers : Answers (map text c.deref_mut.result.now) = grind (arith, common_steps) in
    inl (subst Answers (ap (map text) c.deref_mut.ensures.value ∙ c.in-Ok.ensures) answers)
