use Rattle.std.proofs.Common.{ℕ, ◌≡◌, ◌∙◌, List, Option, ap, arith, inl, map, subst}
use Rattle.std.proofs.lemmas.Grind.{common_steps}
use Rattle.tasks.specs.Merging.{MergesIndexes}
use Rattle.tasks.proofs.merging.merge_all.Goals as goal

pub returns-in-Ok-clause-merges : goal.returns-in-Ok-clause-merges
returns-in-Ok-clause-merges g c =
    let written = g.O.Output.written in
    let text = g.F.Index.Source.text in
    let Merges : List (Option (List ℕ)) → Type 0 = λ told. MergesIndexes told (written c.args.out.now) (written c.merge.new.out)
    (c.merge.new.out ≡ c.args.out.now) c.answered_outcome.result in
    let merges : Merges (map text c.deref_mut.result.now) = grind (arith, common_steps) in
    inl (subst Merges (ap (map text) c.deref_mut.ensures.value ∙ c.in-Ok.ensures) merges)
