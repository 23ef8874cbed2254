use Rattle.door_examples.proofs.queries.page.Goals as goal

pub returns : goal.returns
returns g c = record {
  page = λ texts indexes known are.
      (let page = c.answer.ensures.page in rw (← page.whole texts indexes known are) page.holds);
}
