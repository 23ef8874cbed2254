use Rattle.door_examples.proofs.AnsweredQueries.{queries_have_pages}
use Rattle.door_examples.proofs.witnesses.queries_have_pages.Goals as goal

pub returns : goal.returns
returns c = queries_have_pages
