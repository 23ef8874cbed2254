use Rattle.index_core.proofs.Words.{arith, err_from_is_err_and}
use Rattle.devices.proofs.WritingLemmas.{wrote_nothing}
use Rattle.index_core.proofs.FetchLemmas.{fetched}
use Rattle.index_core.proofs.fetching.get_plain.Goals as goal

pub returns-then-branch-clause-fetches : goal.returns-then-branch-clause-fetches
returns-then-branch-clause-fetches g c = grind (arith, fetched)

pub returns-in_err-reach : goal.returns-in_err-reach
returns-in_err-reach g c = grind (arith, err_from_is_err_and, wrote_nothing)
