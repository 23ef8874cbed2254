use Rattle.query_core.proofs.Words.{[], arith, err_from_is_err_and, wrote_nothing}
use Rattle.merge_core.proofs.CollectedLemmas.{of_lines}
use Rattle.query_core.proofs.merging.merge.Goals as goal

pub returns-then-sources-gt-SOURCES_LIMIT-clause-merged : goal.returns-then-sources-gt-SOURCES_LIMIT-clause-merged
returns-then-sources-gt-SOURCES_LIMIT-clause-merged g c =
    of_lines [] (grind arith) (wrote_nothing _ []) (λ texts indexes known are. wrote_nothing _ _)

pub returns-in_err-merged-clause-merged : goal.returns-in_err-merged-clause-merged
returns-in_err-merged-clause-merged g c =
    rw (err_from_is_err_and c.from_residual.result c.from_residual.ensures.1).1 c.in_err-merged.ensures.merged
