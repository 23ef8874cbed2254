use Rattle.warc_core.proofs.Words.{arith}
use Rattle.std.proofs.lemmas.Result.{err_from_is_err_and}
use Rattle.warc_core.proofs.VerdictLemmas.{judge-read, judge-stopped, digest-then, digest-stopped, compare-unclosed}
use Rattle.warc_core.proofs.block_check.compare.Goals as goal

pub returns-in_err-digest : goal.returns-in_err-digest
returns-in_err-digest g c = grind (arith, err_from_is_err_and, judge-stopped, digest-stopped)

pub returns-in_err-finish : goal.returns-in_err-finish
returns-in_err-finish g c = grind (arith, err_from_is_err_and, compare-unclosed)

pub returns : goal.returns
returns g c = grind (arith, judge-read, digest-then)
