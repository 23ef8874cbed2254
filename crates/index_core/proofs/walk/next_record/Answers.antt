use Rattle.index_core.proofs.Words.{arith, err_from_is_err_and, record-stopped}
use Rattle.index_core.proofs.Words.{record-unclosed, record-whole}
use Rattle.warc_core.proofs.WalkLemmas.{record-end}
use Rattle.index_core.proofs.walk.next_record.Goals as goal

pub returns-in_err-next : goal.returns-in_err-next
returns-in_err-next g c = grind (arith, err_from_is_err_and, record-stopped)

pub returns-in_err-finish-in-Some : goal.returns-in_err-finish-in-Some
returns-in_err-finish-in-Some g c = grind (arith, err_from_is_err_and, record-unclosed)

pub returns-in-None-clause-bytes : goal.returns-in-None-clause-bytes
returns-in-None-clause-bytes g c = grind (arith, record-end)

pub returns-in_ok-finish-in-Some : goal.returns-in_ok-finish-in-Some
returns-in_ok-finish-in-Some g c = grind (arith, record-whole)
