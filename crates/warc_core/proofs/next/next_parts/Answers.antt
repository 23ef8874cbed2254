use Rattle.warc_core.proofs.Words.{arith}
use Rattle.std.proofs.lemmas.Result.{err_from_is_err_and}
use Rattle.warc_core.proofs.NextLemmas.{head-unread, text-unread}
use Rattle.warc_core.proofs.PartsLemmas.{purely-found, read-ok}
use Rattle.warc_core.proofs.SpelledLemmas.{taken-head}
use Rattle.warc_core.proofs.next.next_parts.Goals as goal

pub returns-in_err-raw-in-None : goal.returns-in_err-raw-in-None
returns-in_err-raw-in-None g c = grind (arith, err_from_is_err_and, text-unread)

pub returns-in_err-read_parts-in-None : goal.returns-in_err-read_parts-in-None
returns-in_err-read_parts-in-None g c = grind (arith, err_from_is_err_and, purely-found, head-unread)

pub returns-in-Some : goal.returns-in-Some
returns-in-Some g c = grind (arith, taken-head)

pub returns-in_ok-read_parts-in-None : goal.returns-in_ok-read_parts-in-None
returns-in_ok-read_parts-in-None g c = grind (arith, read-ok)
