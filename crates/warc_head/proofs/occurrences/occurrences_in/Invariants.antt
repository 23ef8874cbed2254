use Rattle.warc_head.proofs.Words.{take, fields_at}
use Rattle.warc_head.specs.Mandatory.{AllOccur}
use Rattle.warc_head.proofs.occurrences.occurrences_in.Given as goal

abbrev pub invariant-loop-span : goal.invariant-loop-span
invariant-loop-span l = AllOccur l.text (fields_at l.text (take l.span-index l.spans)) l.found
