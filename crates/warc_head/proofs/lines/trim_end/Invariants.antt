use Rattle.warc_head.proofs.Words.{◌≡◌, length}
use Rattle.warc_head.specs.Lines.{trim_end}
use Rattle.warc_head.proofs.lines.trim_end.Given as goal

abbrev pub invariant-loop-last : goal.invariant-loop-last
invariant-loop-last l = trim_end l.text ≡ trim_end l.rest

abbrev pub decreases-loop-last : goal.decreases-loop-last
decreases-loop-last l = length l.rest
