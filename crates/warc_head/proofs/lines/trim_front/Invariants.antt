use Rattle.warc_head.proofs.Words.{◌≡◌, length}
use Rattle.warc_head.specs.Lines.{trim_front}
use Rattle.warc_head.proofs.lines.trim_front.Given as goal

abbrev pub invariant-loop-first : goal.invariant-loop-first
invariant-loop-first l = trim_front l.text ≡ trim_front l.rest

abbrev pub decreases-loop-first : goal.decreases-loop-first
decreases-loop-first l = length l.rest
