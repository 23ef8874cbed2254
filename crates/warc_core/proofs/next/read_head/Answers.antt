use Rattle.warc_core.proofs.Words.{arith, HEAD_LIMIT}
use Rattle.warc_core.proofs.HeadTextLemmas.{found-spelled}
use Rattle.warc_core.proofs.NextLemmas.{head-far, head-read}
use Rattle.warc_core.proofs.next.read_head.Goals as goal

pub returns-then-end-gt-GREATEST_OFFSET-clause-bytes : goal.returns-then-end-gt-GREATEST_OFFSET-clause-bytes
returns-then-end-gt-GREATEST_OFFSET-clause-bytes g c = grind (arith, head-far)

pub returns-clause-bytes : goal.returns-clause-bytes
returns-clause-bytes g c =
    grind (arith, head-read)

pub from_parts-requires : goal.from_parts-requires
from_parts-requires g c = record {
  is_text = found-spelled HEAD_LIMIT _ _ c.in_ok-parts.ensures.head c.in_ok-parts.ensures.says;
  fits = grind arith;
}
