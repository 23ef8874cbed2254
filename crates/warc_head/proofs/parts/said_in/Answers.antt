use Rattle.warc_head.proofs.Words.{arith}
use Rattle.warc_head.specs.Parts.{parts_in, length_in, stamp_in, kind_in}
use Rattle.warc_head.proofs.parts.said_in.Goals as goal

pub returns-in_err-length-clause-answer : goal.returns-in_err-length-clause-answer
unfolding parts_in length_in
returns-in_err-length-clause-answer c = grind arith

pub returns-in_err-stamp-clause-answer : goal.returns-in_err-stamp-clause-answer
unfolding parts_in length_in stamp_in
returns-in_err-stamp-clause-answer c = grind arith

pub returns-clause-answer : goal.returns-clause-answer
unfolding parts_in length_in stamp_in kind_in
returns-clause-answer c = grind arith
