use Rattle.merge_core.proofs.Words.{◌∙◌, ap}
use Rattle.merge_core.proofs.PairOrder.{are_bytes, padded_long}
use Rattle.cdxj_places.specs.Abbreviated.{words}
use Rattle.merge_core.proofs.pair_start.start_of.Goals as goal

pub returns-in-Some-clause-words : goal.returns-in-Some-clause-words
returns-in-Some-clause-words c =
    let chunk = c.in-Some.ensures.cases in
    c.words_of.ensures ∙ ap (words 16) (chunk.same ∙ padded_long 32 c.args.bytes.now chunk.enough)

pub returns-in-Some-clause-bytes : goal.returns-in-Some-clause-bytes
returns-in-Some-clause-bytes c = are_bytes c.args.bytes.now c.type_inv.bytes

pub returns-in-None-clause-bytes : goal.returns-in-None-clause-bytes
returns-in-None-clause-bytes c = are_bytes c.args.bytes.now c.type_inv.bytes
