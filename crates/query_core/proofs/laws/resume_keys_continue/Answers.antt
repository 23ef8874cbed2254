use Rattle.query_core.proofs.Words.{member_place, resume_text}
use Rattle.query_text.specs.Resuming.{text_with_key}
use Rattle.query_core.proofs.laws.resume_keys_continue.Goals as goal

pub returns : goal.returns
returns c = λ text query page meaning ended short.
    let place = member_place ended.last in
    let key = resume_text place in
    let law = c.resume_key_is_put_into_query.ensures in
    law.meaning _ text (text_with_key key text) key query place meaning ended.read short (law.pieces text place)
