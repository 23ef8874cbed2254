use Rattle.index_core.proofs.Words.{arith, err_from_is_err_and}
use Rattle.index_core.proofs.CopyLemmas.{closing_cut, finish_stop, record_copied}
use Rattle.index_core.proofs.OneRecordTexts.{closing_part, record_whole, stopped_part}
use Rattle.index_core.proofs.copying.copy_record.Goals as goal

pub returns-in_err-length-clause-copies : goal.returns-in_err-length-clause-copies
returns-in_err-length-clause-copies g c =
    let stopped = finish_stop c.args.head.now _ _ _ _ _ c.in_ok-copy_head_and_block.ensures.copies _ _
    c.in_err-length.ensures.open in
    grind (arith, err_from_is_err_and)

pub returns-in_err-put_bytes-clause-copies : goal.returns-in_err-put_bytes-clause-copies
returns-in_err-put_bytes-clause-copies g c =
    let e = c.in_err-put_bytes.ensures in
    let cut = closing_cut c.args.head.now _ _ _ _ c.in_ok-copy_head_and_block.ensures.copies _ _ c.in_ok-length.length
    c.in_ok-length.ensures.open c.in_err-put_bytes.field-0.0 e.refusal e.bytes in
    grind (arith, err_from_is_err_and)

pub returns-clause-copies : goal.returns-clause-copies
returns-clause-copies g c =
    record_copied c.args.head.now _ _ _ _ c.in_ok-copy_head_and_block.ensures.copies _ _ c.in_ok-length.length
    c.in_ok-length.ensures.open c.in_ok-put_bytes.ensures.bytes

pub returns-in_err-length-clause-record : goal.returns-in_err-length-clause-record
returns-in_err-length-clause-record g c =
    let copied = c.in_ok-copy_head_and_block.ensures in
    let part = stopped_part c.args.head.now copied.said _ _ _ _ 0 copied.copies in
    grind (arith, err_from_is_err_and)

pub returns-in_err-put_bytes-clause-record : goal.returns-in_err-put_bytes-clause-record
returns-in_err-put_bytes-clause-record g c =
    let copied = c.in_ok-copy_head_and_block.ensures in
    let part = closing_part c.args.head.now copied.said _ _ _ _ copied.copies _ c.in_err-put_bytes.ensures.bytes in
    grind (arith, err_from_is_err_and)

pub returns-clause-record : goal.returns-clause-record
returns-clause-record g c =
    let copied = c.in_ok-copy_head_and_block.ensures in
    let stands = rw copied.copies.stands.phase_is at c.in_ok-length.ensures.open in
    record_whole c.args.head.now copied.said _ _ _ _ copied.copies c.in_ok-length.length _ stands.state.0
    c.in_ok-put_bytes.ensures.bytes
