use Rattle.index_core.proofs.Words.{[], append-nil, refl, arith, err_from_is_err_and}
use Rattle.warc_core.proofs.FillLemmas.{Consumes-none}
use Rattle.index_core.proofs.CopyLemmas.{copied_more, head_cut, piece_cut, piece_stop}
use Rattle.index_core.proofs.OneRecordTexts.{head_part, piece_part, stopped_part}
use Rattle.index_core.proofs.copying.copy_head_and_block.Goals as goal

pub returns-in_err-put_bytes-clause-copies : goal.returns-in_err-put_bytes-clause-copies
returns-in_err-put_bytes-clause-copies g c = grind (arith, err_from_is_err_and, head_cut)

pub returns-in_err-put_bytes-clause-part : goal.returns-in_err-put_bytes-clause-part
returns-in_err-put_bytes-clause-part g c =
    let p = err_from_is_err_and c.from_residual.result c.from_residual.ensures.1 in
    rw p.1 (head_part c.args.head.now c.raw.ensures.said _ _ (rw c.raw.ensures.value at c.in_err-put_bytes.ensures.bytes))

pub returns-in_err-put_bytes-2-clause-part : goal.returns-in_err-put_bytes-2-clause-part
returns-in_err-put_bytes-2-clause-part g c =
    let p = err_from_is_err_and c.from_residual-in_err-put_bytes-2.result
    c.from_residual-in_err-put_bytes-2.ensures.1 in
    rw p.1 (piece_part c.args.head.now c.raw.ensures.said _ _ _ _ _ c.in_ok-count.count c.block.new.piece _ _
    c.loop-count.invariant.copied c.in_ok-count.ensures.open c.in_err-put_bytes-2.ensures.bytes)

pub returns-in_err-count-clause-part : goal.returns-in_err-count-clause-part
returns-in_err-count-clause-part g c =
    let p = err_from_is_err_and c.from_residual-in_err-count.result c.from_residual-in_err-count.ensures.1 in
    rw p.1 (stopped_part c.args.head.now c.raw.ensures.said _ _ _ _ _ c.loop-count.invariant.copied)

pub returns-in_err-put_bytes-2-clause-copies : goal.returns-in_err-put_bytes-2-clause-copies
returns-in_err-put_bytes-2-clause-copies g c =
    let p = err_from_is_err_and c.from_residual-in_err-put_bytes-2.result
    c.from_residual-in_err-put_bytes-2.ensures.1 in
    let e = c.in_err-put_bytes-2.ensures in
    rw (p.1, p.2) (piece_cut c.args.head.now _ _ _ _ _ c.loop-count.invariant.copied c.in_err-put_bytes-2.field-0.0
    c.in_ok-count.count c.block.new.piece _ _ _ e.refusal c.in_ok-count.ensures.open e.bytes)

pub returns-in_err-count-clause-copies : goal.returns-in_err-count-clause-copies
returns-in_err-count-clause-copies g c =
    let p = err_from_is_err_and c.from_residual-in_err-count.result c.from_residual-in_err-count.ensures.1 in
    rw (p.1, p.2) (piece_stop c.args.head.now _ _ _ _ _ c.loop-count.invariant.copied c.in_err-count.field-0.0
    c.block.new.piece _ _ c.in_err-count.ensures.open)

pub loop-count-preserved : goal.loop-count-preserved
loop-count-preserved g c = record {
  copied = copied_more c.args.head.now _ _ _ _ _ c.loop-count.invariant.copied c.in_ok-count.count c.block.new.piece _ _
      c.in_ok-count.ensures.open c.in_ok-put_bytes-2.ensures.bytes;
  reads = grind arith;
  writes = grind arith;
}

pub loop-count-init : goal.loop-count-init
loop-count-init g c = record {
  copied = rw c.requires.phase_is (record {
    front = [];
    whole = omega arith;
    given = Consumes-none _;
    stands = grind arith;
    grown = rw append-nil (rw c.raw.ensures.value at c.in_ok-put_bytes.ensures.bytes);
  });
  reads = refl;
  writes = c.in_ok-put_bytes.ensures.failures;
}
