use Rattle.warc_core.proofs.Words.{length, arith, ap, length-take-le}
use Rattle.std.proofs.lemmas.List.{take-append-le, take_all}
use Rattle.std.proofs.lemmas.Result.{err_from_is_err_and}
use Rattle.warc_core.proofs.ReadingLemmas.{nil_of}
use Rattle.warc_core.proofs.HeadLemmas.{going-start, going-end, going-full}
use Rattle.warc_core.proofs.GatherLemmas.{head-piece, head-is-found, head-wrong, head-found}
use Rattle.warc_core.proofs.head_text.read_head_text.Goals as goal

pub loop-buffer-init : goal.loop-buffer-init
loop-buffer-init g c = grind (arith, going-start)

pub returns-in_err-fill : goal.returns-in_err-fill
returns-in_err-fill g c = grind (arith, err_from_is_err_and)

pub returns-then-is_empty : goal.returns-then-is_empty
returns-then-is_empty g c = grind (arith, nil_of, going-end)

pub returns-in_err-extend_from_slice : goal.returns-in_err-extend_from_slice
returns-in_err-extend_from_slice g c = grind (arith, err_from_is_err_and)

pub returns-then-not-has_version : goal.returns-then-not-has_version
returns-then-not-has_version g c = grind (arith, head-wrong)

pub returns-in-Some-clause-bytes : goal.returns-in-Some-clause-bytes
returns-in-Some-clause-bytes g c = grind (arith, head-found)

pub returns-in-Some-clause-found : goal.returns-in-Some-clause-found
returns-in-Some-clause-found g c =
    let held = ap length c.as_slice-held.ensures in
    rw c.truncate.ensures.items
    (head-is-found c.args.limit c.loop-buffer.head.items c.fill.new.self _
    c.min-count.result c.in-Some.end (omega arith) (grind arith) c.loop-buffer.invariant.open_so_far (grind arith)
    (grind arith) (grind arith))

pub loop-buffer-preserved : goal.loop-buffer-preserved
loop-buffer-preserved g c =
    grind (
      arith,
      length-take-le,
      take_all (length c.extend_from_slice.new.self.items)
          c.extend_from_slice.new.self.items (omega arith),
      take-append-le,
      head-piece,
    )

pub returns : goal.returns
returns g c = grind (arith, going-full)

pub consume-requires : goal.consume-requires
consume-requires g c = grind (arith, length-take-le)

pub consume-requires-in-None : goal.consume-requires-in-None
consume-requires-in-None g c = grind arith

pub loop-buffer-smaller : goal.loop-buffer-smaller
loop-buffer-smaller g c = grind (arith, length-take-le)
