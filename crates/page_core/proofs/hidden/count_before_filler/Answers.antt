use Rattle.std.proofs.Common.{◌∙◌, ◌+◌, ◌-◌, drop, ap, arith}
use Rattle.std.specs.List.{count_by}
use Rattle.std.proofs.lemmas.List.Sums.{count_by-le-length, sum_by-append}
use Rattle.std.proofs.lemmas.List.{drop-drop}
use Rattle.std.proofs.lemmas.Simd.{chunk-drop, length-chunk}
use lib.Lanes.{chunk}
use Rattle.page_core.specs.Rows.{is_hidden}
use Rattle.page_core.proofs.HiddenLemmas.{none_left}
use Rattle.page_core.proofs.hidden.count_before_filler.Goals as goal

pub overflow_add-count : goal.overflow_add-count
overflow_add-count c = grind (arith, count_by-le-length)

pub by_lanes-preserved : goal.by_lanes-preserved
by_lanes-preserved c =
    let bytes = c.args.bytes.now in
    let end = c.by_lanes.end in
    let lanes = chunk end 16 bytes in
    let few = count_by-le-length is_hidden lanes in
    let cut = ap (count_by is_hidden) (chunk-drop end 16 bytes) ∙
    sum_by-append _ lanes (drop (end + 16) bytes) in grind (arith, length-chunk)

pub returns : goal.returns
returns c =
    let bytes = c.args.bytes.now in
    let size = c.args.size in
    let behind = drop-drop (c.by_lanes.end - size) size bytes in
    let none = none_left is_hidden (c.by_lanes.end - size) (drop size bytes) c.requires.filler in
    grind arith
