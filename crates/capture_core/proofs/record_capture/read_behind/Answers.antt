use Rattle.std.proofs.Common.{◌≡◌, ◌∙◌, ◌+◌, ◌-◌, ◌++◌, length, take, drop, ap, arith, length-drop}
use Rattle.std.proofs.lemmas.List.{length-take-le, take_all}
use borrow.Rule.Slice.PartMut.{put_mid}
use Rattle.warc_core.proofs.FillLemmas.{take-written}
use Rattle.capture_core.proofs.record_capture.read_behind.Goals as goal

pub returns : goal.returns
returns g c =
    let filled = c.args.filled in
    let goal_size = c.args.goal in
    let front = c.args.front.now in
    let piece = c.block_exact.new.piece in
    let size : length piece ≡ goal_size - filled = c.block_exact.auto.piece
    ∙ length-take-le (goal_size - filled) (drop filled front)
    (omega (arith, c.requires.order, c.requires.within, length-drop filled front)) in
    let end : goal_size ≡ filled + length piece = omega (arith, size, c.requires.order) in (
      piece,
      ap (λ n. take n (put_mid filled (goal_size - filled) front piece)) end
          ∙ (take-written filled (goal_size - filled) (length piece) front piece
          (omega (arith, c.requires.order, c.requires.within)) (omega arith)
          ∙ ap (λ t. take filled front ++ t) (take_all (length piece) piece (omega arith))),
      c.block_exact.ensures,
    )
