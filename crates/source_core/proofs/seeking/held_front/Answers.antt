use Rattle.source_core.proofs.Words.{[], ◌+◌, ◌≡◌, AreBytesAt, arith, length-take, rules}
use Rattle.source_core.proofs.WindowLemmas.{held_reads, held_stands, nothing_read}
use Rattle.source_core.proofs.seeking.held_front.Goals as goal

pub returns : goal.returns
returns c = λ text extent holds inside.
    let part = c.line_part-length.ensures in
    let none : c.args.offset + 0 ≡ c.args.offset = omega arith in
    let held : AreBytesAt text extent c.args.offset c.from-held.result.now = rw c.from-held.ensures
    (held_stands _ _ _ _ holds inside) in
    let stands : AreBytesAt text extent (c.args.offset + 0) c.from-held.result.now = rw none held in
    record {
      within = grind (arith, length-take);
      short = grind (arith, length-take);
      reads = λ t e. held_reads _ _ c.args.offset _ [] _ c.extend_from_slice.new.self.items t _ stands e
          part.within (search rules) part.part (nothing_read t c.args.offset);
    }
