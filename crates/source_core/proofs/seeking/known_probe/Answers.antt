use Rattle.source_core.proofs.Words.{LINE_LIMIT, arith, pair_view, refl}
use Rattle.source_core.proofs.FrontLemmas.{decided_at}
use Rattle.source_core.proofs.seeking.known_probe.Goals as goal

pub returns-clause-stops : goal.returns-clause-stops
returns-clause-stops g c = λ t e.
    let line = c.in_ok-offset.ensures in let reads = line.front t e in
    rw (← (line.begins t e).0) (decided_at LINE_LIMIT (pair_view c.args.start) t c.in_ok-offset.offset
    c.in_ok-offset.front.now c.in_ok-offset.front.now reads.0 c.in_ok-below.below refl reads.1
    (omega (arith, line.short)) c.in_ok-below.ensures)
