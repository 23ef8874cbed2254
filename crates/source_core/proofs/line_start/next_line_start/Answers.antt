use Rattle.source_core.proofs.Words.{ℕ, ◌+◌, ◌≡◌, ◌≤◌, AreBytesAt, List, Some, arith, common_steps, lines, longest}
use Rattle.source_core.proofs.Pieces.{IsPiece, begins_in, found_in, nowhere_in}
use Rattle.source_core.proofs.{LongestLines.gap_most, WindowLemmas.held_stands}
use Rattle.source_core.proofs.line_start.next_line_start.Goals.{After-min-count, After-min-most}
use Rattle.source_core.proofs.line_start.next_line_start.Goals as goal

-- what was looked through lies in one line
gap : (g : _) (c : After-min-most g) (t : List ℕ) → g.S.Source.text c.args.source.now ≡ Some t
    → c.loop-at.at + 1 ≤ c.args.from + longest (lines t)
gap g c t e =
    let inv = c.loop-at.invariant in let told = inv.told t e in
    gap_most t c.args.from c.loop-at.at (omega arith) (omega (arith, told.0, inv.within)) inv.low told.1

-- the window holds bytes of the source from here on
stands : (g : _) (c : After-min-count g)
    → AreBytesAt (g.S.Source.text c.hold.new.source) (g.S.Source.extent c.hold.new.source) c.loop-at.at
    c.from-held.result.now
stands g c = rw c.from-held.ensures (held_stands _ _ c.hold.new.self c.loop-at.at (grind arith)
    (omega (arith, c.in_ok-hold.ensures.source.0.1, c.loop-at.invariant.read.extent)))

-- and they are its text
piece : (g : _) (c : After-min-count g) (t : List ℕ) → g.S.Source.text c.args.source.now ≡ Some t
    → IsPiece t c.from-held.result.now (g.S.Source.extent c.args.source.now) c.loop-at.at c.min-count.result c.args.from
piece g c t e = let held = stands g c in grind (arith, common_steps)

pub returns-in_err-hold : goal.returns-in_err-hold
returns-in_err-hold g c = grind (arith, gap)

pub returns-in-Some-clause-gave : goal.returns-in-Some-clause-gave
returns-in-Some-clause-gave g c = grind (arith, gap)

pub returns-clause-gave : goal.returns-clause-gave
returns-clause-gave g c = λ t e.
    let told = c.loop-at.invariant.told t e in
    let most = gap_most t c.args.from c.loop-at.at (omega arith) (omega (arith, told.0)) (omega arith) told.1 in
    omega arith

pub returns-in-Some-clause-line : goal.returns-in-Some-clause-line
returns-in-Some-clause-line g c = λ t e.
    grind (arith, piece, begins_in, found_in)

pub loop-at-preserved : goal.loop-at-preserved
loop-at-preserved g c = grind (arith, nowhere_in, piece)
