use Rattle.merge_core.proofs.Words.{AllByRecursion, HasEntry, boxed_lines, take}
use Rattle.merge_core.proofs.sink.have_entries.Given as goal

abbrev pub invariant-loop-line : goal.invariant-loop-line
invariant-loop-line l = AllByRecursion HasEntry (boxed_lines (take l.line-index l.lines))
