use Rattle.merge_core.proofs.Words.{◌∷◌, ◌≡◌, boxed_lines, map, take}
use Rattle.merge_core.proofs.sink.references.Given as goal

abbrev pub invariant-loop-line : goal.invariant-loop-line
invariant-loop-line l = map (λ e. e.now) l.lines.items ≡ l.first ∷ boxed_lines (take l.line-index l.rest)
