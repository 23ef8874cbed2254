use Rattle.source_core.proofs.Words.{ℕ, ◌+◌, ◌-◌, ◌≡◌, ◌≤◌, BeginsWith, List, Some, length}
use Rattle.source_core.proofs.WindowLemmas.{HasRead}
use Rattle.source_core.proofs.seeking.read_to.Given as goal

abbrev pub invariant-loop-front : goal.invariant-loop-front
invariant-loop-front g l = record {
  read : HasRead g.S.Source l.fn.source l.source l.window;
  gave : g.S.Source.gave l.source + length l.fn.front.items ≤ g.S.Source.gave l.fn.source + length l.front.items;
  size : l.size ≡ g.S.Source.extent l.fn.source;
  within : l.offset + length l.front.items ≤ l.size;
  short : length l.front.items ≤ l.wanted;
  grown : length l.fn.front.items ≤ length l.front.items;
  told : (t : List ℕ) → g.S.Source.text l.fn.source ≡ Some t → BeginsWith t l.offset l.fn.front.items
      → BeginsWith t l.offset l.front.items;
}

abbrev pub decreases-loop-front : goal.decreases-loop-front
decreases-loop-front g l = l.size - (l.offset + length l.front.items)
