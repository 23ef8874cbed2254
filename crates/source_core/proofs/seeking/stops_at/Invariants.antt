use Rattle.source_core.proofs.Words.{ℕ, ◌+◌, ◌-◌, ◌≡◌, ◌≤◌, LINE_LIMIT, List, ReadsOn, Some, false, length, lines}
use Rattle.source_core.proofs.Words.{longest}
use Rattle.source_core.proofs.WindowLemmas.{HasRead}
use Rattle.source_core.proofs.seeking.stops_at.Given as goal

abbrev pub invariant-fronts : goal.invariant-fronts
invariant-fronts g l = record {
  read : HasRead g.S.Source l.fn.source l.source l.window;
  gave : l.ends ≡ false → g.S.Source.gave l.source ≤ g.S.Source.gave l.fn.source + length l.front.items;
  bound : g.S.Source.gave l.source ≤ g.S.Source.gave l.fn.source + LINE_LIMIT;
  paid : (t : List ℕ) → g.S.Source.text l.fn.source ≡ Some t
      → g.S.Source.gave l.source ≤ g.S.Source.gave l.fn.source + longest (lines t) + 512;
  size : l.size ≡ g.S.Source.extent l.fn.source;
  within : l.offset + length l.front.items ≤ l.size;
  short : length l.front.items ≤ LINE_LIMIT;
  long : (t : List ℕ) → g.S.Source.text l.fn.source ≡ Some t → length t ≡ l.size;
  told : (t : List ℕ) → g.S.Source.text l.fn.source ≡ Some t → ReadsOn t l.offset l.front.items l.ends;
}

abbrev pub decreases-fronts : goal.decreases-fronts
decreases-fronts g l = l.size - (l.offset + length l.front.items)
