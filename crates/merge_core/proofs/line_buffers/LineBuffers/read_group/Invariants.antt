use Rattle.merge_core.proofs.Words.{[], ℕ, ◌++◌, ◌-◌, ◌≡◌, ◌≤◌, Alike, AllByRecursion, EndsAt, IsInput, List, Member}
use Rattle.merge_core.proofs.Words.{Moved, Some, boxed_lines, given, input_of, member_pair}
use Rattle.merge_core.proofs.line_buffers.LineBuffers.read_group.Given as goal

abbrev pub invariant-loop-line : goal.invariant-loop-line
invariant-loop-line g l = record {
  moved : Moved g.S.Source l.fn.source l.source l.fn.cursor l.cursor;
  failures : g.S.Source.failures l.source ≡ g.S.Source.failures l.fn.source;
  there : l.fn.cursor.at ≤ l.cursor.at;
  input : IsInput (g.R.Range.past l.range) (g.S.Source.text l.source) (g.S.Source.extent l.source)
      (input_of l.cursor []);
  begin : l.begin ≡ l.cursor.at;
  last : (t : List ℕ) → g.S.Source.text l.fn.source ≡ Some t
      → EndsAt (g.R.Range.past l.range) (member_pair l.first) (given t l.cursor);
  taken : (taken : List Member) × (boxed_lines l.rest.items ≡ boxed_lines l.fn.rest.items ++ taken)
      × AllByRecursion (λ m. Alike (member_pair m) (member_pair l.first)) taken
      × ((t : List ℕ) → g.S.Source.text l.fn.source ≡ Some t → given t l.cursor ≡ given t l.fn.cursor ++ taken);
}

abbrev pub decreases-loop-line : goal.decreases-loop-line
decreases-loop-line g l = g.S.Source.extent l.source - l.cursor.at
