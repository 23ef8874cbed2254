use Rattle.query_core.proofs.Words.{◌+◌, ◌-◌, ◌<◌, ◌^◌, ◌≡◌, ◌≤◌, CountsTaken, IsTextReply, KeepsSources}
use Rattle.query_core.proofs.Words.{QUERY_LIMIT, map, prepend_known}
use Rattle.query_core.proofs.ReplyLemmas.{Spent}
use Rattle.query_core.proofs.serving.serve.Given as goal

abbrev pub invariant-loop-lines : goal.invariant-loop-lines
invariant-loop-lines g l = record {
  kept : KeepsSources g.S.Source l.fn.sources l.sources;
  counts : (map g.S.Source.failures l.sources ≡ map g.S.Source.failures l.fn.sources)
      × (g.O.Output.failures l.out ≡ g.O.Output.failures l.fn.out)
      × (g.I.Input.failures l.input ≡ g.I.Input.failures l.fn.input);
  most : l.lines.most ≡ QUERY_LIMIT + 2;
  taken : CountsTaken (g.I.Input.remaining l.fn.input) (prepend_known l.lines.buffer (g.I.Input.remaining l.input)) 0
      l.lines.taken;
  within : l.lines.taken < 2 ^ 63 - 1;
  fits : l.count ≤ l.lines.taken;
  spent : Spent g.S.Source QUERY_LIMIT (IsTextReply (map g.S.Source.text l.fn.sources)) (g.I.Input.remaining l.fn.input)
      (prepend_known l.lines.buffer (g.I.Input.remaining l.input)) l.count (g.O.Output.written l.fn.out)
      (g.O.Output.written l.out) l.fn.sources l.sources;
}

abbrev pub decreases-loop-lines : goal.decreases-loop-lines
decreases-loop-lines g l = 2 ^ 63 - l.lines.taken
