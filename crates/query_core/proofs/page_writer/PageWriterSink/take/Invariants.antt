use Rattle.query_core.proofs.Words.{ℕ, ◌++◌, ◌≡◌, Grows, List, Member, Option, PageWriter, Wrote, map, take}
use Rattle.query_core.proofs.page_writer.PageWriterSink.take.Given as goal

abbrev pub invariant-loop-line : goal.invariant-loop-line
invariant-loop-line g l = record {
  wrote : (first : PageWriter) (taken : List Member) (start : Option (List ℕ))
      → Wrote first l.fn.self taken start (g.O.Output.written l.fn.out)
      → Wrote first l.self (taken ++ map (λ line. line.now) (take l.line-index l.lines)) start
      (g.O.Output.written l.out);
  grows : Grows (g.O.Output.written l.fn.out) (g.O.Output.written l.out);
  failures : g.O.Output.failures l.out ≡ g.O.Output.failures l.fn.out;
}
