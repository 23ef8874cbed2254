use Rattle.merge_core.proofs.Words.{ℕ, ◌++◌, ◌-◌, ◌^◌, ◌≡◌, Appends, Grows, List, Member, Option, length, lines_text}
use Rattle.merge_core.proofs.Words.{map, min, take}
use Rattle.merge_core.proofs.line_writer.LineWriterSink.take.Given as goal

abbrev Wrote : ℕ → List Member → Option (List ℕ) → Option (List ℕ) → Type 0
Wrote count taken start now = Appends start now (lines_text taken) × (count ≡ min (length taken) (2 ^ 64 - 1))

abbrev pub invariant-loop-line : goal.invariant-loop-line
invariant-loop-line g l = record {
  wrote : (taken : List Member) (start : Option (List ℕ))
      → Wrote l.fn.self.count taken start (g.O.Output.written l.fn.out)
      → Wrote l.self.count (taken ++ map (λ line. line.now) (take l.line-index l.lines)) start
      (g.O.Output.written l.out);
  grows : Grows (g.O.Output.written l.fn.out) (g.O.Output.written l.out);
  failures : g.O.Output.failures l.out ≡ g.O.Output.failures l.fn.out;
}
