use Rattle.query_core.proofs.Words.{◌∙◌, arith, err_from_is_err_and, refl}
use Rattle.devices.proofs.Takings.{taken-join}
use Rattle.query_core.proofs.ReplyLemmas.{input_stops, line_none, line_within, nothing_spent, replied_front, replied_taken}
use Rattle.query_core.proofs.ReplyLemmas.{serve_rules, spent_more, spent_none, spent_stop, spent_within}
use Rattle.query_core.proofs.serving.serve.Goals as goal

-- ---- nothing is read

pub returns-then-sources-gt-SOURCES_LIMIT-clause-bytes : goal.returns-then-sources-gt-SOURCES_LIMIT-clause-bytes
returns-then-sources-gt-SOURCES_LIMIT-clause-bytes g c = nothing_spent g.S.Source _ _ _ _ _

pub returns-in_err-lines-clause-bytes : goal.returns-in_err-lines-clause-bytes
returns-in_err-lines-clause-bytes g c = nothing_spent g.S.Source _ _ _ _ _

-- ---- a line isn't read

pub returns-in_err-next-clause-refused : goal.returns-in_err-next-clause-refused
returns-in_err-next-clause-refused g c = grind (arith, serve_rules)

pub returns-in_err-next-clause-bytes : goal.returns-in_err-next-clause-bytes
returns-in_err-next-clause-bytes g c = spent_stop c.loop-lines.invariant.spent

pub returns-in_err-next-clause-conversation : goal.returns-in_err-next-clause-conversation
returns-in_err-next-clause-conversation g c =
    rw (err_from_is_err_and c.from_residual-in_err-next.result c.from_residual-in_err-next.ensures.1).1
    (replied_front c.loop-lines.invariant.spent.so_far)

pub returns-in_err-next-clause-taken : goal.returns-in_err-next-clause-taken
returns-in_err-next-clause-taken g c = λ e.
    let failed = c.in_err-next.ensures in let inv = c.loop-lines.invariant in
    replied_taken inv.spent.so_far _ _ inv.taken
    (input_stops _ _ _ _ _ _ _ c.from_residual-in_err-next.ensures.1 e failed.stopped failed.failures)

-- ---- a reply ends in a fault

pub returns-in_err-reply_and_mark-clause-conversation : goal.returns-in_err-reply_and_mark-clause-conversation
returns-in_err-reply_and_mark-clause-conversation g c =
    let inv = c.loop-lines.invariant in
    let there = rw (inv.most, c.if-branch.true) at c.in_ok-next.ensures.line in
    rw (err_from_is_err_and c.from_residual-in_err-reply_and_mark.result
    c.from_residual-in_err-reply_and_mark.ensures.1).1
    (line_within inv.spent.so_far _ _ _ there (rw (c.line.ensures, inv.kept.0) at c.in_err-reply_and_mark.ensures.reply))

pub returns-in_err-reply_and_mark-clause-bytes : goal.returns-in_err-reply_and_mark-clause-bytes
returns-in_err-reply_and_mark-clause-bytes g c =
    let inv = c.loop-lines.invariant in let marked = c.in_err-reply_and_mark.ensures in
    let there = rw (inv.most, c.if-branch.true) at c.in_ok-next.ensures.line in
    spent_within inv.spent _ _ _ c.reply_and_mark.new.sources there inv.kept.1
    (λ texts indexes known are. rw c.line.ensures at (marked.bytes texts indexes (rw inv.kept.0 known) are))
    (marked.reply.0, marked.reply.2)

-- ---- a reply more

pub loop-lines-init : goal.loop-lines-init
loop-lines-init g c =
    let new = c.in_ok-lines.ensures in
    record {
      kept = (refl, refl);
      counts = (refl, refl, refl);
      most = new.2;
      taken = grind arith;
      within = omega (arith, new.1);
      fits = omega arith;
      spent = spent_none g.S.Source _ _ _ _ _ _ new.0;
    }

pub loop-lines-preserved : goal.loop-lines-preserved
loop-lines-preserved g c =
    let inv = c.loop-lines.invariant in let read = c.in_ok-next.ensures in
    let marked = c.in_ok-reply_and_mark.ensures in
    let there = rw (inv.most, c.if-branch.true) at c.in_ok-next.ensures.line in
    record {
      kept = (cc, cc);
      counts = (cc, cc, cc);
      most = cc;
      taken = grind (arith, taken-join);
      within = read.within;
      fits = grind arith;
      spent = spent_more inv.spent _ _ _ _ there inv.kept.1
          (λ texts indexes known are. rw c.line.ensures at (marked.bytes texts indexes (rw inv.kept.0 known) are))
          (rw (c.line.ensures, inv.kept.0) at marked.reply);
    }

-- ---- no line is left

pub returns-clause-conversation : goal.returns-clause-conversation
returns-clause-conversation g c =
    let inv = c.loop-lines.invariant in let read = c.in_ok-next.ensures in
    line_none inv.spent.so_far _ _ _ _ _ (rw inv.most at read.line) c.if-branch.false inv.taken read.count read.within

pub returns-clause-failures : goal.returns-clause-failures
returns-clause-failures g c =
    let counts = c.loop-lines.invariant.counts in
    ((counts.0, counts.1), c.in_ok-next.ensures.failures ∙ counts.2)

pub returns-clause-bytes : goal.returns-clause-bytes
returns-clause-bytes g c = spent_stop c.loop-lines.invariant.spent
