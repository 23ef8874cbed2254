use Rattle.query_core.proofs.Words.{[], ℕ, ◌∙◌, ◌≤◌, AnswerFault, AreAtMost, GaveInReach, Grows, List, Option}
use Rattle.query_core.proofs.Words.{OverIndexes, ap, append-nil, arith, err_from_is_err_and, grows_by, grows_part}
use Rattle.query_core.proofs.Words.{is_some, le-ltb, length-map, map, refl, rules, sym, wrote_nothing}
use Rattle.std.specs.Prelude.{IfErr, Result}
use Rattle.query_core.specs.declared.merging.TheConstants.{SOURCES_LIMIT}
use Rattle.query_core.specs.Refusals.{IsBeforeReading, Refuses, too_many}
use Rattle.query_core.proofs.PagesReach.{Writing, answer_front, broke_front, end_front, no_more, of_none}
use Rattle.query_core.proofs.PagesReach.{of_taken, page_ended, page_fewer, page_not_reached, page_reached, passed}
use Rattle.query_core.proofs.{PagesReach.within, WriterLemmas.captures}
use Rattle.page_core.proofs.PageLemmas.{front-start}
use Rattle.query_core.proofs.answering.answer.Given.{Over}
use Rattle.query_core.proofs.answering.answer.Goals.{In_ok-pass, In_ok-writer}
use Rattle.query_core.proofs.answering.answer.Goals as goal

-- ---- the writer

abbrev begin : (g : Over) (c : In_ok-writer g) → Writing c.args.query.now c.args.query.now.limit []
    (g.O.Output.written c.args.out.now) (g.O.Output.written c.begin.new.out) []
begin g c =
    let is = rw c.limit.ensures.value at c.in_ok-writer.ensures.begins in
    record { first = _; is = is; writer = _; wrote = c.in_ok-writer.ensures.wrote }

-- after all lines that were taken
abbrev writing : (g : Over) (c : In_ok-pass g) → Writing c.args.query.now c.args.query.now.limit []
    (g.O.Output.written c.args.out.now) (g.O.Output.written c.read_lines.new.out) c.in_ok-pass.ensures.ended.lines
writing g c =
    let took = c.in_ok-pass.ensures.ended in
    passed (begin g (goal.at.In_ok-pass g c).In_ok-writer) took.lines (g.O.Output.written c.read_lines.new.out)
    c.read_lines.new.sink took.came

-- the captures of the earlier of the lines that were taken don't pass the page
few : (g : Over) (c : In_ok-pass g)
    → AreAtMost c.args.query.now.limit (captures c.args.query.now c.in_ok-pass.ensures.ended.earlier)
few g c =
    let before = c.in_ok-pass.ensures.ended.before in
    within (begin g (goal.at.In_ok-pass g c).In_ok-writer) (grind arith) _ _ before.state before.came before.more

-- what was written so far reaches what the sources gave, whatever is written then
reached : (g : Over) (c : In_ok-pass g) (new : Option (List ℕ)) → Grows (g.O.Output.written c.read_lines.new.out) new
    → OverIndexes (map g.S.Source.text c.args.sources.now) (λ texts indexes. GaveInReach g.S.Source c.args.query.now texts indexes (g.O.Output.written c.args.out.now) new c.args.sources.now
    c.read_lines.new.sources)
reached g c new grows =
    let took = c.in_ok-pass.ensures.ended in
    page_reached g.S.Source new c.args.sources.now c.read_lines.new.sources
    took.earlier took.later (writing g c) grows took.took.first took.split (few g c) took.before.within

-- ---- faults

pub returns-then-sources-gt-SOURCES_LIMIT-clause-page : goal.returns-then-sources-gt-SOURCES_LIMIT-clause-page
returns-then-sources-gt-SOURCES_LIMIT-clause-page g c = of_none (λ all rise. wrote_nothing _ _)

-- so many sources aren't refused
late : {A : Type 0} (count : ℕ) (r : Result A AnswerFault) (X : Type 0) → count ≤ SOURCES_LIMIT
    → IfErr r (λ e. IsBeforeReading e → ⊥) → Refuses (too_many count) r X
late count r X few h = rw (le-ltb SOURCES_LIMIT count few) h

pub returns-in_err-writer : goal.returns-in_err-writer
returns-in_err-writer g c =
    let p = err_from_is_err_and c.from_residual.result c.from_residual.ensures.1 in
    rw (p.1, p.2) (record {
      refused = late _ _ _ (omega arith) (grind arith);
      kept = (refl, refl);
      failures = grind arith;
      fault = grind arith;
      page = of_none (λ all rise. grind (arith, front-start));
      parts = λ texts known. tt;
      reads = record {
        probes = tt;
        lines = λ texts indexes known are. tt;
        bytes = λ texts indexes known are. grind (arith, page_not_reached, grows_part);
        held = λ texts indexes known are most share. tt;
      };
    })

pub returns-in_err-pass : goal.returns-in_err-pass
returns-in_err-pass g c =
    let broke = c.in_err-pass.ensures.ended.0 in let halted = c.in_err-pass.ensures.ended.1 in
    let before = halted.before in
    let here = begin g (goal.at.returns-in_err-pass g c).In_ok-writer in
    let bytes = page_reached g.S.Source _ _ _ halted.earlier [] (passed here _ _ before.state before.came) halted.grows
    halted.first (sym (append-nil _)) (within here (grind arith) _ _ before.state before.came before.more) before.within in
    let p = err_from_is_err_and c.from_residual-in_err-pass.result c.from_residual-in_err-pass.ensures.1 in
    rw (p.1, p.2) (record {
      refused = late _ _ _ (omega arith) c.in_err-pass.ensures.late;
      kept = c.read_lines.ensures.kept;
      failures = rw c.in_ok-writer.ensures.failures at c.in_err-pass.ensures.failures;
      fault = c.in_err-pass.ensures.fault;
      page = of_taken broke.took (λ all rest rise first whole.
          answer_front c.args.query.now all _ _ (broke_front here tt _ _ broke.wrote all rest first));
      parts = λ texts known. tt;
      reads = record { probes = tt; lines = λ _ _ _ _. tt; bytes = bytes; held = λ _ _ _ _ _ _. tt };
    })

pub returns-in_err-end : goal.returns-in_err-end
returns-in_err-end g c =
    let here = (goal.at.returns-in_err-end g c).In_ok-pass in let took = c.in_ok-pass.ensures.ended in
    let bytes = reached g here _ (grows_part _ _ _ c.in_err-end.ensures.text) in
    let p = err_from_is_err_and c.from_residual-in_err-end.result c.from_residual-in_err-end.ensures.1 in
    rw (p.1, p.2) (record {
      refused = late _ _ _ (omega arith) (grind arith);
      kept = c.in_ok-pass.ensures.kept;
      failures = grind arith;
      fault = grind arith;
      page = of_taken took.took (λ all rest rise first whole.
          end_front (writing g here) all _ _ rest first whole took.enough c.in_err-end.ensures.text);
      parts = λ texts known. tt;
      reads = record { probes = tt; lines = λ _ _ _ _. tt; bytes = bytes; held = λ _ _ _ _ _ _. tt };
    })

pub returns : goal.returns
returns g c =
    let here = (goal.at.returns g c).In_ok-pass in
    let end = c.in_ok-end.ensures in
    let took = c.in_ok-pass.ensures.ended in
    record {
      refused = late _ _ _ (omega arith) tt;
      kept = c.in_ok-pass.ensures.kept;
      failures = search rules;
      fault = tt;
      page = of_taken took.took (λ all rest rise first whole.
          page_ended (writing g here) all _ _ rest first whole took.enough c.in_ok-end.end _ end.text end.end refl
          c.is_some.ensures);
      parts = λ texts known.
          let read = took.parts texts known in
          let page = page_ended (writing g here) _ _ _ _ read.first.1 read.ended took.enough c.in_ok-end.end _ end.text
          end.end refl c.is_some.ensures in
          record {
            parts = read.parts;
            each = read.each _ (no_more (writing g here) c.in_ok-pass.pass.all _ took.enough
                (c.is_some.ensures ∙ ap is_some end.end.next));
            lines = read.count;
            answered = page;
            least = page_fewer c.args.query.now read.parts _ _ page.given read.count;
          };
      reads = record {
        probes = took.probes;
        lines = λ texts indexes known are.
            let most = took.few texts indexes known are c.args.query.now.limit (few g here) in
            omega (arith, most, length-map c.args.sources.now g.S.Source.text);
        bytes = reached g here _ (grows_by _ _ _ end.text);
        held = took.held;
      };
    }
