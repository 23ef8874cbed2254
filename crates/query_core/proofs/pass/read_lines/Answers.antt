use Rattle.query_core.proofs.Words.{[], ◌++◌, ◌∙◌, ◌≡◌, Bool, List, Member, ReadFor, Some, ap, append-nil, arith}
use Rattle.query_core.proofs.Words.{err_from_is_err_and, false, grows_not, inl, length-map, map, refl, sym, true}
use Rattle.query_core.proofs.WriterLemmas.{captures, captures_append}
use Rattle.query_core.proofs.ReachLemmas.{Opened, cut_all, cut_before, cut_last, gave_upto, gave_within, known_opened}
use Rattle.query_core.proofs.ReachLemmas.{lines_within, of_parts, reading, took, within_opening}
use Rattle.merge_core.proofs.SourceLemmas.{all_kept}
use Rattle.query_core.proofs.PageIndexes.{merge_line}
use Rattle.query_core.specs.Passes.{WantedMore}
use Rattle.query_core.proofs.pass.read_lines.Given.{Over}
use Rattle.query_core.proofs.pass.read_lines.Goals.{In_ok-opened}
use Rattle.query_core.proofs.pass.read_lines.Goals as goal

-- ---- sources that couldn't be opened

pub returns-in_err-opened : goal.returns-in_err-opened
returns-in_err-opened g c =
    let fault = c.in_err-opened.ensures.sources.1 in
    let p = err_from_is_err_and c.from_residual.result c.from_residual.ensures.1 in
    rw (p.1, p.2) (record {
      kept = c.open_at.ensures.sources.0;
      failures = grind arith;
      late = grind arith;
      fault = merge_line _ _ fault.names;
      ended = (
        record {
          lines = [];
          wrote = λ begin start h. inl (_, h);
          took = record { lines = grind arith; first = λ texts indexes known are. (_, refl); whole = grind arith };
        },
        record {
          earlier = [];
          first = λ texts indexes known are. (_, refl);
          before = record {
            state = _;
            middle = _;
            more = λ f. f;
            came = λ begin start h. h;
            within = λ texts indexes known are limit most. grind (arith, within_opening);
          };
          grows = grows_not _;
        },
      );
    })

-- ---- a merge that failed

-- sources that were opened
start : (g : Over) (c : In_ok-opened g) → Opened g.S.Source
    c.args.query.now c.args.sources.now c.open_at.new.sources c.in_ok-opened.opened.merge
start g c =
    let opened = rw c.start_pair.ensures at c.in_ok-opened.ensures.begun.opened in
    record { kept = c.open_at.ensures.sources.0.0; same = c.in_ok-opened.ensures.begun.ready.aligned.same; found = opened }

pub returns-in_err-all : goal.returns-in_err-all
returns-in_err-all g c =
    let broke = c.in_err-all.ensures.ended.0 in
    let h = c.in_err-all.ensures.ended.1 in
    let opened = start g (goal.at.returns-in_err-all g c).In_ok-opened in
    let r = reading opened (rw c.target.ensures at h.so_far.reached) in
    let fault = c.in_err-all.ensures.fault in
    let p = err_from_is_err_and c.from_residual-in_err-all.result c.from_residual-in_err-all.ensures.1 in
    rw (p.1, p.2) (record {
      kept = grind (arith, all_kept);
      failures = grind arith;
      late = grind arith;
      fault = rw c.open_at.ensures.sources.0.0 at (merge_line _ _ fault.names);
      ended = (
        record {
          lines = broke.taken;
          wrote = broke.wrote;
          took = took (reading opened (rw c.target.ensures at broke.reached)) false (grind arith);
        },
        record {
          earlier = h.so_far.taken;
          first = (took r false (grind arith)).first;
          before = record {
            state = h.point.sink;
            middle = h.point.written;
            more = h.more;
            came = h.so_far.came;
            within = gave_upto r (Some h.next) h.so_far.taken c.merge.new.sources c.merge.new.merge.cursors.items
                (cut_before r h.next h.above h.least) c.merge.ensures.moved (omega arith)
                (λ texts known. rw c.target.ensures at (h.read texts (known_opened r texts known)));
          };
          grows = h.grows;
        },
      );
    })

-- ---- a merge that came to its end, or to enough

by_truth : (b : Bool) (X : Type 0) → (b ≡ true → X) → (b ≡ false → X) → X
by_truth b X f g = grind arith

pub returns-clause-ended : goal.returns-clause-ended
returns-clause-ended g c =
    let q = c.args.query.now in
    let passed = c.in_ok-all.ensures.ended in
    let taken = passed.so_far.taken in
    let r = reading (start g (goal.at.returns-clause-ended g c).In_ok-opened)
    (rw c.target.ensures at passed.so_far.reached) in
    let read = of_parts r c.lines.result c.lines.ensures c.in_ok-all.all passed.ended in
    let wanted = by_truth c.in_ok-all.all ((earlier : List Member) × (later : List Member)
    × (captures q taken ≡ captures q earlier ++ later)
    × WantedMore g.K.Sink g.S.Source q c.args.sources.now c.merge.new.sources c.args.sink.now
    (g.O.Output.written c.args.out.now) earlier
    × ReadFor q (map g.S.Source.text c.args.sources.now) earlier c.lines.result) (λ e.
    let cut = cut_all r (passed.ended e) in
    let came = passed.so_far.came in (
      taken,
      [],
      sym (append-nil _),
      record { state = _; middle = _; more = passed.further e; came = came; within = gave_within r taken cut },
      lines_within r c.lines.result c.lines.ensures taken cut,
    )) (λ e.
    let l = passed.last e in
    let cut = cut_last r l.pair l.earlier l.group l.bound_is l.split l.alike in (
      l.earlier,
      _,
      ap (captures q) l.split ∙ captures_append q q.resume l.earlier l.group,
      record { state = l.state; middle = l.middle; more = l.more; came = l.came; within = gave_within r l.earlier cut },
      lines_within r c.lines.result c.lines.ensures l.earlier cut,
    )) in
    record {
      lines = taken;
      came = passed.so_far.came;
      took = took r c.in_ok-all.all passed.ended;
      parts = read;
      earlier = wanted.0;
      later = wanted.1;
      split = wanted.2;
      before = wanted.3;
      few = wanted.4;
      enough = grind arith;
      probes = grind arith;
      held = λ texts indexes known are most share.
          let h = c.merge.ensures.most_lines texts indexes (rw c.open_at.ensures.sources.0.0 known) are most share in
          grind (arith, length-map);
    }
