use Rattle.query_core.proofs.Words.{[], ℕ, ◌∙◌, ◌≡◌, AllPositive, GaveInPages, Grows, List, Member, Option, OverIndexes}
use Rattle.query_core.proofs.Words.{Rises, Some, WrotePages, append-nil, arith, err_from_is_err_and, first_size}
use Rattle.query_core.proofs.Words.{grows_by, grows_part, map, member_place, no_pages, place_cmp, rules, sym, true}
use Rattle.query_core.proofs.Words.{true≢false, wrote_nothing}
use Rattle.std.proofs.lemmas.Bool.{true_from_ne_false}
use Rattle.query_core.proofs.PagesReach.{Writing, all_ended, at_end, broke_front, never_enough}
use Rattle.merge_core.proofs.CollectedLemmas.{collection_rises}
use Rattle.query_core.proofs.PagesReach.{of_none, of_taken, pages_reached, passed, stood_pages}
use Rattle.query_core.proofs.PagesLemmas.{all_positive, front_more, is_sized}
use Rattle.query_core.proofs.paging.pages.Given.{Over}
use Rattle.query_core.proofs.paging.pages.Goals.{In_ok-end, In_ok-read_lines, In_ok-writer}
use Rattle.query_core.proofs.{PageChains.wrote_part, WriterLemmas.captures}
use Rattle.query_core.proofs.paging.pages.Goals as goal

abbrev begin : (g : Over) (c : In_ok-writer g) → Writing c.args.query.now (Some (first_size c.args.sizes.now))
    c.args.sizes.now (g.O.Output.written c.args.out.now) (g.O.Output.written c.begin.new.out) []
begin g c =
    let is = rw c.first_size.ensures at c.in_ok-writer.ensures.begins in
    record { first = _; is = is; writer = _; wrote = c.in_ok-writer.ensures.wrote }

abbrev writing : (g : Over) (c : In_ok-read_lines g) → Writing c.args.query.now (Some (first_size c.args.sizes.now))
    c.args.sizes.now (g.O.Output.written c.args.out.now) (g.O.Output.written c.read_lines.new.out)
    c.in_ok-read_lines.ensures.ended.lines
writing g c = passed (begin g (goal.at.In_ok-read_lines g c).In_ok-writer) _ _ c.read_lines.new.sink
    c.in_ok-read_lines.ensures.ended.came

positive : (g : Over) (c : In_ok-read_lines g) → AllPositive c.args.sizes.now
positive g c = all_positive c.args.sizes.now (search rules)

-- it never has enough
all_read : (g : Over) (c : In_ok-read_lines g) → c.in_ok-read_lines.field-0.all ≡ true
all_read g c = true_from_ne_false c.in_ok-read_lines.field-0.all
    (λ e. true≢false (sym (c.in_ok-read_lines.ensures.ended.enough e) ∙ never_enough (positive g c) (writing g c)))

-- ---- how far it was read for the captures that were written

pub returns-in_err-read_lines-clause-reach : goal.returns-in_err-read_lines-clause-reach
returns-in_err-read_lines-clause-reach g c =
    let halted = c.in_err-read_lines.ensures.ended.1 in
    let before = halted.before in
    let w = passed (begin g (goal.at.returns-in_err-read_lines-clause-reach g c).In_ok-writer) halted.earlier
    before.middle before.state before.came in
    pages_reached g.S.Source _ _ _ _ _ halted.earlier halted.earlier [] (stood_pages (all_positive c.args.sizes.now (search rules)) w _ halted.grows) halted.first
    (sym (append-nil _)) before.within

-- what was written of the lines that were taken, whatever is written then
reached : (g : Over) (c : In_ok-read_lines g) (new : Option (List ℕ))
    → Grows (g.O.Output.written c.read_lines.new.out) new
    → OverIndexes (map g.S.Source.text c.args.sources.now) (λ texts indexes. GaveInPages g.S.Source c.args.query.now c.args.sizes.now texts indexes (g.O.Output.written c.args.out.now) new
    c.args.sources.now c.read_lines.new.sources)
reached g c new grows =
    let took = c.in_ok-read_lines.ensures.ended in
    pages_reached g.S.Source _ _ new _ _ took.lines took.earlier took.later (stood_pages (positive g c) (writing g c) new grows)
    took.took.first took.split took.before.within

pub returns-in_err-end-clause-reach : goal.returns-in_err-end-clause-reach
returns-in_err-end-clause-reach g c =
    reached g (goal.at.returns-in_err-end-clause-reach g c).In_ok-read_lines _ (grows_part _ _ _ c.in_err-end.ensures.text)

pub returns-clause-reach : goal.returns-clause-reach
returns-clause-reach g c =
    reached g (goal.at.returns-clause-reach g c).In_ok-read_lines _ (grows_by _ _ _ c.in_ok-end.ensures.text)

-- ---- the pages

pub returns-then-not-are_sizes-clause-pages : goal.returns-then-not-are_sizes-clause-pages
returns-then-not-are_sizes-clause-pages g c = of_none (λ all rise. grind arith)

pub returns-then-sources-gt-SOURCES_LIMIT-clause-pages : goal.returns-then-sources-gt-SOURCES_LIMIT-clause-pages
returns-then-sources-gt-SOURCES_LIMIT-clause-pages g c =
    of_none (λ all rise sized.
    wrote_part c.args.query.now c.args.sizes.now (all_positive c.args.sizes.now sized) all rise _ _ (wrote_nothing _ _))

pub returns-in_err-writer-clause-pages : goal.returns-in_err-writer-clause-pages
returns-in_err-writer-clause-pages g c =
    rw (err_from_is_err_and c.from_residual.result c.from_residual.ensures.1).1
    (of_none (λ all rise sized.
    wrote_part c.args.query.now c.args.sizes.now (all_positive c.args.sizes.now sized) all rise _ _
    (front_more c.args.query.now _ _ (no_pages (Some (first_size c.args.sizes.now)) c.args.sizes.now)
    (captures c.args.query.now all)
    (rw append-nil c.in_err-writer.ensures.begins))))

pub returns-in_err-read_lines-clause-pages : goal.returns-in_err-read_lines-clause-pages
returns-in_err-read_lines-clause-pages g c =
    let broke = c.in_err-read_lines.ensures.ended.0 in
    let here = begin g (goal.at.returns-in_err-read_lines-clause-pages g c).In_ok-writer in
    rw (err_from_is_err_and c.from_residual-in_err-read_lines.result c.from_residual-in_err-read_lines.ensures.1).1
    (of_taken broke.took (λ all rest rise first whole sized.
    let positive = all_positive c.args.sizes.now sized in
    wrote_part c.args.query.now c.args.sizes.now positive all rise _ _
    (broke_front here (is_sized c.args.sizes.now positive) _ _ broke.wrote all rest first)))

pub returns-in_err-end-clause-pages : goal.returns-in_err-end-clause-pages
returns-in_err-end-clause-pages g c =
    let here = (goal.at.returns-in_err-end-clause-pages g c).In_ok-read_lines in
    rw (err_from_is_err_and c.from_residual-in_err-end.result c.from_residual-in_err-end.ensures.1).1
    (of_taken c.in_ok-read_lines.ensures.ended.took (λ all rest rise first whole sized.
    at_end (positive g here) (writing g here) all rise (whole (all_read g here)) _ c.in_err-end.ensures.text))

-- the pages of lines of which those that were taken have all captures
pages_of : (g : Over) (c : In_ok-end g) (all : List Member) → Rises member_place place_cmp all
    → captures c.args.query.now all ≡ captures c.args.query.now c.in_ok-read_lines.ensures.ended.lines
    → WrotePages c.args.query.now all c.args.sizes.now (g.O.Output.written c.args.out.now)
    (g.O.Output.written c.end.new.out) c.in_ok-end.end.count
pages_of g c all rise whole =
    let here = (goal.at.In_ok-end g c).In_ok-read_lines in
    all_ended (positive g here) (writing g here) all rise whole _ _ c.in_ok-end.ensures.text c.in_ok-end.ensures.end.count

pub returns-clause-pages : goal.returns-clause-pages
returns-clause-pages g c =
    let here = goal.at.returns-clause-pages g c in
    of_taken c.in_ok-read_lines.ensures.ended.took
    (λ all rest rise first whole. pages_of g here.In_ok-end all rise (whole (all_read g here.In_ok-read_lines)))

pub returns-clause-parts : goal.returns-clause-parts
returns-clause-parts g c = λ texts known.
    let here = goal.at.returns-clause-parts g c in
    let whole = all_read g here.In_ok-read_lines in
    let read = c.in_ok-read_lines.ensures.ended.parts texts known in
    record {
      parts = read.parts;
      each = read.each true (λ e. whole);
      wrote = pages_of g here.In_ok-end _ (collection_rises read.parts) (read.ended whole);
    }
