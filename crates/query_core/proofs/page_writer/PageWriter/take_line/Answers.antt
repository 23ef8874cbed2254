use Rattle.query_core.proofs.Words.{[], ◌∙◌, ◌∷◌, ◌≡◌, arith, err_from_is_err_and, grows_by, grows_on}
use Rattle.query_core.proofs.Words.{grows_part, rules, sym, true≢false}
use Rattle.query_core.proofs.PagesLemmas.{broke_more, ended_is, goes_on, more_lines, room_front, row_front, row_stands}
use Rattle.query_core.proofs.PagesLemmas.{stands_followed, stands_over, took_next, wrote_front, wrote_holds}
use Rattle.std.proofs.lemmas.List.{nil_from_length}
use Rattle.query_core.specs.WriterView.{pages_so_far}
use Rattle.query_core.proofs.page_writer.PageWriter.take_line.Goals as goal

-- ---- nothing more is wanted

pub returns-then-self-clause-wrote : goal.returns-then-self-clause-wrote
returns-then-self-clause-wrote g c = λ first taken start s.
    let more = more_lines first taken (c.args.line.now ∷ []) in
    record {
      same = s.same;
      selects = λ e. absurd (true≢false (sym c.if-self.true ∙ e));
      stands = λ sized. rw more.1 (stands_over (s.stands sized) (wrote_holds s sized) c.if-self.true more.0);
    }

-- ---- a capture follows the page, which is the only one

pub returns-then-is_full-clause-wrote : goal.returns-then-is_full-clause-wrote
returns-then-is_full-clause-wrote g c = λ first taken start s.
    let took = c.in_ok-takes.ensures.took taken (s.selects c.if-self.false) in
    let same = c.takes.ensures.same in
    let none = nil_from_length c.args.self.now.sizes.now (search rules) in
    record {
      same = (same.0 ∙ s.same.0, same.1 ∙ s.same.1);
      selects = λ e. took.selects;
      stands = λ sized.
          let ended = ended_is (s.stands sized) (wrote_holds s sized) (search rules) none (search rules) in
          rw (took_next s took, c.if-not-branch.false) (stands_followed (s.stands sized) c.args.line.now _ ended
          c.is_some-self.ensures);
    }

-- ---- a capture is written

pub returns-clause-wrote : goal.returns-clause-wrote
returns-clause-wrote g c = λ first taken start s.
    let took = c.in_ok-takes.ensures.took taken (s.selects c.if-self.false) in
    let same = c.takes.ensures.same in
    let put = c.in_ok-put_capture.ensures in
    let selection : c.put_capture.new.self.selection ≡ c.takes.new.self =
    put.same.lines.selection ∙ c.make_room.ensures.lines.selection in
    record {
      same = rw selection (same.0 ∙ s.same.0, same.1 ∙ s.same.1);
      selects = λ e. rw selection took.selects;
      stands = λ sized.
          let goes = goes_on s sized (λ none. grind arith) in
          let holds = wrote_holds s sized in
          let room = c.in_ok-make_room.ensures.pages first.selection.query.now _ start
          (record { query = grind arith; stands = s.stands sized; holds = holds; goes = goes }) in
          rw (took_next s took, c.if-not-branch.false)
          (row_stands _ _ goes c.args.line.now room holds _ _ put.same put.gave (grind arith));
    }

pub returns-clause-grows : goal.returns-clause-grows
returns-clause-grows g c = grows_on _ _ _ c.make_room.ensures.grows (grind (arith, grows_by))

-- ---- faults

pub returns-in_err-takes-clause-wrote : goal.returns-in_err-takes-clause-wrote
returns-in_err-takes-clause-wrote g c = λ first taken start s.
    rw (err_from_is_err_and c.from_residual.result c.from_residual.ensures.1).1
    (broke_more first taken _ start _ (wrote_front s))

pub returns-in_err-make_room-clause-wrote : goal.returns-in_err-make_room-clause-wrote
returns-in_err-make_room-clause-wrote g c = λ first taken start s.
    let took = c.in_ok-takes.ensures.took taken (s.selects c.if-self.false) in
    rw (err_from_is_err_and c.from_residual-in_err-make_room.result c.from_residual-in_err-make_room.ensures.1).1
    (λ sized.
    let goes = goes_on s sized (λ none. grind arith) in
    let broke = c.in_err-make_room.ensures.pages first.selection.query.now _ start
    (record { query = grind arith; stands = s.stands sized; holds = wrote_holds s sized; goes = goes }) in
    rw (took_next s took, c.if-not-branch.false) (room_front first.selection.query.now (pages_so_far first taken) goes
    c.args.line.now broke))

pub returns-in_err-put_capture-clause-wrote : goal.returns-in_err-put_capture-clause-wrote
returns-in_err-put_capture-clause-wrote g c = λ first taken start s.
    let took = c.in_ok-takes.ensures.took taken (s.selects c.if-self.false) in
    let same_query : c.make_room.new.self.selection.query.now ≡ first.selection.query.now = grind arith in
    rw (err_from_is_err_and c.from_residual-in_err-put_capture.result c.from_residual-in_err-put_capture.ensures.1).1
    (λ sized.
    let goes = goes_on s sized (λ none. grind arith) in
    let room = c.in_ok-make_room.ensures.pages first.selection.query.now _ start
    (record { query = grind arith; stands = s.stands sized; holds = wrote_holds s sized; goes = goes }) in
    rw (took_next s took, c.if-not-branch.false) (row_front _ _ goes c.args.line.now room _
    (rw (← same_query) c.in_err-put_capture.ensures.text)))

pub returns-in_err-put_capture-clause-grows : goal.returns-in_err-put_capture-clause-grows
returns-in_err-put_capture-clause-grows g c = grows_on _ _ _ c.make_room.ensures.grows (grind (arith, grows_part))
