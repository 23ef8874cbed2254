use Rattle.query_core.proofs.Words.{Appends-join, arith, err_from_is_err_and, form_of, grows_by, grows_on, grows_part}
use Rattle.query_core.proofs.Words.{page_end, page_start, prefix_after, prefix_longer, refl, rules, shown_key, true}
use Rattle.query_core.proofs.PagesLemmas.{full_is, stands_turned, turning_front}
use Rattle.query_core.proofs.page_writer.PageWriter.make_room.Goals as goal

-- ---- the page is full

pub returns-in_ok-put_start-clause-pages : goal.returns-in_ok-put_start-clause-pages
returns-in_ok-put_start-clause-pages g c = λ q s start t.
    let w = c.args.self.now in
    let form = form_of w.selection.query.now in
    record {
      stands = stands_turned t _ _ (grind (arith, full_is t.stands t.holds))
          (rw (← t.query) (Appends-join _ (g.O.Output.written c.put_end.new.out) _
          (page_end form (shown_key true w.last)) (page_start form) (search rules) (search rules))) (search rules)
          (search rules) refl refl refl (search rules) (search rules);
      fits = search rules;
    }

pub returns-in_ok-put_start-clause-grows : goal.returns-in_ok-put_start-clause-grows
returns-in_ok-put_start-clause-grows g c =
    grows_on _ _ _ (grows_by _ _ _ c.in_ok-put_end.ensures.text) (grows_by _ _ _ c.in_ok-put_start.ensures.text)

pub returns-in_err-put_end-clause-pages : goal.returns-in_err-put_end-clause-pages
returns-in_err-put_end-clause-pages g c = λ q s start t.
    let w = c.args.self.now in
    let form = form_of w.selection.query.now in
    rw (err_from_is_err_and c.from_residual.result c.from_residual.ensures.1).1
    (turning_front t _ (grind (arith, full_is t.stands t.holds))
    (rw (← t.query) (prefix_longer _ _ (page_end form (shown_key true w.last)) (page_start form) (search rules))))

pub returns-in_err-put_start-clause-pages : goal.returns-in_err-put_start-clause-pages
returns-in_err-put_start-clause-pages g c = λ q s start t.
    let w = c.args.self.now in
    let form = form_of w.selection.query.now in
    rw (err_from_is_err_and c.from_residual-in_err-put_start.result c.from_residual-in_err-put_start.ensures.1).1
    (turning_front t _ (grind (arith, full_is t.stands t.holds))
    (rw (← t.query) (prefix_after _ (g.O.Output.written c.put_end.new.out) _ (page_end form (shown_key true w.last))
    (page_start form) (search rules) (search rules))))

pub returns-in_err-put_start-clause-grows : goal.returns-in_err-put_start-clause-grows
returns-in_err-put_start-clause-grows g c =
    grows_on _ _ _ (grows_by _ _ _ c.in_ok-put_end.ensures.text) (grows_part _ _ _ c.in_err-put_start.ensures.text)
