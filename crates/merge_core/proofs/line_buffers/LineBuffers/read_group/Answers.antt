use Rattle.merge_core.proofs.Words.{[], ℕ, ◌++◌, ◌∙◌, ◌∷◌, ◌≡◌, ◌≤◌, Alike, Bool, List, Member, ReadTo, Some, Upto}
use Rattle.merge_core.proofs.Words.{append_assoc, arith, boxed_lines, done, each_join, each_weaker, false, filter}
use Rattle.merge_core.proofs.Words.{given, inl, input_of, inr, is_lt, length, map-append, member_pair, pair_cmp_total}
use Rattle.merge_core.proofs.Words.{refl, stays, sym}
use Rattle.merge_core.proofs.InputLemmas.{LineRead, all_inside, all_taken, all_upto, bad_named, done_next, given_next}
use Rattle.merge_core.proofs.InputLemmas.{input_end, input_more, order_named, same_stays, settled_more}
use Rattle.merge_core.proofs.{CountLemmas.group_most, Many.moved_trans, PairOrder.from_not_below, PairOrder.upto_upto}
use Rattle.merge_core.proofs.line_buffers.LineBuffers.read_group.Goals.{After-compare_pair, After-next_line}
use Rattle.merge_core.proofs.line_buffers.LineBuffers.read_group.Goals as goal

length_waits : (past : List ℕ → Bool) (m : Member) → length (filter (stays past) (m ∷ [])) ≤ 1
length_waits past m = grind arith

-- a line was read that isn't below the first one
was_read : (g : _) (c : After-compare_pair g) → is_lt c.compare_pair.result ≡ false
    → LineRead (g.R.Range.past c.args.range.now) (g.S.Source.text c.next_line.new.source)
    (g.S.Source.extent c.next_line.new.source) c.loop-line.cursor c.next_line.new.cursor c.in-Some.line.value
was_read g c not_less =
    let inv = c.loop-line.invariant in let ok = c.in_ok-line.ensures in let moved = ok.moved in
    let first = member_pair c.args.first.now in let next = member_pair c.in-Some.line.value in
    let was = rw (← moved.text_kept, ← moved.extent_kept) at inv.input in
    let last = λ (t : List ℕ) (e : g.S.Source.text c.next_line.new.source ≡ Some t).
    inv.last t (sym inv.moved.text_kept ∙ sym moved.text_kept ∙ e) in
    record {
      was = was;
      inside = λ t e. all_inside (was.told t e) (last t e);
      stands = ok.stands;
      start = moved.start_kept;
      count = (rw c.in-Some.is at ok.moves).0;
      near = λ t e. ok.most t (sym moved.text_kept ∙ e);
      next = λ t e. rw c.in-Some.is at (ok.next t (sym moved.text_kept ∙ e));
      low = λ t e. each_weaker (λ (k : Member) (q : Upto (member_pair k) first). upto_upto (member_pair k) first next q
          (from_not_below next first (cc))) _ (all_upto (was.told t e) (last t e));
    }

-- the lines that were read are those of before the call, all of which had been taken, and those taken since
taken_now : (g : _) (c : After-next_line g) (t : List ℕ) → g.S.Source.text c.next_line.new.source ≡ Some t
    → given t c.loop-line.cursor ≡ done (g.R.Range.past c.args.range.now) t (input_of c.args.cursor.now [])
    ++ c.loop-line.invariant.taken.0
taken_now g c t e =
    let inv = c.loop-line.invariant in
    let was = sym inv.moved.text_kept ∙ sym c.next_line.ensures.moved.text_kept ∙ e in
    rw (all_taken (c.requires.input.told t was) (c.requires.due.last t was)) (inv.taken.3 t was)

pub returns-in-Greater-clause-read : goal.returns-in-Greater-clause-read
returns-in-Greater-clause-read g c =
    let taken = c.loop-line.invariant.taken in
    let turned = pair_cmp_total.antisymm (member_pair c.args.first.now) (member_pair c.in-Some.line.value) in
    let here = goal.at.returns-in-Greater-clause-read g c in
    let read = was_read g here.After-compare_pair (rw c.in-Greater.is refl) in let is = c.within.ensures in
    record {
      input = input_more read _ (inl is);
      settled = settled_more read _ is;
      later = grind arith;
      fewer = grind (arith, length_waits);
      taken = taken.0;
      rest_is = taken.1;
      alike = taken.2;
      done_is = λ t e. done_next read _ is t e ∙ taken_now g here.After-next_line t e;
    }

pub returns-clause-read : goal.returns-clause-read
returns-clause-read g c =
    let inv = c.loop-line.invariant in let here = (goal.at.returns-clause-read g c).After-next_line in
    let ok = c.in_ok-line.ensures in let moved = ok.moved in let moves = rw c.in_default.is at ok.moves in
    let was = rw (← moved.text_kept, ← moved.extent_kept) at inv.input in
    let none = λ (t : List ℕ) (e : g.S.Source.text c.next_line.new.source ≡ Some t). rw c.in_default.is at
    (ok.next t (sym moved.text_kept ∙ e)) in
    record {
      input = input_end was _ ok.stands moved.start_kept moves.0 (λ t e. ok.most t (sym moved.text_kept ∙ e)) none;
      settled = λ t e _. inl (ok.stands.rest t e ∙ rw (moved.start_kept, moves.0)
          (sym (was.stands.rest t e) ∙ none t e));
      later = tt;
      fewer = omega (arith, moves.1, moved.extent_kept);
      taken = inv.taken.0;
      rest_is = inv.taken.1;
      alike = inv.taken.2;
      done_is = λ t e. rw (moved.start_kept, moves.0)
          (all_taken (was.told t e) (inv.last t (cc)) ∙ taken_now g here t e);
    }

-- no line beyond the next one was read
most : (g : _) (c : After-next_line g) (t : List ℕ) → g.S.Source.text c.args.source.now ≡ Some t
    → ReadTo (g.R.Range.past c.args.range.now) (Some (member_pair c.args.first.now)) t c.next_line.new.cursor
most g c t e =
    let inv = c.loop-line.invariant in let is = inv.moved.text_kept ∙ e in let read = c.next_line.ensures in
    group_most inv.input t is (inv.last t e) _ read.moved.start_kept (read.most t is) read.ahead

pub returns-in_err-line-clause-most : goal.returns-in_err-line-clause-most
returns-in_err-line-clause-most g c = most g (goal.at.returns-in_err-line-clause-most g c).After-next_line

pub returns-in-Less-clause-most : goal.returns-in-Less-clause-most
returns-in-Less-clause-most g c = most g (goal.at.returns-in-Less-clause-most g c).After-next_line

pub returns-in-Greater-clause-most : goal.returns-in-Greater-clause-most
returns-in-Greater-clause-most g c = most g (goal.at.returns-in-Greater-clause-most g c).After-next_line

pub returns-in_err-push-in-Equal-clause-most : goal.returns-in_err-push-in-Equal-clause-most
returns-in_err-push-in-Equal-clause-most g c = most g (goal.at.returns-in_err-push-in-Equal-clause-most g c).After-next_line

pub returns-clause-most : goal.returns-clause-most
returns-clause-most g c = most g (goal.at.returns-clause-most g c).After-next_line

pub loop-line-preserved : goal.loop-line-preserved
loop-line-preserved g c =
    let ok = c.in_ok-line.ensures in let inv = c.loop-line.invariant in let moved = ok.moved in
    let past = g.R.Range.past c.args.range.now in let first = member_pair c.args.first.now in
    let m = c.in-Some.line.value in
    let alike : Alike (member_pair m) first = cc in
    let pushed : boxed_lines c.push.new.self.items ≡ boxed_lines c.loop-line.rest.items ++ m ∷ [] =
    grind (arith, map-append) in
    let read = was_read g (goal.at.loop-line-preserved g c).After-compare_pair (rw c.in-Equal.is refl) in
    let last = λ (t : List ℕ) (e : g.S.Source.text c.args.source.now ≡ Some t). same_stays past first m (given t c.loop-line.cursor) (inv.last t e) alike in
    record {
      moved = (moved_trans g.S.Source ((c.args.source.now, c.args.cursor.now) ∷ [])
          ((c.loop-line.source, c.loop-line.cursor) ∷ []) ((c.next_line.new.source, c.next_line.new.cursor) ∷ [])
          (inv.moved, tt) (moved, tt)).0;
      failures = cc;
      there = omega (arith, inv.there, (rw c.in-Some.is at ok.moves).1);
      input = input_more read [] (inr (refl, λ t e. rw (last t (cc)) refl));
      begin = c.at-begin-in-Some.ensures;
      last = λ t e. (given t c.loop-line.cursor, m, given_next read t (cc), alike, last t e);
      taken = (
        inv.taken.0 ++ m ∷ [],
        pushed ∙ rw inv.taken.1 (append_assoc (boxed_lines c.args.rest.now.items) inv.taken.0 (m ∷ [])),
        each_join (λ m. Alike (member_pair m) first) inv.taken.0 (m ∷ []) inv.taken.2 (alike, tt),
        λ t e. given_next read t (cc) ∙ rw (inv.taken.3 t e)
            (append_assoc (given t c.args.cursor.now) inv.taken.0 (m ∷ [])),
      );
    }

pub returns-in_err-line-clause-fault : goal.returns-in_err-line-clause-fault
returns-in_err-line-clause-fault g c = record {
  counts = grind arith;
  names = λ t e.
      let input = rw (c.loop-line.invariant.moved.text_kept ∙ e) at c.loop-line.invariant.input in
      grind (arith, bad_named input);
}

pub returns-in-Less-clause-fault : goal.returns-in-Less-clause-fault
returns-in-Less-clause-fault g c =
    let inv = c.loop-line.invariant in
    record {
      counts = grind arith;
      names = λ t e.
          rw (← inv.begin) at (order_named (rw (inv.moved.text_kept ∙ e) at inv.input) (member_pair c.args.first.now)
          c.next_line.new.cursor c.in-Some.line.value (inv.last t e)
          (rw c.in-Some.is at (c.in_ok-line.ensures.next t (cc))) (grind arith));
    }
