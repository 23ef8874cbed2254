use Rattle.merge_core.proofs.Words.{[], ℕ, ◌++◌, ◌+◌, ◌<◌, ◌∷◌, ◌≡◌, Appends, Appends-join, AppendsPrefix, Bor, Line}
use Rattle.merge_core.proofs.Words.{List, Member, Option, append-nil, append_assoc, arith, drop, err_from_is_err_and}
use Rattle.merge_core.proofs.Words.{flat_map-append, get_or, grows_on, length, length-append, line_row, lines_text, map}
use Rattle.merge_core.proofs.Words.{map-append, map_more, prefix_after, prefix_longer, take, take-append-drop}
use Rattle.merge_core.proofs.line_writer.LineWriterSink.take.Goals as goal

-- lines, up to one of them
module _ {B : Type 0} (seen : B → Member) (lines : List B) (k : ℕ) (line : B) (inside : k < length lines)
    (is : line ≡ get_or lines k line) (taken : List Member) where
  abbrev upto : ℕ → List Member
  upto n = taken ++ map seen (take n lines)

  one_more : upto (k + 1) ≡ upto k ++ seen line ∷ []
  one_more = grind (arith, map_more, append_assoc)

  text_more : lines_text (upto (k + 1)) ≡ lines_text (upto k) ++ line_row (seen line)
  text_more = rw one_more (grind (arith, flat_map-append, append-nil))

  text_joined : (us vs : List B) → lines_text (taken ++ map seen (us ++ vs))
      ≡ lines_text (taken ++ map seen us) ++ lines_text (map seen vs)
  text_joined us vs = grind (arith, map-append, flat_map-append, append_assoc)

  -- where it couldn't be written, a front of all stands there
  broke_at : (start mid new : Option (List ℕ)) → Appends start mid (lines_text (upto k))
      → AppendsPrefix mid new (line_row (seen line)) → AppendsPrefix start new (lines_text (taken ++ map seen lines))
  broke_at start mid new was part =
      let whole = rw take-append-drop at (text_joined (take (k + 1) lines) (drop (k + 1) lines)) in
      rw whole (rw text_more (prefix_longer start new _ _ (prefix_after start mid new _ _ was part)))

pub returns-in_err-put_line-clause-wrote : goal.returns-in_err-put_line-clause-wrote
returns-in_err-put_line-clause-wrote g c =
    let p = err_from_is_err_and c.from_residual.result c.from_residual.ensures.1 in
    λ begin taken start w. rw p.1 (broke_at (λ (l : Bor Line). l.now) _ _ _ c.loop-line-test.true c.line-item.is taken
    start _ _ (c.loop-line.invariant.wrote taken start w).0 c.in_err-put_line.ensures.text)

pub returns-in_err-put_line-clause-grows : goal.returns-in_err-put_line-clause-grows
returns-in_err-put_line-clause-grows g c = grows_on _ _ _ c.loop-line.invariant.grows c.put_line.ensures.grows

pub loop-line-preserved : goal.loop-line-preserved
loop-line-preserved g c =
    let inv = c.loop-line.invariant in
    record {
      wrote = λ taken start w.
          let was = inv.wrote taken start w in
          let more = one_more (λ (l : Bor Line). l.now) _ _ _ c.loop-line-test.true c.line-item.is taken in
          let text = text_more (λ (l : Bor Line). l.now) _ _ _ c.loop-line-test.true c.line-item.is taken in (
            rw text (Appends-join start _ _ _ _ was.0 c.in_ok-put_line.ensures.text),
            grind (arith, length-append),
          );
      grows = grows_on _ _ _ inv.grows c.put_line.ensures.grows;
      failures = grind arith;
    }
