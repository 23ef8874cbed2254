-- How far a check has come.
use Rattle.query_core.proofs.Words.{[], ℕ, ◌++◌, ◌+◌, ◌∙◌, ◌∷◌, ◌≡◌, AllByRecursion, Err, LINE_LIMIT}
use Rattle.query_core.proofs.Words.{List, Member, NeverFalls, None, Option, Some, Upto, append-nil, append_assoc, arith}
use Rattle.query_core.proofs.Words.{drop, each_join, each_weaker, flat_map-append, length, length-append, line_entry}
use Rattle.query_core.proofs.Words.{AnswerFault, Ok, ap, map-append, member_pair, pair_cmp, refl, subst, sym}
use Rattle.query_core.proofs.Words.{upto_upto, ⊤}
use Rattle.std.proofs.Common.{Result}
use Rattle.cdxj_core.specs.Indexes.{IsRun}
use Rattle.source_core.specs.{Device.OverText, IndexLines.lines, LinesAtFault.LineBeginsAt}
use Rattle.merge_core.specs.{LineFaults.IsBadFirst, LineFaults.IsFeedFaultAt, LineFaults.IsOfLineAt}
use Rattle.merge_core.specs.{NextLine.IsLineRead}
use Rattle.merge_core.specs.declared.fault.FeedFault.{FeedFault}
use Rattle.merge_core.specs.declared.fault.FeedFault.TheVariants as feed
use Rattle.query_core.specs.Conversions.{fault_of_index}
use Rattle.query_core.specs.declared.fault.AnswerFault.TheVariants as answer
use Rattle.query_core.specs.CheckLaws.{CheckFaultIsOfLine, CheckedIsText, IsCheckedText}
use Rattle.query_core.specs.IndexFaults.{IfTold}
use Rattle.query_core.proofs.Words.{map, suc, zero}
use Rattle.source_core.specs.LinesAtFault.{IsBadLine, IsOutOfOrder}
use Rattle.query_core.specs.Checking.{AreCheckedTo, EndsOutOfOrder, FallsAfter, IsChecked, IsLastOf}
use Rattle.merge_core.proofs.InputLemmas.{falls_last, falls_push}

all_upto : (members : List Member) (previous : Option Member) (m : Member) → IsLastOf members previous
    → (FallsAfter previous m → ⊥) → NeverFalls member_pair pair_cmp members
    → AllByRecursion (λ k. Upto (member_pair k) (member_pair m)) members
all_upto members None m is stays ordered = cc
all_upto members (Some last) m is stays ordered =
    let step : Upto (member_pair last) (member_pair m) = grind arith in
    let last_of = falls_last is.0 last (rw is.1 at ordered) in
    rw is.1 (each_join (λ k. Upto (member_pair k) (member_pair m)) is.0 (last ∷ [])
    (each_weaker (λ (k : Member) (h : Upto (member_pair k) (member_pair last)). upto_upto (member_pair k)
    (member_pair last) (member_pair m) h step) is.0 last_of) (step, tt))

run_push : (ls : List (List ℕ)) (members : List Member) (previous : Option Member) (l : List ℕ)
    (m : Member) → IsRun LINE_LIMIT ls members → IsLastOf members previous
    → line_entry LINE_LIMIT l ≡ Some m → (FallsAfter previous m → ⊥) → IsRun LINE_LIMIT (ls ++ l ∷ []) (members ++ m ∷ [])
run_push ls members previous l m run is entry stays = grind (arith, map-append, falls_push, all_upto)

module _ (told : Option (List ℕ)) where
  -- so many lines, up to an offset, are an index by themselves, of which this is the last
  pub record CheckedTo (at count : ℕ) (previous : Option Member) : Type 0 where
    pub checked : AreCheckedTo told at (λ behind. ⊤)
    pub last : IsLastOf checked.members previous
    pub as_many : count ≡ length checked.members

  pub checked_none : CheckedTo 0 0 None
  checked_none = record {
    checked = record {
      before = [];
      members = [];
      run = record { entries = refl; ordered = tt };
      ends = refl;
      known = λ t e. (refl, tt);
    };
    last = refl;
    as_many = refl;
  }

  module _ {at count : ℕ} {previous : Option Member} (c : CheckedTo at count previous) where
    -- what stands behind the lines
    abbrev behind : (P : List (List ℕ) → Type 0) → OverText told (λ t. P (lines (drop at t))) → AreCheckedTo told at P
    behind P p = record {
      before = c.checked.before;
      members = c.checked.members;
      run = c.checked.run;
      ends = c.checked.ends;
      known = λ t e. ((c.checked.known t e).0, p t e);
    }

    pub checked_more : (to : ℕ) (m : Member) → IsLineRead told at to (Some m) → (FallsAfter previous m → ⊥)
        → CheckedTo to (count + 1) (Some m)
    checked_more to m (line, entry, there, read) stays = record {
      checked = record {
        before = c.checked.before ++ line ∷ [];
        members = c.checked.members ++ m ∷ [];
        run = run_push _ c.checked.members previous line m c.checked.run c.last entry stays;
        ends = grind (arith, c.checked.ends, flat_map-append, length-append, append-nil);
        known = λ t e. (
          (c.checked.known t e).0 ∙ rw (read t e) (sym (append_assoc c.checked.before (line ∷ []) (lines (drop to t)))),
          tt,
        );
      };
      last = (c.checked.members, refl);
      as_many = grind (arith, length-append);
    }

    -- no line is left
    pub checked_whole : (to size number : ℕ) → IsLineRead told at to None → to ≡ size → number ≡ count
        → IsChecked told size (Ok number)
    checked_whole to size number (there, none) end same =
        rw (← end, there) (behind (λ ls. ls ≡ []) none, grind arith)

    pub checked_falls : (to : ℕ) (m : Member) → IsLineRead told at to (Some m) → FallsAfter previous m
        → EndsOutOfOrder told at
    checked_falls to m (line, entry, there, read) falls = record {
      line = line;
      member = m;
      entry = entry;
      checked = behind (λ ls. (after : List (List ℕ)) × (ls ≡ line ∷ after)) (λ t e. (lines (drop to t), read t e));
      previous = previous;
      previous_is = c.last;
      falls = falls;
    }

    pub checked_fault : (e : FeedFault) → IsOfLineAt at e → OverText told (λ t. IsFeedFaultAt (lines (drop at t)) at e)
        → IsChecked told at (Err (fault_of_index 0 e))
    checked_fault feed.Memory here known = tt
    checked_fault feed.Read here known = tt
    checked_fault (feed.BadLine offset) here known = rw here (behind _ (λ t e. (known t e).1))
    checked_fault (feed.OutOfOrder offset) here known = absurd here

-- ---- over a known text

module _ (text : List ℕ) where
  ends_at : (offset : ℕ) (P : List (List ℕ) → Type 0) (c : AreCheckedTo (Some text) offset P) (line : List ℕ)
      (after : List (List ℕ)) → lines (drop offset text) ≡ line ∷ after → LineBeginsAt text offset c.before line
  ends_at offset P c line after e = record {
    after = after;
    lines_are = (c.known text refl).0 ∙ ap (λ ls. c.before ++ ls) e;
    offset_is = c.ends;
  }

  checked_text : (size : ℕ) (result : Result ℕ AnswerFault) → IsChecked (Some text) size result
      → IsCheckedText text result
  checked_text size (Ok number) (c, same) =
      let known = c.known text refl in
      let whole : lines text ≡ c.before = known.0 ∙ (ap (λ ls. c.before ++ ls) known.1 ∙ append-nil c.before) in
      (c.members, subst (λ ls. IsRun LINE_LIMIT ls c.members) (sym whole) c.run, same)
  checked_text size (Err (answer.BadLine i offset)) c =
      let bad = (c.known text refl).1 in
      (bad.0, (c.before, ends_at offset IsBadFirst c bad.0 bad.1 bad.2, c.members, c.run, bad.3))
  checked_text size (Err (answer.OutOfOrder i offset)) c =
      let behind = (c.checked.known text refl).1 in (
        c.line,
        c.member,
        c.entry,
        (
          c.checked.before,
          ends_at offset _ c.checked c.line behind.0 behind.1,
          c.checked.members,
          c.checked.run,
          (c.previous, c.previous_is, c.falls),
        ),
      )
  checked_text size (Err other) c = grind arith

pub checked_is_text : CheckedIsText
checked_is_text = checked_text

-- ---- a fault as other calls name it

-- the line of the last of these entries
last_line : (ls : List (List ℕ)) (earlier : List Member) (last : Member)
    → map (line_entry LINE_LIMIT) ls ≡ map Some (earlier ++ last ∷ [])
    → (before : List (List ℕ)) × (line : List ℕ) × (ls ≡ before ++ line ∷ []) × (line_entry LINE_LIMIT line ≡ Some last)
last_line [] [] last e = grind arith
last_line [] (m ∷ ms) last e = grind arith
last_line (l ∷ []) [] last e = ([], l, refl, grind arith)
last_line (l ∷ k ∷ ls) [] last e = grind arith
last_line (l ∷ ls) (m ∷ ms) last e =
    let rest = last_line ls ms last (grind arith) in
    (l ∷ rest.0, rest.1, grind arith, rest.3)

of_one : (text : List ℕ) (i : ℕ) (P : List ℕ → Type 0) → i ≡ 0 → P text → IfTold (Some text ∷ []) i P
of_one text zero P e p = (omega arith, λ t is. let same : t ≡ text = cc in rw same p)
of_one text (suc i) P e p = grind arith

pub check_fault_of_line : CheckFaultIsOfLine
check_fault_of_line text size (answer.BadLine i offset) first checked =
    let c = checked_text text size (Err (answer.BadLine i offset)) checked in
    of_one text i (λ t. IsBadLine LINE_LIMIT t offset) first
    (record { before = c.1.0; line = c.0; begins = c.1.1; bad = c.1.4 })
check_fault_of_line text size (answer.OutOfOrder i offset) first checked =
    let c = checked_text text size (Err (answer.OutOfOrder i offset)) checked in
    of_one text i (λ t. IsOutOfOrder LINE_LIMIT t offset) first (falls c)
  where
    falls : IsCheckedText text (Err (answer.OutOfOrder i offset)) → IsOutOfOrder LINE_LIMIT text offset
    falls (line, member, entry, (before, begins, members, run, (None, is, after))) = absurd after
    falls (line, member, entry, (before, begins, members, run, (Some last, (earlier, is), after))) =
        let there = last_line before earlier last (rw is at run.entries) in
        record {
          before = there.0;
          previous = there.1;
          line = line;
          begins = subst (λ b. LineBeginsAt text offset b line) there.2 begins;
          earlier = last;
          later = member;
          earlier_is = there.3;
          later_is = entry;
          falls = after;
        }
check_fault_of_line text size other first checked = tt
