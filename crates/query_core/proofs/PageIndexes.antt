-- A page in cdxj is an index.
use Rattle.query_core.proofs.Words.{[], ℕ, ◌++◌, ◌<◌, ◌∙◌, ◌∷◌, ◌≡◌, AllByRecursion, AllZip, IsAnswerFaultOf, IsIndex}
use Rattle.query_core.proofs.Words.{Known, LINE_LIMIT, List, Member, NeverFalls, None, Option, Ordering, QueryValue}
use Rattle.query_core.proofs.Words.{Rises, Some, all_lines, answer_text, append-nil, append_assoc, arith, at_most}
use Rattle.query_core.proofs.Words.{collection, each_filter, each_join, each_kept, each_rising, each_weaker}
use Rattle.query_core.proofs.Words.{err_from_is_err_and, false, get_or, has_no_feed, is_gt, is_utf8-from_IsUtf8, length}
use Rattle.query_core.proofs.Words.{line_entry, line_row, lines, lines_front, lines_text, map, member_pair}
use Rattle.query_core.proofs.Words.{member_place, pair_cmp, place_cmp, place_cmp_total, query_page, refl}
use Rattle.query_core.proofs.Words.{rises_collapsed, rises_filter, rises_rising, same_part, selected, shown_key, suc}
use Rattle.query_core.proofs.Words.{take, true, wrote_nothing}
use Rattle.query_text.specs.declared.output.OutputFormat.TheVariants.{Cdxj}
use Rattle.merge_core.proofs.{Many.each_take, SourceLemmas.all_kept, SourceLemmas.once_none}
use Rattle.cdxj_core.specs.Lines.{line_in}
use Rattle.cdxj_core.proofs.{EntryRead.body_of-feed, MemberLemmas.entered}
use Rattle.query_core.specs.{Conversions.fault_of_merge, QueryLaws.NoLineIsAtFault}
use Rattle.merge_core.specs.declared.fault.MergeFault.{MergeFault}
use Rattle.query_core.specs.declared.fault.AnswerFault.TheVariants as fault
use Rattle.merge_core.specs.declared.fault.FeedFault.TheVariants as feed
use Rattle.merge_core.specs.declared.fault.MergeFault.TheVariants as merge
use Rattle.merge_core.specs.LineFaults as lines

-- the line of a member, with a line feed, says the member
abbrev pub IsRow : ℕ → Member → Type 0
IsRow limit m = (has_no_feed m.line ≡ true) × (line_entry limit (line_row m) ≡ Some m)

in_no_feed : (limit : ℕ) (body : List ℕ) (m : Member) → line_in limit body ≡ Some m.values → has_no_feed body ≡ true
unfolding line_in
in_no_feed limit body m h = grind arith

pub is_row : (limit : ℕ) (line : List ℕ) (m : Member) → line_entry limit line ≡ Some m → IsRow limit m
is_row limit line m h = grind (arith, entered, in_no_feed, body_of-feed, is_utf8-from_IsUtf8)

rows_of : (limit : ℕ) (these : List (List ℕ)) (ms : List Member) → map (line_entry limit) these ≡ map Some ms
    → AllByRecursion (IsRow limit) ms
rows_of limit these [] e = tt
rows_of limit (line ∷ these) (m ∷ ms) e = grind (arith, is_row limit line m, rows_of limit these ms)
rows_of limit [] (m ∷ ms) e = cc

all_rows : (limit : ℕ) (texts : List (List ℕ)) (indexes : List (List Member)) → AllZip (IsIndex limit) texts indexes
    → AllByRecursion (IsRow limit) (all_lines indexes)
all_rows limit (t ∷ texts) (i ∷ indexes) h = grind (arith, each_join, rows_of, all_rows limit texts indexes h.1)
all_rows limit texts indexes h = grind arith

lines_rows : (limit : ℕ) (ms : List Member) → AllByRecursion (IsRow limit) ms → lines (lines_text ms) ≡ map line_row ms
lines_rows limit [] h = refl
lines_rows limit (m ∷ ms) h = grind (arith, append_assoc, lines_front, lines_rows limit ms h.1)

entries_rows : (limit : ℕ) (ms : List Member) → AllByRecursion (IsRow limit) ms
    → map (line_entry limit) (map line_row ms) ≡ map Some ms
entries_rows limit [] h = refl
entries_rows limit (m ∷ ms) h = grind (arith, entries_rows limit ms h.1)

not_above : (x y : Member) (o : Ordering) → pair_cmp (member_pair x) (member_pair y) ≡ o
    → is_gt (place_cmp (member_place y) (member_place x)) ≡ true → is_gt o ≡ false
not_above x y o e h = grind (arith, place_cmp_total.antisymm (member_place y) (member_place x))

falls_never : (ms : List Member) → Rises member_place place_cmp ms → NeverFalls member_pair pair_cmp ms
falls_never [] h = tt
falls_never (m ∷ ms) h = grind (arith, each_weaker, not_above, falls_never ms h.1)

-- rows that rise are an index
pub rows_index : (limit : ℕ) (ms : List Member) → AllByRecursion (IsRow limit) ms → Rises member_place place_cmp ms
    → IsIndex limit (lines_text ms) ms
rows_index limit ms rows rise = grind (arith, lines_rows, entries_rows, falls_never)

pub collection_rows : (limit : ℕ) (texts : List (List ℕ)) (indexes : List (List Member))
    → AllZip (IsIndex limit) texts indexes → AllByRecursion (IsRow limit) (collection indexes)
collection_rows limit texts indexes h = grind (arith, each_rising, place_cmp_total, all_rows)

-- what a merge writes is an index
pub ruleset merged_rules = (rows_index, collection_rows, rises_rising, place_cmp_total)

rises_take : (n : ℕ) (ms : List Member) → Rises member_place place_cmp ms → Rises member_place place_cmp (take n ms)
rises_take (suc n) (m ∷ ms) h = (each_take _ n ms h.0, rises_take n ms h.1)
rises_take n ms h = grind arith

pub each_at_most : (A : Member → Type 0) (n : Option ℕ) (ms : List Member) → AllByRecursion A ms
    → AllByRecursion A (at_most member_place n ms).members
each_at_most A n ms h = grind (arith, each_take)

rises_at_most : (n : Option ℕ) (ms : List Member) → Rises member_place place_cmp ms
    → Rises member_place place_cmp (at_most member_place n ms).members
rises_at_most n ms h = grind (arith, rises_take)

cdxj_text : (q : QueryValue) (lines : List Member) → q.output ≡ Cdxj
    → shown_key q.show_resume_key (query_page q lines).next ≡ None → answer_text q (query_page q lines)
    ≡ lines_text (query_page q lines).members
cdxj_text q lines is none = rw (is, none) (append-nil (lines_text (query_page q lines).members))

pub cdxj_page_index : (limit : ℕ) (texts : List (List ℕ)) (indexes : List (List Member)) (q : QueryValue)
    → AllZip (IsIndex limit) texts indexes → q.output ≡ Cdxj
    → shown_key q.show_resume_key (query_page q (collection indexes)).next ≡ None
    → IsIndex limit (answer_text q (query_page q (collection indexes))) (query_page q (collection indexes)).members
cdxj_page_index limit texts indexes q h is none =
    let page = (query_page q (collection indexes)).members in
    let rows : AllByRecursion (IsRow limit) page =
    grind (arith, each_at_most, each_kept, place_cmp_total, each_filter, collection_rows limit texts indexes h) in
    let selects : Rises member_place place_cmp (selected q (collection indexes)) =
    grind (arith, rises_filter, place_cmp_total, rises_rising) in
    let rise = rises_at_most q.limit _ (rises_collapsed member_place place_cmp (same_part q.collapse) place_cmp_total _
    q.resume selects) in
    rw (cdxj_text q (collection indexes) is none) (rows_index limit page rows rise)

-- ---- of an index no line is at fault

module _ (limit : ℕ) where
  no_bad_line : (before : List (List ℕ)) (line : List ℕ) (after : List (List ℕ)) (members : List Member)
      → map (line_entry limit) (before ++ line ∷ after) ≡ map Some members → line_entry limit line ≡ None → ⊥
  no_bad_line (b ∷ before) line after (m ∷ members) e none = no_bad_line before line after members (cc) none
  no_bad_line [] line after (m ∷ members) e none = cc
  no_bad_line before line after members e none = cc

  in_order : (before : List (List ℕ)) (previous line : List ℕ) (after : List (List ℕ)) (members : List Member)
      (m n : Member) → map (line_entry limit) (before ++ previous ∷ line ∷ after) ≡ map Some members
      → NeverFalls member_pair pair_cmp members → line_entry limit previous ≡ Some m → line_entry limit line ≡ Some n
      → is_gt (pair_cmp (member_pair m) (member_pair n)) ≡ true → ⊥
  in_order (b ∷ before) previous line after (k ∷ members) m n e ordered is next falls =
      in_order before previous line after members m n (cc) ordered.1 is next falls
  in_order before previous line after (k ∷ l ∷ members) m n e ordered is next falls = grind arith
  in_order before previous line after members m n e ordered is next falls = grind arith

  -- the source with this number tells the bytes of an index
  record ToldIndex (told : Option (List ℕ)) : Type 0 where
    text : List ℕ
    members : List Member
    told_is : told ≡ Some text
    index : IsIndex limit text members

  index_at : (tolds : List (Option (List ℕ))) (texts : List (List ℕ)) (indexes : List (List Member)) → Known tolds texts
      → AllZip (IsIndex limit) texts indexes → (i : ℕ) → i < length tolds → ToldIndex (get_or tolds i None)
  index_at [] texts indexes known are i inside = grind arith
  index_at (told ∷ tolds) texts indexes known are i inside = grind (arith, index_at tolds)

pub no_line_at_fault : NoLineIsAtFault
no_line_at_fault told (fault.BadLine i offset) named texts indexes known are =
    let at = index_at LINE_LIMIT told texts indexes known are i named.0 in
    let bad = named.1 at.text at.told_is in
    no_bad_line LINE_LIMIT bad.before bad.line bad.begins.after at.members (rw bad.begins.lines_are at at.index.entries)
    bad.bad
no_line_at_fault told (fault.OutOfOrder i offset) named texts indexes known are =
    let at = index_at LINE_LIMIT told texts indexes known are i named.0 in
    let out = named.1 at.text at.told_is in
    let cut = out.begins.lines_are ∙ append_assoc out.before (out.previous ∷ []) (out.line ∷ out.begins.after) in
    in_order LINE_LIMIT out.before out.previous out.line out.begins.after at.members out.earlier out.later
    (rw cut at at.index.entries) at.index.ordered out.earlier_is out.later_is out.falls
no_line_at_fault told other named texts indexes known are = tt

-- ---- the faults of merges

pub merge_line : (texts : List (Option (List ℕ))) (e : MergeFault) → lines.IsMergeFaultOf texts e
    → IsAnswerFaultOf texts (fault_of_merge e)
merge_line texts (merge.Feed i feed.Memory) h = tt
merge_line texts (merge.Feed i feed.Read) h = tt
merge_line texts other h = h

pub ruleset merge_rules = (merge_line, err_from_is_err_and, wrote_nothing, once_none)

pub ruleset pass_rules = (merge_line, err_from_is_err_and, all_kept)
