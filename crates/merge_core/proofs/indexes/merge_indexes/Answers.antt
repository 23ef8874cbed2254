use Rattle.merge_core.proofs.Words.{[], ℕ, ◌++◌, ◌-◌, ◌^◌, ◌∙◌, ◌∷◌, ◌≡◌, AllByRecursion, AllZip, Appends, Appends-none}
use Rattle.merge_core.proofs.Words.{AppendsPrefix, AreLinesOf, Bool, CursorState, IsIndex, KeepsSources, LINE_LIMIT, List, Member}
use Rattle.merge_core.proofs.Words.{MergeInput, MergeState, Option, OverIndexes, OverTexts, Pair, Reached, ap, append-nil, arith}
use Rattle.merge_core.proofs.Words.{cases_Bool, collection, each_weaker, err_from_is_err_and, false, filter}
use Rattle.merge_core.proofs.Words.{flat_map-append, inl, inputs, inr, length, length-map, lines_text, map, member_pair}
use Rattle.merge_core.proofs.Words.{min, prefix_longer, prefix_whole, refl, sym, true, true≢false, wrote_nothing, zip}
use Rattle.merge_core.proofs.TakenLemmas.{IsUpward, none_wait, taken_first, taken_whole, took_of_indexes, took_of_parts}
use Rattle.merge_core.proofs.SourceLemmas.{all_kept, cut_at_start, gave_once, indexes_read, none_below_empty, parts}
use Rattle.merge_core.proofs.SourceLemmas.{reached_read, starts_kept, taken_lines}
use Rattle.merge_core.proofs.CollectedLemmas.{of_lines, one_indexes}
use Rattle.merge_core.proofs.{Many.each_second, OpenLemmas.begun_of, StateLemmas.cursors_of}
use Rattle.merge_core.proofs.indexes.merge_indexes.Goals.{After-merge, In_err-merge, In_ok-merge}
use Rattle.merge_core.proofs.indexes.merge_indexes.Goals as goal

abbrev never : List ℕ → Bool
never key = false

upward : IsUpward never
upward key later e h = absurd (true≢false (sym e))

filter_every : (xs : List Member) → filter (λ m. true) xs ≡ xs
filter_every [] = refl
filter_every (x ∷ xs) = ap (λ l. x ∷ l) (filter_every xs)

-- each source is read from its start on
begun : (g : _) (c : After-merge g) → AllByRecursion (λ x. x.1.start ≡ 0)
    (zip c.open_at.new.sources c.in_ok-opened.opened.merge.cursors.items)
begun g c = begun_of g.S.Source _ refl _ _ c.in_ok-opened.ensures.begun.opened

module _ (g : _) (c : After-merge g) {ss : List g.row.S.Denot} {m : MergeState} {b : Option Pair}
    {taken : List Member} (reached : Reached never g.S.Source
    c.open_at.new.sources c.in_ok-opened.opened.merge ss m b taken) where
  -- of sources that are indexes, what was taken is a front of their collection
  front : (old new : Option (List ℕ)) → AppendsPrefix old new (lines_text taken)
      → OverIndexes (map g.S.Source.text c.args.sources.now)
      (λ texts indexes. AppendsPrefix old new (lines_text (collection indexes)))
  front old new p texts indexes known are =
      let opened = c.in_ok-opened.ensures in
      let cut = each_weaker (cut_at_start g.S.Source) _ (begun g c) in
      let first = taken_first (took_of_indexes reached upward (λ m. true) (λ m e. refl) ([], [])
      cut (λ m e. none_below_empty (member_pair m).0 (member_pair m).1) texts indexes
      (rw (← opened.sources.0.0) at known) are) in
      let whole : collection indexes ≡ taken ++ first.0 = grind (arith, filter_every) in
      rw (whole, flat_map-append) (prefix_longer old new _ _ p)

  -- and of any sources, it is lines of theirs
  lines : AreLinesOf (map g.S.Source.text c.args.sources.now) taken
  lines = rw (← c.in_ok-opened.ensures.sources.0.0) (grind (arith, taken_lines))

-- all lines that were taken were written and counted
wrote : (g : _) (c : In_ok-merge g)
    → Appends (g.O.Output.written c.args.out.now) (g.O.Output.written c.merge.new.out)
    (lines_text c.in_ok-merge.ensures.ended.so_far.taken)
    × (c.merge.new.sink.count ≡ min (length c.in_ok-merge.ensures.ended.so_far.taken) (2 ^ 64 - 1))
wrote g c =
    let out = g.O.Output.written c.args.out.now in
    c.in_ok-merge.ensures.ended.so_far.came c.new-writer.result out (Appends-none out, c.new-writer.ensures)

-- or a prefix of them
broke : (g : _) (c : In_err-merge g) → AppendsPrefix (g.O.Output.written c.args.out.now)
    (g.O.Output.written c.merge.new.out) (lines_text c.in_err-merge.ensures.ended.0.taken)
broke g c =
    let out = g.O.Output.written c.args.out.now in let broke = c.in_err-merge.ensures.ended.0 in
    elim (broke.wrote c.new-writer.result out (Appends-none out, c.new-writer.ensures)) [
      | inl k ↦ grind (arith, append-nil, prefix_whole)
      | inr p ↦ p
    ]

pub returns-in_err-opened-clause-merged : goal.returns-in_err-opened-clause-merged
returns-in_err-opened-clause-merged g c =
    rw (err_from_is_err_and c.from_residual.result c.from_residual.ensures.1).1
    (of_lines [] (record { rise = tt; each = tt }) (wrote_nothing _ []) (λ texts indexes known are. wrote_nothing _ _))

pub returns-in_err-merge-clause-merged : goal.returns-in_err-merge-clause-merged
returns-in_err-merge-clause-merged g c =
    let at = goal.at.returns-in_err-merge-clause-merged g c in
    let reached = c.in_err-merge.ensures.ended.0.reached in let broke = broke g at.In_err-merge in
    rw (err_from_is_err_and c.from_residual-in_err-merge.result c.from_residual-in_err-merge.ensures.1).1
    (of_lines _ (lines g at.After-merge reached) broke (front g at.After-merge reached _ _ broke))

pub returns-in_err-merge-clause-bytes : goal.returns-in_err-merge-clause-bytes
returns-in_err-merge-clause-bytes g c = grind (arith, gave_once)

pub returns-in_err-merge-clause-kept : goal.returns-in_err-merge-clause-kept
returns-in_err-merge-clause-kept g c = grind (arith, all_kept)

pub returns : goal.returns
returns g c =
    let at = goal.at.returns g c in
    let device = g.S.Source in let sources = c.merge.new.sources in let m = c.merge.new.merge in
    let opened = c.in_ok-opened.ensures in let passed = c.in_ok-merge.ensures.ended in
    let taken = passed.so_far.taken in let reached = passed.so_far.reached in
    let wrote = wrote g at.In_ok-merge in
    let kept : KeepsSources device c.args.sources.now sources = grind (arith, all_kept) in
    let whole : OverTexts (map device.text c.args.sources.now) (λ texts.
    AllZip (IsIndex LINE_LIMIT) texts (parts texts (inputs m)) × (taken ≡ collection (parts texts (inputs m)))) =
    λ texts known.
    let there = rw (← opened.sources.0.0) at known in
    let empty : m.queue ≡ [] = grind (arith, cases_Bool) in
    let starts = each_second (λ (c : CursorState). c.start ≡ 0) sources m.cursors.items reached.ready.aligned.same
    (starts_kept device _ _ c.merge.ensures.moved (begun g at.After-merge)) in
    let none : AllByRecursion (λ (f : MergeInput). f.waits ≡ []) (inputs m) = rw empty (none_wait 0 m.cursors.items) in
    let took = took_of_parts reached upward (λ m. true) (λ m e. refl) texts there in (
      indexes_read never (λ key. refl) texts (inputs m) (reached_read reached texts there) (rw cursors_of starts) none,
      sym (simp filter_every at (taken_whole took empty)),
    ) in
    record {
      kept = kept;
      fault = grind arith;
      merged = of_lines taken (lines g at.After-merge reached) wrote (λ texts indexes known are.
          let read = whole texts known in
          rw (← (read.1 ∙ ap collection (one_indexes texts _ indexes read.0 are))) wrote);
      indexes = λ texts known. (_, (whole texts known).0);
      bytes = grind (arith, gave_once);
      most_lines = λ texts indexes known are most share.
          let few = c.merge.ensures.most_lines texts indexes (rw (← opened.sources.0.0) at known) are most share
          (omega (arith, opened.begun.none_held)) in
          grind (arith, length-map);
    }
