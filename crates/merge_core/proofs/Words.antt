-- The words that most proofs here cite, passed on from one place. Declares nothing.
pub use Rattle.cdxj_core.specs.Indexes.{IsIndex, IsRun}
pub use Rattle.cdxj_core.specs.Members.{Member, line_entry, line_row, member_pair, member_place}
pub use Rattle.cdxj_core.specs.declared.limit.TheConstants.{LINE_LIMIT}
pub use Rattle.cdxj_core.specs.declared.line.Line.{Line}
pub use Rattle.cdxj_places.proofs.{PairLemmas.pair_cmp_total, PlaceOrder.place_cmp_total}
pub use Rattle.cdxj_places.proofs.RisingLaws.{each_join, each_rising, each_weaker, rises_rising, rising_split}
pub use Rattle.cdxj_places.specs.{Abbreviated.AreBytes, Places.place_cmp, TextLines.lines}
pub use Rattle.cdxj_places.specs.Pairs.{IsLeast, Pair, pair_cmp}
pub use Rattle.cdxj_places.specs.Rising.{IsIn, IsLower, NeverFalls, Rises, rising}
pub use Rattle.devices.proofs.DeviceLemmas.{Appends-join, Appends-none, grows_by, grows_not, grows_on}
pub use Rattle.devices.proofs.WritingLemmas.{prefix_after, prefix_longer, prefix_whole, wrote_nothing}
pub use Rattle.devices.specs.Device.{AppendsPrefix, Grows}
pub use Rattle.merge_core.specs.BoxedLines.{boxed_line, boxed_lines}
pub use Rattle.merge_core.specs.Collections.{KeepsSources, Known, OverIndexes, OverTexts, all_lines, collection}
pub use Rattle.merge_core.specs.Counts.{HoldsFew, OverShares, is_at}
pub use Rattle.merge_core.specs.Gathering.{EachDone, EndsAt, Gathered, Grouped, IsDue, IsDueAt, IsFrom, TookOf}
pub use Rattle.merge_core.specs.Gathering.{all_done, to_come, unread}
pub use Rattle.merge_core.specs.MergeInputs.{Aligned, AllMoved, AreInputs, AreSettled, EndsPast, IsInput, IsInputOf}
pub use Rattle.merge_core.specs.MergeInputs.{IsSettled, MergeInput, Moved, Ready, bytes_of, done, given, input_of}
pub use Rattle.merge_core.specs.MergeInputs.{inputs, inputs_from, member_of, option_list, read_lines, stays}
pub use Rattle.merge_core.specs.Merging.{BrokenMerge, HaltedGroup, HaltedMerge, MergePoint, SoFar, StillWants}
pub use Rattle.merge_core.specs.{NextLine.IsNextLine, Reached.Reached, Written.lines_text}
pub use Rattle.merge_core.specs.declared.fault.FeedFault.{FeedFault}
pub use Rattle.merge_core.specs.Openings.{AddedSource, AreOpened, IsCutAt, OpenedAt}
pub use Rattle.merge_core.specs.PairOrders.{Alike, Below, IsAbove, IsUpto, Upto, is_low}
pub use Rattle.merge_core.specs.PairStarts.{IsStart, pair_text}
pub use Rattle.merge_core.specs.declared.state.MergeState.{MergeState}
pub use Rattle.merge_core.specs.SourceLines.{AreLinesOf, HasEntry, IsLineIn, IsLineOf}
pub use Rattle.merge_core.specs.Spending.{AllGaveOnce, AllGaveWithin, AllOpenedWithin, AreReadTo, ReadTo, search_steps}
pub use Rattle.merge_core.specs.WaitingLines.{AllBeyond, NoneBefore, NoneBelow, WaitingLine, is_of, queued, turn_cmp}
pub use Rattle.merge_core.specs.WaitingLines.{waiting_pair, waits_of}
pub use Rattle.source_core.specs.Cursors.{CursorState, Stands}
pub use Rattle.source_core.specs.declared.source.Source.{Ghosts}
pub use Rattle.source_core.specs.Halving.{digits}
pub use Rattle.source_core.specs.Search.{IsCut, is_below}
pub use Rattle.source_core.specs.IndexLines.{IsLineStart, first_length, longest}
pub use Rattle.std.proofs.Common.{[], ℕ, ◌&&◌, ◌++◌, ◌+◌, ◌-◌, ◌<◌, ◌^◌, ◌∙◌, ◌∷◌, ◌≡◌, ◌≢◌, ◌≤◌, ◌⊎◌, Bool, Bor, Equal}
pub use Rattle.std.proofs.Common.{Fits, IsErrAnd, Less, List, MatchOption, MatchResult, None, Option, Ordering, Result}
pub use Rattle.std.proofs.Common.{Some, ap, append-nil, append_assoc, arith, cond, drop, drop-drop, drop-set-lt, false}
pub use Rattle.std.proofs.Common.{filter, flat_map, get_or, get_or-drop, inl, inr, is_eq, is_gt, is_lt, length}
pub use Rattle.std.proofs.Common.{length-append, length-drop, length-set, length-take, map, max, min, nat_lt, not, refl}
pub use Rattle.std.proofs.Common.{set, subst, suc, sym, take, take-append-drop, take_at, true, vec_len, w8, zero, zip}
pub use Rattle.std.proofs.lemmas.Bool.{and_cases, and_parts, cases_Bool, cases_lt, cond-false, cond-true, not-false}
pub use Rattle.std.proofs.lemmas.Bool.{not-true, true≢false}
pub use Rattle.std.proofs.lemmas.Result.{err_from_is_err_and}
pub use Rattle.std.proofs.lemmas.Cmp.{nat_list_cmp_total, tied_back, tied_itself}
pub use Rattle.std.proofs.lemmas.Grind.{common_steps, drop_more_same}
pub use Rattle.std.proofs.lemmas.List.{drop-map, drop_all, drop_at, get_or-map, get_or-set_same, get_or_default}
pub use Rattle.std.proofs.lemmas.List.{length-map, map-append, map-set, map_more, nil_from_length, set-get_or, set-set}
pub use Rattle.std.proofs.lemmas.List.{take-map, take-take, take_all, take_more, take_more_set}
pub use Rattle.std.proofs.lemmas.List.Concat.{flat_map-append}
pub use Rattle.std.proofs.lemmas.List.Sorted.{All-permutation, IsPermutation-sym, length_permutation}
pub use Rattle.std.proofs.lemmas.List.Sorted.{sum_by-IsPermutation}
pub use Rattle.std.proofs.lemmas.List.Elements.{All-from_recursion, filter-append, recursion_from_All}
pub use Rattle.std.proofs.lemmas.List.Sums.{length-filter, sum-map, sum_by-cons, sum_by-set, sum_by_push}
pub use Rattle.std.proofs.lemmas.Slice.Zip.{AllZip-long, all_zipped_more, get_or-zip, length-zip}
pub use Rattle.std.specs.Cmp.Lexicographic.{slice_cmp}
pub use Rattle.std.specs.Io.KnownBytes.{Appends}
pub use Rattle.std.specs.List.Sorted.{IsPermutation}
pub use Rattle.std.specs.List.{AllByRecursion, AllZip, list_all, sum}
pub use Rattle.std.specs.Ordering.{nat_cmp, ordering_reverse, ordering_then}
