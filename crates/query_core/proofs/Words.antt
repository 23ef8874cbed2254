-- The words that most proofs here cite, passed on from one place. Declares nothing.
pub use Rattle.cdxj_core.proofs.{IndexLemmas.lines_front, MemberLemmas.entry_pair_is}
pub use Rattle.cdxj_core.specs.Lines.{LineValue, has_no_feed}
pub use Rattle.cdxj_core.specs.declared.field.Field.{Field}
pub use Rattle.cdxj_places.proofs.RisingLaws.{each_at, rising_members, rising_same}
pub use Rattle.cdxj_places.specs.Pair.{begins_with_pair, is_key, is_stamp, key_part, stamp_part}
pub use Rattle.cdxj_places.specs.Places.{PlaceValue, resume_text}
pub use Rattle.cdxj_places.specs.Rising.{IsFirst, put}
pub use Rattle.devices.proofs.DeviceLemmas.{grows_part}
pub use Rattle.devices.specs.LineCuts.{cut_lines, without_carriage_return}
pub use Rattle.devices.specs.LineReading.{CountsTaken, TakesLine}
pub use Rattle.merge_core.proofs.{Many.two_same, PairOrder.upto_upto}
pub use Rattle.merge_core.proofs.Words.{[], ℕ, ◌&&◌, ◌++◌, ◌+◌, ◌-◌, ◌<◌, ◌^◌, ◌∙◌, ◌∷◌, ◌≡◌, ◌≤◌, ◌⊎◌}
pub use Rattle.merge_core.proofs.Words.{AllByRecursion, AllGaveWithin, AllZip, Appends, Appends-join, Appends-none}
pub use Rattle.merge_core.proofs.Words.{AppendsPrefix, AreLinesOf, Bool, Ghosts, Grows, HasEntry, IsAbove, IsIn}
pub use Rattle.merge_core.proofs.Words.{IsIndex, KeepsSources, Known, LINE_LIMIT, List, Member, NeverFalls, None}
pub use Rattle.merge_core.proofs.Words.{NoneBelow, Option, Ordering, OverIndexes, Pair, Rises, Some, Upto, all_lines}
pub use Rattle.merge_core.proofs.Words.{and_parts, ap, append-nil, append_assoc, arith, cases_lt, collection, cond}
pub use Rattle.merge_core.proofs.Words.{drop, each_join, each_rising, each_weaker, err_from_is_err_and, false, filter}
pub use Rattle.merge_core.proofs.Words.{flat_map, flat_map-append, get_or, grows_by, grows_not, grows_on, inl, inputs}
pub use Rattle.merge_core.proofs.Words.{inr, is_gt, is_low, length, length-append, length-drop, length-map, length-take}
pub use Rattle.merge_core.proofs.Words.{line_entry, line_row, lines, lines_text, list_all, map, map-append, member_pair}
pub use Rattle.merge_core.proofs.Words.{member_place, min, nat_cmp, nat_lt, not, pair_cmp, pair_cmp_total, place_cmp}
pub use Rattle.merge_core.proofs.Words.{place_cmp_total, prefix_after, prefix_longer, refl, rises_rising, rising}
pub use Rattle.merge_core.proofs.Words.{slice_cmp, subst, suc, sum, sym, take, take-append-drop, take_all, true}
pub use Rattle.merge_core.proofs.Words.{true≢false, wrote_nothing, zero, zip}
pub use Rattle.page_core.proofs.PageLaws.{chain_law, each_filter, each_kept, first_positive, later_positive}
pub use Rattle.page_core.proofs.PageLaws.{rises_collapsed, rises_filter}
pub use Rattle.page_core.specs.PageText.{begun, page_end, page_start, page_text, row_text}
pub use Rattle.page_core.specs.Pages.{AllPositive, IsChain, Page, at_most, collapsed, end_place, first_size, is_above}
pub use Rattle.page_core.specs.Pages.{kept, later_sizes, next_after}
pub use Rattle.page_core.specs.Rows.{escaped, row_value, text_row}
pub use Rattle.query_core.specs.{AnyReplies.IsTextReply, IndexFaults.IsAnswerFaultOf, Replies.reply_of}
pub use Rattle.query_core.specs.PageLines.{BeginsWithBracket, HaveEntries}
pub use Rattle.query_core.specs.PageWriting.{AreAtMost, FitsWord, captures_over, is_full, is_wanted, last_of}
pub use Rattle.query_core.specs.PageWriting.{more_after, next_of, place_before}
pub use Rattle.query_core.specs.PagesReach.{GaveInPages, WroteInPages}
pub use Rattle.query_core.specs.PagesWriting.{AreCut, HasReadKey, IsSized, PagesSoFar, no_pages, text_so_far}
pub use Rattle.query_core.specs.Passes.{AreFirst, GaveFor, ReadFor}
pub use Rattle.query_core.specs.QueryPages.{answer_text, form_of, query_captures, query_page, selected, shown_key}
pub use Rattle.query_core.specs.Reach.{GaveInReach, WroteFirst, captures_text, in_reach}
pub use Rattle.query_core.specs.WriterView.{Broke, IsWriterOf, Wrote, from_view}
pub use Rattle.query_core.specs.WrittenPages.{WrotePages, WrotePagesInPart, pages_text}
pub use Rattle.query_core.specs.declared.fault.AnswerFault.{AnswerFault}
pub use Rattle.query_core.specs.declared.page_writer.PageWriter.{PageWriter}
pub use Rattle.query_text.specs.{Collapses.same_part, Targets.TargetValue}
pub use Rattle.query_text.specs.Matching.{is_past, matches}
pub use Rattle.query_text.specs.Queries.{QueryValue, query_of}
pub use Rattle.query_text.specs.declared.fault.QueryFault.{QueryFault}
pub use Rattle.query_text.specs.declared.query.TheConstants.{QUERY_LIMIT}
pub use Rattle.std.proofs.Common.{◌↔◌, All, Err, Ok, eqb-true, le-ltb, lt-ltb, option_map, rules}
pub use Rattle.std.proofs.Math.Seq.{take-append_seam}
pub use Rattle.std.proofs.lemmas.Bool.{eqb-false, false_from_ne_true}
pub use Rattle.std.proofs.lemmas.Bool.Decides.{nat_tests}
pub use Rattle.std.proofs.lemmas.List.Elements.{All-head, All-tail}
pub use Rattle.std.proofs.lemmas.List.Folds.{list_all-append}
pub use Rattle.std.proofs.lemmas.Slice.Eq.{bytes_eq-Decides}
pub use Rattle.std.proofs.lemmas.Str.{is_utf8-from_IsUtf8}
pub use Rattle.std.specs.Io.KnownBytes.{prepend_known}
pub use Rattle.std.specs.{Option.is_some, Str.is_utf8}
pub use Rattle.std.specs.Prelude.{⊤, codes}
