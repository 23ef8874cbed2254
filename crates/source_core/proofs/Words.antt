-- The words that most proofs here cite, passed on from one place. Declares nothing.
pub use Rattle.cdxj_core.specs.declared.limit.TheConstants.{LINE_LIMIT}
pub use Rattle.cdxj_core.specs.{Indexes.IsIndex, Lines.body_of}
pub use Rattle.cdxj_core.specs.Members.{Member, line_entry, member_pair}
pub use Rattle.cdxj_places.specs.Pair.{begins_with_pair, is_key, key_part, pair_of, stamp_part}
pub use Rattle.cdxj_places.specs.Pairs.{IsLeast, Pair, pair_cmp}
pub use Rattle.cdxj_places.specs.{PairViews.pair_view, TextLines.lines}
pub use Rattle.source_core.specs.Cursors.{CursorState, IsHeldLine, Stands}
pub use Rattle.source_core.specs.Halved.{Halved, HalvedIn, IsFar}
pub use Rattle.source_core.specs.Halving.{digits_to, stops, stops_lines}
pub use Rattle.source_core.specs.IndexLines.{BeginsAfter, after_line, first_length, from_line, longest}
pub use Rattle.source_core.specs.LineParts.{BeginsWith, NoFeed, PartOf, ReadsOn}
pub use Rattle.source_core.specs.Search.{IsCut, IsStop, is_below, is_some_below}
pub use Rattle.source_core.specs.Windows.{AreBytesAt, HeldBytes, Holds, held_from}
pub use Rattle.std.proofs.Common.{[], ℕ, ◌*◌, ◌++◌, ◌+◌, ◌-◌, ◌/◌, ◌<◌, ◌^◌, ◌∙◌, ◌∷◌, ◌≡◌, ◌≤◌, ◌⊎◌, Bool, IfNone}
pub use Rattle.std.proofs.Common.{IfSome, List, None, Option, Some, ap, append-nil, append_assoc, ap₂, arith, cond}
pub use Rattle.std.proofs.Common.{drop, drop-drop, eq-eqb, eqb, eqb-true, false, flat_map, get_or, get_or-take, inl}
pub use Rattle.std.proofs.Common.{inr, is_gt, length, length-append, length-drop, length-take, map, min, not}
pub use Rattle.std.proofs.Common.{option_map, refl, rules, subst, suc, sym, take, take-append-drop, true, zero}
pub use Rattle.std.proofs.lemmas.Bool.{and_parts, cases_lt, cond-false, cond_both, le-ltb, ltb-false, not-false}
pub use Rattle.std.proofs.lemmas.Grind.{common_steps, flat_map-append}
pub use Rattle.std.proofs.lemmas.List.{drop-take, drop_all, drop_more, take-take, take_all, take_at, take_more}
pub use Rattle.std.specs.List.{AllByRecursion, list_all, prefix_len}
unfoldable pub use Rattle.source_core.specs.Halving.{digits}
unfoldable pub use Rattle.source_core.specs.Search.{line_below}
