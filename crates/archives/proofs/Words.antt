-- The words that most proofs here cite, passed on from one place. Declares nothing.
pub use Rattle.capture_core.specs.CaptureAnswer.{Limits}
pub use Rattle.capture_core.specs.Fault.{fault_offset}
pub use Rattle.capture_core.specs.declared.fault.CaptureFault.{CaptureFault}
pub use Rattle.capture_core.specs.declared.fault.CaptureFault.TheVariants.{Archive}
pub use Rattle.cdxj_core.specs.Entries.{EntryValue}
pub use Rattle.devices.proofs.DeviceLemmas.{Appends-join, Appends-none}
pub use Rattle.devices.specs.Device.{AppendsPrefix}
pub use Rattle.std.proofs.Common.{Bool, Err, IfSome, List, None, Ok, Option, Result, Some, [], ap}
pub use Rattle.std.proofs.Common.{append-nil, append_assoc, arith, drop, inl, inr, length}
pub use Rattle.std.proofs.Common.{length-append, map, option_to_list, refl, slice_get, subst, sym}
pub use Rattle.std.proofs.Common.{take, ℕ, ◌++◌, ◌+◌, ◌-◌, ◌<◌, ◌^◌, ◌∙◌, ◌∷◌, ◌≡◌, ◌≤◌, ◌⊎◌}
pub use Rattle.std.proofs.Math.Seq.{drop-append_seam}
pub use Rattle.std.proofs.lemmas.Result.{err_from_is_err_and}
pub use Rattle.std.specs.Io.KnownBytes.{Appends, prepend_known}
pub use Rattle.std.specs.List.{AllByRecursion, filter_map}
pub use Rattle.warc_core.proofs.ArchiveLemmas.{next-spelled}
pub use Rattle.warc_core.proofs.SpelledLemmas.{read-spelled}
pub use Rattle.warc_core.proofs.WalkLemmas.{Walks-more, none_at_end, not_both, record-stopped}
pub use Rattle.warc_core.proofs.WalkLemmas.{record-unclosed, record-whole, two-walks, walk-extends}
pub use Rattle.warc_core.specs.HeadView.{HeadView, record_length}
pub use Rattle.warc_core.specs.Kind.{Kind}
pub use Rattle.warc_core.specs.Reading.{Reads}
pub use Rattle.warc_core.specs.Record.{after_record}
pub use Rattle.warc_core.specs.Walk.{Walks}
pub use Rattle.warc_core.specs.declared.fault.Cause.{Cause}
pub use Rattle.warc_core.specs.declared.fault.Fault.{Fault}
pub use Rattle.warc_core.specs.declared.next.TheConstants.{HEAD_LIMIT}
pub use Rattle.warc_core.specs.declared.phase.Phase.TheVariants.{Between}
