-- The words that most proofs here cite, passed on from one place. Declares nothing.
pub use Rattle.std.proofs.Common.{Err, List, None, Ok, Option, Result, Some, [], ap, append-nil}
pub use Rattle.std.proofs.Common.{append_assoc, arith, drop, false, get_or, length, length-append}
pub use Rattle.std.proofs.Common.{length-drop, refl, suc, take, true, ℕ, ◌++◌, ◌+◌, ◌-◌, ◌<◌, ◌∷◌}
pub use Rattle.std.proofs.Common.{◌≡◌, ◌≤◌, ◌⊎◌}
pub use Rattle.std.proofs.Math.Seq.{take-append-add}
pub use Rattle.std.proofs.lemmas.List.{drop_all, length-take-le, take-append-drop, take-take}
pub use Rattle.std.specs.Io.KnownBytes.{Consumes, prepend_known}
pub use Rattle.warc_core.specs.HeadText.{IsFoundHead, has_version, is_closed}
pub use Rattle.warc_core.specs.HeadView.{HeadView, record_length}
pub use Rattle.warc_core.specs.Reading.{Reads, ◌>>=◌}
pub use Rattle.warc_core.specs.Record.{closing}
pub use Rattle.warc_core.specs.RecordText.{IsVersionLine}
pub use Rattle.warc_core.specs.Walk.{Walks, closed_at}
pub use Rattle.warc_core.specs.declared.fault.Cause.{Cause}
pub use Rattle.warc_core.specs.declared.next.TheConstants.{HEAD_LIMIT}
pub use Rattle.warc_core.specs.declared.phase.Phase.TheVariants.{Open}
pub use Rattle.warc_head.specs.Parts.{HeadParts}
