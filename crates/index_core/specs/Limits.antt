-- The limits of what is read and written.
pub use Rattle.cdxj_core.specs.declared.limit.TheConstants.{LINE_LIMIT}
pub use Rattle.warc_core.specs.declared.next.TheConstants.{HEAD_LIMIT}
