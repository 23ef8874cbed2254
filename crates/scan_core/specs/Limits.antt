-- The limits of what is read.
pub use Rattle.cdxj_core.specs.declared.limit.TheConstants.{LINE_LIMIT}
pub use Rattle.warc_core.specs.declared.next.TheConstants.{HEAD_LIMIT}
pub use Rattle.query_text.specs.declared.query.TheConstants.{QUERY_LIMIT}
pub use Rattle.query_core.specs.declared.merging.TheConstants.{SOURCES_LIMIT}
