-- The limits of lines and of query texts, in bytes.
pub use Rattle.cdxj_core.specs.declared.limit.TheConstants.{LINE_LIMIT}
pub use Rattle.query_text.specs.declared.query.TheConstants.{QUERY_LIMIT}
