-- The types of records, as the heads of records name them.
pub use Rattle.warc_head.specs.declared.kind.Kind.{Kind}
pub use Rattle.warc_head.specs.declared.kind.Kind.TheVariants as kinds
pub use Rattle.warc_head.specs.Kind.{kind_name}
