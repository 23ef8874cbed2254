-- What a head's mandatory fields say, beside its fields.
use Rattle.std.specs.Prelude.{List}
use Rattle.warc_head.specs.declared.parts.Said.{Said}
use Rattle.warc_head.specs.Fields.{Field}
use Rattle.warc_head.specs.Parts.{HeadParts}

abbrev pub said_of : Said → List Field → HeadParts
said_of said fields = record { kind = said.kind; stamp = said.stamp; block_length = said.length; fields = fields }
