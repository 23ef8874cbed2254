-- What the definitions say of literal archives, by calculation.
use Rattle.std.proofs.Common.{refl, []}
use Rattle.std.specs.Fmt.{digits}
use Rattle.deflate_bits.specs.Reading.{number_in}
use Rattle.crc_32.specs.Crc.{crc_bit, crc_bits}
use Rattle.deflate_codes.specs.Codes.{first_code, give_codes}
use Rattle.deflate_codes.specs.Decoding.{decode}
use Rattle.deflate_symbols.specs.Symbols.{length_in, distance_in, copy_in, symbol_in, symbols_in, data_in}
use Rattle.deflate_symbols.specs.Symbols as symbols
use Rattle.inflate.specs.Lengths as lengths
use Rattle.inflate.specs.Lengths.{numbers_in, repeat_in, length_by, lengths_after}
use Rattle.inflate.specs.Heads.{bytes_head_in, symbols_head_in, alphabets_in, code_lengths_in}
use Rattle.inflate.specs.Heads.{coded_in, counts_in, dynamic_in, block_in, head_in}
use Rattle.inflate.specs.Blocks.{bytes_in, blocks_in, inflated_from}
use Rattle.gzip_members.specs.Header.{pair_in, past_in, text_in, extra_in, sum_in, flags_in}
use Rattle.gzip_members.specs.Header.{fields_in, header_in}
use Rattle.gzip_members.specs.Members.{size_in, trailer_in, body_in, member_in}
use Rattle.warc_head.specs.Date.{fits, date_length, stamp_of}
use Rattle.warc_head.specs.Parts as parts
use Rattle.warc_head.specs.Parts.{stamp_in, kind_in, parts_in, parts_of}
use Rattle.warc_head.specs.Kind.{kind_of}
use Rattle.warc_head.specs.Mandatory.{each_once, required}
use Rattle.warc_head.specs.Length.{length_of}
use Rattle.warc_head.specs.Lines.{lines_of}
use Rattle.warc_head.specs.Fields.{at_colon, field_in, given_by, fields_of, value_of}
use Rattle.warc_core.specs.Record.{after_text, after_block, after_record}
use Rattle.warc_core.specs.Next.{head_at, next_at}
use Rattle.warc_core.specs.Head.{parts_or_cause}
use Rattle.warc_core.specs.HeadText.{shortest, head_text}
use Rattle.warc_core.specs.Walk.{record_at}
use Rattle.archives.specs.Packed.{member_holds, packed, packed_within}
use Rattle.index_core.specs.Listing.{record_line}
use Rattle.packed_tests.specs.Examples.{ArchiveIsRead, resource_member}

pub archive_is_read : ArchiveIsRead
unfolding number_in crc_bit crc_bits bytes_head_in block_in head_in bytes_in blocks_in inflated_from
    pair_in past_in text_in decode first_code length_in distance_in copy_in symbol_in symbols_in
    data_in extra_in sum_in flags_in fields_in header_in size_in trailer_in body_in member_in
    symbols.sum_in numbers_in repeat_in length_by lengths_after lengths.length_in symbols_head_in
    alphabets_in code_lengths_in coded_in counts_in dynamic_in give_codes member_holds packed
    packed_within record_at next_at head_at head_text shortest parts_or_cause parts_of parts_in
    kind_in stamp_in parts.length_in stamp_of date_length fits kind_of each_once required length_of
    lines_of at_colon field_in given_by fields_of value_of after_record after_block after_text
    record_line digits
archive_is_read = record {
  whole = record { end = 372; rest = []; walks = (resource_member, refl, ([], refl, (refl, refl))); ended = refl };
  listed = refl;
  cut = record { end = 207; rest = _; walks = (_, refl, (refl, refl)); refused = refl };
  other = record { end = 207; rest = _; walks = (_, refl, (refl, refl)); refused = refl };
}
