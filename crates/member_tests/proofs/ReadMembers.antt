-- What the definitions say of literal members, by calculation.
use Rattle.std.proofs.Common.{refl}
use Rattle.deflate_bits.specs.Reading.{number_in}
use Rattle.crc_32.specs.Crc.{crc_bit, crc_bits}
use Rattle.deflate_codes.specs.Codes.{first_code, give_codes}
use Rattle.deflate_codes.specs.Decoding.{decode}
use Rattle.deflate_symbols.specs.Symbols.{length_in, distance_in, copy_in, symbol_in, symbols_in, data_in}
use Rattle.deflate_symbols.specs.Symbols as symbols
use Rattle.inflate.specs.Lengths as lengths
use Rattle.inflate.specs.Lengths.{numbers_in, repeat_in, length_by, lengths_after}
use Rattle.inflate.specs.Heads.{bytes_head_in, symbols_head_in, alphabets_in, code_lengths_in, coded_in, counts_in, dynamic_in, block_in, head_in}
use Rattle.inflate.specs.Blocks.{bytes_in, blocks_in, inflated_from}
use Rattle.gzip_members.specs.Header.{pair_in, past_in, text_in, extra_in, sum_in, flags_in, fields_in, header_in}
use Rattle.gzip_members.specs.Members.{size_in, trailer_in, body_in, member_in}
use Rattle.member_tests.specs.Examples.{MembersAreRead, MembersAreRefused}

pub members_are_read : MembersAreRead
unfolding number_in crc_bit crc_bits bytes_head_in block_in head_in bytes_in blocks_in inflated_from pair_in past_in text_in
    decode first_code length_in distance_in copy_in symbol_in symbols_in data_in extra_in sum_in flags_in fields_in header_in size_in trailer_in
    body_in member_in symbols.sum_in numbers_in repeat_in length_by lengths_after lengths.length_in
    symbols_head_in alphabets_in code_lengths_in coded_in counts_in dynamic_in give_codes
members_are_read = record {
  empty = record { begins = refl; reads = refl };
  stored = record { begins = refl; reads = refl };
  fixed = record { begins = refl; reads = refl };
  dynamic = record { begins = refl; reads = refl };
}

pub members_are_refused : MembersAreRefused
unfolding number_in crc_bit crc_bits bytes_head_in block_in head_in bytes_in blocks_in inflated_from pair_in past_in text_in
    decode first_code length_in distance_in copy_in symbol_in symbols_in data_in extra_in sum_in flags_in fields_in header_in size_in trailer_in
    body_in member_in symbols.sum_in numbers_in repeat_in length_by lengths_after lengths.length_in
    symbols_head_in alphabets_in code_lengths_in coded_in counts_in dynamic_in give_codes
members_are_refused = record {
  cut = record { begins = refl; reads = refl };
  method = record { begins = refl; reads = refl };
  flag = record { begins = refl; reads = refl };
  header = record { begins = refl; reads = refl };
  complement = record { begins = refl; reads = refl };
  copy = record { begins = refl; reads = refl };
  checksum = record { begins = refl; reads = refl };
  size = record { begins = refl; reads = refl };
  other = refl;
  half = refl;
}
