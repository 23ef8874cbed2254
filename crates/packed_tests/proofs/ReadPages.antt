-- What the definitions say of a record and its member, by calculation.
use Rattle.std.proofs.Common.{refl, [], ◌∷◌, Some, None}
use Rattle.std.proofs.lemmas.Bool.{leb-true}
use lib.Utf8.{encode}
use Rattle.std.specs.Str.{is_utf8, chars}
use Rattle.std.specs.Fmt.{digits}
use Rattle.json.specs.Print.{escape_byte}
use Rattle.deflate_bits.specs.Reading.{number_in}
use Rattle.crc_32.specs.Crc.{crc_bit, crc_bits}
use Rattle.inflate.specs.Heads.{bytes_head_in, block_in, head_in}
use Rattle.inflate.specs.Blocks.{bytes_in, blocks_in, inflated_from}
use Rattle.gzip_members.specs.Header.{pair_in, past_in, text_in, extra_in, sum_in, flags_in}
use Rattle.gzip_members.specs.Header.{fields_in, header_in}
use Rattle.gzip_members.specs.Members.{size_in, trailer_in, body_in, member_in}
use Rattle.warc_head.specs.Date.{fits, date_length, stamp_of}
use Rattle.warc_head.specs.Parts as parts
use Rattle.warc_head.specs.Parts.{stamp_in, kind_in, parts_in, parts_of}
use Rattle.warc_head.specs.Kind.{kind_of}
use Rattle.warc_head.specs.Mandatory.{each_once, required}
use Rattle.warc_head.specs.Length.{length_of}
use Rattle.warc_head.specs.Lines.{lines_of}
use Rattle.warc_head.specs.Fields.{at_colon, field_in, given_by, fields_of, value_of}
use Rattle.warc_core.specs.Record.{after_text, after_block, after_record}
use Rattle.warc_core.specs.Next.{head_at, next_at}
use Rattle.warc_core.specs.Head.{parts_or_cause}
use Rattle.warc_core.specs.HeadText.{shortest, head_text}
use Rattle.warc_core.specs.Walk.{record_at}
use Rattle.capture_core.specs.Utf8Text.{utf8_text}
use Rattle.capture_core.specs.FieldValue.{without_brackets, media_type, without_sha1}
use Rattle.capture_core.specs.Capture.{content_of}
use Rattle.cdxj_keys.specs.Key.{key_of}
use Rattle.percent_encoding.specs.AsciiSet.{should_percent_encode}
use Rattle.percent_encoding.specs.Percent.{percent_decode, percent_encode}
use Rattle.url.specs.Host.{ascii_domain, parse_special_host}
use Rattle.url.specs.Input.{trim_c0_control_and_space, strip_tabs_and_new_lines, split_once, rsplit_once}
use Rattle.url.specs.Ipv4.{ends_in_a_number, parse_number}
use Rattle.url.specs.Parser as parser
use Rattle.url.specs.Parser.{host_len, parse_port, parse_authority, leading_slashes, after_double_slash, parse_body, split_scheme, parse_url}
use Rattle.url.specs.Path.{dot_count, is_windows_drive_letter, drive_letter_prefix, shorten_path, push_segment, parse_segments, parse_path_start}
use Rattle.url.specs.Scheme.{default_port, scheme_type, scheme_len}
use Rattle.archives.specs.Form.{plain}
use Rattle.archives.specs.Packed.{member_holds, packed, packed_within}
use Rattle.packed_tests.specs.Examples.{PageIsAccepted}

pub page_is_accepted : PageIsAccepted
unfolding number_in crc_bit crc_bits bytes_head_in block_in head_in bytes_in blocks_in inflated_from
    pair_in past_in text_in extra_in sum_in flags_in fields_in header_in size_in trailer_in body_in
    member_in member_holds packed packed_within plain record_at next_at head_at head_text shortest
    parts_or_cause parts_of parts_in kind_in stamp_in parts.length_in stamp_of date_length fits
    kind_of each_once required length_of lines_of at_colon field_in given_by fields_of value_of
    after_record after_block after_text escape_byte digits utf8_text is_utf8 chars encode
    without_brackets media_type without_sha1 content_of key_of ascii_domain parse_special_host
    trim_c0_control_and_space strip_tabs_and_new_lines split_once rsplit_once ends_in_a_number
    host_len parse_port parse_authority leading_slashes after_double_slash parse_body split_scheme
    parse_url dot_count is_windows_drive_letter drive_letter_prefix shorten_path push_segment
    parse_segments parse_path_start default_port scheme_type scheme_len parser.parse_parts
    percent_decode should_percent_encode parse_number percent_encode
page_is_accepted = record {
  plain = record {
    records = _ ∷ [];
    whole = record { end = 201; rest = []; walks = ([], refl, (refl, refl)); ended = refl };
    captured = (Some _, [], ((None, refl, refl), leb-true _ _ refl), refl, refl);
  };
  packed = record {
    records = _ ∷ [];
    whole = record { end = 224; rest = []; walks = ([], refl, (refl, refl)); ended = refl };
    captured = (Some _, [], ((None, refl, refl), leb-true _ _ refl), refl, refl);
  };
}
