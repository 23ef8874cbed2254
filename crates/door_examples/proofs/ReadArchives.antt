-- What the definitions say of archives of one record, by calculation.
use Rattle.std.proofs.Common.{refl, [], ◌∷◌, Some, None, Ok}
use Rattle.std.proofs.lemmas.Bool.{leb-true}
use lib.Utf8.{encode}
use Rattle.std.specs.Str.{is_utf8, chars}
use Rattle.json.specs.Print.{escape_byte}
use Rattle.std.specs.Fmt.{digits}
use Rattle.warc_head.specs.Date.{fits, date_length, stamp_of}
use Rattle.warc_head.specs.Parts.{length_in, stamp_in, kind_in, parts_in, parts_of}
use Rattle.warc_head.specs.Kind.{kind_of}
use Rattle.warc_head.specs.Mandatory.{each_once, required}
use Rattle.warc_head.specs.Length.{length_of}
use Rattle.warc_head.specs.Lines.{lines_of}
use Rattle.warc_head.specs.Fields.{at_colon, field_in, given_by, fields_of, value_of}
use Rattle.warc_core.specs.Record.{after_text, after_block, after_record}
use Rattle.warc_core.specs.Next.{head_at, next_at}
use Rattle.warc_core.specs.Head.{parts_or_cause}
use Rattle.warc_core.specs.HeadText.{shortest, head_text}
use Rattle.warc_core.specs.Walk.{record_at}
use Rattle.capture_core.specs.Utf8Text.{utf8_text}
use Rattle.capture_core.specs.FieldValue.{without_brackets, media_type, without_sha1}
use Rattle.capture_core.specs.Capture.{content_of}
use Rattle.cdxj_keys.specs.Key.{key_of}
use Rattle.percent_encoding.specs.AsciiSet.{should_percent_encode}
use Rattle.percent_encoding.specs.Percent.{percent_decode, percent_encode}
use Rattle.url.specs.Host.{ascii_domain, parse_special_host}
use Rattle.url.specs.Input.{trim_c0_control_and_space, strip_tabs_and_new_lines, split_once, rsplit_once}
use Rattle.url.specs.Ipv4.{ends_in_a_number, parse_number}
use Rattle.url.specs.Parser as parser
use Rattle.url.specs.Parser.{host_len, parse_port, parse_authority, leading_slashes, after_double_slash, parse_body, split_scheme, parse_url}
use Rattle.url.specs.Path.{dot_count, is_windows_drive_letter, drive_letter_prefix, shorten_path, push_segment, parse_segments, parse_path_start}
use Rattle.url.specs.Scheme.{default_port, scheme_type, scheme_len}
use Rattle.index_core.specs.Fetching.{StandsIn}
use Rattle.index_core.specs.Form.{plain, plain_record}
use Rattle.index_core.specs.Limits.{HEAD_LIMIT}
use Rattle.door_examples.specs.Archives.{a_archive, a_view, info_archive, info_view, InfoIsRead, PagesAreAccepted}

pub info_is_read : InfoIsRead
unfolding record_at next_at head_at head_text shortest parts_or_cause parts_of parts_in kind_in stamp_in length_in
    stamp_of date_length fits kind_of each_once required length_of lines_of at_colon field_in given_by fields_of
    value_of after_record after_block after_text plain
info_is_read = record {
  whole = record { end = 112; walks = ([], refl, (refl, refl)) };
  cut = record { rest = _; walks = (refl, refl); refused = refl };
  accepted = record {
    records = plain_record info_view info_archive ∷ [];
    whole = record { end = 112; rest = []; walks = ([], refl, (refl, refl)); ended = refl };
    captured = (None, [], (refl, tt), refl, refl);
  };
}

pub pages_are_accepted : PagesAreAccepted
unfolding record_at next_at head_at head_text shortest parts_or_cause parts_of parts_in kind_in stamp_in length_in
    stamp_of date_length fits kind_of each_once required length_of lines_of at_colon field_in given_by fields_of
    value_of after_record after_block after_text escape_byte digits utf8_text is_utf8 chars encode without_brackets
    media_type without_sha1 content_of key_of ascii_domain parse_special_host trim_c0_control_and_space
    strip_tabs_and_new_lines split_once rsplit_once ends_in_a_number host_len parse_port parse_authority
    leading_slashes after_double_slash parse_body split_scheme parse_url dot_count is_windows_drive_letter
    drive_letter_prefix shorten_path push_segment parse_segments parse_path_start default_port scheme_type
    scheme_len parser.parse_parts percent_decode should_percent_encode parse_number percent_encode plain
pages_are_accepted = record {
  records = record { end = 201; walks = ([], refl, (refl, refl)) };
  first = record {
    records = _ ∷ [];
    whole = record { end = 201; rest = []; walks = ([], refl, (refl, refl)); ended = refl };
    captured = (Some _, [], ((None, refl, refl), leb-true _ _ refl), refl, refl);
  };
  second = record {
    records = _ ∷ [];
    whole = record { end = 201; rest = []; walks = ([], refl, (refl, refl)); ended = refl };
    captured = (Some _, [], ((None, refl, refl), leb-true _ _ refl), refl, refl);
  };
}

-- at the start of the first archive stands its record, which is the archive
pub a_stands : StandsIn HEAD_LIMIT a_archive 0 (Ok a_archive)
unfolding record_at next_at head_at head_text shortest parts_or_cause parts_of parts_in kind_in stamp_in length_in
    stamp_of date_length fits kind_of each_once required length_of lines_of at_colon field_in given_by fields_of
    value_of after_record after_block after_text
a_stands = (a_view, record { before = []; bytes = a_archive; rest = []; walks = (refl, refl); whole = refl }, refl)
