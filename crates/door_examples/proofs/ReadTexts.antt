-- What the definitions say of keys, lines and queries, by calculation.
use Rattle.std.proofs.Common.{refl}
use lib.Utf8.{encode}
use Rattle.json.specs.Json.{value}
use Rattle.json.specs.Lex.{lex, punctuate}
use Rattle.json.specs.Print.{escape_byte}
use Rattle.json.specs.Text.{content}
use Rattle.std.specs.Str.{is_utf8, chars}
use Rattle.std.specs.Str.Lossy.{utf8_lossy, utf8_valid_len}
use Rattle.std.specs.Fmt.{digits}
use Rattle.cdxj_keys.specs.Key.{key_of}
use Rattle.percent_encoding.specs.AsciiSet.{should_percent_encode}
use Rattle.percent_encoding.specs.Percent.{percent_decode, percent_encode}
use Rattle.url.specs.Host.{ascii_domain, parse_special_host}
use Rattle.url.specs.Input.{trim_c0_control_and_space, strip_tabs_and_new_lines, split_once, rsplit_once}
use Rattle.url.specs.Ipv4.{ends_in_a_number, parse_number}
use Rattle.url.specs.Parser as parser
use Rattle.url.specs.Parser.{host_len, parse_port, parse_authority, leading_slashes, after_double_slash, parse_body, split_scheme, parse_url}
use Rattle.url.specs.Path.{dot_count, is_windows_drive_letter, drive_letter_prefix, shorten_path, push_segment, parse_segments, parse_path_start}
use Rattle.url.specs.Scheme.{default_port, scheme_type, scheme_len}
use Rattle.cdxj_core.specs.Fields.{field_named}
use Rattle.cdxj_core.specs.Lines.{line_in}
use Rattle.door_examples.specs.Texts.{KeyIsFound, LineIsIndex, QueryIsRead}

pub key_is_found : KeyIsFound
unfolding key_of ascii_domain parse_special_host trim_c0_control_and_space strip_tabs_and_new_lines split_once
    rsplit_once ends_in_a_number host_len parse_port parse_authority leading_slashes after_double_slash parse_body
    split_scheme parse_url dot_count is_windows_drive_letter drive_letter_prefix shorten_path push_segment
    parse_segments parse_path_start default_port scheme_type scheme_len parser.parse_parts percent_decode
    should_percent_encode parse_number percent_encode
key_is_found = refl

pub line_is_index : LineIsIndex
unfolding escape_byte digits line_in is_utf8 chars encode value punctuate lex content
line_is_index = record { written = refl; read = record { entries = refl; ordered = (tt, tt) } }

pub query_is_read : QueryIsRead
unfolding utf8_lossy utf8_valid_len is_utf8 chars encode percent_decode field_named
query_is_read = record { meaning = refl; refused = refl; selects = refl; leaves_out = refl }
