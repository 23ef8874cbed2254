-- What the definitions say of queries over a list of lines, by calculation.
use Rattle.std.proofs.Common.{refl}
use lib.Utf8.{encode}
use Rattle.json.specs.Print.{escape_byte}
use Rattle.std.specs.Str.{is_utf8, chars}
use Rattle.std.specs.Str.Lossy.{utf8_lossy, utf8_valid_len}
use Rattle.std.specs.Fmt.{digits}
use Rattle.form_urlencoded.specs.Form.{byte_serialize}
use Rattle.percent_encoding.specs.Percent.{percent_decode, percent_encode_byte}
use Rattle.cdxj_core.specs.Fields.{field_named}
use Rattle.door_examples.specs.Answers.{QueriesHavePages}

pub queries_have_pages : QueriesHavePages
unfolding utf8_lossy utf8_valid_len is_utf8 chars encode percent_decode percent_encode_byte byte_serialize field_named
    digits escape_byte
queries_have_pages = record {
  host = (_, refl, refl);
  domain = (_, refl, refl);
  time = (_, refl, refl);
  filter = (_, refl, refl);
  collapse = (_, refl, refl);
  json = (_, refl, refl);
}
