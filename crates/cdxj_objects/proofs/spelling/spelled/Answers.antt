use Rattle.std.proofs.Common.{string_bytes, arith}
use Rattle.std.proofs.lemmas.Str.{IsUtf8-string_bytes}
use Rattle.cdxj_objects.proofs.PlainPlaces.{written_parts, written_spans, written_texts}
use Rattle.cdxj_objects.proofs.spelling.spelled.Goals as goal

pub texts_in-texts-requires : goal.texts_in-texts-requires
texts_in-texts-requires c =
    rw c.as_str.ensures.value (written_parts _ (string_bytes c.push_members.new.text)
    (IsUtf8-string_bytes c.push_members.new.text) _ c.in_ok-fronts.fronts c.in_ok-fronts.ensures.written)

pub returns : goal.returns
returns c =
    let new = string_bytes c.push_members.new.text in
    let utf8 = IsUtf8-string_bytes c.push_members.new.text in
    let written = c.in_ok-fronts.ensures.written in
    rw (c.texts_in-texts.ensures, c.as_str.ensures.value) (record {
      text_is = grind (arith, written);
      parts = written_spans _ new utf8 _ c.in_ok-fronts.fronts written;
      texts_are = written_texts _ new utf8 _ c.in_ok-fronts.fronts written;
      values = grind arith;
    })
