use Rattle.std.proofs.Common.{arith, ◌<◌, length, Option, IfSome, ℕ, List}
use Rattle.memchr.specs.Find.{IsFirstByte, is_byte}
use Rattle.cdxj_places.proofs.Found.{IsFirstByte_position}
use Rattle.capture_core.proofs.FirstPlace.{first_place}
use Rattle.capture_core.specs.FieldValue.{semicolon}
use Rattle.capture_core.proofs.field_value.semicolon.Goals as goal

within : (value : List ℕ) (r : Option ℕ) → IsFirstByte (is_byte semicolon) value r
    → IfSome r (λ end. end < length value)
within value r h = grind arith

pub returns-clause-place : goal.returns-clause-place
returns-clause-place c =
    let value = c.args.value.now in
    let first = first_place (is_byte semicolon) value c.memchr_iter.result c.next.new.self c.next.result
    c.memchr_iter.ensures.value c.next.ensures.steps in
    grind (arith, IsFirstByte_position)

pub returns-clause-within : goal.returns-clause-within
returns-clause-within c = grind (arith, first_place, within)
