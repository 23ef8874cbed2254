-- Filters: how they are written, and what they ask of a line.
use Rattle.std.specs.Prelude.{ℕ, ◌==◌, ◌||◌, Bool, not, nat_eq, [], ◌∷◌, bytes_eq, Option, Some, None, Ok, Err}
use Rattle.std.specs.Prelude.{if◌then◌else◌}
use Rattle.std.specs.List.{list_all, list_any, before_first, after_first, starts_with}
use Rattle.cdxj_core.specs.declared.field.Field.{Field}
use Rattle.cdxj_core.specs.Lines.{LineValue}
use Rattle.cdxj_core.specs.Lines.{field_value}
use Rattle.query_text.specs.declared.fault.QueryFault.TheVariants as fault
use Rattle.query_text.specs.declared.filter.Test.{Test}
use Rattle.query_text.specs.declared.filter.Test.TheVariants.{Is, IsNot, Has, HasNot}
use Rattle.query_text.specs.Readings.{Text, Read, and_then}
use Rattle.cdxj_core.specs.Fields.{field_named}

-- a condition on one field of a line
pub record FilterValue : Type 0 where
  pub field : Field
  pub test : Test
  pub text : Text

-- ---- reading

-- `b':'`
abbrev pub is_colon : ℕ → Bool
is_colon b = b == 58

abbrev pub filter_on : Test → Text → Option Field → Read FilterValue
filter_on test text None = Err fault.BadFilter
filter_on test text (Some field) = Ok (record { field = field; test = test; text = text })

-- `field:text`, cut at the first colon
abbrev pub filter_of : Test → Text → Read FilterValue
filter_of test condition =
    if list_any is_colon condition
    then filter_on test (after_first is_colon condition) (field_named (before_first is_colon condition))
    else Err fault.BadFilter

-- one of `\ ^ $ . | ? * + ( ) [ ] { }`
abbrev pub is_special : ℕ → Bool
is_special b =
    b == 92 || b == 94 || b == 36 || b == 46 || b == 124 || b == 63 || b == 42 || b == 43 || b == 40
    || b == 41 || b == 91 || b == 93 || b == 123 || b == 125

-- the text stands for itself alone
abbrev pub is_literal : Text → Bool
is_literal text = list_all (λ b. not (is_special b)) text

-- one leading `!`, and what stands after it
abbrev pub bang_cut : Text → Test × Text
bang_cut [] = (Is, [])
bang_cut (b ∷ bytes) = if b == 33 then (IsNot, bytes) else (Is, b ∷ bytes)

abbrev pub if_literal : FilterValue → Read FilterValue
if_literal f = if is_literal f.text then Ok f else Err fault.NotLiteral

-- `field:text` or `!field:text`, with no pattern in the text
abbrev pub literal_of : Text → Read FilterValue
literal_of condition =
    and_then (filter_of (bang_cut condition).0 (bang_cut condition).1) if_literal

-- ---- meaning

-- the text stands somewhere in the value
abbrev pub occurs : Text → Text → Bool
occurs text [] = starts_with nat_eq [] text
occurs text (b ∷ value) = starts_with nat_eq (b ∷ value) text || occurs text value

abbrev pub passes : Test → Text → Text → Bool
passes Is text value = bytes_eq value text
passes IsNot text value = not (bytes_eq value text)
passes Has text value = occurs text value
passes HasNot text value = not (occurs text value)

-- the filter holds of the line
abbrev pub holds : LineValue → FilterValue → Bool
holds line f = passes f.test f.text (field_value f.field line)
