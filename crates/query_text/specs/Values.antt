-- The values of a query's parameters.
use Rattle.std.specs.Prelude.{ℕ, ◌==◌, ◌&&◌, Bool, nat_lt, nat_le, List, [], ◌∷◌, length, Option, Some}
use Rattle.std.specs.Prelude.{None, Ok, Err, if◌then◌else◌}
use Rattle.std.specs.List.{list_all, slice_split}
use Rattle.std.specs.Char.{is_ascii_digit}
use Rattle.std.specs.Str.Parse.{digits_value}
use Rattle.cdxj_core.specs.declared.field.Field.{Field}
use Rattle.cdxj_core.specs.Fields.{field_named}
use Rattle.cdxj_core.specs.Places.{PlaceValue, resume_place}
use Rattle.query_text.specs.declared.fault.QueryFault.TheVariants as fault
use Rattle.query_text.specs.Readings.{Text, Read, and_then}

-- digits, at least one and at most so many
abbrev pub is_number : ℕ → Text → Bool
is_number most text =
    nat_lt 0 (length text) && nat_le (length text) most && list_all is_ascii_digit text

-- 1 to 14 digits, with which a stamp may begin
abbrev pub stamp_start_of : Text → Read Text
stamp_start_of text = if is_number 14 text then Ok text else Err fault.BadStamp

-- one to seven digits of a value from 1 to 1,000,000
abbrev pub is_limit : Text → Bool
is_limit text =
    is_number 7 text && nat_lt 0 (digits_value 10 text) && nat_le (digits_value 10 text) 1000000

abbrev pub limit_of : Text → Read ℕ
limit_of text = if is_limit text then Ok (digits_value 10 text) else Err fault.BadLimit

-- the value, or the refusal where there is none
abbrev pub or_refused : {T : Type 0} → Read T → Option T → Read T
or_refused refusal (Some x) = Ok x
or_refused refusal None = refusal

-- the place that a resume key names, from its text as it was printed
abbrev pub resume_of : Text → Read PlaceValue
resume_of text = or_refused (Err fault.BadResume) (resume_place text)

-- a field more, before those that follow
abbrev pub field_before : Option Field → Read (List Field) → Read (List Field)
field_before None later = Err fault.BadField
field_before (Some field) later = and_then later (λ fields. Ok (field ∷ fields))

-- the fields of the names; the first that is no field's is the refusal
abbrev pub fields_named : List Text → Read (List Field)
fields_named [] = Ok []
fields_named (name ∷ names) = field_before (field_named name) (fields_named names)

-- fields with a comma between
abbrev pub listed_fields : Text → Read (List Field)
listed_fields text = fields_named (slice_split (λ b. b == 44) text)
