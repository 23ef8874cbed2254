-- By what captures are collapsed that follow one another: which part of theirs is compared.
use Rattle.std.specs.Prelude.{◌&&◌, Bool, false, nat_eq, nat_lt, nat_le, take, drop, codes, bytes_eq, Option, None}
use Rattle.std.specs.Prelude.{Some, Ok, Err, if◌then◌else◌}
use Rattle.std.specs.List.{starts_with}
use Rattle.std.specs.Str.Parse.{digits_value}
use Rattle.cdxj_core.specs.Places.{PlaceValue}
use Rattle.query_text.specs.declared.fault.QueryFault.TheVariants as fault
use Rattle.query_text.specs.declared.collapse.Collapse.{Collapse}
use Rattle.query_text.specs.declared.collapse.Collapse.TheVariants.{Urlkey, Timestamp}
use Rattle.query_text.specs.Readings.{Text, Read}
use Rattle.query_text.specs.Values.{is_number}

-- ---- reading

-- one or two digits of a value from 1 to 14, the digits of a stamp
abbrev pub is_width : Text → Bool
is_width text =
    is_number 2 text && nat_lt 0 (digits_value 10 text) && nat_le (digits_value 10 text) 14

abbrev pub width_of : Text → Read Collapse
width_of text = if is_width text then Ok (Timestamp (digits_value 10 text)) else Err fault.BadCollapse

-- `urlkey`, `timestamp`, or `timestamp:` and a number of digits
abbrev pub collapse_of : Text → Read Collapse
collapse_of text = if bytes_eq text (codes "urlkey") then Ok Urlkey
    else (if bytes_eq text (codes "timestamp") then Ok (Timestamp 14)
    else (if starts_with nat_eq text (codes "timestamp:") then width_of (drop 10 text) else Err fault.BadCollapse))

-- ---- meaning

-- the part of a capture: its key, or the first digits of its stamp
abbrev pub part_of : Collapse → Text → Text → Text
part_of Urlkey key stamp = key
part_of (Timestamp digits) key stamp = take digits stamp

-- two captures have their part in common; where nothing is collapsed, none have
abbrev pub same_part : Option Collapse → PlaceValue → PlaceValue → Bool
same_part None p q = false
same_part (Some collapse) p q = bytes_eq (part_of collapse p.key p.stamp) (part_of collapse q.key q.stamp)
