-- What contracts see of the members that were found.
use Rattle.std.specs.Prelude.{option_map}
use Rattle.serde_json.specs.Data.{Data, null, number, string, unsigned}
use Rattle.cdxj_objects.specs.declared.member_value.MemberValue.{MemberValue}
use Rattle.cdxj_objects.specs.declared.member_value.MemberValue.TheVariants.{Text, Number, Other}
use Rattle.cdxj_objects.specs.declared.found_members.FoundMembers.{FoundMembers}
use Rattle.cdxj_objects.specs.FoundMembers.{FoundValue}
use Rattle.cdxj_objects.specs.ObjectMembers.{map_members}

abbrev pub value_view : MemberValue → Data
value_view (Text s) = string s.now
value_view (Number n) = number (unsigned n)
value_view Other = null

abbrev pub found_view : FoundMembers → FoundValue
found_view f = map_members (option_map value_view) f.members
