use Rattle.std.proofs.Common.{◌≡◌, ◌-◌, length, Some, None, option_map, refl, ap, ◌∙◌, arith}
use Rattle.json.specs.Json.{read_key}
use Rattle.json.proofs.Grammar.{read_key-shorter}
use Rattle.serde_json.specs.Data.{no_members, put}
use Rattle.cdxj_objects.specs.FoundViews.{value_view}
use Rattle.cdxj_objects.specs.ObjectMembers.{map_members}
use Rattle.cdxj_objects.proofs.JsonReading.{member_put, members_end}
use Rattle.cdxj_objects.proofs.FoundLaw.{found_seen}
use Rattle.cdxj_objects.proofs.found_members.FoundMembers.read.Goals as goal

pub members-init : goal.members-init
members-init c = (length c.args.reader.now, no_members, omega arith, refl, grind arith)

pub members-preserved : goal.members-preserved
members-preserved c =
    let l = c.members in
    let named : read_key l.reader ≡ Some (Some c.in-Some.name.now, c.next_key.new.self) = grind arith in
    let done = c.in_ok-value.ensures in
    let less = read_key-shorter l.reader (Some c.in-Some.name.now) c.next_key.new.self named in
    let one = member_put 126 l.invariant.0 l.invariant.1 c.in-Some.name.now l.reader c.next_key.new.self
    c.read_value.new.reader (value_view c.in_ok-value.value) (omega (arith, l.invariant.2)) named done.value in (
      l.invariant.0 - 1,
      put c.in-Some.name.now one.0 l.invariant.1,
      omega arith,
      grind arith,
      ap (map_members (option_map value_view)) c.put.ensures ∙ found_seen c.in-Some.name.now c.in_ok-value.value one.0
          l.members l.invariant.1 one.1 l.invariant.4,
    )

pub returns : goal.returns
returns c =
    let l = c.members in
    let over : read_key l.reader ≡ Some (None, c.next_key.new.self) = grind arith in
    let ends = members_end 126 l.invariant.0 l.invariant.1 l.reader c.next_key.new.self l.invariant.2 over in
    grind arith
