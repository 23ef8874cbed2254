use Rattle.std.proofs.Common.{◌≡◌, ◌<◌, length, Some, None, refl, arith}
use Rattle.json.specs.Json.{after_end_array, read_key}
use Rattle.json.proofs.Grammar.{read_key-shorter}
use Rattle.serde_json.specs.Data.{no_members}
use Rattle.cdxj_objects.specs.FoundViews.{value_view}
use Rattle.cdxj_objects.proofs.JsonReading.{item_passed, member_put}
use Rattle.cdxj_objects.proofs.json_values.+values.Goals as goal

pub pass_items-items-preserved : goal.pass_items-items-preserved
pass_items-items-preserved t c =
    let l = c.items in
    let n = l.invariant.0 in
    let going : (after_end_array l.reader ≡ None) × (c.take_end_array.new.self ≡ l.reader) = grind arith in
    let less : length c.read_value.new.reader < length l.reader = rw (← going.1) c.in_ok-read_value.ensures.shorter in
    let one = item_passed c.args.depth n l.reader c.read_value.new.reader in
    grind arith

pub pass_members-members-init : goal.pass_members-members-init
pass_members-members-init t c = (length c.args.reader.now, no_members, omega arith, refl, omega arith)

pub pass_members-members-preserved : goal.pass_members-members-preserved
pass_members-members-preserved t c =
    let l = c.members in
    let named : read_key l.reader ≡ Some (Some c.in-Some._name.now, c.next_key.new.self) = grind arith in
    let less = read_key-shorter l.reader (Some c.in-Some._name.now) c.next_key.new.self named in
    let one = member_put c.args.depth l.invariant.0 l.invariant.1 c.in-Some._name.now l.reader c.next_key.new.self
    c.read_value.new.reader (value_view c.in_ok-read_value.field-0) (omega (arith, l.invariant.2)) named
    c.in_ok-read_value.ensures.value in grind arith
