-- The entry of a line.
use Rattle.std.proofs.lemmas.Grind.{common_steps}
use Rattle.std.proofs.Common.{◌≡◌, ℕ, ◌<◌, ◌≤◌, true, List, length}
use Rattle.std.proofs.Common.{Some, None, arith}
use Rattle.std.specs.Str.{IsUtf8}
use Rattle.std.proofs.lemmas.Str.{IsUtf8-from_is_utf8, is_utf8-from_IsUtf8}
use Rattle.std.specs.List.{before_first, after_first}
use Rattle.cdxj_places.specs.Pair.{is_space, pair_of}
use Rattle.cdxj_core.specs.Entries.{EntryValue, HasLine, line_text}
use Rattle.cdxj_core.specs.Lines.{LineValue, has_no_feed, line_object, line_parts, line_in, body_of}
use Rattle.cdxj_core.specs.Members.{Member, member_pair, entry_member, line_entry}
use Rattle.cdxj_core.proofs.EntryRead.{body_of-feed}
use Rattle.cdxj_core.proofs.EntryUtf8.{line_law, line_utf8}
use Rattle.cdxj_core.proofs.PairLaw.{Valued, valued, line_pair, line_in-higher, line_in-short}

pub entry_none : (limit : ℕ) (line : List ℕ) → (IsUtf8 (body_of line) → line_in limit (body_of line) ≡ None)
    → line_entry limit line ≡ None
entry_none limit line none = grind (arith, IsUtf8-from_is_utf8)

-- what a line with an entry is
pub record Entered (limit : ℕ) (line : List ℕ) (member : Member) : Type 0 where
  pub utf8 : IsUtf8 (body_of line)
  pub values : line_in limit (body_of line) ≡ Some member.values
  pub body : member.line ≡ body_of line

pub entered : (limit : ℕ) (line : List ℕ) (member : Member) → line_entry limit line ≡ Some member
    → Entered limit line member
entered limit line member h = grind (arith, IsUtf8-from_is_utf8)

-- the values of an entry are those of its line
pub entry_valued : (limit : ℕ) (line : List ℕ) (member : Member) → line_entry limit line ≡ Some member
    → Valued member.line member.values
entry_valued limit line member h = grind (arith, entered, valued)

-- a body without a line feed is its own
pub body_of-body : (body : List ℕ) → has_no_feed body ≡ true → body_of body ≡ body
body_of-body body h = grind (arith, common_steps)

-- ---- laws

pub entry-higher : (low high : ℕ) → low ≤ high → (line : List ℕ) (member : Member) → line_entry low line ≡ Some member
    → line_entry high line ≡ Some member
entry-higher low high le line member h = grind (arith, line_in-higher)

pub entry_pair_is : (limit : ℕ) (line : List ℕ) (member : Member) → line_entry limit line ≡ Some member
    → pair_of line ≡ Some (member_pair member)
entry_pair_is limit line member h = line_pair line limit member.values (entered limit line member h).values

pub written_entry : (limit : ℕ) (e : EntryValue) → HasLine limit e → line_entry limit (line_text e) ≡ Some
    (entry_member e)
written_entry limit e h = grind (arith, body_of-feed, line_utf8, line_law, is_utf8-from_IsUtf8)

-- ---- reading

-- a body that was cut at its first two spaces
pub body_entry : (limit : ℕ) (body key rest stamp object : List ℕ) (v : LineValue) → IsUtf8 body → length body < limit
    → has_no_feed body ≡ true → key ≡ before_first is_space body → rest ≡ after_first is_space body
    → stamp ≡ before_first is_space rest → object ≡ after_first is_space rest → line_parts key stamp object ≡ Some v
    → line_entry limit body ≡ Some (record { values = v; line = body })
unfolding line_in
body_entry limit body key rest stamp object v utf8 short whole k r s o read =
    grind (arith, body_of-body, is_utf8-from_IsUtf8)

-- a body that was cut so, whose object has no values
pub body_none : (limit : ℕ) (body key rest stamp object : List ℕ) → key ≡ before_first is_space body
    → rest ≡ after_first is_space body → stamp ≡ before_first is_space rest → object ≡ after_first is_space rest
    → line_object key stamp object ≡ None → line_in limit body ≡ None
unfolding line_in
body_none limit body key rest stamp object k r s o none = grind arith

-- a line whose body has an entry
pub line_of_body : (limit : ℕ) (line body text : List ℕ) (member : Member) → text ≡ body → body ≡ body_of line
    → true ≡ has_no_feed body → line_entry limit text ≡ Some member → line_entry limit line ≡ Some member
line_of_body limit line body text member same its whole h = grind (arith, body_of-body)

-- a body that is too long has no values
long_has_none : (limit : ℕ) (body : List ℕ) → limit ≤ length body → line_in limit body ≡ None
unfolding line_in
long_has_none limit body long = grind arith

-- a line that is too long has no entry
pub long_line_none : (limit : ℕ) (line : List ℕ) → limit ≤ length (body_of line) → line_entry limit line ≡ None
long_line_none limit line long = grind (arith, long_has_none)

pub entry_is_short : (limit : ℕ) (line : List ℕ) (member : Member) → line_entry limit line ≡ Some member
    → length (body_of line) < limit
entry_is_short limit line member h = grind (arith, line_in-short)
