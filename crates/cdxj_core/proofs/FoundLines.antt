-- What is found in an object decides what its line says.
use Rattle.std.proofs.Common.{arith, ◌≡◌, ℕ, List, Option, Some, option_map, option_and_then}
use Rattle.serde_json.specs.Data.{Data, object}
use Rattle.serde_json.specs.Data.{Members}
use Rattle.cdxj_objects.specs.FoundMembers.{FoundValue, member_data, found_of, members_in}
use Rattle.cdxj_objects.specs.MemberValues.{value_text, filename_value, offset_value}
use Rattle.cdxj_objects.specs.Spelling.{found_texts}
use Rattle.cdxj_core.specs.Lines.{LineValue, line_value, line_from, line_object}

value_text-seen : (o : Option Data) → value_text o ≡ value_text (option_map member_data o)
value_text-seen o = grind arith

-- the line of what was found, where the file name and the offset are good
abbrev pub found_line : List ℕ → List ℕ → FoundValue → Option LineValue
found_line key stamp f =
    option_and_then (λ filename. option_map (λ offset. line_value key stamp (found_texts f offset filename) offset)
    (offset_value f.offset)) (filename_value f.filename)

members_line : (key stamp : List ℕ) (ms : Members) → line_from key stamp (object ms) ≡ found_line key stamp
    (found_of ms)
members_line key stamp ms = grind (arith, value_text-seen)

pub line_found : (key stamp text : List ℕ) (found : FoundValue) → members_in text ≡ Some found → line_object key stamp
    text ≡ found_line key stamp found
line_found key stamp text found h = grind (arith, members_line)

-- the texts of the members that were found are those of their line
pub line_made : (key stamp : List ℕ) (f : FoundValue) (offset : ℕ) (filename : List ℕ) → filename_value f.filename
    ≡ Some filename → offset_value f.offset ≡ Some offset
    → found_line key stamp f ≡ Some (line_value key stamp (found_texts f offset filename) offset)
line_made key stamp f offset filename named placed = grind arith
