-- A line that has values begins with their pair.
use Rattle.std.proofs.Common.{◌≡◌, ℕ, ◌-◌, ◌<◌, ◌^◌, ◌≤◌, ◌==◌, Bool, true, false, cond, List, [], ◌∷◌, ◌++◌, length}
use Rattle.std.proofs.Common.{take, drop, Some, None, get_or, append-nil}
use Rattle.std.proofs.Common.{refl, sym, arith, append_assoc, take-append-drop}
use Rattle.std.proofs.lemmas.List.{length-append}
use Rattle.serde_json.specs.Data.{Data}
use Rattle.serde_json.specs.Read.{read}
use Rattle.serde_json.proofs.OnLiterals.{serde_json_on_literals}
use Rattle.cdxj_places.specs.Pair.{is_key, is_stamp, pair_of}
use Rattle.cdxj_core.specs.Lines.{LineValue, body_of, line_object, line_in}
use Rattle.cdxj_places.proofs.PairLemmas.{pair_of-parts, around}

read_nil : read [] ≡ None
unfolding serde_json_on_literals
read_nil = refl

pub some_read : (text : List ℕ) (d : Data) → read text ≡ Some d → 0 < length text
some_read [] d h = grind (arith, read_nil)
some_read (x ∷ xs) d h = omega arith

-- a body that has values: a key, a stamp and an object, and spaces between them
pub record Valued (body : List ℕ) (v : LineValue) : Type 0 where
  pub object : List ℕ
  pub cut : body ≡ v.key ++ 32 ∷ (v.stamp ++ 32 ∷ object)
  pub key_rule : is_key v.key ≡ true
  pub stamp_rule : is_stamp v.stamp ≡ true
  pub filename_rule : 0 < length v.filename
  pub offset_rule : v.offset < 2 ^ 63
  pub values : line_object v.key v.stamp object ≡ Some v

object_values_are : (key stamp text : List ℕ) (v : LineValue) → line_object key stamp text ≡ Some v
    → (v.key ≡ key) × ((v.stamp ≡ stamp) × (0 < length text))
object_values_are key stamp text v h = grind (arith, some_read)

filename_some : (key stamp text : List ℕ) (v : LineValue) → line_object key stamp text ≡ Some v → 0 < length v.filename
filename_some key stamp text v h = grind arith

offset_small : (key stamp text : List ℕ) (v : LineValue) → line_object key stamp text ≡ Some v → v.offset < 2 ^ 63
offset_small key stamp text v h = grind arith

pub valued : (limit : ℕ) (body : List ℕ) (v : LineValue) → line_in limit body ≡ Some v → Valued body v
unfolding line_in
valued limit body v h = grind (arith, object_values_are, around, length-append, filename_some, offset_small)

body_split : (b : Bool) (line : List ℕ) → (t : List ℕ) × (line ≡ cond b (take (length line - 1) line) line ++ t)
body_split true line = (drop (length line - 1) line, sym (take-append-drop (length line - 1) line))
body_split false line = ([], sym (append-nil line))

pub line_pair : (line : List ℕ) (limit : ℕ) (v : LineValue) → line_in limit (body_of line) ≡ Some v
    → pair_of line ≡ Some (v.key, v.stamp)
line_pair line limit v h =
    let split = body_split (get_or line (length line - 1) 0 == 10) line in
    let its = valued limit (body_of line) v h in
    grind (arith, append_assoc, pair_of-parts)

-- a line keeps its values under a higher limit
pub line_in-higher : (low high : ℕ) → low ≤ high → (body : List ℕ) (v : LineValue) → line_in low body ≡ Some v
    → line_in high body ≡ Some v
unfolding line_in
line_in-higher low high le body v h = grind arith

-- and is below the limit
pub line_in-short : (limit : ℕ) (body : List ℕ) (v : LineValue) → line_in limit body ≡ Some v → length body < limit
unfolding line_in
line_in-short limit body v h = grind arith
