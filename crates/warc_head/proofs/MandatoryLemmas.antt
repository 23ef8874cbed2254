-- The values of a name among fields, of which the last was looked at.
use Rattle.warc_head.proofs.Words.{◌≡◌, ◌<◌, ℕ, Bool, true, ◌&&◌, List, [], ◌∷◌, ◌++◌, length}
use Rattle.warc_head.proofs.Words.{codes, Ok, arith, nat_tests, Field, field_values}
use Rattle.std.proofs.Common.{nat_lt}
use Rattle.warc_head.specs.Fields.{value_of}
use Rattle.warc_head.specs.Mandatory.{mandatory, none_missing, none_repeated, required, values_in}

module _ (wanted : List ℕ) (last : Field) where
  pub values_more : (fields : List Field) → field_values wanted (fields ++ last ∷ []) ≡ field_values wanted fields
      ++ values_in wanted last
  values_more (first ∷ fields) = grind (arith, values_more fields)
  values_more [] = grind arith

-- the value of a field that occurs once is the one that is required
pub required_is : (name : List ℕ) (fields : List Field) (value : List ℕ) → field_values name fields ≡ value ∷ []
    → required name fields ≡ Ok value
unfolding required value_of
required_is name fields value h = grind arith

abbrev pub record_id : List ℕ
record_id = codes "WARC-Record-ID"

abbrev pub length_name : List ℕ
length_name = codes "Content-Length"

abbrev pub date_name : List ℕ
date_name = codes "WARC-Date"

abbrev pub kind_name : List ℕ
kind_name = codes "WARC-Type"

abbrev pub stands : List Field → List ℕ → Bool
stands fields name = nat_lt 0 (length (field_values name fields))

abbrev pub is_single : List Field → List ℕ → Bool
is_single fields name = nat_lt (length (field_values name fields)) 2

pub missing_regrouped : (fields : List Field)
    → (((stands fields record_id && stands fields length_name) && stands fields date_name) && stands fields kind_name)
    ≡ none_missing mandatory fields
missing_regrouped fields = grind arith

pub repeated_regrouped : (fields : List Field)
    → (((is_single fields record_id && is_single fields length_name) && is_single fields date_name) && is_single fields
    kind_name) ≡ none_repeated mandatory fields
repeated_regrouped fields = grind arith

abbrev pub IsOnce : List ℕ → List Field → Type 0
IsOnce name fields = (0 < length (field_values name fields)) × (length (field_values name fields) < 2)

-- where no mandatory name is missing and none is repeated, each stands once
module _ (fields : List Field) (some : none_missing mandatory fields ≡ true) (single : none_repeated mandatory fields
    ≡ true) where
  pub length_once : IsOnce (codes "Content-Length") fields
  length_once = grind (arith, nat_tests)

  pub date_once : IsOnce (codes "WARC-Date") fields
  date_once = grind (arith, nat_tests)

  pub kind_once : IsOnce (codes "WARC-Type") fields
  kind_once = grind arith
