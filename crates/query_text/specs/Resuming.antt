-- A resume key that is put into a query text, in the place of an older one.
use Rattle.std.specs.Prelude.{◌≡◌, ℕ, ◌≤◌, Bool, true, false, List, [], ◌∷◌, ◌++◌, length, codes, Option, Some, Ok}
use Rattle.std.specs.Prelude.{if◌then◌else◌}
use Rattle.std.specs.List.{before_first, join_with_byte}
use Rattle.cdxj_core.specs.Places.{PlaceValue}
use Rattle.cdxj_places.specs.Places.{resume_place, resume_text}
use Rattle.query_text.specs.declared.parameter.Parameter.{Parameter}
use Rattle.query_text.specs.declared.parameter.Parameter.TheVariants.{ResumeKey}
use Rattle.query_text.specs.Readings.{Text}
use Rattle.query_text.specs.Parts.{is_equals, decoded}
use Rattle.query_text.specs.ParameterNames.{parameter_named}
use Rattle.query_text.specs.Parameters.{pieces_of}
use Rattle.query_text.specs.Queries.{QueryValue, query_of}

-- the parameter is the resume key
abbrev pub is_resume_key : Option Parameter → Bool
is_resume_key (Some ResumeKey) = true
is_resume_key other = false

-- the piece is that of a resume key
abbrev pub has_resume_key : Text → Bool
has_resume_key piece = is_resume_key (parameter_named (decoded (before_first is_equals piece)))

-- the piece of this key
abbrev pub resume_piece : Text → Text
resume_piece key = codes "resumeKey=" ++ key

-- the pieces with this key in the place of the first one, or after them where there is none
abbrev pub with_resume_key : Text → List Text → List Text
with_resume_key key [] = resume_piece key ∷ []
with_resume_key key (piece ∷ pieces) = if has_resume_key piece then resume_piece key ∷ pieces else piece ∷
    with_resume_key key pieces

-- the text with this key so
abbrev pub text_with_key : Text → Text → Text
text_with_key key text = join_with_byte 38 (with_resume_key key (pieces_of text))

-- A query goes on from a place: where a text that names the place is put into the query's text for its resume key, in
-- the place of an older one or after all else, and the query's text isn't too long, it means the same query from that
-- place on.
abbrev pub GoesOn : Type 0
GoesOn = (limit : ℕ) (text new key : Text) (query : QueryValue) (place : PlaceValue) → query_of limit text ≡ Ok query
    → resume_place key ≡ Some place → length new ≤ limit → pieces_of new ≡ with_resume_key key (pieces_of text)
    → query_of limit new ≡ Ok (record query { resume = Some place })

-- the text with a place's printed key is cut into the pieces with it
abbrev pub IsCutWithKey : Type 0
IsCutWithKey = (text : Text) (place : PlaceValue) → pieces_of (text_with_key (resume_text place) text)
    ≡ with_resume_key (resume_text place) (pieces_of text)
