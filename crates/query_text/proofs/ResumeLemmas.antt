-- A query text with another resume key.
use Rattle.std.proofs.Common.{◌≡◌, ℕ, Bool, true, false, List, [], ◌∷◌, ◌++◌, length, codes, Option, None, Some}
use Rattle.std.proofs.Common.{is_some, Ok, Err, refl, sym, ap, ◌∙◌, arith, nat_lt, if◌then◌else◌}
use Rattle.std.specs.List.{before_first, after_first}
use Rattle.std.specs.Str.{IsUtf8}
use Rattle.std.proofs.lemmas.Bool.{true≢false, cond-false, le-ltb}
use Rattle.std.proofs.lemmas.Str.{IsUtf8-nil, IsUtf8-from_ascii}
use Rattle.cdxj_core.specs.Places.{PlaceValue}
use Rattle.query_text.specs.declared.fault.QueryFault.{QueryFault}
use Rattle.query_text.specs.declared.fault.QueryFault.TheVariants as fault
use Rattle.query_text.specs.declared.parameter.Parameter.{Parameter}
use Rattle.query_text.specs.declared.parameter.Parameter.TheVariants as parameter
use Rattle.query_text.specs.Readings.{Text, Read, and_then}
use Rattle.query_text.specs.Parts.{is_equals, decoded}
use Rattle.query_text.specs.ParameterNames.{parameter_named}
use Rattle.query_text.specs.Values.{resume_of}
use Rattle.query_text.specs.Collapses.{collapse_of}
use Rattle.query_text.specs.Parameters.{ParameterValues, no_values, with_parameter, with_piece, with_pieces, pieces_of}
use Rattle.query_text.specs.Queries.{QueryValue, query_with}
use Rattle.query_text.proofs.PlainTexts.{plain_text_stands}
use Rattle.query_text.specs.Resuming.{is_resume_key, has_resume_key, resume_piece, with_resume_key, GoesOn}

-- the values with this resume place
abbrev at : Option PlaceValue → ParameterValues → ParameterValues
at r v = record v { resume = r }

abbrev all_at : Option PlaceValue → Read ParameterValues → Read ParameterValues
all_at r a = and_then a (λ v. Ok (at r v))

-- ---- another parameter doesn't look at the resume place

ifs_at : (r : Option PlaceValue) (b : Bool) (e : QueryFault) (x y : Read ParameterValues) → y ≡ all_at r x
    → (if b then Err e else y) ≡ all_at r (if b then Err e else x)
ifs_at r b e x y h = grind arith

then_at : {T : Type 0} (r : Option PlaceValue) (m : Read T) (f g : T → ParameterValues) → ((x : T) → g x ≡ at r (f x))
    → and_then m (λ x. Ok (g x)) ≡ all_at r (and_then m (λ x. Ok (f x)))
then_at r m f g h = grind arith

parameter_at : (r : Option PlaceValue) (p : Parameter) (v : ParameterValues) (text : Text) → is_resume_key (Some p)
    ≡ false → with_parameter (Some p) (at r v) text ≡ all_at r (with_parameter (Some p) v text)
parameter_at r parameter.Url v text h = grind arith
parameter_at r parameter.Key v text h = grind arith
parameter_at r parameter.MatchType v text h = grind arith
parameter_at r parameter.From v text h = grind arith
parameter_at r parameter.To v text h = grind arith
parameter_at r parameter.Filter v text h = grind arith
parameter_at r (parameter.Condition test) v text h = grind arith
parameter_at r parameter.Limit v text h = grind arith
parameter_at r parameter.ResumeKey v text h = absurd (true≢false h)
parameter_at r parameter.ShowResumeKey v text h = grind arith
parameter_at r parameter.Fl v text h = grind arith
parameter_at r parameter.Output v text h = grind arith
parameter_at r parameter.Collapse v text h = ifs_at r (is_some v.collapse) fault.RepeatedParameter _ _
    (then_at r (collapse_of (decoded text)) (λ x. record v { collapse = Some x }) _ (λ x. refl))

named_at : (r : Option PlaceValue) (p : Option Parameter) (v : ParameterValues) (text : Text) → is_resume_key p ≡ false
    → with_parameter p (at r v) text ≡ all_at r (with_parameter p v text)
named_at r p v text h = grind (arith, parameter_at)

-- the parameter of a piece
abbrev piece_name : Text → Option Parameter
piece_name piece = parameter_named (decoded (before_first is_equals piece))

piece_at : (r : Option PlaceValue) (v : ParameterValues) (piece : Text) → has_resume_key piece ≡ false
    → with_piece (at r v) piece ≡ all_at r (with_piece v piece)
piece_at r v piece h = grind (arith, named_at)

-- ---- the pieces

-- what follows a reading that succeeded
record Went {S T : Type 0} (m : Read S) (f : S → Read T) (w : T) : Type 0 where
  next : S
  is : m ≡ Ok next
  later : f next ≡ Ok w

went : {S T : Type 0} (m : Read S) (f : S → Read T) (w : T) → and_then m f ≡ Ok w → Went m f w
went (Ok v) f w h = record { next = v; is = refl; later = h }
went (Err e) f w h = grind arith

ok_is : {T : Type 0} (x y : T) → ◌≡◌ {A = Read T} (Ok x) (Ok y) → x ≡ y
ok_is x y h = cc

-- another piece leaves the resume place
keeps_resume : (v w : ParameterValues) (piece : Text) → has_resume_key piece ≡ false → with_piece v piece ≡ Ok w
    → w.resume ≡ v.resume
keeps_resume v w piece h e = grind (arith, piece_at v.resume v piece h)

-- an empty piece has no resume key
empty_has_none : has_resume_key [] ≡ true → ⊥
empty_has_none h = true≢false
    (sym h ∙ ap (λ t. is_resume_key (parameter_named t)) (plain_text_stands [] IsUtf8-nil refl))

-- a piece that isn't empty is read
filled : (v : ParameterValues) (b : ℕ) (piece : Text) → with_piece v (b ∷ piece)
    ≡ with_parameter (piece_name (b ∷ piece)) v (after_first is_equals (b ∷ piece))
filled v b piece = grind arith

-- a resume key that was given isn't given again
not_again : (r : PlaceValue) (v w : ParameterValues) (piece : Text) → has_resume_key piece ≡ true
    → with_piece (at (Some r) v) piece ≡ Ok w → ⊥
not_again r v w [] h e = empty_has_none h
not_again r v w (b ∷ piece) h e = grind (arith, filled, true≢false)

-- after a resume key, the others read as they do after another one
pieces_after : (a b : PlaceValue) (v w : ParameterValues) (pieces : List Text) → with_pieces (at (Some a) v) pieces
    ≡ Ok w → with_pieces (at (Some b) v) pieces ≡ Ok (at (Some b) w)
pieces_after a b v w [] h = grind arith
pieces_after a b v w (piece ∷ pieces) h =
    let k = went (with_piece (at (Some a) v) piece) (λ next. with_pieces next pieces) w h in
    (elim (has_resume_key piece) as (λ x. has_resume_key piece ≡ x → with_pieces (at (Some b) v) (piece ∷ pieces)
    ≡ Ok (at (Some b) w)) [
      | true ↦ (λ e. absurd (not_again a v k.next piece e k.is))
      | false ↦ (λ e.
          let kept = keeps_resume (at (Some a) v) k.next piece e k.is in
          let here : with_piece (at (Some b) v) piece
          ≡ Ok (at (Some b) k.next) = piece_at (Some b) (at (Some a) v) piece e ∙ ap (all_at (Some b)) k.is in
          let same : at (Some a) k.next ≡ k.next = ap (λ r. at r k.next) (sym kept) in
          ap (λ m. and_then m (λ next. with_pieces next pieces)) here
          ∙ pieces_after a b k.next w pieces (grind arith))
    ]) refl

-- the key's piece is read
name_utf8 : IsUtf8 (codes "resumeKey")
name_utf8 = grind (arith, IsUtf8-from_ascii)

name_is : (key : Text) → piece_name (resume_piece key) ≡ Some parameter.ResumeKey
name_is key = ap parameter_named (plain_text_stands (codes "resumeKey") name_utf8 refl)

key_read : (key : Text) (place : PlaceValue) (v : ParameterValues) → v.resume ≡ None → resume_of key ≡ Ok place
    → with_piece v (resume_piece key) ≡ Ok (at (Some place) v)
key_read key place v none e =
    filled v 114 (codes "esumeKey=" ++ key) ∙ ap (λ p. with_parameter p v key) (name_is key)
    ∙ cond-false (is_some v.resume) _ _ (ap is_some none) ∙ ap (λ m. and_then m (λ place. Ok (at (Some place) v))) e

-- what a key's piece gives
key_given : (v next : ParameterValues) (piece : Text) → v.resume ≡ None → has_resume_key piece ≡ true
    → with_piece v piece ≡ Ok next → (place : PlaceValue) × (next ≡ at (Some place) v)
key_given v next [] none h e = absurd (empty_has_none h)
key_given v next (b ∷ piece) none h e = grind (arith, filled, true≢false)

-- a resume key among the pieces, or after them
pieces_with : (key : Text) (place : PlaceValue) → resume_of key ≡ Ok place
    → (v w : ParameterValues) (pieces : List Text) → v.resume ≡ None → with_pieces v pieces ≡ Ok w
    → with_pieces v (with_resume_key key pieces) ≡ Ok (at (Some place) w)
pieces_with key place e v w [] none h =
    ap (λ m. and_then m (λ next. Ok next)) (key_read key place v none e) ∙ ap Ok (ap (at (Some place)) (ok_is v w h))
pieces_with key place e v w (piece ∷ pieces) none h =
    let k = went (with_piece v piece) (λ next. with_pieces next pieces) w h in
    (elim (has_resume_key piece) as (λ x. has_resume_key piece ≡ x
    → with_pieces v (if x then resume_piece key ∷ pieces else piece ∷ with_resume_key key pieces)
    ≡ Ok (at (Some place) w)) [
      | true ↦ (λ f. ap (λ m. and_then m (λ next. with_pieces next pieces)) (key_read key place v none e)
          ∙ (let given = key_given v k.next piece none f k.is in grind (arith, pieces_after, given)))
      | false ↦ (λ f. ap (λ m. and_then m (λ next. with_pieces next (with_resume_key key pieces))) k.is
          ∙ pieces_with key place e k.next w pieces (keeps_resume v k.next piece f k.is ∙ none) k.later)
    ]) refl

-- the query of such values
query_at : (place : PlaceValue) (w : ParameterValues) (query : QueryValue) → query_with w ≡ Ok query
    → query_with (at (Some place) w) ≡ Ok (record query { resume = Some place })
query_at place w query h = grind arith

not_refused : {T : Type 0} (b : Bool) (e : QueryFault) (m : Read T) (x : T) → (if b then Err e else m) ≡ Ok x → m ≡ Ok x
not_refused b e m x h = grind arith

pub goes_on : GoesOn
goes_on limit text new key query place meaning named short pieces =
    let read : resume_of key ≡ Ok place = grind arith in
    let k = went (with_pieces no_values (pieces_of text)) query_with query
    (grind (arith, not_refused)) in
    cond-false (nat_lt limit (length new)) _ _ (le-ltb limit (length new) short)
    ∙ ap (λ ps. and_then (with_pieces no_values ps) query_with) pieces
    ∙ ap (λ m. and_then m query_with) (pieces_with key place read no_values k.next (pieces_of text) refl k.is)
    ∙ query_at place k.next query k.later
