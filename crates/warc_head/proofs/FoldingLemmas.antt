-- The fields that are read and the texts that spell them.
use Rattle.warc_head.proofs.Words.{◌≡◌, ℕ, true, List, [], ◌∷◌, ◌++◌, refl, ap, arith, append_assoc}
use Rattle.warc_head.proofs.Words.{Some, None, Ok, Err, if◌then◌else◌, All, list_all, nat_tests}
use Rattle.warc_head.proofs.Words.{All-cons, All-nil, line_content, continues, is_content, trim}
use Rattle.warc_head.proofs.Words.{is_name, Field}
use Rattle.std.proofs.Common.{Option, Result, map}
use Rattle.std.specs.List.{flat_map}
use Rattle.std.proofs.lemmas.List.Folds.{list_all-append}
use Rattle.std.proofs.lemmas.List.Elements.{All-head, All-tail}
use Rattle.warc_head.specs.declared.fault.HeadFault.{HeadFault}
use Rattle.warc_head.specs.Answers.{◌>>=◌}
use Rattle.warc_head.specs.Lines.{lines_of}
use Rattle.warc_head.specs.Fields.{Given, at_colon, field_in, given_by, unless_continued, fields_of}
use Rattle.warc_head.specs.Fields.{with_field, with_folded, added, joined}
use Rattle.warc_head.specs.Folding.{Folded, IsContinuation, IsFolded, ended, folded_text}
use Rattle.warc_head.specs.Folding.{joined_all, unfolded, IsSpelling, FieldsAreSpelled}
use Rattle.warc_head.proofs.LineLemmas.{line_first, line_text, concat, concat-lines, IsLine}
use Rattle.warc_head.proofs.LineLemmas.{line_if}
use Rattle.warc_head.proofs.SpellingLemmas.{begins, colon_after, names-plain}

-- lines that go on with the field before what the later lines give
abbrev with_pieces : List (List ℕ) → Given → Given
with_pieces [] later = later
with_pieces (text ∷ more) later = with_folded (trim text) (with_pieces more later)

pieces-added : (more : List (List ℕ)) (fields : List Field)
    → added (with_pieces more (record { more = None; fields = fields })).more ≡ joined_all (map trim more)
pieces-added [] fields = refl
pieces-added (text ∷ more) fields = ap (joined (trim text)) (pieces-added more fields)

pieces-fields : (more : List (List ℕ)) (later : Given) → (with_pieces more later).fields ≡ later.fields
pieces-fields [] later = refl
pieces-fields (text ∷ more) later = pieces-fields more later

-- lines that go on, before lines that are read
more_read : (more : List (List ℕ)) (rest : List ℕ) (later : Given) → All IsContinuation more → given_by (lines_of rest)
    ≡ Ok later
    → given_by (lines_of (flat_map ended more ++ rest)) ≡ Ok (with_pieces more later)
unfolding given_by
more_read (text ∷ more) rest later h r =
    let others = All-tail IsContinuation text more h in
    grind (arith, All-head, append_assoc, line_first, line_text, more_read more rest later)
more_read [] rest later h r = r

first_plain : (f : Folded) → IsFolded f → list_all is_content (f.name ++ (58 ∷ f.rest)) ≡ true
first_plain f h = grind (arith, list_all-append, names-plain)

first_field : (f : Folded) → IsFolded f → field_in (f.name ++ (58 ∷ f.rest))
    ≡ Ok (record { name = f.name; value = trim f.rest })
unfolding field_in
first_field f h = grind (arith, colon_after)

spelling_read : (folded : List Folded) → All IsFolded folded → given_by (lines_of (flat_map folded_text folded))
    ≡ Ok (record { more = None; fields = map unfolded folded })
unfolding given_by lines_of
spelling_read [] h = refl
spelling_read (f ∷ fs) h =
    let one = All-head IsFolded f fs h in
    let plain = first_plain f one in
    let later = more_read f.more (flat_map folded_text fs) (record { more = None; fields = map unfolded fs }) one.more
    (spelling_read fs (All-tail IsFolded f fs h)) in
    grind (arith, append_assoc, line_first, line_text, begins, first_field, pieces-added, pieces-fields)

pub spelled_is_read : (body : List ℕ) (fields : List Field) → IsSpelling body fields → fields_of body ≡ Ok fields
unfolding fields_of
spelled_is_read body fields s = grind (arith, spelling_read)

line_of_text : (line text : List ℕ) → line_content line ≡ Ok text → IsLine line text
line_of_text line text h = line_if line _ text refl h

-- a text is cut at its first colon
colon_cuts : (text : List ℕ) (p : List ℕ × List ℕ) → at_colon text ≡ Some p → text ≡ p.0 ++ (58 ∷ p.1)
unfolding at_colon
colon_cuts (b ∷ bs) p h = grind (arith, nat_tests, colon_cuts bs)
colon_cuts [] p h = grind arith

record IsFirst (text : List ℕ) (field : Field) : Type 0 where
  rest : List ℕ
  spelled : text ≡ field.name ++ (58 ∷ rest)
  name : is_name field.name ≡ true
  value : field.value ≡ trim rest

first_of_field : (text : List ℕ) (field : Field) → field_in text ≡ Ok field → IsFirst text field
unfolding field_in
first_of_field text field h = grind (arith, colon_cuts, at_colon)

-- what lines that go on add
abbrev said_more : List (List ℕ) → Option (List ℕ)
said_more [] = None
said_more (text ∷ more) = Some (joined_all (map trim (text ∷ more)))

added-said : (more : List (List ℕ)) → added (said_more more) ≡ joined_all (map trim more)
added-said more = grind arith

-- a text spells what was given: lines that go on, and then fields
record Spells (body : List ℕ) (given : Given) : Type 0 where
  more : List (List ℕ)
  folded : List Folded
  each_more : All IsContinuation more
  each : All IsFolded folded
  text : body ≡ flat_map ended more ++ flat_map folded_text folded
  adds : given.more ≡ said_more more
  says : given.fields ≡ map unfolded folded

module _ (line : List ℕ) (lines : List (List ℕ)) (given : Given) (ih : (later : Given) → given_by lines ≡ Ok later
    → Spells (concat lines) later) where
  goes_on : (text : List ℕ) → IsLine line text → continues text ≡ true → (r : Result Given HeadFault) → given_by lines
      ≡ r
      → (r >>= λ later. Ok (with_folded (trim text) later)) ≡ Ok given → Spells (line ++ concat lines) given
  goes_on text l c (Err e) g h = grind arith
  goes_on text l c (Ok later) g h =
      let s = ih later g in
      record {
        more = text ∷ s.more;
        folded = s.folded;
        each_more = grind arith;
        each = s.each;
        text = grind (arith, append_assoc, text);
        adds = grind (arith, text, added-said);
        says = grind arith;
      }

  begins_field : (text : List ℕ) (field : Field) → IsLine line text → IsFirst text field → (r : Result Given HeadFault)
      → given_by lines ≡ r
      → (r >>= λ later. Ok (with_field field later)) ≡ Ok given → Spells (line ++ concat lines) given
  begins_field text field l f (Err e) g h = grind arith
  begins_field text field l f (Ok later) g h =
      let s = ih later g in
      let one : Folded = record { name = field.name; rest = f.rest; more = s.more } in
      let plain : list_all is_content (field.name ++ (58 ∷ f.rest)) ≡ true = grind arith in
      record {
        more = [];
        folded = one ∷ s.folded;
        each_more = All-nil IsContinuation;
        each = All-cons IsFolded one s.folded (grind (arith, list_all-append)) s.each;
        text = grind (arith, append_assoc);
        adds = grind arith;
        says = grind (arith, added-said);
      }

  from_field : (text : List ℕ) → IsLine line text → (r : Result Field HeadFault) → field_in text ≡ r
      → (r >>= λ field. given_by lines >>= λ later. Ok (with_field field later)) ≡ Ok given
      → Spells (line ++ concat lines) given
  from_field text l (Err e) f h = grind arith
  from_field text l (Ok field) f h = begins_field text field l (first_of_field text field f) (given_by lines) refl h

  from_line : (r : Result (List ℕ) HeadFault) → line_content line ≡ r
      → (r >>= λ text. if continues text then (given_by lines >>= λ later. Ok (with_folded (trim text) later)) else
      (field_in text >>= λ field. given_by lines >>= λ later. Ok (with_field field later))) ≡ Ok given
      → Spells (line ++ concat lines) given
  from_line r l h = grind (arith, goes_on, from_field, line_of_text)

spells : (lines : List (List ℕ)) (given : Given) → given_by lines ≡ Ok given → Spells (concat lines) given
unfolding given_by
spells [] given h = record {
  more = [];
  folded = [];
  each_more = All-nil IsContinuation;
  each = All-nil IsFolded;
  text = refl;
  adds = grind arith;
  says = grind arith;
}
spells (line ∷ lines) given h = grind (arith, from_line, spells lines)

no_more : (more : List (List ℕ)) → ◌≡◌ {A = Option (List ℕ)} None (said_more more) → more ≡ []
no_more more h = grind arith

from_given : (body : List ℕ) (fields : List Field) (r : Result Given HeadFault) → given_by (lines_of body) ≡ r
    → (r >>= λ given. unless_continued given.more given.fields) ≡ Ok fields → IsSpelling body fields
from_given body fields (Err e) g h = grind arith
from_given body fields (Ok given) g h = grind (arith, concat-lines body, spells (lines_of body) given g)

pub read_is_spelled : (body : List ℕ) (fields : List Field) → fields_of body ≡ Ok fields → IsSpelling body fields
unfolding fields_of
read_is_spelled body fields h = grind (arith, from_given)

pub fields_spelled : FieldsAreSpelled
fields_spelled body fields = (read_is_spelled body fields, spelled_is_read body fields)
