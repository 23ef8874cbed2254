-- A query text with a printed key is cut into its pieces again.
use Rattle.std.proofs.Common.{◌≡◌, ℕ, ◌<◌, false, List, [], ◌∷◌, length, codes, arith}
use Rattle.std.proofs.Common.{◌==◌}
use Rattle.std.specs.List.{All, AllByRecursion, slice_split, onto_first, join_with_byte}
use Rattle.std.proofs.lemmas.List.Elements.{All-weaker, All-append}
use Rattle.std.proofs.lemmas.List.Sums.{AllPass-from_list_all}
use Rattle.std.proofs.lemmas.List.Splits.{slice_split_none, slice_split_at}
use Rattle.form_urlencoded.proofs.FormLemmas.{IsSerializedByte, All-byte_serialize}
use Rattle.cdxj_places.specs.Places.{PlaceValue, resume_text}
use Rattle.query_text.specs.Readings.{Text}
use Rattle.query_text.specs.Resuming.{resume_piece, with_resume_key, IsCutWithKey}

-- no byte of the text is `&`
abbrev IsOnePiece : Text → Type 0
IsOnePiece text = All (λ b. (b == 38) ≡ false) text

-- ---- pieces have none

onto : (b : ℕ) → (b == 38) ≡ false → (parts : List Text) → AllByRecursion IsOnePiece parts
    → AllByRecursion IsOnePiece (onto_first b parts)
onto b e [] h = grind arith
onto b e (part ∷ parts) h = grind arith

are_pieces : (text : Text) → AllByRecursion IsOnePiece (slice_split (λ b. b == 38) text)
are_pieces [] = grind arith
are_pieces (b ∷ text) = grind (arith, are_pieces text)

-- ---- a printed key has none

serialized : (b : ℕ) → IsSerializedByte b → (b == 38) ≡ false
serialized b h = grind arith

named : IsOnePiece (codes "resumeKey=")
named = grind (arith, All-weaker, AllPass-from_list_all)

key_piece : (place : PlaceValue) → IsOnePiece (resume_piece (resume_text place))
key_piece place =
    All-append (λ c. (c == 38) ≡ false) (codes "resumeKey=") (resume_text place) named
    (grind (arith, All-weaker, IsSerializedByte, serialized, All-byte_serialize))

with_pieces : (key : Text) → IsOnePiece (resume_piece key) → (pieces : List Text) → AllByRecursion IsOnePiece pieces
    → AllByRecursion IsOnePiece (with_resume_key key pieces)
with_pieces key k [] h = (k, tt)
with_pieces key k (piece ∷ pieces) h = grind (arith, with_pieces key k pieces h.1)

some_pieces : (key : Text) (pieces : List Text) → 0 < length (with_resume_key key pieces)
some_pieces key [] = omega arith
some_pieces key (piece ∷ pieces) = grind arith

-- ---- pieces that are joined are cut again

cut_again : (pieces : List Text) → 0 < length pieces → AllByRecursion IsOnePiece pieces
    → slice_split (λ b. b == 38) (join_with_byte 38 pieces) ≡ pieces
cut_again [] l h = absurd (omega arith)
cut_again (piece ∷ []) l h = slice_split_none (λ b. b == 38) piece h.0
cut_again (piece ∷ next ∷ pieces) l h = grind (arith, slice_split_at, cut_again (next ∷ pieces) (omega arith) h.1)

pub cut_with_key : IsCutWithKey
cut_with_key text place = grind (arith, cut_again, some_pieces, with_pieces, key_piece place, are_pieces text)
