-- The lines of a text.
use Rattle.warc_head.proofs.Words.{common_steps, ◌≡◌, ℕ, suc, ◌+◌, ◌-◌, ◌<◌, ◌≤◌, List, [], ◌∷◌}
use Rattle.warc_head.proofs.Words.{◌++◌, length, take, drop, get_or, refl, arith, true, false, Bool}
use Rattle.warc_head.proofs.Words.{◌&&◌, length-drop, Ok, Err, if◌then◌else◌, ◌==◌, list_all}
use Rattle.warc_head.proofs.Words.{take-append-drop, drop-drop, take-append_seam, drop-append_seam}
use Rattle.warc_head.proofs.Words.{line_content, line_end, is_content, EndsLine}
use Rattle.std.proofs.Common.{add-one, nat_eq}
use Rattle.std.specs.Prelude.{Some, None}
use Rattle.std.specs.List.{ends_with}
use Rattle.std.specs.Cmp.Lexicographic.{pointwise}
use Rattle.httparse.specs.Pieces.{IsRunAt}
use Rattle.std.proofs.lemmas.List.{get_or-drop}
use Rattle.memchr.specs.Find.{is_byte2}
use Rattle.warc_head.specs.Lines.{lines_of, BeginsWithLine}
use Rattle.warc_head.specs.Fields.{at_colon}
use Rattle.warc_head.specs.Folding.{ended}
use Rattle.warc_head.specs.declared.fault.HeadFault.TheVariants as faults

pub false_of : (t : Bool) → (t ≡ true → ⊥) → t ≡ false
false_of t h = grind arith

-- a text whose first colon stands at a place
pub colon_at : (text : List ℕ) (at : ℕ) → at < length text → (get_or text at 0 == 58) ≡ true
    → ((k : ℕ) → k < at → (get_or text k 0 == 58) ≡ true → ⊥) → at_colon text ≡ Some (take at text, drop (at + 1) text)
unfolding at_colon
colon_at (b ∷ bs) (suc at) h e f =
    let t : (b == 58) ≡ false = false_of (b == 58) (f 0 (omega arith)) in
    let ih = rw add-one at (colon_at bs at (omega arith) e (λ k l. f (suc k) (omega arith))) in
    rw (t, add-one) (grind arith)
colon_at text at h e f = grind arith

pub colon_none : (text : List ℕ) → ((k : ℕ) → k < length text → (get_or text k 0 == 58) ≡ true → ⊥) → at_colon text
    ≡ None
unfolding at_colon
colon_none [] f = refl
colon_none (b ∷ bs) f =
    let first = f 0 (omega arith) in
    let ih = colon_none bs (λ k l. f (suc k) (omega arith)) in
    grind arith

-- the first line of a text
pub line_first : (text rest : List ℕ) → list_all is_content text ≡ true → lines_of (text ++ (line_end ++ rest))
    ≡ (text ++ line_end) ∷ lines_of rest
unfolding lines_of
line_first [] rest h = refl
line_first (b ∷ bs) rest h = grind (arith, line_first bs rest)

front : (text : List ℕ) → take (length (text ++ line_end) - 2) (text ++ line_end) ≡ text
front text = grind (arith, common_steps, take-append_seam)

back : (text : List ℕ) → ends_with nat_eq (text ++ line_end) line_end ≡ true
back text = grind (arith, common_steps, drop-append_seam)

pub line_text : (text : List ℕ) → list_all is_content text ≡ true → line_content (text ++ line_end) ≡ Ok text
line_text text h = rw (back text, front text, h) refl

abbrev pub concat : List (List ℕ) → List ℕ
concat [] = []
concat (line ∷ lines) = line ++ concat lines

-- the lines of a text are the text
pub concat-lines : (text : List ℕ) → concat (lines_of text) ≡ text
unfolding lines_of
concat-lines [] = refl
concat-lines (b ∷ bs) = grind (arith, concat-lines bs)

-- a text that matches CR LF byte by byte
line_end_is : (d : List ℕ) → pointwise nat_eq line_end d ≡ true → d ≡ line_end
line_end_is d h = grind arith

pub record IsLine (line text : List ℕ) : Type 0 where
  pub spelled : line ≡ ended text
  pub plain : list_all is_content text ≡ true

pub line_if : (line : List ℕ) (t : Bool) (text : List ℕ)
    → (ends_with nat_eq line line_end && list_all is_content (take (length line - 2) line)) ≡ t
    → (if t then Ok (take (length line - 2) line) else Err faults.FieldLine) ≡ Ok text → IsLine line text
line_if line t text e h = grind (arith, take-append-drop, line_end_is)

-- where a line stands, the first CR or LF is that at its end
pub line_end_at : (line rest : List ℕ) (at : ℕ) → list_all is_content line ≡ true
    → is_byte2 13 10 (get_or (line ++ 13 ∷ rest) at 0) ≡ true
    → ((k : ℕ) → k < at → is_byte2 13 10 (get_or (line ++ 13 ∷ rest) k 0) ≡ true → ⊥) → at ≡ length line
line_end_at (b ∷ bs) rest (suc at) p h f =
    grind (arith, line_end_at bs rest at (grind arith) h (λ k l. f (suc k) (omega arith)))
line_end_at line rest at p h f = grind (arith, f 0)

-- a text that begins so has a CR or LF
pub line_end_in : (line rest : List ℕ)
    → ((k : ℕ) → k < length (line ++ 13 ∷ rest) → is_byte2 13 10 (get_or (line ++ 13 ∷ rest) k 0) ≡ true → ⊥) → ⊥
line_end_in [] rest f = f 0 (omega arith) refl
line_end_in (b ∷ bs) rest f = line_end_in bs rest (λ k l. f (suc k) (omega arith))

-- the bytes before the first CR or LF
pub plain_before : (text : List ℕ) (at : ℕ) → ((k : ℕ) → k < at → is_byte2 13 10 (get_or text k 0) ≡ true → ⊥)
    → at ≤ length text → list_all is_content (take at text) ≡ true
plain_before (b ∷ bs) (suc at) f l =
    let first = f 0 (omega arith) in
    let ih = plain_before bs at (λ k l. f (suc k) (omega arith)) (omega arith) in
    grind arith
plain_before text at f l = grind arith

-- where no CR or LF stands, no line does
pub unended : (text : List ℕ) → ((k : ℕ) → k < length text → is_byte2 13 10 (get_or text k 0) ≡ true → ⊥)
    → (line rest : List ℕ) → BeginsWithLine text line rest → ⊥
unended text f line rest b = grind (arith, line_end_in)

-- where the first CR or LF begins no CR LF, no line stands
pub ended_elsewhere : (text : List ℕ) (at : ℕ) → is_byte2 13 10 (get_or text at 0) ≡ true
    → ((k : ℕ) → k < at → is_byte2 13 10 (get_or text k 0) ≡ true → ⊥)
    → ((rest : List ℕ) → drop at text ≡ line_end ++ rest → ⊥) → (line rest : List ℕ) → BeginsWithLine text line rest → ⊥
ended_elsewhere text at h f n line rest b = grind (arith, line_end_at, drop-append_seam)

-- a run of bytes that are no CR and no LF, from one offset to another
module _ (text : List ℕ) (at end : ℕ) (run : IsRunAt is_content text at end) where
  no_break : (k : ℕ) → k < end - at → is_byte2 13 10 (get_or (drop at text) k 0) ≡ true → ⊥
  no_break k l h = grind (arith, get_or-drop)

  behind : drop (end - at) (drop at text) ≡ drop end text
  behind = grind (arith, drop-drop)

  pub ends_line : drop end text ≡ line_end ++ drop 2 (drop end text) → EndsLine text at end
  ends_line e =
      let size : length (drop end text) ≡ 2 + length (drop 2 (drop end text)) = grind arith in
      let split = take-append-drop (end - at) (drop at text) in
      grind (arith, length-drop, behind, drop-drop 2 end text, plain_before, no_break)

  broken : end < length text → is_byte2 13 10 (get_or (drop at text) (end - at) 0) ≡ true
  broken inside = grind (arith, get_or-drop)

  pub ends_no_line : ((more : List ℕ) → drop end text ≡ line_end ++ more → ⊥) → (line rest : List ℕ)
      → BeginsWithLine (drop at text) line rest → ⊥
  ends_no_line other line rest b =
      let whole = unended (drop at text) in
      let inside = ended_elsewhere (drop at text) (end - at) in
      grind (arith, broken, no_break, behind, length-drop)
