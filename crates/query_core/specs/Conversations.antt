-- The replies to an input, all of them or a front of them.
use Rattle.std.specs.Prelude.{◌≡◌, ℕ, ◌-◌, ◌^◌, ◌<◌, List, ◌++◌, length, flat_map, map, nat_lt, codes, MatchBool, Option}
use Rattle.std.specs.Prelude.{None, Some, Result, MatchResult}
use Rattle.std.specs.List.{AllZip}
use Rattle.std.specs.Str.{is_utf8}
use Rattle.std.specs.Io.KnownBytes.{Appends}
use Rattle.devices.specs.Device.{AppendsPrefix}
use Rattle.devices.specs.LineCuts.{HasNoLineFeed, input_lines, cut_lines, without_carriage_return}
use Rattle.query_core.specs.declared.fault.AnswerFault.{AnswerFault}
use Rattle.query_core.specs.Replies.{refusal_text}

-- these lines are left behind those that were taken: those of these bytes, after a part of one line
abbrev pub AreLeft : Option (List ℕ) → List (List ℕ) → Type 0
AreLeft None later = ⊥
AreLeft (Some left) later = (part : List ℕ) × HasNoLineFeed part × (later ≡ cut_lines (part ++ left))

-- ---- by what is a reply to a text within the limit, in bytes

module _ (limit : ℕ) (IsReply : List ℕ → List ℕ → Type 0) where
  abbrev pub IsLineReply : List ℕ → List ℕ → Type 0
  IsLineReply line reply =
      MatchBool (nat_lt limit (length line)) (reply ≡ refusal_text (codes "QueryTooLong"))
      (MatchBool (is_utf8 line) (IsReply line reply) (reply ≡ refusal_text (codes "NotText")))

  -- with a line `.` after it
  abbrev pub IsMarkedReply : List ℕ → List ℕ → Type 0
  IsMarkedReply line text = (reply : List ℕ) × IsLineReply line reply × (text ≡ reply ++ codes ".\n")

  -- a reply to each line of an input was written, and so many lines were answered
  abbrev pub RepliedToAll : Option (List ℕ) → ℕ → Option (List ℕ) → Option (List ℕ) → Type 0
  RepliedToAll None count old new =
      (lines : List (List ℕ)) × (texts : List (List ℕ)) × (count ≡ length lines) × AllZip IsMarkedReply lines texts × Appends old new (flat_map (λ text. text) texts)
  RepliedToAll (Some input) count old new =
      (length input < 2 ^ 63 - 1) × (count ≡ length (input_lines input))
      × (texts : List (List ℕ)) × AllZip IsMarkedReply (input_lines input) texts
      × Appends old new (flat_map (λ text. text) texts)

  -- a front of replies to the first lines was written
  abbrev pub RepliedToFirst : Option (List ℕ) → Option (List ℕ) → Option (List ℕ) → Type 0
  RepliedToFirst None old new = (first : List (List ℕ)) × (texts : List (List ℕ)) × AllZip IsMarkedReply first texts
      × AppendsPrefix old new (flat_map (λ text. text) texts)
  RepliedToFirst (Some input) old new =
      (first : List (List ℕ)) × (later : List (List ℕ)) × (texts : List (List ℕ)) × (input_lines input ≡ first ++ later)
      × AllZip IsMarkedReply first texts × AppendsPrefix old new (flat_map (λ text. text) texts)

  -- A reply to each line that was taken of an input was written. These bytes of the input are left, unless it is too
  -- long.
  abbrev pub RepliedToTaken : Option (List ℕ) → Option (List ℕ) → Option (List ℕ) → Option (List ℕ) → Type 0
  RepliedToTaken None left old new = (lines : List (List ℕ)) × (texts : List (List ℕ))
      × AllZip IsMarkedReply lines texts × Appends old new (flat_map (λ text. text) texts)
  RepliedToTaken (Some input) left old new =
      (lines : List (List ℕ)) × (later : List (List ℕ)) × (texts : List (List ℕ)) × (cut_lines input ≡ lines ++ later)
      × (length input < 2 ^ 63 - 1 → AreLeft left later)
      × AllZip IsMarkedReply (map without_carriage_return lines) texts × Appends old new (flat_map (λ text. text) texts)

  -- the replies to the input were written, or after a fault a front of replies
  abbrev pub Converses : Result ℕ AnswerFault → Option (List ℕ) → Option (List ℕ) → Option (List ℕ) → Type 0
  Converses result input old new = MatchResult result (λ count. RepliedToAll input count old new)
      (λ _. RepliedToFirst input old new)

-- ---- the writing of a text that satisfies a fact

-- such a text was written, or after a fault a front of one
abbrev pub WritesSome : {A E : Type 0} → Result A E → Option (List ℕ) → Option (List ℕ) → (List ℕ → Type 0) → Type 0
WritesSome result old new Is =
    MatchResult result (λ _. (text : List ℕ) × Is text × Appends old new text) (λ _. (text : List ℕ) × Is text
    × AppendsPrefix old new text)
