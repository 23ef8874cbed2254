-- How much sources give for the replies to the lines of an input.
use Rattle.std.specs.Prelude.{◌≡◌, ℕ, ◌+◌, ◌*◌, ◌≤◌, ⊤, List, [], ◌∷◌, ◌++◌, flat_map, length, map, nat_lt, Option, None}
use Rattle.std.specs.Prelude.{Some, Result, Ok, Err, if◌then◌else◌}
use Rattle.std.specs.List.{AllZip, filter, sum}
use Rattle.std.specs.Str.{is_utf8}
use Rattle.cdxj_places.specs.TextLines.{lines}
use Rattle.cdxj_core.specs.Members.{Member}
use Rattle.devices.specs.LineCuts.{input_lines}
use Rattle.source_core.specs.IndexLines.{longest}
use Rattle.source_core.specs.declared.source.Source.{Ghosts}
use Rattle.query_text.specs.declared.fault.QueryFault.{QueryFault}
use Rattle.query_text.specs.Queries.{QueryValue, query_of}
use Rattle.merge_core.specs.Collections.{collection}
use Rattle.merge_core.specs.Spending.{search_most}
use Rattle.merge_core.specs.Written.{lines_text}
use Rattle.query_core.specs.Reach.{WroteFirst, in_reach}
use Rattle.query_core.specs.Conversations.{IsMarkedReply}

-- a number of bytes of an index, by its size, its text and its lines
abbrev pub Amount : Type 0
Amount = ℕ → List ℕ → List Member → ℕ

-- each of the sources gave at most so many bytes
abbrev pub AllGaveAtMost : {S : Type 0} → Ghosts S → Amount → List (List ℕ) → List (List Member) → List S → List S
    → Type 0
AllGaveAtMost device most [] [] [] [] = Unit {0}
AllGaveAtMost device most (t ∷ ts) (i ∷ is) (old ∷ olds) (new ∷ news) =
    (device.gave new ≤ device.gave old + most (device.extent old) t i) × AllGaveAtMost device most ts is olds news
AllGaveAtMost device most ts is olds news = ⊥

-- a query takes no more than the lines that its page reaches, what a search takes, two lines and a piece
abbrev pub query_most : QueryValue → List Member → Amount
query_most q all extent text members =
    length (lines_text (filter (in_reach q q.resume q.limit all) members))
    + (search_most extent text + (2 * longest (lines text) + 8192))

-- a text that is refused takes nothing
abbrev pub asked_most : Result QueryValue QueryFault → List Member → Amount
asked_most (Ok q) all extent text members = query_most q all extent text members
asked_most (Err refusal) all extent text members = 0

-- the limit of a query, in bytes, and the collection of the indexes
module _ (limit : ℕ) (all : List Member) where
  abbrev pub line_most : List ℕ → Amount
  line_most line extent text members =
      if nat_lt limit (length line) then 0
      else (if is_utf8 line then asked_most (query_of limit line) all extent text members else 0)

  abbrev pub lines_most : List (List ℕ) → Amount
  lines_most asked extent text members = sum (map (λ line. line_most line extent text members) asked)

-- these are the first lines of the input, if its bytes are known
abbrev pub AreFirstLines : Option (List ℕ) → List (List ℕ) → Type 0
AreFirstLines None asked = ⊤
AreFirstLines (Some input) asked = (later : List (List ℕ)) × (input_lines input ≡ asked ++ later)

-- The replies to the first lines of an input stand written. Each source gave no more bytes than these lines and one more
-- take.
pub record GaveForLines {S : Type 0} (device : Ghosts S) (limit : ℕ) (IsReply : List ℕ → List ℕ → Type 0)
    (input : Option (List ℕ)) (texts : List (List ℕ)) (indexes : List (List Member)) (old new : Option (List ℕ))
    (olds news : List S) : Type 0 where
  pub answered : List (List ℕ)
  pub next : List (List ℕ)
  pub one : length next ≤ 1
  pub first : AreFirstLines input (answered ++ next)
  pub replies : List (List ℕ)
  pub each : AllZip (IsMarkedReply limit IsReply) answered replies
  pub wrote : WroteFirst old new (flat_map (λ text. text) replies)
  pub within : AllGaveAtMost device (lines_most limit (collection indexes) (answered ++ next)) texts indexes olds news
