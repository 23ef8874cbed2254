-- How far sources were read.
use Rattle.std.specs.Prelude.{◌≡◌, ℕ, ◌+◌, ◌*◌, ◌≤◌, List, [], ◌∷◌, ◌++◌, length, map, drop, Bool, false, Option, Some}
use Rattle.std.specs.List.{AllByRecursion, AllZip, filter, sum, zip}
use Rattle.cdxj_core.specs.declared.limit.TheConstants.{LINE_LIMIT}
use Rattle.cdxj_places.specs.Pairs.{Pair}
use Rattle.cdxj_places.specs.TextLines.{lines}
use Rattle.cdxj_core.specs.Members.{Member, member_pair, line_entry}
use Rattle.source_core.specs.Cursors.{CursorState, reach}
use Rattle.source_core.specs.Halving.{digits}
use Rattle.source_core.specs.IndexLines.{longest}
use Rattle.source_core.specs.declared.source.Source.{Ghosts}
use Rattle.merge_core.specs.declared.state.MergeState.{MergeState}
use Rattle.merge_core.specs.MergeInputs.{bytes_of, inputs}
use Rattle.merge_core.specs.Gathering.{EachDone}
use Rattle.merge_core.specs.PairOrders.{IsUpto, Upto}
use Rattle.merge_core.specs.Written.{lines_text}

-- Of a source with this text, lines were read that lie within the range and aren't above the bound; beyond them, two
-- lines and a piece of 8,192 bytes at most
pub record ReadTo (past : List ℕ → Bool) (b : Option Pair) (text : List ℕ) (c : CursorState) : Type 0 where
  pub read : List (List ℕ)
  pub rest : List (List ℕ)
  pub cut : lines (drop c.start text) ≡ read ++ rest
  pub members : List Member
  pub entries : map (line_entry LINE_LIMIT) read ≡ map Some members
  pub within : AllByRecursion (λ m. (past m.values.key ≡ false) × IsUpto b (member_pair m)) members
  pub most : reach c ≤ c.start + bytes_of read + 2 * longest (lines text) + 8192

-- the same of each source that tells its bytes
abbrev pub AreReadTo : {S : Type 0} → (List ℕ → Bool) → (S → Option (List ℕ)) → Option Pair → List S
    → List CursorState → Type 0
AreReadTo past text b ss cs =
    AllByRecursion (λ x. (t : List ℕ) → text x.0 ≡ Some t → ReadTo past b t x.1) (zip ss cs)

-- the sources were read no further than this pair, if no line above it was taken before
abbrev pub ReadUpto : {S : Type 0} → (List ℕ → Bool) → (S → Option (List ℕ)) → Pair → List S → MergeState → List S
    → MergeState → Type 0
ReadUpto past text pair olds old news new =
    EachDone past text (AllByRecursion (λ m. Upto (member_pair m) pair)) olds (inputs old)
    → AreReadTo past text (Some pair) news new.cursors.items

-- what a search in a source of so many bytes, with this text, takes at most
abbrev pub search_most : ℕ → List ℕ → ℕ
search_most extent text = digits extent * (2 * longest (lines text) + 2048)

-- how many steps the searches in these sources take at most
abbrev pub search_steps : {S : Type 0} → Ghosts S → List S → ℕ
search_steps device ss = sum (map (λ s. digits (device.extent s)) ss)

-- a source gave no more than a search takes, two lines and a piece
abbrev pub OpenedWithin : {S : Type 0} → Ghosts S → S → S → Type 0
OpenedWithin device old new = (t : List ℕ) → device.text old ≡ Some t
    → device.gave new ≤ device.gave old + search_most (device.extent old) t + 2 * longest (lines t) + 8192

-- the same of each source
abbrev pub AllOpenedWithin : {S : Type 0} → Ghosts S → List S → List S → Type 0
AllOpenedWithin device = AllZip (OpenedWithin device)

-- when the first line after the cursor was read, a source gave no more than two lines and a piece beyond what was held
abbrev pub CameFirst : {S : Type 0} → Ghosts S → S → S → CursorState → Type 0
CameFirst device old new c = (t : List ℕ) → device.text old ≡ Some t
    → device.gave new + reach c ≤ device.gave old + c.start + 2 * longest (lines t) + 8192

-- a source gave no more than a search takes, and what lies between the cursor's start and the offset up to which it was
-- read
abbrev pub CameWithin : {S : Type 0} → Ghosts S → S → S → CursorState → Type 0
CameWithin device old new c = (t : List ℕ) → device.text old ≡ Some t
    → device.gave new + c.start ≤ device.gave old + search_most (device.extent old) t + reach c

-- a source gave each of its bytes at most once
abbrev pub GaveOnce : {S : Type 0} → Ghosts S → S → S → Type 0
GaveOnce device old new = device.gave new ≤ device.gave old + device.extent old

-- each of its bytes up to the offset up to which it was read, which lies within it
abbrev pub CameOnce : {S : Type 0} → Ghosts S → S → S → CursorState → Type 0
CameOnce device old new c = (device.gave new ≤ device.gave old + reach c) × (reach c ≤ device.extent new)

-- each of the sources gave each of its bytes at most once
abbrev pub AllGaveOnce : {S : Type 0} → Ghosts S → List S → List S → Type 0
AllGaveOnce device = AllZip (GaveOnce device)

-- Sources gave no more than the bytes of those of their lines that pass, what a search takes, two lines and a piece: by
-- their texts, their indexes, and the sources before and after
abbrev pub AllGaveWithin : {S : Type 0} → Ghosts S → (Member → Bool) → List (List ℕ) → List (List Member) → List S
    → List S → Type 0
AllGaveWithin device test [] [] [] [] = Unit {0}
AllGaveWithin device test (t ∷ ts) (i ∷ is) (old ∷ olds) (new ∷ news) =
    (device.gave new ≤ device.gave old + length (lines_text (filter test i)) + search_most (device.extent old) t
    + 2 * longest (lines t) + 8192)
    × AllGaveWithin device test ts is olds news
AllGaveWithin device test ts is olds news = ⊥
