-- The lines that wait for their turn.
use Rattle.std.specs.Prelude.{◌≡◌, ℕ, ◌==◌, ◌++◌, Bool, false, List, map, Result, MatchResult}
use Rattle.std.specs.List.{AllByRecursion, filter}
use Rattle.std.specs.List.Sorted.{IsPermutation}
use Rattle.std.specs.Ordering.{is_lt, nat_cmp, ordering_then}
use Rattle.std.specs.declared.cmp.Ordering.{Ordering}
use Rattle.cdxj_places.specs.Pairs.{Pair, pair_cmp}
use Rattle.cdxj_core.specs.Members.{Member, member_pair}
use Rattle.merge_core.specs.PairOrders.{Below, Upto}

-- a line, and the number of its source
pub record WaitingLine : Type 0 where
  pub member : Member
  pub source : ℕ

abbrev pub waiting_pair : WaitingLine → Pair
waiting_pair w = member_pair w.member

-- none of these lines is below the pair
abbrev pub NoneBelow : Pair → List WaitingLine → Type 0
NoneBelow pair = AllByRecursion (λ w. Upto pair (waiting_pair w))

-- all of them are above it
abbrev pub AllBeyond : Pair → List WaitingLine → Type 0
AllBeyond pair = AllByRecursion (λ w. Below pair (waiting_pair w))

-- whose turn comes first: by pair, then by the source's number
abbrev pub turn_cmp : WaitingLine → WaitingLine → Ordering
turn_cmp w v = ordering_then (pair_cmp (waiting_pair w) (waiting_pair v)) (nat_cmp w.source v.source)

-- the turn of none of these lines comes before that of this one
abbrev pub NoneBefore : WaitingLine → List WaitingLine → Type 0
NoneBefore w = AllByRecursion (λ v. is_lt (turn_cmp v w) ≡ false)

-- these lines were added to those that wait, or none was, after a fault
abbrev pub Enqueues : {A E : Type 0} → Result A E → List WaitingLine → List WaitingLine → List WaitingLine → Type 0
Enqueues result added old new = MatchResult result (λ _. IsPermutation (added ++ old) new) (λ _. new ≡ old)

-- the other way round, so that the first is the greatest
abbrev pub waiting_cmp : WaitingLine → WaitingLine → Ordering
waiting_cmp w v = turn_cmp v w

abbrev pub is_of : ℕ → WaitingLine → Bool
is_of i w = w.source == i

-- those of a source
abbrev pub waits_of : ℕ → List WaitingLine → List Member
waits_of i ws = map (λ w. w.member) (filter (is_of i) ws)

-- these lines, as those of a source
abbrev pub queued : ℕ → List Member → List WaitingLine
queued i ms = map (λ m. record { member = m; source = i }) ms
