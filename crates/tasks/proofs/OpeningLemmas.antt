-- What is done with an archive once it is opened.
use Rattle.std.proofs.Common.{◌≡◌, Result, Ok, Err, MatchResult, IfOk, inl, inr, subst, sym}
use Rattle.archives.specs.State.{ArchiveState, IsUnread, ToldArchive, told_of}
use Rattle.outcomes.specs.declared.outcome.Outcome.{Outcome}
use Rattle.tasks.specs.Opening.{OpensAs, OpensFirst, WithTold}

-- what is opened was not read
pub opened_unread : {A : Type 0} (opened : Result A Outcome) (state : A → ArchiveState) (Tells : ToldArchive → Type 0)
    (Unopened : Outcome → Type 0)
    → MatchResult opened (λ archive. OpensAs Tells (state archive)) Unopened
    → IfOk opened (λ archive. IsUnread (state archive))
opened_unread (Ok archive) state Tells Unopened has = has.0
opened_unread (Err unopened) state Tells Unopened is = tt

-- an archive was opened that may be told so, or wasn't opened; and what was done by that
pub opens_first : {A Same Unchanged : Type 0} (opened : Result A Outcome) (state : A → ArchiveState)
    (Tells : ToldArchive → Type 0) (Unopened : Outcome → Type 0) (Done : ToldArchive → Type 0) (outcome : Outcome)
    → (Same → Unchanged) → MatchResult opened (λ archive. OpensAs Tells (state archive)) Unopened
    → MatchResult opened (λ archive. Done (told_of (state archive))) (λ unopened. (outcome ≡ unopened) × Same)
    → OpensFirst (Unopened outcome) Unchanged (WithTold Tells Done)
opens_first (Ok archive) state Tells Unopened Done outcome keep has done = inl (told_of (state archive), has.1, done)
opens_first (Err unopened) state Tells Unopened Done outcome keep is done =
    inr (subst Unopened (sym done.0) is, keep done.1)
