-- What comes next in a compressed archive, by the member in which it stands.
use Rattle.archives.proofs.Words.{◌≡◌, ℕ, ◌-◌, ◌^◌, ◌<◌, ◌≤◌, List, None, Some, Option, Result, Ok, Err}
use Rattle.archives.proofs.Words.{IfSome, Fault, HEAD_LIMIT, arith, refl, ◌∙◌}
use Rattle.archives.proofs.Words.{inl}
use Rattle.gzip_members.specs.Reading.{Taken}
use Rattle.archives.specs.declared.member_opening.OpenRecord.{OpenRecord}
use Rattle.archives.specs.Form.{Comes, ComesRecord, IsPossibleFault, Placed, Stored}
use Rattle.archives.specs.Packed.{packed}
use Rattle.archives.specs.MemberReading.{HoldsHead, Left, OpensRecord, TakesMember, taken_record}
use Rattle.archives.specs.Plain.{no_memory}
use Rattle.archives.specs.Walking.{ComesAt, FailsAt}
use Rattle.archives.specs.Captures.{MayBeRefused}
use Rattle.capture_core.specs.CaptureAnswer.{usual_limits}
use Rattle.archives.proofs.Words.{Archive, Bool, Kind}
use Rattle.archives.proofs.PackedLemmas.{packed_follows, packed_stand}
use Rattle.archives.proofs.PlainLemmas.{some_of}
use Rattle.archives.proofs.WalkingLemmas.{fault_later}

-- what comes at an offset comes at an earlier one, with members without text between them
comes_later : (offset start : ℕ) (bytes later : List ℕ) (s : Stored) (after : Option (List ℕ))
    → (packed HEAD_LIMIT).next offset bytes ≡ (packed HEAD_LIMIT).next start later
    → Comes (packed HEAD_LIMIT) start (Ok (Some s)) (Some later) after
    → Comes (packed HEAD_LIMIT) offset (Ok (Some s)) (Some bytes) after
comes_later offset start bytes later s None same c = c
comes_later offset start bytes later s (Some rest) same c = same ∙ c

module _ (offset : ℕ) (r : OpenRecord) (left : Option Left) (mid : Taken) (ahead after : Option (List ℕ)) (X : Type 0)
    (placed : X → Placed) (P : X → Stored → Type 0) where
  -- the head of the record was read
  abbrev Opened : Option (List ℕ) → Type 0
  Opened before = IfSome before (λ bytes. OpensRecord offset bytes (Ok (Some r)) left mid ahead)

  -- and then the record
  abbrev Takes : Result X Fault → Type 0
  Takes = λ result. (bytes : List ℕ) → HoldsHead r.start bytes r.head left mid ahead
      → TakesMember {X = X} placed P r.start bytes result after

  comes_by : (before : Option (List ℕ)) (x : X) → Opened before → Takes (Ok x)
      → ComesRecord (packed HEAD_LIMIT) offset (placed x) (P x) before after
  comes_by None x o t = tt
  comes_by (Some bytes) x (later, same, holds) t =
      let s = t later holds in
      (s.0, s.1, comes_later offset r.start bytes later s.0 after same s.2, s.3)

  fails_by : (before : Option (List ℕ)) (f : Fault) → offset ≤ r.start → Opened before → Takes (Err f)
      → Comes (packed HEAD_LIMIT) offset (Err f) before after
  fails_by None f onward o t = tt
  fails_by (Some bytes) f onward (later, same, holds) t =
      fault_later offset r.start bytes later f onward same (t later holds)

  -- a record that was taken
  pub taken_comes : (before : Option (List ℕ)) (x : X) (passed : ℕ) → Opened before → Takes (Ok x) → offset ≤ r.start
      → r.head.start ≡ 0 → r.start < passed → passed ≤ 2 ^ 63 - 1 → placed x ≡ taken_record r passed
      → ComesAt (packed HEAD_LIMIT) offset (placed x) (P x) before after
  taken_comes before x passed o t onward zero further within is = record {
    comes = comes_by before x o t;
    stands = rw is (record {
      follows = packed_follows HEAD_LIMIT offset r.start onward;
      stands = packed_stand HEAD_LIMIT r.head (taken_record r passed).place zero;
      filled = omega arith;
      fits = omega arith;
    });
  }

  -- a record that was not
  pub taken_fails : (before : Option (List ℕ)) (f : Fault) → Opened before → Takes (Err f) → offset ≤ r.start
      → f.offset ≡ r.start → FailsAt (packed HEAD_LIMIT) offset f before after
  taken_fails before f o t onward at = record {
    comes = fails_by before f onward o t;
    follows = packed_follows HEAD_LIMIT offset f.offset (omega arith);
  }

open_comes : (offset : ℕ) (f : Fault) (left : Option Left) (mid : Taken) (ahead before after : Option (List ℕ))
    → IfSome before (λ bytes. OpensRecord offset bytes (Err f) left mid ahead)
    → Comes (packed HEAD_LIMIT) offset (Err f) before after
open_comes offset f left mid ahead None after o = tt
open_comes offset f left mid ahead (Some bytes) after o = o

-- no head was read
pub open_fails : (offset : ℕ) (f : Fault) (left : Option Left) (mid : Taken) (ahead before after : Option (List ℕ))
    → IfSome before (λ bytes. OpensRecord offset bytes (Err f) left mid ahead) → offset ≤ f.offset
    → FailsAt (packed HEAD_LIMIT) offset f before after
open_fails offset f left mid ahead before after o onward = record {
  comes = open_comes offset f left mid ahead before after o;
  follows = packed_follows HEAD_LIMIT offset f.offset onward;
}

-- ---- there was no memory

no_memory_at : (bytes : List ℕ) → IsPossibleFault (packed HEAD_LIMIT) 0 bytes no_memory
no_memory_at bytes = (packed_follows HEAD_LIMIT 0 0 (omega arith), inl refl)

no_memory_comes : (before after : Option (List ℕ)) → Comes (packed HEAD_LIMIT) 0 (Err no_memory) before after
no_memory_comes None after = tt
no_memory_comes (Some bytes) after = no_memory_at bytes

pub no_memory_fails : (before after : Option (List ℕ)) → FailsAt (packed HEAD_LIMIT) 0 no_memory before after
no_memory_fails before after = record {
  comes = no_memory_comes before after;
  follows = packed_follows HEAD_LIMIT 0 0 (omega arith);
}

pub no_memory_refuses : (types : Kind → Bool) (name : List ℕ) (before : Option (List ℕ))
    → (packed HEAD_LIMIT).Follows 0 0
    × IfSome before (λ bytes. MayBeRefused types usual_limits (packed HEAD_LIMIT) name 0 bytes (Archive no_memory))
no_memory_refuses types name before = (packed_follows HEAD_LIMIT 0 0 (omega arith), some_of before no_memory_at)
