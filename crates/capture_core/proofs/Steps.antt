-- The front of a block, read in steps.
use Rattle.std.proofs.lemmas.Grind.{common_steps}
use Rattle.std.proofs.Common.{◌≡◌, ℕ, ◌-◌, ◌≤◌, ◌⊎◌, inl, inr, List, [], ◌∷◌, ◌++◌, Bool, true, false, cond}
use Rattle.std.proofs.Common.{Option, None, Some, Result, length, take, min, option_map, is_some, refl}
use Rattle.std.proofs.Common.{arith, append-nil, append_assoc, if◌then◌else◌}
use Rattle.std.proofs.Math.Seq.{take-append_seam, drop-append_seam}
use Rattle.std.specs.Io.KnownBytes.{Consumes}
use Rattle.httparse.specs.Grammar.{ResponseHead}
use Rattle.warc_core.specs.HeadView.{HeadView}
use Rattle.warc_core.proofs.OpenLemmas.{behind-front}
use Rattle.warc_core.proofs.ReadingLemmas.{GoesOn}
use Rattle.warc_core.specs.Record.{after_record}
use Rattle.warc_core.specs.declared.fault.Fault.{Fault}
use Rattle.capture_core.specs.HttpHead.{IsHeadOf, then_more}
use Rattle.capture_core.specs.Capture.{BlockValue, ResponseValue, IsHeadFor, response_of, payload_of}
use Rattle.capture_core.specs.RecordReading.{front_length}
use Rattle.capture_core.specs.CaptureAnswer.{Limits, GivesBehind, PartsBlock}
use Rattle.capture_core.proofs.HeadLemmas.{front_decides, no_head_in_nothing}

-- ---- the head

-- a head that was found in the first bytes is that of the block
found-first : (may : Bool) (limit few : ℕ) (front more : List ℕ) (f : ResponseHead × List ℕ)
    → cond may (IsHeadOf limit few front (Some f)) (Some f ≡ None)
    → cond may (IsHeadOf limit few (front ++ more) (then_more more (Some f))) (then_more more (Some f) ≡ None)
found-first may limit few front more f h = grind (arith, common_steps)

-- the HTTP head of a block is that of its front
head-behind : (limit few : ℕ) (front more : List ℕ) (found : Option (ResponseHead × List ℕ)) → (length front ≡ limit)
    ⊎ (more ≡ []) → IsHeadOf limit few front found → IsHeadOf limit few (front ++ more) (then_more more found)
head-behind limit few front more found (inl full) e =
    let front_is : take limit (front ++ more) ≡ front = grind (arith, take-append_seam) in
    grind (arith, drop-append_seam, front_decides)
head-behind limit few front more found (inr none) e = grind (arith, append-nil)

head-where : (may : Bool) (limit few len : ℕ) (front : List ℕ) (found : Option (ResponseHead × List ℕ))
    → length front ≤ min len (if may then limit else 0) → IsHeadOf limit few front found
    → cond may (IsHeadOf limit few front found) (found ≡ None)
head-where true limit few len front found l e = e
head-where false limit few len front None l e = refl
head-where false limit few len [] (Some f) l e = absurd (no_head_in_nothing limit few [] refl f.0 f.1 e)
head-where false limit few len (x ∷ front) (Some f) l e = grind arith

-- the head in a front of a block is that of the record
pub head-for : (limit few : ℕ) (h : HeadView) (front : List ℕ) (found : Option (ResponseHead × List ℕ))
    → length front ≤ front_length limit h → IsHeadOf limit few front found → IsHeadFor limit few h front found
head-for limit few h front found l e = grind (arith, head-where)

module _ (limits : Limits) (h : HeadView) (front payload : List ℕ) (response : Option ResponseValue)
    (found : Option (ResponseHead × List ℕ)) where
  -- the whole front parts the block
  pub parts-front : length front ≡ front_length limits.http_head h
      → IsHeadFor limits.http_head limits.http_fields h front found
      → response ≡ option_map (λ f. response_of f.0) found → payload ≡ payload_of front found
      → PartsBlock limits h front response payload
  parts-front l f r p = grind (arith, common_steps, head-behind)

-- first bytes with a head in them part the block
pub parts-first : {X : Type 0} (view : X → ResponseValue) (limits : Limits) (h : HeadView) (front payload : List ℕ)
    (response : Option X) (found : Option (ResponseHead × List ℕ)) → length front ≤ front_length limits.http_head h
    → IsHeadFor limits.http_head limits.http_fields h front found → option_map view response
    ≡ option_map (λ f. response_of f.0) found → payload ≡ payload_of front found → is_some response ≡ true
    → PartsBlock limits h front (option_map view response) payload
parts-first view limits h front payload response found l f r p s = grind (arith, found-first)

-- ---- the rest

pub goes-on-to : (n m : ℕ) (front : List ℕ) (before after : Option (List ℕ)) → length front ≤ n → n - length front ≡ m
    → Consumes before after front → GoesOn (after_record n) (after_record m) before after
goes-on-to n m front before after h e c = grind (arith, behind-front)

-- what is known of the bytes behind the front is known behind its first bytes
pub gives-behind-first : (limits : Limits) (h : HeadView) (first piece front : List ℕ) (before mid : Option (List ℕ))
    (r : Result BlockValue Fault) → front ≡ first ++ piece → Consumes before mid piece
    → GivesBehind limits h front mid r → GivesBehind limits h first before r
gives-behind-first limits h first piece front before mid r e c t = grind (arith, append_assoc)
