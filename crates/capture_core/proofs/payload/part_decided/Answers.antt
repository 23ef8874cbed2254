use Rattle.std.proofs.Common.{◌∙◌, ◌≤◌, inl, inr, subst, length, option_map, sym}
use Rattle.capture_core.specs.declared.http_head.TheConstants.{HTTP_HEAD_LIMIT, HTTP_FIELD_LIMIT}
use Rattle.capture_core.specs.Capture.{IsHeadFor}
use Rattle.capture_core.specs.RecordReading.{front_length}
use Rattle.capture_core.specs.ResponseView.{response_view}
use Rattle.capture_core.specs.CaptureAnswer.{usual_limits}
use Rattle.capture_core.proofs.Steps.{head-for, parts-front, parts-first}
use Rattle.capture_core.proofs.payload.part_decided.Goals as goal

pub returns-then-front-whole-clause-parts : goal.returns-then-front-whole-clause-parts
returns-then-front-whole-clause-parts c =
    let h = c.args.head.now in
    let front = c.args.front.now in
    let p = c.part-parted.ensures.parts in
    let short : length front ≤ front_length HTTP_HEAD_LIMIT h = subst (λ n. length front ≤ n) c.requires.whole
    c.requires.front in
    let head : IsHeadFor HTTP_HEAD_LIMIT HTTP_FIELD_LIMIT h front p.0 = head-for HTTP_HEAD_LIMIT HTTP_FIELD_LIMIT h
    front p.0 short p.1 in
    rw c.part-parted.ensures.bytes (elim c.if-front-whole.either [
      | inl some ↦ parts-first response_view usual_limits h front c.part-parted.result.payload.now
          c.part-parted.result.response p.0 short head p.2 p.3 (sym c.is_some.ensures ∙ some)
      | inr full ↦ parts-front usual_limits h front c.part-parted.result.payload.now
          (option_map response_view c.part-parted.result.response) p.0 (full.1 ∙ c.requires.whole) head p.2 p.3
    ])
