use Rattle.std.proofs.lemmas.Result.{err_from_is_err_and}
use Rattle.std.proofs.Common.{arith, ℕ, List, ◌≡◌, ◌∙◌, ◌-◌, ◌++◌, length, take, option_map}
use Rattle.sha1.specs.Sha1.{sha1}
use Rattle.capture_core.specs.ResponseView.{response_view}
use Rattle.capture_core.specs.CaptureAnswer.{usual_limits}
use Rattle.capture_core.proofs.CaptureLemmas.{rest-behind, behind-digest, digest-known, digest-settled}
use Rattle.capture_core.proofs.CaptureLemmas.{digest-made, block-given, filled-given, rest-given}
use Rattle.capture_core.proofs.CaptureLemmas.{some-always, some-then}
use Rattle.warc_core.proofs.VerdictLemmas.{digest-stopped}
use Rattle.capture_core.proofs.RestLemmas.{rest-stopped}
use Rattle.capture_core.proofs.record_capture.finish_block.Goals as goal

pub returns-in-Some : goal.returns-in-Some
returns-in-Some g c =
    let h = c.args.head.now in
    let mime = c.close_block.new.kept.items in
    let digest = c.in-Some.digest.now in
    record {
      rest = grind (arith, rest-given);
      gives = block-given usual_limits h c.args.parted.bytes.now c.args.parted.payload.now digest
          (option_map response_view c.args.parted.response) mime _ c.close_block.result c.requires.parts
          c.close_block.ensures.block
          (some-always _ _ (λ bytes. digest-settled h digest _ c.in-Some.ensures.value));
      filled = filled-given mime c.close_block.result c.close_block.ensures.filled;
    }

pub returns-in_ok-digest_rest-in-None : goal.returns-in_ok-digest_rest-in-None
returns-in_ok-digest_rest-in-None g c =
    let h = c.args.head.now in
    let mime = c.close_block-in-None.new.kept.items in
    let hash = c.in_ok-digest_rest-in-None.field-0 in
    let left = h.parts.block_length - length c.args.parted.bytes.now in
    let d = rw c.requires.ready.stands.phase_is at c.in_ok-digest_rest-in-None.ensures in
    let closed = rw d.state.phase_is at c.close_block-in-None.ensures.reads in
    record {
      rest = rest-behind left 0 h _ _ _ _ (behind-digest left c.args.parted.payload.now hash _ _ d.bytes) d.failures
          (rest-given 0 h _ _ mime c.close_block-in-None.result closed);
      gives = block-given usual_limits h c.args.parted.bytes.now c.args.parted.payload.now c.base32-digest.result
          (option_map response_view c.args.parted.response) mime _ c.close_block-in-None.result c.requires.parts
          c.close_block-in-None.ensures.block
          (some-then _ (λ bytes. hash ≡ sha1 (c.args.parted.payload.now ++ take left bytes)) _
          (λ bytes hashed. c.base32-digest.ensures ∙ digest-made h hash _ c.in-None.ensures.value hashed)
          (digest-known left c.args.parted.payload.now hash _ _ d.bytes));
      filled = filled-given mime c.close_block-in-None.result c.close_block-in-None.ensures.filled;
    }

pub returns-in_err-digest_rest-in-None : goal.returns-in_err-digest_rest-in-None
returns-in_err-digest_rest-in-None g c =
    let ready = c.requires.ready in
    let p = err_from_is_err_and c.from_residual.result c.from_residual.ensures.1 in
    let d = rw ready.stands.phase_is at c.in_err-digest_rest-in-None.ensures in
    rw (p.1, p.2) (rest-stopped (List ℕ) c.args.head.now _ _ _ c.in_err-digest_rest-in-None.field-0.0
    (digest-stopped _ _ c.args.parted.payload.now _ _ d.bytes) (rw ready.stands.offset_is at d.state)
    d.cause d.failures)
