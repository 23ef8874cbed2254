use Rattle.std.proofs.Common.{◌≡◌, ◌∙◌, ◌≤◌, ◌++◌, ℕ, List, [], length, take, drop, ap, arith}
use Rattle.std.proofs.lemmas.List.{length-take-le, length-take, take-take}
use Rattle.std.proofs.Math.Seq.{take-append_seam}
use Rattle.std.proofs.lemmas.Result.{err_from_is_err_and}
use Rattle.capture_core.specs.declared.http_head.TheConstants.{HTTP_HEAD_LIMIT}
use Rattle.capture_core.specs.RecordReading.{front_length}
use Rattle.capture_core.proofs.RestLemmas.{filled-failed, filled-rest, filled-ready, given-behind, given-failed}
use Rattle.capture_core.proofs.record_capture.read_block.Goals as goal

pub returns-in-Err : goal.returns-in-Err
returns-in-Err g c = c.finish_without_memory.ensures c.args.mime.now.items [] c.requires

pub returns-in_err-filled : goal.returns-in_err-filled
returns-in_err-filled g c =
    let p = err_from_is_err_and c.from_residual.result c.from_residual.ensures.1 in
    rw (p.1, p.2) (given-failed c.args.head.now _ _ c.in_err-filled.field-0.0 _ c.requires c.in_err-filled.ensures)

-- a buffer whose bytes were all written
back_is : (n : ℕ) (new old : List ℕ) → length new ≡ length old → n ≡ length old → take n (new ++ drop (length new) old)
    ≡ new
back_is n new old same size = grind (arith, take-append_seam)

pub steps-init : goal.steps-init
steps-init g c =
    let h = c.args.head.now in
    let room = c.make_room.new.front in
    let front = c.read_first.new.front in
    let first = c.min-first.result in
    let filled = c.in_ok-filled.filled in
    let same : length front ≡ length room.items = c.read_first.auto.front ∙ ap length c.deref_mut.ensures.value in
    let back = back_is room.len front room.items same (omega (arith, room.ok)) in
    let b = rw c.requires.stands.phase_is at c.in_ok-filled.ensures in
    let most : filled ≤ length (take first front) = b.bound.1 in
    let few : filled ≤ first = omega (arith, most, length-take first front) in
    let inside : filled ≤ length front = omega (arith, most, length-take first front) in
    let size : length (take filled front) ≡ filled = length-take-le filled front inside in
    let within : length (take filled front) ≤ front_length HTTP_HEAD_LIMIT h = omega
    (arith, size, few, c.min-first.ensures, c.front_length-whole.ensures) in
    let fills = given-behind filled _ _ (take first front) (take filled front) (take-take filled first front few)
    c.in_ok-filled.ensures in
    rw back (record {
      within = inside;
      ready = filled-ready c.args.head.now [] (take filled front) _ _ c.requires within fills;
      rest = λ r new. filled-rest c.args.head.now [] (take filled front) _ _ c.requires new r within fills;
    })

pub returns-in-Some : goal.returns-in-Some
returns-in-Some g c =
    let bytes = c.in-Some.ensures.bytes ∙ ap (take c.steps.filled) c.deref.ensures.value in
    c.steps.invariant.rest _ _ (grind arith)

pub returns-in-Err-make_room : goal.returns-in-Err-make_room
returns-in-Err-make_room g c =
    c.steps.invariant.rest _ _ (c.finish_without_memory-in-Err-make_room.ensures _ _ c.steps.invariant.ready)

pub returns-in_err-read_behind : goal.returns-in_err-read_behind
returns-in_err-read_behind g c =
    let kept = c.steps.invariant in
    let p = err_from_is_err_and c.from_residual-in_err-read_behind.result
    c.from_residual-in_err-read_behind.ensures.1 in
    let first = ap (take c.steps.filled) c.deref_mut-in-steps.ensures.value
    ∙ c.in-Ok-make_room.ensures.kept c.steps.filled kept.within in
    let fills = rw first at c.in_err-read_behind.ensures in
    rw (p.1, p.2) (kept.rest _ _ (filled-failed c.args.head.now (take c.steps.filled c.steps.front.items) _ _ _ kept.ready
    c.in_err-read_behind.field-0.0 fills))

pub steps-preserved : goal.steps-preserved
steps-preserved g c =
    let h = c.args.head.now in
    let kept = c.steps.invariant in
    let room = c.make_room-in-steps.new.front in
    let front = c.read_behind.new.front in
    let goal_size = c.min-goal.result in
    let before = take c.steps.filled c.steps.front.items in
    let same : length front ≡ length room.items = c.read_behind.auto.front
    ∙ ap length c.deref_mut-in-steps.ensures.value in
    let back = back_is room.len front room.items same (omega (arith, room.ok)) in
    let first = ap (take c.steps.filled) c.deref_mut-in-steps.ensures.value
    ∙ c.in-Ok-make_room.ensures.kept c.steps.filled kept.within in
    let fills = rw first at c.in_ok-read_behind.ensures in
    let inside : goal_size ≤ length front = omega (arith, same, c.in-Ok-make_room.ensures.room) in
    let size : length (take goal_size front) ≡ goal_size = length-take-le goal_size front inside in
    let within : length (take goal_size front) ≤ front_length HTTP_HEAD_LIMIT h = omega
    (arith, size, c.min-goal.ensures, c.front_length-whole.ensures) in
    rw back (record {
      within = inside;
      ready = filled-ready c.args.head.now before (take goal_size front) _ _ kept.ready within fills;
      rest = λ r new s. kept.rest r new
          (filled-rest c.args.head.now before (take goal_size front) _ _ kept.ready new r within fills s);
    })
