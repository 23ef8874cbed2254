use Rattle.index_core.proofs.Words.{[], ◌∙◌, ◌++◌, append-nil, length-append, refl, sym}
use Rattle.index_core.proofs.Words.{option_to_list, append_assoc, arith}
use Rattle.cdxj_core.specs.declared.limit.TheConstants.{LINE_LIMIT}
use Rattle.capture_core.specs.Types.{includes}
use Rattle.capture_core.specs.CaptureAnswer.{usual_limits}
use Rattle.archives.specs.Packing.{form_of}
use Rattle.archives.proofs.PackingLemmas.{form_lawful}
use Rattle.index_core.proofs.AddingLemmas.{AddedSoFar-end, AddedSoFar-more, AddedSoFar-refused, ByHeads-more}
use Rattle.index_core.proofs.AddingLemmas.{AddedSoFar-start, ByHeads-none}
use Rattle.index_core.proofs.ComingLemmas.{ends_behind}
use Rattle.index_core.proofs.SoundLemmas.{before_step, sound_step}
use Rattle.index_core.proofs.captures.add_captures.Goals as goal

pub loop-captures-smaller : goal.loop-captures-smaller
loop-captures-smaller g c =
    let i = c.loop-captures.invariant in
    let packing = (g.A.Archive.state c.args.archive.now).packing in
    let p = c.in-Ok-Some.record in
    let t = rw (c.in-Ok-Some.field-0-is, i.packing) at c.in-Ok-Some.ensures.takes in
    let s = rw c.in-Ok-Some.field-0-is at c.in-Ok-Some.ensures.stands in
    let behind = ends_behind (form_of packing) _ p (form_lawful packing) t.stands in
    let fits = t.stands.fits in
    rw (c.recycle.ensures, s.1) (omega arith)

pub returns-in-Ok-None-clause-gains : goal.returns-in-Ok-None-clause-gains
returns-in-Ok-None-clause-gains g c =
    let i = c.loop-captures.invariant in
    let packing = (g.A.Archive.state c.args.archive.now).packing in
    let t = rw (c.in-Ok-None.field-0-is, i.packing) at c.in-Ok-None.ensures.takes in (
      i.gains.0,
      i.gains.1,
      (
        grind (arith, length-append),
        (_, i.gains.3),
        AddedSoFar-end (includes c.args.types) usual_limits (form_of packing) c.args.name.now (form_lawful packing) _ _ _
            _ i.gains.0 i.gains.2 t,
      ),
    )

pub returns-in-Err-clause-gains : goal.returns-in-Err-clause-gains
returns-in-Err-clause-gains g c =
    let i = c.loop-captures.invariant in
    let packing = (g.A.Archive.state c.args.archive.now).packing in
    let t = rw i.packing at c.in-Err.ensures.takes in (
      i.gains.0,
      i.gains.1,
      (
        (_, i.gains.3, t.0),
        AddedSoFar-refused (includes c.args.types) usual_limits (form_of packing) c.args.name.now _ _ _ i.gains.0 _
            i.gains.2 t.1,
      ),
    )

pub loop-captures-preserved : goal.loop-captures-preserved
loop-captures-preserved g c =
    let i = c.loop-captures.invariant in
    let packing = (g.A.Archive.state c.args.archive.now).packing in
    let p = c.in-Ok-Some.record in
    let captured = c.in-Ok-Some.captured in
    let o = (g.A.Archive.state c.loop-captures.archive).offset in
    let t = rw (c.in-Ok-Some.field-0-is, i.packing) at c.in-Ok-Some.ensures.takes in
    let s = rw c.in-Ok-Some.field-0-is at c.in-Ok-Some.ensures.stands in
    let from = (form_lawful packing).onward o p.place.offset t.stands.follows in
    rw (c.recycle.ensures, s.1) (record {
      held = i.held;
      readable = s.0;
      packing = c.in-Ok-Some.ensures.packing ∙ i.packing;
      within = t.stands.fits;
      gains = (
        i.gains.0 ++ option_to_list captured,
        grind (arith, append_assoc),
        AddedSoFar-more (includes c.args.types) usual_limits (form_of packing) c.args.name.now _ _ _ o i.gains.0 p
            captured i.gains.2 t,
        ByHeads-more (includes c.args.types) usual_limits (form_of packing) c.args.name.now (form_lawful packing) _ _ o
            i.gains.0 p captured i.gains.3 t,
      );
      before = rw c.in-Ok.ensures.ok (before_step c.args.name.now LINE_LIMIT o p.place p.head _ captured from
          t.stands.filled t.entry i.before);
      sound = λ names used s. rw c.in-Ok.ensures.ok (sound_step LINE_LIMIT names c.args.name.now o p.place p.head _
          captured used from t.entry i.before (i.sound names used s));
      reads = grind arith;
    })

pub loop-captures-init : goal.loop-captures-init
loop-captures-init g c =
    let s = g.A.Archive.state c.args.archive.now in
    let heads = ByHeads-none (includes c.args.types) usual_limits (form_of s.packing) c.args.name.now
    (form_lawful s.packing) s.offset c.requires.unread.start in
    let so_far = AddedSoFar-start (includes c.args.types) usual_limits (form_of s.packing) c.args.name.now s.ahead s.offset
    c.requires.unread.start in
    record {
      held = grind arith;
      readable = c.requires.unread.readable;
      packing = refl;
      within = omega (arith, c.requires.unread.start);
      gains = ([], sym (append-nil c.args.captures.now.items), so_far, heads);
      before = rw c.requires.unread.start c.requires.unused;
      sound = λ names used s. s;
      reads = refl;
    }
