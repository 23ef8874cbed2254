use Rattle.std.proofs.Common.{◌∙◌, eq-eqb, ne_eqb}
use Rattle.gzip_members.specs.Reading.{taken}
use Rattle.gzip_members.proofs.MovesLemmas.{moves-trans}
use Rattle.gzip_members.proofs.HeaderLemmas.{name-step, name-done, name-refused}
use Rattle.gzip_members.proofs.checked_input.CheckedInput.text.Goals as goal

pub returns-then-byte-eq0-clause-text : goal.returns-then-byte-eq0-clause-text
returns-then-byte-eq0-clause-text g c = name-done c.in-Ok.byte (taken c.args.self.now) (taken c.bytes.self) (taken c.byte.new.self) (eq-eqb c.in-Ok.byte 0 c.if-byte-eq0.true)
    c.bytes.invariant.continues c.in-Ok.ensures.byte

pub bytes-preserved : goal.bytes-preserved
bytes-preserved g c = record {
  continues = name-step c.in-Ok.byte (taken c.args.self.now) (taken c.bytes.self) (taken c.byte.new.self) (ne_eqb c.in-Ok.byte 0 c.if-byte-eq0.false)
      c.bytes.invariant.continues c.in-Ok.ensures.byte;
  moves = moves-trans (taken c.args.self.now) (taken c.bytes.self) (taken c.byte.new.self) c.bytes.invariant.moves c.in-Ok.ensures.moves;
  failures = c.in-Ok.ensures.failures ∙ c.bytes.invariant.failures;
}

pub returns-in-Err-clause-text : goal.returns-in-Err-clause-text
returns-in-Err-clause-text g c = name-refused c.in-Err.fault (taken c.args.self.now) (taken c.bytes.self) (taken c.byte.new.self)
    c.bytes.invariant.continues c.in-Err.ensures.byte
