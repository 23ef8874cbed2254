use Rattle.std.proofs.Common.{arith, subst, sym}
use Rattle.cdxj_core.specs.declared.limit.TheConstants.{LINE_LIMIT}
use Rattle.cdxj_core.specs.Entries.{EntryValue, HasLine, keyed_view}
use Rattle.capture_core.specs.Spelling.{HoldsLine}
use Rattle.capture_core.proofs.HeldLines.{holds_line, holds_spelled}
use Rattle.capture_core.proofs.SpellingLemmas.{spells}
use Rattle.capture_core.proofs.held_line.HeldLine.new.Goals as goal

abbrev written : goal.In_ok-keep_name → EntryValue
written c = keyed_view c.args.key.now c.args.entry

has_line : (c : goal.In_ok-keep_name) → HasLine LINE_LIMIT (written c)
has_line c = grind arith

holds : (c : goal.In_ok-keep_name) → HoldsLine (written c) c.keep_name.new.line.items c.args.entry.offset
holds c = holds_line (written c) c.in_ok-bytes.bytes.items c.as_bytes.result.now
    c.keep_name.new.line.items (has_line c) c.in_ok-bytes.ensures.0 c.as_bytes.ensures.value c.in_ok-keep_name.ensures

pub invariant_of-result : goal.invariant_of-result
invariant_of-result c = holds_spelled _ _ _ (holds c)

pub returns-clause-value : goal.returns-clause-value
returns-clause-value c = spells (written c) _ (has_line c) (holds c).line_is

pub returns-clause-line : goal.returns-clause-line
returns-clause-line c = subst (HasLine LINE_LIMIT)
    (sym (spells (written c) _ (has_line c) (holds c).line_is)) (has_line c)
