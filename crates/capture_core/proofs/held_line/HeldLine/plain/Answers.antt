use Rattle.std.proofs.Common.{◌∙◌, ap, arith, inl, refl, string_bytes, subst, sym}
use Rattle.cdxj_core.specs.declared.limit.TheConstants.{LINE_LIMIT}
use Rattle.cdxj_core.specs.Entries.{EntryValue, HasLine, keyed_view}
use Rattle.capture_core.specs.Spelling.{HoldsLine, last_quoted}
use Rattle.capture_core.proofs.HeldLines.{holds_line, holds_spelled}
use Rattle.capture_core.proofs.PlainNames.{plain_name}
use Rattle.capture_core.proofs.SpellingLemmas.{spells}
use Rattle.capture_core.proofs.held_line.HeldLine.plain.Goals as goal

abbrev written : goal.In_ok-bytes → EntryValue
written c = keyed_view (string_bytes c.args.key) c.args.entry

has_line : (c : goal.In_ok-bytes) → HasLine LINE_LIMIT (written c)
has_line c = grind arith

holds : (c : goal.In_ok-bytes) → HoldsLine (written c) c.in_ok-bytes.bytes.items c.args.entry.offset
holds c =
    let is = c.in_ok-bytes.ensures.0 in
    let named = ap last_quoted is ∙ plain_name (written c) c.requires.good c.requires.plain in
    holds_line (written c) c.in_ok-bytes.bytes.items _ c.in_ok-bytes.bytes.items (has_line c) is refl (inl (named, refl))

pub invariant_of-result : goal.invariant_of-result
invariant_of-result c = holds_spelled _ _ _ (holds c)

pub returns-clause-value : goal.returns-clause-value
returns-clause-value c = spells (written c) _ (has_line c) (holds c).line_is

pub returns-clause-line : goal.returns-clause-line
returns-clause-line c = subst (HasLine LINE_LIMIT) (sym (spells (written c) _ (has_line c) (holds c).line_is)) (has_line c)
