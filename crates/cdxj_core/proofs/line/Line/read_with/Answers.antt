use Rattle.std.proofs.Math.Seq.{take-append_seam}
use Rattle.std.proofs.Common.{◌≡◌, ◌<◌, None, length, string_bytes}
use Rattle.std.proofs.Common.{arith}
use Rattle.std.proofs.lemmas.Str.{IsUtf8-string_bytes}
use Rattle.cdxj_objects.specs.FoundViews.{found_view}
use Rattle.cdxj_core.specs.declared.limit.TheConstants.{LINE_LIMIT}
use Rattle.cdxj_core.specs.Lines.{body_of}
use Rattle.cdxj_core.specs.Members.{line_entry}
use Rattle.cdxj_core.proofs.FoundLines.{line_found, found_line}
use Rattle.cdxj_core.proofs.KeptLemmas.{json_kept}
use Rattle.cdxj_core.proofs.MemberLemmas.{body_none, entry_none, line_of_body}
use Rattle.cdxj_core.proofs.line.Line.read_with.Goals.{In-Some}
use Rattle.cdxj_core.proofs.line.Line.read_with.Goals as goal

pub returns-in_default : goal.returns-in_default
returns-in_default c = grind (arith, entry_none)

pub invariant_of-result : goal.invariant_of-result
invariant_of-result c =
    grind (
      arith,
      IsUtf8-string_bytes,
      json_kept LINE_LIMIT (string_bytes c.in_ok-text.text) c.in-Ok.body.now c.cut_first.result.0.now
          c.cut_first.result.1.now c.in-Ok-try_from.stamp c.cut_first-2.result.1.now c.in-Some-filename.filename.now
          (found_view c.in-Some.found) c.in-Some-offset.offset c.in_ok-text.texts,
    )

pub returns : goal.returns
returns c = grind (arith, line_of_body, take-append_seam, invariant_of-result c)

refused : (c : In-Some) → found_line c.cut_first.result.0.now c.cut_first-2.result.0.now (found_view c.in-Some.found)
    ≡ None
    → (length (body_of c.args.line.now) < LINE_LIMIT) × (line_entry LINE_LIMIT c.args.line.now ≡ None)
refused c none =
    grind (
      arith,
      body_none,
      line_found c.cut_first.result.0.now c.cut_first-2.result.0.now c.cut_first-2.result.1.now
          (found_view c.in-Some.found),
    )

pub returns-in_default-filename : goal.returns-in_default-filename
returns-in_default-filename c = refused (goal.at.returns-in_default-filename c).In-Some (grind arith)

pub returns-in_default-offset : goal.returns-in_default-offset
returns-in_default-offset c = refused (goal.at.returns-in_default-offset c).In-Some (grind arith)
