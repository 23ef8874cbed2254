-- The words that most proofs here cite, passed on from one place. Declares nothing.
pub use Rattle.httparse.proofs.LaneLemmas.{joined}
pub use Rattle.httparse.specs.Pieces.{AllPassBetween}
pub use Rattle.std.proofs.Common.{Bool, Err, List, None, Ok, Some, [], ap, append-nil, append_assoc}
pub use Rattle.std.proofs.Common.{arith, codes, drop, false, get_or, if◌then◌else◌, length}
pub use Rattle.std.proofs.Common.{length-append, length-drop, length-take-le, refl, suc, sym, take}
pub use Rattle.std.proofs.Common.{true, ℕ, ◌&&◌, ◌++◌, ◌+◌, ◌-◌, ◌<◌, ◌^◌, ◌∙◌, ◌∷◌, ◌≡◌, ◌≤◌}
pub use Rattle.std.proofs.Math.Seq.{drop-append_seam, take-append_seam}
pub use Rattle.std.proofs.lemmas.Bool.Decides.{nat_tests}
pub use Rattle.std.proofs.lemmas.Grind.{common_steps}
pub use Rattle.std.proofs.lemmas.List.{drop-drop, take-append-drop, take_rest}
pub use Rattle.std.proofs.lemmas.List.Elements.{All-cons, All-nil}
pub use Rattle.std.proofs.lemmas.Simd.{length-chunk, zip2_splat}
pub use Rattle.std.specs.List.{list_all}
pub use Rattle.std.specs.Prelude.{All, ◌==◌}
pub use Rattle.warc_head.specs.Fields.{Field, field_values}
pub use Rattle.warc_head.specs.Lines.{EndsLine, continues, is_content, line_content, line_end, trim}
pub use Rattle.warc_head.specs.Names.{is_name, is_name_byte}
pub use Rattle.warc_head.specs.Parts.{field_lines_in}
pub use Rattle.warc_head.specs.Spans.{Continues, IsWithin, between, field_at, fields_at, moved}
pub use Rattle.warc_head.specs.declared.spans.FieldSpan.{FieldSpan}
pub use lib.Lanes.{chunk}
