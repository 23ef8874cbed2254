use Rattle.std.proofs.Common.{◌≡◌, ◌++◌, ◌∙◌, ℕ, List, IfOk, IfSome, Option, Result, Ok, Err, ap, subst}
use Rattle.std.specs.Io.KnownBytes.{Appends}
use Rattle.index_core.specs.Accepted.{IsAccepted}
use Rattle.index_core.specs.CaptureAnswer.{usual_limits}
use Rattle.index_core.specs.Entries.{EntryValue}
use Rattle.index_core.specs.Indexing.{Held, index_text}
use Rattle.index_core.specs.Packing.{form_of}
use Rattle.index_core.specs.Types.{includes, usual_types}
use Rattle.index_core.specs.Writing.{WritesText}
use Rattle.door_examples.proofs.indexes.write_index.Goals as goal

-- what was written of the captures held
written : {E : Type 0} (Is : List EntryValue → Type 0) (r : Result ℕ E) (old new : Option (List ℕ))
    (captures held : List EntryValue) → held ≡ captures → Is captures
    → WritesText r old new (index_text held)
    → IfOk r (λ count. (x : List EntryValue) × Is x × Appends old new (index_text x))
written Is (Ok n) old new captures held same is w = (captures, is, subst (λ cs. Appends old new (index_text cs)) same w)
written Is (Err e) old new captures held same is w = tt

pub returns : goal.returns
returns g c = record {
  index = λ bytes known.
      let name = c.args.name.now in
      let begun = c.new-indexer.ensures in
      let adds = c.in_ok-add.ensures.adds in
      let types = ap (λ (h : Held). h.types) begun ∙ c.usual.ensures in
      let held = ap (λ (h : Held). h.captures) adds.1 ∙ ap (λ (h : Held). h.captures ++ adds.0) begun in
      let accepted = subst (λ types. IfSome ((g.A.Archive.state c.args.archive.now).ahead)
      (λ archive. IsAccepted (includes types) usual_limits (form_of (g.A.Archive.state c.args.archive.now).packing) name archive adds.0)) types adds.2.2 in
      written (IsAccepted (includes usual_types) usual_limits (form_of (g.A.Archive.state c.args.archive.now).packing) name bytes) c.write.result
      (g.O.Output.written c.args.out.now) (g.O.Output.written c.write.new.out) adds.0 c.add.new.self.captures held
      (subst (λ left. IfSome left
      (λ archive. IsAccepted (includes usual_types) usual_limits (form_of (g.A.Archive.state c.args.archive.now).packing) name archive adds.0)) known accepted)
      c.write.ensures.lines;
}
