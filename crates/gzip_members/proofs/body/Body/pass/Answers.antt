use Rattle.std.proofs.Common.{◌≡◌, ◌++◌, [], length, drop, refl, sym, ap, ◌∙◌, arith, length-drop}
use Rattle.std.proofs.Math.ListN.{drop_of_length-le}
use Rattle.gzip_members.specs.Windows.{WindowView}
use Rattle.gzip_members.proofs.TrailerLemmas.{append-nil}
use Rattle.gzip_members.proofs.GiveLemmas.{gives-left}
use Rattle.gzip_members.proofs.body.Body.pass.Goals as goal

pub returns-clause-left : goal.returns-clause-left
returns-clause-left c = λ bytes.
    let old = c.args.self.now in let w = old.window in
    let given = drop w.given w.text in
    let text : c.pass.new.self.text ≡ w.text = ap (λ (v : WindowView). v.text) c.pass.ensures in
    let end : c.pass.new.self.given ≡ length w.text = ap (λ (v : WindowView). v.given) c.pass.ensures in
    let none : drop c.pass.new.self.given w.text ≡ [] = drop_of_length-le w.text {i = c.pass.new.self.given} (omega arith) in
    let parts : drop w.given w.text ≡ given ++ drop c.pass.new.self.given w.text = sym (ap (λ xs. given ++ xs) none ∙ append-nil given) in
    gives-left old.stage old _ bytes given refl refl refl refl (
      text,
      refl,
      refl,
      parts,
      omega (arith, end, length-drop w.given w.text, old.given),
      omega (arith, end),
    ) old.given
