use Rattle.std.proofs.Common.{rules, arith, ◌≡◌, ◌<◌, ◌^◌, length, List, String, string_bytes, Result, Ok, Err}
use Rattle.std.proofs.Common.{IfOk, IfErr, MatchResult}
use Rattle.std.specs.Global.{Global}
use Rattle.std.proofs.lemmas.List.{length-map}
use Rattle.clap.specs.Words.{app_of, kind_of}
use Rattle.command_line.specs.Words.{texts}
use Rattle.command_line.specs.Clap.{warcdx}
use Rattle.command_line.proofs.CommandLine.{simple, simple_and_free, meant, denied}
use Rattle.command_line.proofs.words.matches_of.Goals as goal

both : {T E : Type 0} (r : Result T E) (P Q S : T → Type 0) (R : E → Type 0) → ((x : T) → P x → Q x → S x)
    → IfOk r P → MatchResult r Q R → IfOk r S
both (Ok x) P Q S R f p q = f x p q
both (Err e) P Q S R f p q = p

error : {T E : Type 0} (r : Result T E) (Q : T → Type 0) (R S : E → Type 0) → ((e : E) → R e → S e) → MatchResult r Q R
    → IfErr r S
error r Q R S f m = grind arith

fewer : (words : List (String Global)) → length words < 2 ^ 64 → length (texts words) < 2 ^ 64
fewer words short = rw (length-map words string_bytes) short

pub returns-clause-matches : goal.returns-clause-matches
returns-clause-matches c =
    let same : app_of c.in_ok-command_line.field-0 ≡ warcdx = c.in_ok-command_line.ensures in
    let parse = c.try_get_matches_from in
    both parse.result _ _ _ _ (λ m h n. meant (texts c.args.words.now) (app_of c.in_ok-command_line.field-0) _ same
    c.requires.known c.requires.plain (fewer c.args.words.now (search rules)) (h (simple _ same)).1 n)
    parse.ensures.matches (parse.ensures.kinds (simple_and_free _ same))

pub returns-clause-refused : goal.returns-clause-refused
returns-clause-refused c =
    let same : app_of c.in_ok-command_line.field-0 ≡ warcdx = c.in_ok-command_line.ensures in
    let parse = c.try_get_matches_from in
    error parse.result _ _ _ (λ e h. denied (texts c.args.words.now) (app_of c.in_ok-command_line.field-0) (kind_of e)
    same c.requires.known c.requires.plain (fewer c.args.words.now (search rules)) h)
    (parse.ensures.kinds (simple_and_free _ same))
