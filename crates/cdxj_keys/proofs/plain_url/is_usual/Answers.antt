use Rattle.std.proofs.Common.{◌≡◌, ◌++◌, true, arith}
use Rattle.std.specs.List.{list_all}
use Rattle.cdxj_keys.specs.PlainUrls.{is_usual_byte}
use Rattle.cdxj_keys.proofs.PlainTails.{path_alone}
use Rattle.cdxj_keys.proofs.UsualUrls.{bytes_behind, domain_bytes, usual_path}
use Rattle.cdxj_keys.proofs.plain_url.is_usual.Goals as goal

pub returns-then-has_plain_label-clause-host : goal.returns-then-has_plain_label-clause-host
returns-then-has_plain_label-clause-host c _ = grind (arith, domain_bytes)

pub returns-then-has_plain_label-clause-tail : goal.returns-then-has_plain_label-clause-tail
returns-then-has_plain_label-clause-tail c inner =
    let usual : list_all is_usual_byte (c.args.host.now ++ c.args.tail.now) ≡ true = grind arith in
    let tail = bytes_behind c.args.host.now c.args.tail.now usual in
    path_alone c.args.tail.now c.requires.tail
    (usual_path c.args.tail.now (λ k. omega (arith, c.type_inv.tail k)) tail (c.has_inner_dots.ensures inner))
