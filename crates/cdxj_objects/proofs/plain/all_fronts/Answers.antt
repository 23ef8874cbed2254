use Rattle.std.proofs.Common.{arith, refl}
use Rattle.cdxj_objects.proofs.plain.all_fronts.Goals as goal

pub returns : goal.returns
returns c = record {
  begins = refl;
  texts = record {
    url = c.requires.url;
    mime = c.requires.mime;
    status = c.in_ok-digest.ensures;
    digest = c.in_ok-length.ensures;
    length = c.in_ok-offset.ensures;
    offset = c.in_ok-filename.ensures.0;
    filename = c.in_ok-end.ensures;
  };
  offset = c.in_ok-filename.ensures.1;
  named = omega (arith, c.if-end-filename.false, c.in_ok-end.ensures.order);
}
