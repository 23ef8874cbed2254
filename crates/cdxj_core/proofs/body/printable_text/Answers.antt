use Rattle.std.proofs.Common.{take_all, arith}
use Rattle.cdxj_objects.specs.Plain.{is_printable_ascii}
use Rattle.cdxj_objects.proofs.PlainCuts.{front_passes}
use Rattle.cdxj_core.proofs.body.printable_text.Goals as goal

pub ascii_text-requires : goal.ascii_text-requires
ascii_text-requires c = grind (arith, front_passes is_printable_ascii c.args.body.now, take_all)
