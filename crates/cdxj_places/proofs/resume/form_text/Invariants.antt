use Rattle.std.proofs.Common.{◌≡◌, ◌++◌, string_bytes}
use Rattle.form_urlencoded.specs.Form.{byte_serialize}
use Rattle.form_urlencoded.specs.Serialize.{serialized_text}
use Rattle.cdxj_places.proofs.resume.form_text.Given as goal

abbrev pub invariant-loop-piece : goal.invariant-loop-piece
invariant-loop-piece l = string_bytes l.text ++ serialized_text l.piece-iterator ≡ byte_serialize l.fn.bytes
