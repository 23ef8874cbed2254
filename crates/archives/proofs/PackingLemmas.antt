-- The form of every archive keeps the laws.
use Rattle.archives.proofs.Words.{HEAD_LIMIT, ℕ}
use Rattle.archives.specs.Form.{IsLawful}
use Rattle.archives.specs.Packing.{Packing, Packed, Plain, form_of, form_to}
use Rattle.archives.proofs.PackedLemmas.{packed_lawful}
use Rattle.archives.proofs.PlainLemmas.{plain_lawful}

pub forms_lawful : (limit : ℕ) (packing : Packing) → IsLawful (form_to limit packing)
forms_lawful limit Plain = plain_lawful limit
forms_lawful limit Packed = packed_lawful limit

pub form_lawful : (packing : Packing) → IsLawful (form_of packing)
form_lawful packing = forms_lawful HEAD_LIMIT packing
