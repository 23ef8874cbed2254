use Rattle.gzip_members.proofs.RowLemmas.{one_list, some_list}
use Rattle.gzip_members.proofs.laws.file_is_one_list_of_members.Goals as goal

pub returns-clause-one : goal.returns-clause-one
returns-clause-one c = λ file members others rest more this that. one_list file members others rest more this that

pub returns-clause-some : goal.returns-clause-some
returns-clause-some c = λ file. some_list file
