use Rattle.std.proofs.Common.{arith}
use Rattle.cdxj_places.specs.Places.{place_cmp}
use Rattle.cdxj_places.proofs.PlaceOrder.{place_cmp_total}
use Rattle.cdxj_core.specs.Members.{member_place}
use Rattle.page_core.proofs.PageLaws.{chain_law, chain_there, chain_one, collapse_resumes}
use Rattle.page_core.proofs.laws.pages_join.Goals as goal

pub returns-clause-join : goal.returns-clause-join
returns-clause-join c = grind (arith, chain_law, place_cmp_total)

pub returns-clause-one : goal.returns-clause-one
returns-clause-one c = λ same l rises p sizes positive.
    let there = chain_there member_place place_cmp same place_cmp_total l p sizes rises positive in
    grind (arith, chain_one, place_cmp_total)

pub returns-clause-resumes : goal.returns-clause-resumes
returns-clause-resumes c = λ same l rises p m i. collapse_resumes member_place place_cmp same place_cmp_total l p m
    rises i
