use Rattle.std.proofs.lemmas.Result.{err_from_is_err_and}
use Rattle.gzip_members.proofs.BeginLemmas.{starts-ok, starts-not}
use Rattle.gzip_members.proofs.checked_input.CheckedInput.start.Goals as goal

pub returns-in_err-header-clause-starts : goal.returns-in_err-header-clause-starts
returns-in_err-header-clause-starts g c =
    let p = err_from_is_err_and c.from_residual-in_err-header.result c.from_residual-in_err-header.ensures.1 in
    rw (p.1, p.2) (starts-not _ c.header.new.self.checksum c.args.self.now.passed c.header.new.self.passed c.begins_member.new.self.passed _ _ _
    c.begins_member.ensures.passed c.begins_member.ensures.bytes
    (rw c.if-not-branch.false at c.in_ok-begins_member.ensures.starts) c.in_err-header.ensures.header)

pub returns-clause-starts : goal.returns-clause-starts
returns-clause-starts g c =
    starts-ok c.header.new.self.checksum c.args.self.now.passed c.header.new.self.passed c.begins_member.new.self.passed _ _ _
    c.begins_member.ensures.passed c.begins_member.ensures.bytes
    (rw c.if-not-branch.false at c.in_ok-begins_member.ensures.starts) c.in_ok-header.ensures.header
