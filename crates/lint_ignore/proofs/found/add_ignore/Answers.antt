use Rattle.std.proofs.Common.{◌≡◌, List, ap, length, rules}
use Rattle.lint_base.specs.GrownLaws.{at_err}
use Rattle.lint_ignore.specs.declared.ignore.Ignore.{Ignore}
use Rattle.lint_ignore.specs.Found.{Lists, lists_of, HasGrown, said}
use Rattle.lint_ignore.specs.Part.{part_of}
use Rattle.lint_ignore.proofs.Growth.{said_grown_first, said_grown_last}
use Rattle.lint_ignore.proofs.found.add_ignore.Goals as goal

pub returns-in_err-violation_names-clause-err : goal.returns-in_err-violation_names-clause-err
returns-in_err-violation_names-clause-err c =
    let number : c.len-number.result ≡ length c.args.found.now.ignores.items = search rules in
    let first : HasGrown (lists_of c.args.found.now) (lists_of c.read_names.new.found) (said (length c.args.found.now.ignores.items) (part_of c.args.rest, c.args.kind)) =
    said_grown_first (lists_of c.args.found.now) (lists_of c.read_names.new.found) c.len-number.result (part_of c.args.rest) c.args.kind number c.in_err-violation_names.ensures.err in
    at_err c.from_residual.result first

pub returns-in_err-push-clause-err : goal.returns-in_err-push-clause-err
returns-in_err-push-clause-err c =
    let number : c.len-number.result ≡ length c.args.found.now.ignores.items = search rules in
    let with : List Ignore → Lists = λ ignores. record { reports = c.read_names.new.found.reports; ignores = ignores; pieces = c.read_names.new.found.pieces.items } in
    let last : HasGrown (lists_of c.args.found.now) (with c.push.new.self.items) (said (length c.args.found.now.ignores.items) (part_of c.args.rest, c.args.kind)) =
    said_grown_last (lists_of c.args.found.now) (lists_of c.read_names.new.found) (with c.push.new.self.items) c.len-number.result (part_of c.args.rest) c.args.kind number c.in_ok-violation_names.ensures.ok
    (ap with c.in_err-push.ensures.items) in
    at_err c.from_residual-in_err-push.result last
