use Rattle.std.proofs.Common.{arith}
use Rattle.std.proofs.Common.{◌≡◌, ap, length, rules}
use Rattle.fix_edit.specs.lint_ignore.Found.{Lists, lists_of}
use Rattle.squawk_linter.proofs.Gathering.{gathered_none}
use Rattle.squawk_linter.proofs.answer.gathered.Goals as goal

pub returns-then-is_empty : goal.returns-then-is_empty
returns-then-is_empty c =
    let empty : length c.find_ignores.new.found.ignores.items ≡ 0 = search rules in
    gathered_none c.args.file.now c.args.found c.args.rules.now (lists_of c.found_before-found.result) (lists_of c.find_ignores.new.found) (ap (λ (l : Lists). l.reports) c.found_before-found.ensures) (ap (λ (l : Lists). l.ignores) c.found_before-found.ensures) c.in_ok-find_ignores.ensures.ok empty

pub returns : goal.returns
returns c = grind arith
