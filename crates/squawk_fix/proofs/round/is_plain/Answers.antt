use Rattle.std.proofs.Common.{◌≡◌, length, rules}
use Rattle.law_next_fix.specs.lint_ignore.Found.{lists_of}
use Rattle.squawk_fix.proofs.Plain.{plain_from}
use Rattle.squawk_fix.proofs.round.is_plain.Goals as goal

pub returns-then-is_empty : goal.returns-then-is_empty
returns-then-is_empty c = λ known.
    (let empty : length c.find_ignores.new.found.ignores.items ≡ 0 = search rules in
    plain_from c.args.file.now (length c.new-found.result.ignores.items) (lists_of c.new-found.result) (lists_of c.find_ignores.new.found) c.new-found.ensures c.in_ok-find_ignores.ensures.ok empty)
