use Rattle.std.proofs.Common.{ℕ, List, subst}
use Rattle.file_answer.specs.Answers.{as_read}
use Rattle.file_answer.specs.Found.{IsFound}
use Rattle.file_answer.proofs.Placing.{read_by}
use Rattle.file_answer.proofs.answer.lint_bytes.Goals as goal

pub returns-clause-linted : goal.returns-clause-linted
returns-clause-linted c =
    let linter = c.args.linter.now in
    let read = c.in_ok-read.read in
    let found = c.in_ok-found.found in
    let linted = c.answered.result in
    let of_bytes = subst (λ (z : List ℕ). IsFound linter z found) c.as_slice.ensures.value c.in_ok-found.ensures.found in
    record {
      read = read_by c.args.is_strict c.args.bytes.items read.bytes.items (as_read linted.bytes.items linted.answer) read.passed linted.passed c.answered.ensures.read
          c.answered.ensures.passed c.in_ok-read.ensures.read;
      answer = c.answered.ensures.answer linter of_bytes;
    }
