use Rattle.std.proofs.Common.{◌≡◌, ◌++◌, drop}
use Rattle.check_print.specs.Printed.{printed_refusals}
use Rattle.check_print.proofs.answer.push_refusals.Given as goal

-- what was added, and then the refusals that are left
abbrev pub invariant-loop-refusal : goal.invariant-loop-refusal
invariant-loop-refusal l =
    l.to.items ++ printed_refusals l.style l.behind l.file (drop l.refusal-index l.refusals) ≡ l.initial.to.items ++ printed_refusals l.style l.follows l.file l.refusals
