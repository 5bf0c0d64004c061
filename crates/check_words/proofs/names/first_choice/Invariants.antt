use Rattle.std.proofs.Common.{◌≡◌, drop, find}
use Rattle.check_words.specs.Names.{is_choice_named}
use Rattle.check_words.proofs.names.first_choice.Given as goal

-- the first of those that are left is the first of all
abbrev pub invariant-loop-choice : goal.invariant-loop-choice
invariant-loop-choice l = find (is_choice_named l.name) (drop l.choice-index l.choices) ≡ find (is_choice_named l.name) l.choices
