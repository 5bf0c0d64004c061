use Rattle.test_linter.proofs.answers.counted.Given as goal

-- the ledger of the blank
abbrev pub ghosts-counted_by : goal.ghosts-counted_by
ghosts-counted_by a = record { name = a.blank.name; parts = a.blank.parts }
