use Rattle.lint_pass.proofs.feed.walk.Given as goal

-- the ledger of the blank
abbrev pub ghosts-drive_blank : goal.ghosts-drive_blank
ghosts-drive_blank g a = record { name = a.blank.name; parts = a.blank.parts }
