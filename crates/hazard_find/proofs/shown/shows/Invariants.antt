use Rattle.std.proofs.Common.{◌≡◌, drop}
use Rattle.hazard_find.specs.Shown.{shows, shows_from}
use Rattle.hazard_find.proofs.shown.shows.Given as goal

-- the bytes that are left, from here on, show the word where all of them do from the start
abbrev pub invariant-loop-i : goal.invariant-loop-i
invariant-loop-i l = shows_from l.word l.place l.before (drop l.i l.text) ≡ shows l.word l.text
