use Rattle.std.proofs.Common.{◌-◌, List, ℕ, Option, string_bytes}
use Rattle.config_file.specs.Found.{IsFound, most_folders}
use Rattle.config_file.proofs.find.found.Given as goal

-- what is found from here on is what is found
abbrev pub invariant-loop-turn : goal.invariant-loop-turn
invariant-loop-turn g l =
    (name : Option (List ℕ)) → IsFound (g.F.FileStore.content l.files) (most_folders - l._turn) (string_bytes l.folder) name → IsFound (g.F.FileStore.content l.files) most_folders l.start name
