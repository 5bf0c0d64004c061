use Rattle.std.proofs.Common.{◌≡◌, length, fold}
use Rattle.std.specs.Hash.FoldHasher as folding
use Rattle.std.specs.List.{flat_map}
use Rattle.sql_tree.specs.sql_name.Hash.{text_writes}
use Rattle.sql_tree.specs.Path.{path_cuts}
use Rattle.lint_transaction.specs.NamesLeft.{names_left}
use Rattle.lint_transaction.proofs.names.hash_path.Given as goal

-- the names so far were written
abbrev pub invariant-loop-number : goal.invariant-loop-number
invariant-loop-number l =
    fold folding.write l.hasher (flat_map text_writes (names_left l.names))
    ≡ fold folding.write folding.initial (flat_map text_writes (path_cuts l.p.text l.p.toks l.fn.span))

abbrev pub decreases-loop-number : goal.decreases-loop-number
decreases-loop-number l = length (names_left l.names)
