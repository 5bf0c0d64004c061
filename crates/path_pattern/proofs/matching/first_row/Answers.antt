use Rattle.std.proofs.Common.{◌≡◌, ◌+◌, length, replicate, set, subst, sym, Bool, false, true, List}
use Rattle.path_pattern.specs.Rows.{IsRow, ends_here}
use Rattle.path_pattern.proofs.Rows.{first_is}
use Rattle.path_pattern.proofs.matching.first_row.Goals as goal

pub returns-clause-row : goal.returns-clause-row
returns-clause-row c =
    let path = c.args.path.now in
    let all : c.in_ok-row.row.items ≡ replicate (length path + 1) false = c.in_ok-row.ensures.items_if_clones_equal (λ y same. same) in
    subst (λ (row : List Bool). IsRow ends_here path (set row (length path) true)) (sym all) (first_is path)
