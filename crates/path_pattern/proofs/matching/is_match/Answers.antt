use Rattle.std.proofs.Common.{◌∙◌, arith, sym}
use Rattle.path_pattern.specs.Patterns.{parts_of}
use Rattle.path_pattern.proofs.Deciding.{test_complete, test_sound}
use Rattle.path_pattern.proofs.Rows.{first_value}
use Rattle.path_pattern.proofs.matching.is_match.Goals as goal

pub returns-clause-value : goal.returns-clause-value
returns-clause-value c =
    let l = c.loop-i in
    first_value c.args.pattern.now c.args.path.now l.i l.row.items c.index.result.now (omega arith) l.invariant.long l.invariant.row c.index.ensures

pub returns-clause-meaning : goal.returns-clause-meaning
returns-clause-meaning c =
    let l = c.loop-i in
    let path = c.args.path.now in
    let parts = parts_of c.args.pattern.now in
    let value = first_value c.args.pattern.now path l.i l.row.items c.index.result.now (omega arith) l.invariant.long l.invariant.row c.index.ensures in
    (λ h. test_sound parts path (sym value ∙ h), λ m. value ∙ test_complete parts path m)
