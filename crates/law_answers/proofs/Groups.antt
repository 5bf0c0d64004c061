-- Sums of tables.
use Rattle.std.proofs.lemmas.List.Elements.{All-append}
use Rattle.std.specs.Prelude.{◌++◌}
use Rattle.law_type_fixes.specs.law_fixes.Mended.{Table}
use Rattle.law_answers.specs.Tables.{AllAreInTheirTables, IsInItsTable}

-- the entries of one table and then of another one
abbrev pub both : Table → Table → Table
both first second tree rules settings = first tree rules settings ++ second tree rules settings

pub both_stand : (first second : Table) → AllAreInTheirTables first → AllAreInTheirTables second → AllAreInTheirTables (both first second)
both_stand first second h k tree rules settings =
    All-append (IsInItsTable tree rules settings) (first tree rules settings) (second tree rules settings) (h tree rules settings) (k tree rules settings)
