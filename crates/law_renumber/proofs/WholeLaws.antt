-- What no tree lacks.
use Rattle.std.proofs.Common.{◌≡◌, true, refl}
use Rattle.sql_tree.specs.declared.kinds.StmtKind.{StmtKind}
use Rattle.sql_tree.specs.declared.kinds.StmtKind.TheVariants as stmt
use Rattle.law_renumber.specs.Whole.{AlterTablesHavePaths, AddedIsKnown}
use Rattle.law_renumber.proofs.There.{tree_there}
use Rattle.law_renumber.proofs.Paths.{is_alter_table, FormHasPath, form_has}
use Rattle.law_renumber.proofs.Added.{FormIsWhole, form_there}

is_table : (kind : StmtKind) → kind ≡ stmt.AlterTable → is_alter_table kind ≡ true
is_table kind e = rw e refl

pub alter_tables_have_paths : AlterTablesHavePaths
alter_tables_have_paths tree is i d within e = tree_there FormHasPath form_has tree is i d within (is_table _ e)

pub added_is_known : AddedIsKnown
added_is_known tree is = tree_there FormIsWhole form_there tree is
