-- Types that are given by a path, as int4 or pg_catalog.int4, by their last name (PostgreSQL manual, chapter 8).
use Rattle.std.specs.Prelude.{ℕ, Bool, ◌&&◌, List, Option, None, if◌then◌else◌}
use Rattle.std.specs.List.{find}
use Rattle.std.specs.Option.{option_map}
use Rattle.std.specs.Str.{bytes_eq}
use Rattle.lint_pass.specs.sql_tree.declared.nodes.ColType.{ColType}
use Rattle.lint_pass.specs.sql_tree.declared.nodes.TyKind.TheVariants as type
use Rattle.lint_pass.specs.sql_tree.Statement.{Tree}
use Rattle.lint_pass.specs.lint_node.ColumnTypes.{is_of_kind}
use Rattle.lint_pass.specs.lint_transaction.Names.{name_at}

-- the last name is this word
abbrev pub is_named : Tree → List ℕ → ColType → Bool
is_named tree word t = is_of_kind type.Path t && bytes_eq (name_at tree t.name) word

-- what rows of words give for a name
abbrev pub row_of : {X : Type 0} → List (List ℕ × X) → List ℕ → Option X
row_of rows name = option_map (λ row. row.1) (find (λ row. bytes_eq name row.0) rows)

-- what they give for the last name of a type
unfoldable pub row_for : {X : Type 0} → List (List ℕ × X) → Tree → ColType → Option X
row_for rows tree t = if is_of_kind type.Path t then row_of rows (name_at tree t.name) else None
