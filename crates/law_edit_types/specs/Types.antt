-- Column types in the terminals that they are read of: where one ends, and which become one word.
use Rattle.std.specs.Prelude.{◌≡◌, ℕ, Bool, true, false, List, [], ◌∷◌, ◌++◌, Option, None, is_some}
use Rattle.std.specs.Option.{option_map}
use Rattle.law_edit_inserts.specs.sql_keyword.declared.words.TheConstants.Keyword as keyword
use Rattle.law_edit_inserts.specs.sql_token.declared.terminal.Terminal.{Terminal}
use Rattle.law_edit_inserts.specs.sql_token.Terminal.{is_keyword}
use Rattle.law_edit_inserts.specs.sql_tree.declared.nodes.Column.{Column}
use Rattle.law_edit_inserts.specs.sql_tree.declared.nodes.ColType.{ColType}
use Rattle.law_edit_inserts.specs.sql_tree.declared.nodes.Piece.{Piece}
use Rattle.law_edit_inserts.specs.sql_tree.declared.nodes.TyKind.{TyKind}
use Rattle.law_edit_inserts.specs.sql_tree.declared.nodes.TyKind.TheVariants as kind
use Rattle.law_edit_inserts.specs.sql_tree.Column.{column}
use Rattle.law_edit_inserts.specs.sql_tree.ColumnMarks.{is_type_end}
use Rattle.law_edit_inserts.specs.sql_tree.ColumnType.{column_type}
use Rattle.law_edit_inserts.specs.law_edit_cuts.Runs.{is_run_from}
use Rattle.law_edit_types.specs.Runs.{last_or}

-- ---- which types become one word

abbrev pub is_replaced_by : TyKind → Bool → Bool
is_replaced_by kind.Varchar args = args
is_replaced_by kind.Path args = args
is_replaced_by kind.Timestamp args = true
is_replaced_by _ args = false

-- VARCHAR or a path with arguments, or TIMESTAMP, and arrays of these (PostgreSQL manual, sections 8.3, 8.5 and 8.15)
abbrev pub is_replaced : ColType → Bool
is_replaced ty = is_replaced_by ty.kind (is_some ty.args)

-- The type whose inner tokens are the word n: a path of one name. It is an array if the old one is, of as many tokens.
abbrev pub retyped_type : ℕ → ColType → ColType
retyped_type n ty = record ty { kind = kind.Path; inner = record { first = n; last = n }; name = n; args = None; with_zone = false }

-- the column with that type, and nothing else changed
abbrev pub retyped_column : ℕ → Column → Column
retyped_column n c = record c { ty = option_map (retyped_type n) c.ty }

-- the piece of an action with that type, and nothing else changed
abbrev pub retyped_piece : ℕ → Piece → Piece
retyped_piece n p = record p { ty = option_map (retyped_type n) p.ty }

-- ---- where a type ends

-- all its brackets close in it, and no word outside of them ends a type
abbrev pub is_inside_type : List Terminal → Bool
is_inside_type run = is_run_from is_type_end 0 run

-- a word that ends a type, or nothing
abbrev pub ends_type : List Terminal → Bool
ends_type [] = true
ends_type (t ∷ ts) = is_type_end t

-- neither SET nor BY: DEFAULT after one of these begins no constraint
pub record IsLoose (t : Terminal) : Type 0 where
  pub set : is_keyword keyword.SET t ≡ false
  pub by : is_keyword keyword.BY t ≡ false

-- the column with another type, or none
abbrev pub typed_column : Option ColType → Column → Column
typed_column ty c = record c { ty = ty }

-- A column with other terminals for its type has the type that these are, and the same name and constraints.
abbrev pub ColumnTypeExchanges : Type 0
ColumnTypeExchanges =
    (t r : Terminal) (run rest : List Terminal) (u : Terminal) (new : List Terminal) → is_inside_type (r ∷ run) ≡ true → is_inside_type (u ∷ new) ≡ true →
    ends_type rest ≡ true → IsLoose (last_or r run) → IsLoose (last_or u new) →
    column (t ∷ ((u ∷ new) ++ rest)) ≡ option_map (typed_column (column_type (u ∷ new))) (column (t ∷ ((r ∷ run) ++ rest)))
