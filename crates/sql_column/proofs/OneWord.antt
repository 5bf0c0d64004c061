-- One name that is no key word: what it is as a type, and that no constraint begins there.
use Rattle.std.proofs.Common.{◌≡◌, ◌∙◌, sym, ℕ, ◌<◌, ◌≤◌, Bool, true, List, [], ◌∷◌, length, get_or, refl, arith, Option, Some}
use Rattle.sql_tree.specs.sql_token.declared.terminal.Symbol.{Symbol}
use Rattle.sql_tree.specs.sql_token.declared.terminal.Symbol.TheVariants as s
use Rattle.sql_tree.specs.sql_token.declared.terminal.Terminal.{Terminal}
use Rattle.sql_tree.specs.sql_token.Terminal.{is_keyword, is_name, is_opener, is_closer}
use Rattle.sql_tree.specs.declared.nodes.ColType.{ColType}
use Rattle.sql_tree.specs.Split.{before}
use Rattle.sql_tree.specs.Groups.{path_first}
use Rattle.sql_tree.specs.ColumnMarks.{type_end, constraint_start, kind_led}
use Rattle.sql_tree.specs.ColumnType.{column_type, array_by_word, array_by_groups, before_groups, only_groups, no_group, array_of, ends_with, plain_type, path_type, arguments, type_len}
use Rattle.sql_tree.specs.Column.{type_in}
use Rattle.sql_tree.specs.Constraint.{column_constraints}
use Rattle.sql_tree.specs.Pieces.{pieces}
use Rattle.sql_column.specs.OneWord.{is_plain_symbol, path_of_one, OneWord}

abbrev only : Symbol → ℕ → List Terminal
only y n = record { symbol = y; number = n } ∷ []

whole_type : (y : Symbol) (n : ℕ) → is_plain_symbol y ≡ true → column_type (only y n) ≡ Some (path_of_one n)
unfolding column_type array_by_word array_by_groups before_groups before only_groups no_group array_of ends_with plain_type path_type arguments path_first is_keyword is_name is_opener is_closer
whole_type s.Word n h = refl
whole_type s.Quoted n h = refl
whole_type _ n h = cc

first_type : (y : Symbol) (n : ℕ) → is_plain_symbol y ≡ true → type_in (only y n) ≡ Some (path_of_one n)
unfolding type_len before type_end is_keyword is_opener is_closer
first_type s.Word n h = whole_type s.Word n h
first_type s.Quoted n h = whole_type s.Quoted n h
first_type _ n h = cc

no_constraint : (y : Symbol) (n : ℕ) → is_plain_symbol y ≡ true → (e : Option Terminal) → column_constraints e (only y n) ≡ Some []
unfolding column_constraints pieces constraint_start kind_led is_keyword is_opener is_closer
no_constraint s.Word n h e = refl
no_constraint s.Quoted n h e = refl
no_constraint _ n h e = cc

one_word : (t : Terminal) → is_plain_symbol t.symbol ≡ true → OneWord (t ∷ []) (path_of_one t.number)
one_word t h = record {
  whole = whole_type t.symbol t.number h;
  first = first_type t.symbol t.number h;
  alone = no_constraint t.symbol t.number h;
}

-- the same, in the shape of the code's facts
pub one_word_at : (ts : List Terminal) (d : Terminal) (plain : Bool) (ty : ColType) → 1 ≤ length ts → length ts < 2
    → plain ≡ is_plain_symbol (get_or ts 0 d).symbol → plain ≡ true → ty ≡ path_of_one (get_or ts 0 d).number → OneWord ts ty
one_word_at [] d plain ty some short is told made = absurd (omega (arith, some))
one_word_at (t ∷ []) d plain ty some short is told made = rw made (one_word t (sym is ∙ told))
one_word_at (t ∷ u ∷ ts) d plain ty some short is told made = absurd (omega (arith, short))
