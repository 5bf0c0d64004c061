-- Files that end inside a transaction.
use Rattle.std.specs.Prelude.{◌≡◌, ℕ, Bool, true, false, List, [], ◌∷◌, drop, length, take, ⊤}
use Rattle.gate_report.specs.lint_transaction.Transaction.{is_open}
use Rattle.gate_report.specs.sql_token.Token.{Text}
use Rattle.gate_report.specs.sql_tree.Statement.{Tree}
use Rattle.gate_report.specs.sql_read.Cause.{IsTreeOf}
use Rattle.gate_report.specs.migration_gate.Run.{EndsOutside}

-- the text has a tree, and a transaction is open behind its last statement where none is open before the first
pub record EndsInside (text : Text) : Type 0 where
  pub tree : Tree
  pub of_text : IsTreeOf text tree
  pub goes_on : is_open false tree (length tree.stmts) ≡ true

abbrev pub NeverInside : Text → Type 0
NeverInside text = (tree : Tree) → IsTreeOf text tree → EndsOutside tree

abbrev pub TellsOpen : Text → Bool → Type 0
TellsOpen text true = EndsInside text
TellsOpen text false = NeverInside text

-- no file ends inside a transaction
abbrev pub AllEndOutside : List Text → Type 0
AllEndOutside [] = ⊤
AllEndOutside (text ∷ ts) = NeverInside text × AllEndOutside ts

-- this file does, and none before it
pub record IsFirstOpen (ts : List Text) (file : ℕ) : Type 0 where
  pub text : Text
  pub others : List Text
  pub here : drop file ts ≡ text ∷ others
  pub inside : EndsInside text
  pub before : AllEndOutside (take file ts)
