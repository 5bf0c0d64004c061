-- Where the names in ignore comments are there.
use Rattle.std.specs.Prelude.{◌≤◌, All}
use Rattle.std.specs.Str.{IsCharBoundary, IsUtf8}
use Rattle.sql_tree.specs.sql_token.Token.{Text}
use Rattle.sql_tree.specs.Statement.{Tree, IsTree}
use Rattle.sql_tree.specs.text_pos.Range.{Range}
use Rattle.lint_ignore.specs.Found.{found_in}

-- the range runs forward, and begins and ends between two characters of the text
pub record IsPlace (text : Text) (range : Range) : Type 0 where
  pub ordered : range.start ≤ range.end
  pub start : IsCharBoundary text range.start
  pub end : IsCharBoundary text range.end

-- Each name in the ignore comments of a UTF-8 text is in the text, whether it is known or not.
pub record NamesLie (tree : Tree) : Type 0 where
  pub unknown : All (λ v. IsPlace tree.text v.text_range) (found_in tree).reports
  pub known : All (λ piece. IsPlace tree.text piece.range) (found_in tree).pieces

abbrev pub NamesLieInTexts : Type 0
NamesLieInTexts = (tree : Tree) → IsTree tree → IsUtf8 tree.text → NamesLie tree
