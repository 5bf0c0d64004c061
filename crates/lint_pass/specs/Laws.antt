-- What holds of the reports of a pass.
use Rattle.std.specs.Prelude.{◌≡◌, ◌≤◌, ℕ, true, All, List, [], ◌∷◌, filter, ⊤, IfSome}
use Rattle.std.specs.Str.{IsUtf8}
use Rattle.lint_base.specs.declared.rule.Rule.{Rule}
use Rattle.lint_base.specs.declared.edit.Edit.{Edit}
use Rattle.lint_base.specs.declared.violation.Violation.{Violation}
use Rattle.lint_base.specs.RuleNames.{same_rule}
use Rattle.lint_base.specs.RuleSets.{Rules, has}
use Rattle.lint_ignore.specs.sql_tree.Statement.{Tree, IsTree}
use Rattle.lint_ignore.specs.Places.{IsPlace}

-- its rule is one of the pass's own, and is enabled
pub record IsOf (mine rules : Rules) (v : Violation) : Type 0 where
  pub own : has mine v.code ≡ true
  pub enabled : has rules v.code ≡ true

-- the tree was read from its text, which is UTF-8
pub record IsRead (tree : Tree) : Type 0 where
  pub read : IsTree tree
  pub utf8 : IsUtf8 tree.text

-- each edit ends before the next one begins
abbrev pub AreApart : List Edit → Type 0
AreApart [] = ⊤
AreApart (e ∷ []) = ⊤
AreApart (e ∷ f ∷ es) = (e.text_range.end ≤ f.text_range.start) × AreApart (f ∷ es)

-- the edits of a fix are at places of the text, one after the other
pub record AreEdits (text : List ℕ) (edits : List Edit) : Type 0 where
  pub places : All (λ e. IsPlace text e.text_range) edits
  pub apart : AreApart edits

-- its range is a place of the text, and so are the edits of its fix
pub record IsPlacedIn (tree : Tree) (v : Violation) : Type 0 where
  pub range : IsPlace tree.text v.text_range
  pub edits : IfSome v.fix (λ f. AreEdits tree.text f.edits)

abbrev pub HasCode : Rule → Violation → Type 0
HasCode code v = v.code ≡ code

-- the reports of a rule
abbrev pub reports_by : Rule → List Violation → List Violation
reports_by q vs = filter (λ v. same_rule q v.code) vs
