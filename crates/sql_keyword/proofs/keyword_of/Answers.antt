use Rattle.std.proofs.Common.{subst, ◌≡◌, ◌↔◌, IsTrue, Option, Some, sym, ◌∙◌}
use Rattle.sql_keyword.specs.declared.words.Keyword.{Keyword}
use Rattle.sql_keyword.specs.Texts.{text}
use Rattle.std.specs.Str.{str_eq_ignore_ascii_case}
use Rattle.sql_keyword.proofs.Right.{looked_up, same_found}
use Rattle.sql_keyword.proofs.keyword_of.Goals as goal

pub returns-clause-right : goal.returns-clause-right
returns-clause-right c k =
    let P : Option Keyword → Type 0 = λ o. (o ≡ Some k) ↔ IsTrue (str_eq_ignore_ascii_case c.args.bytes.now (text k)) in
    subst P (sym c.look_up.ensures) (looked_up c.args.bytes.now k)

pub returns-clause-value : goal.returns-clause-value
returns-clause-value c = c.look_up.ensures ∙ sym (same_found c.args.bytes.now)
