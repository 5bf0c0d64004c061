use Rattle.std.proofs.Common.{ap, sym, List, ℕ}
use Rattle.lint_ignore.specs.Part.{Part}
use Rattle.lint_ignore.proofs.Parts.{without_dashes, prefix_of_dashes}
use Rattle.lint_ignore.proofs.part.Part.before_dashes.Goals as goal

pub returns-in-Some : goal.returns-in-Some
returns-in-Some c =
    let at : List ℕ → Part = λ bytes. record { at = c.args.self.at; bytes = bytes } in
    ap at (sym (prefix_of_dashes c.args.self.text.now c.in-Some.text.now c.in-Some.field-0-1.now c.in-Some.ensures.cases))

pub returns : goal.returns
returns c =
    let at : List ℕ → Part = λ bytes. record { at = c.args.self.at; bytes = bytes } in
    ap at (sym (without_dashes c.args.self.text.now c.in_default.ensures.cases))
