use Rattle.std.proofs.Common.{◌+◌, length, ap, List, ℕ}
use Rattle.lint_ignore.specs.Part.{Part}
use Rattle.lint_ignore.proofs.Parts.{has_prefix, lacks_prefix}
use Rattle.lint_ignore.proofs.part.Part.after.Goals as goal

pub returns-in-Some : goal.returns-in-Some
returns-in-Some c =
    let h = has_prefix c.args.prefix.now c.args.self.text.now c.in-Some.text.now c.in-Some.ensures.cases in
    let at : List ℕ → Part = λ bytes. record { at = c.args.self.at + length c.args.prefix.now; bytes = bytes } in
    (h.0, ap at h.1)

pub returns-in-None : goal.returns-in-None
returns-in-None c = lacks_prefix c.args.prefix.now c.args.self.text.now c.in-None.ensures.cases
