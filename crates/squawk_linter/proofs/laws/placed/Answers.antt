use Rattle.std.proofs.Common.{subst}
use Rattle.std.specs.Str.{IsUtf8}
use Rattle.squawk_linter.proofs.Tables.{all_lie}
use Rattle.squawk_linter.proofs.laws.placed.Goals as goal

pub returns-clause-placed : goal.returns-clause-placed
returns-clause-placed g c =
    λ rules settings. g.P.StepPass.placed _ _ rules settings (record { read = c.text-text.ensures.tree; utf8 = subst IsUtf8 c.text-text.ensures.value c.text-text.utf8 })

pub returns-clause-lie : goal.returns-clause-lie
returns-clause-lie g c =
    λ rules settings.
    all_lie _ _ (g.P.StepPass.placed _ _ rules settings (record { read = c.text-text.ensures.tree; utf8 = subst IsUtf8 c.text-text.ensures.value c.text-text.utf8 }))
