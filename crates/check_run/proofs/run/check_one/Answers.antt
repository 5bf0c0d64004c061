use Rattle.std.proofs.Common.{◌≡◌, ◌∙◌, ◌++◌, ◌∷◌, [], ap}
use Rattle.check_run.proofs.run.check_one.Goals as goal

pub returns-clause-checked : goal.returns-clause-checked
returns-clause-checked g c =
    let file = c.in_ok-file.file in
    let items : c.push.new.self.items ≡ c.new-all.result.items ++ file ∷ [] = c.in_ok-push.ensures.items in
    record { file = file; only = items ∙ ap (λ fs. fs ++ file ∷ []) c.new-all.ensures.items; came = c.in_ok-file.ensures.checked }
