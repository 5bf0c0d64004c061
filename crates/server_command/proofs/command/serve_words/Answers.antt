use Rattle.std.proofs.Common.{◌≡◌, Err, IfErr, IfOk, Ok, Result, refl, subst}
use Rattle.std.proofs.KnownBytes.{Keeps-refl}
use Rattle.config_file.specs.check_config.Config.{empty}
use Rattle.server_command.specs.Asked.{linter_words}
use Rattle.server_command.specs.Settled.{IsUnchosen}
use Rattle.server_command.specs.Workspace.{IsFirst}
use Rattle.server_command.proofs.command.serve_words.Goals as goal

of_ok : {X E : Type 0} (P : X → Type 0) (r : Result X E) (x : X) → r ≡ Ok x → IfOk r P → P x
of_ok P r x is h = subst (λ s. IfOk s P) is h

of_err : {X E : Type 0} (P : E → Type 0) (r : Result X E) (e : E) → r ≡ Err e → IfErr r P → P e
of_err P r e is h = subst (λ s. IfErr s P) is h

pub returns-in-Ok-Ok : goal.returns-in-Ok-Ok
returns-in-Ok-Ok g c =
    let found = c.in-Ok-Ok in
    record {
      first = found.checker;
      is = of_ok (IsFirst c.args.files (linter_words c.args.words.now)) found.field-0 found.checker found.field-0-is found.ensures.first;
      served = c.serve.ensures;
    }

pub returns-in-Ok-Err : goal.returns-in-Ok-Err
returns-in-Ok-Err g c =
    let found = c.in-Ok-Err in (
      of_err (λ said. IsUnchosen empty (linter_words c.args.words.now) said.items) found.field-0 found.line found.field-0-is found.ensures.unchosen,
      Keeps-refl (g.K.Sink.held c.args.out.now),
    )

pub returns-in-Err : goal.returns-in-Err
returns-in-Err g c = (refl, Keeps-refl (g.K.Sink.held c.args.out.now))
