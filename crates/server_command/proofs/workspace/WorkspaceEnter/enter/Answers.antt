use Rattle.std.proofs.Common.{IfErr, Result, refl, subst}
use Rattle.lsp_linter.specs.declared.linting.Linting.{Linting}
use Rattle.server_command.specs.declared.outcome.Refusal.{Refusal}
use Rattle.server_command.specs.Settled.{IsRefusedFor, folder_of}
use Rattle.server_command.proofs.workspace.WorkspaceEnter.enter.Goals as goal

pub returns-in_ok-said_of-in-Err : goal.returns-in_ok-said_of-in-Err
returns-in_ok-said_of-in-Err g c =
    let old = c.args.self.now in
    let content = g.F.FileStore.content old.files in
    let before = g.F.FileStore.faults old.files in
    let now = g.F.FileStore.faults c.settled_at.new.files in
    record {
      refusal = c.in-Err.refusal;
      why = subst (λ (found : Result Linting Refusal). IfErr found (IsRefusedFor content before now (folder_of c.args.root.now) old.line)) c.in-Err.is c.in_ok-linting.ensures.refused;
      said = c.in_ok-said_of-in-Err.ensures;
      linting = refl;
      kept = record { line = refl; contents = c.settled_at.ensures.kept; later = c.settled_at.ensures.later };
    }
