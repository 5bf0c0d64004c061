use Rattle.std.proofs.Common.{List, ℕ, Option, Some, String, Global, option_map, string_bytes, subst, sym}
use Rattle.std.proofs.lemmas.Result.{IfErr-weaker}
use Rattle.config_file.specs.Found.{IsNamed}
use Rattle.config_file.specs.Loaded.{IsRefusedFile}
use Rattle.config_file.proofs.Refusals.{load_refused}
use Rattle.config_file.proofs.load.load_config.Goals as goal

pub returns-in-Ok-Some-clause-refused : goal.returns-in-Ok-Some-clause-refused
returns-in-Ok-Some-clause-refused g c =
    let content = g.F.FileStore.content c.args.files.now in
    let before = g.F.FileStore.faults c.args.files.now in
    let now = g.F.FileStore.faults c.file_config.new.files in
    let given = c.args.given.now in
    let name = c.as_str.result.now in
    let some : IsNamed content given (Some (string_bytes c.in-Ok-Some.name)) =
    subst (λ (o : Option (String Global)). IsNamed content given (option_map string_bytes o)) c.in-Ok-Some.field-0-is c.in-Ok-Some.ensures in
    let named : IsNamed content given (Some name) = subst (λ (n : List ℕ). IsNamed content given (Some n)) (sym c.as_str.ensures.value) some in
    IfErr-weaker c.file_config.result (IsRefusedFile (content name) before now name) _ (λ e h. load_refused content before now given name e named h) c.file_config.ensures.refused
