use Rattle.std.proofs.Common.{List, ℕ, Option, Some, String, Global, option_map, string_bytes, subst, sym}
use Rattle.std.proofs.lemmas.Result.{IfErr-weaker}
use Rattle.config_file.specs.Found.{IsFound, most_folders}
use Rattle.config_file.specs.Loaded.{IsRefusedFile}
use Rattle.config_file.proofs.Refusals.{folder_refused}
use Rattle.config_file.proofs.load.folder_config.Goals as goal

pub returns-in-Ok-Some-clause-refused : goal.returns-in-Ok-Some-clause-refused
returns-in-Ok-Some-clause-refused g c =
    let content = g.F.FileStore.content c.args.files.now in
    let before = g.F.FileStore.faults c.args.files.now in
    let now = g.F.FileStore.faults c.file_config.new.files in
    let folder = c.args.folder.now in
    let name = c.as_str.result.now in
    let some : IsFound content most_folders folder (Some (string_bytes c.in-Ok-Some.name)) =
    subst (λ (o : Option (String Global)). IsFound content most_folders folder (option_map string_bytes o)) c.in-Ok-Some.field-0-is c.in-Ok-Some.ensures in
    let named : IsFound content most_folders folder (Some name) = subst (λ (n : List ℕ). IsFound content most_folders folder (Some n)) (sym c.as_str.ensures.value) some in
    IfErr-weaker c.file_config.result (IsRefusedFile (content name) before now name) _ (λ e h. folder_refused content before now folder name e named h) c.file_config.ensures.refused
