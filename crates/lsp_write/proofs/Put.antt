-- The members of a notification in the order in which they are put.
use Rattle.std.proofs.Common.{◌≡◌, ℕ, ℤ, List, Option, None, Some, codes, option_map, refl}
use Rattle.serde_json.specs.Data.{Data, member, no_members, object, string}
use Rattle.diag_json.specs.Json.{list_json, member_if}
use Rattle.diag_json.specs.Putting.{put_if}
use Rattle.lsp_session.specs.declared.report.Report.{Report}
use Rattle.lsp_write.specs.Diagnostic.{diagnostic_json, integer_json, published_params}

by : (diagnostics uri : Data) (version : Option Data)
    → put_if (codes "version") version (member (codes "diagnostics") diagnostics (member (codes "uri") uri no_members))
    ≡ member (codes "diagnostics") diagnostics (member (codes "uri") uri (member_if (codes "version") version no_members))
by diagnostics uri None = refl
by diagnostics uri (Some version) = refl

pub put_params : (uri : List ℕ) (version : Option ℤ) (reports : List Report)
    → object (put_if (codes "version") (option_map integer_json version) (member (codes "diagnostics") (list_json diagnostic_json reports) (member (codes "uri") (string uri) no_members)))
    ≡ published_params uri version reports
unfolding published_params
put_params uri version reports = λ i. object (by (list_json diagnostic_json reports) (string uri) (option_map integer_json version) i)
