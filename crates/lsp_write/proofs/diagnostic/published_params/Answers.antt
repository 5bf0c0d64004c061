use Rattle.std.proofs.Common.{◌∙◌, ap, codes, option_map}
use Rattle.serde_json.proofs.Views.{view-Object}
use Rattle.serde_json.specs.Data.{object}
use Rattle.diag_json.specs.Putting.{put_if}
use Rattle.lsp_write.proofs.Put.{put_params}
use Rattle.lsp_write.specs.Diagnostic.{integer_json}
use Rattle.lsp_write.proofs.diagnostic.published_params.Goals as goal

pub returns : goal.returns
returns c =
    view-Object c.put_version.new.map
    ∙ ap object (c.in_ok-put_version.ensures ∙ ap (put_if (codes "version") (option_map integer_json c.args.version)) c.in_ok-map.ensures)
    ∙ put_params c.args.uri.now c.args.version c.args.reports.now
