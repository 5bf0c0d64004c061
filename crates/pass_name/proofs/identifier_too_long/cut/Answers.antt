use Rattle.std.proofs.Common.{◌∙◌}
use Rattle.std.proofs.lemmas.Str.{IsCharBoundary-start}
use Rattle.pass_name.proofs.NameCuts.{floor_cuts}
use Rattle.pass_name.proofs.identifier_too_long.cut.Goals as goal

pub returns : goal.returns
returns c =
    c.range.ensures.value
    ∙ floor_cuts 63 c.floor_char_boundary.result c.args.full.now (IsCharBoundary-start c.args.full.now c.utf8.full)
    c.floor_char_boundary.ensures.bound c.floor_char_boundary.ensures.boundary c.floor_char_boundary.ensures.nearest
