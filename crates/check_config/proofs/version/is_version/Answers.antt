use Rattle.std.proofs.Common.{◌∙◌, ◌≤◌, arith, length}
use Rattle.check_config.proofs.Versions.{short_version}
use Rattle.check_config.proofs.version.is_version.Goals as goal

pub returns-then-parts-le-MOST_PARTS : goal.returns-then-parts-le-MOST_PARTS
returns-then-parts-le-MOST_PARTS c =
    let short : length c.args.parts.now ≤ 3 = omega arith in
    c.are_parts.ensures ∙ short_version c.args.parts.now short
