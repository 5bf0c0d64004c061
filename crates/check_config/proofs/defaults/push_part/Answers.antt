use Rattle.std.proofs.Common.{◌∙◌, ◌≤◌, ◌++◌, append-nil, ap, arith, length, sym, Option}
use Rattle.std.proofs.lemmas.Option.{slice_get_past}
use Rattle.squawk_run.specs.squawk_words.Words.{Text}
use Rattle.check_config.specs.Defaults.{part_words}
use Rattle.check_config.proofs.defaults.push_part.Goals as goal

pub returns-then-i-len : goal.returns-then-i-len
returns-then-i-len c =
    let past : length c.args.parts.now ≤ c.args.i = omega arith in
    sym (ap (λ (part : Option Text). c.args.all.now ++ part_words c.args.name.now part) (slice_get_past c.args.parts.now c.args.i past) ∙ append-nil c.args.all.now)
