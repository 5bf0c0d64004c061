use Rattle.std.proofs.Common.{◌∙◌, ap, sym}
use Rattle.std.specs.List.{list_any}
use Rattle.std.specs.Str.{bytes_eq}
use Rattle.check_baseline.specs.Known.{first_word}
use Rattle.check_baseline.proofs.Steps.{any_mapped}
use Rattle.check_baseline.proofs.baseline.Baseline.read.Goals as goal

pub returns-in-Ok-clause-read : goal.returns-in-Ok-clause-read
returns-in-Ok-clause-read c = record {
  well_formed = c.in_ok-lines.ensures.sound;
  known = λ print.
      c.in-Ok.ensures print
      ∙ ap (λ lines. list_any (λ line. bytes_eq (first_word line.now) print) lines) c.as_slice.ensures.value
      ∙ sym (any_mapped (λ line. bytes_eq (first_word line) print) (λ s. s.now) c.in_ok-lines.lines.items)
      ∙ ap (λ lines. list_any (λ line. bytes_eq (first_word line) print) lines) c.in_ok-lines.ensures.lines;
}
