use Rattle.std.proofs.Common.{◌≡◌, List, subst}
use Rattle.std.proofs.lemmas.Result.{IfOk-weaker}
use Rattle.file_choice.specs.Choice.{chosen_of}
use Rattle.sql_files.specs.squawk_words.Words.{Text}
use Rattle.gate_files.proofs.named.named_files.Goals as goal

pub returns-clause-named : goal.returns-clause-named
returns-clause-named g c =
    IfOk-weaker c.chosen.result _ _
    (λ names e. record {
      given = c.in_ok-given.given;
      result = c.in_ok-names.names;
      named = c.in_ok-given.ensures.named;
      in_order = c.in_ok-names.ensures;
      once = subst (λ (ps : List Text). names ≡ chosen_of ps c.in_ok-names.names) c.new-patterns.ensures e;
    })
    c.chosen.ensures
