use Rattle.std.proofs.Common.{List, [], subst, Some, None}
use Rattle.psql_text.specs.Psql.{start}
use Rattle.psql_text.specs.Told.{IsTold}
use Rattle.psql_text.specs.declared.part.Part.{Part}
use Rattle.psql_text.proofs.Once.{reads_one}
use Rattle.psql_text.proofs.Steps.{start_found}
use Rattle.psql_text.proofs.blank.without_psql.Goals as goal

pub blank_from-requires-clause-goes : goal.blank_from-requires-clause-goes
blank_from-requires-clause-goes c =
    start_found c.args.text.now c.as_bytes-bytes.result.now c.start.result (Some c.in-Some.first) c.as_bytes-bytes.ensures.value c.start.ensures.at c.start.ensures.taken c.start.ensures.statement c.in-Some.ensures.finds

pub returns-in-None-clause-all : goal.returns-in-None-clause-all
returns-in-None-clause-all c = λ ps p.
    let none = start_found c.args.text.now c.as_bytes-bytes.result.now c.start.result None c.as_bytes-bytes.ensures.value c.start.ensures.at c.start.ensures.taken c.start.ensures.statement c.in-None.ensures.finds in
    reads_one (start c.args.text.now) ps [] p none

pub returns-in_ok-blank_from-in-Some-clause-all : goal.returns-in_ok-blank_from-in-Some-clause-all
returns-in_ok-blank_from-in-Some-clause-all c = λ ps p.
    let had = c.in_ok-blank_from-in-Some.ensures.told.0 in
    let same = reads_one (start c.args.text.now) had ps c.in_ok-blank_from-in-Some.ensures.told.1 p in
    subst (λ (x : List Part). IsTold c.args.text.now x c.in_ok-blank_from-in-Some.field-0) same c.in_ok-blank_from-in-Some.ensures.told.2
