use Rattle.std.proofs.Common.{◌∙◌, sym, ap, fold, ℕ, List, [], ◌∷◌, ◌++◌}
use Rattle.std.proofs.lemmas.List.{append-nil}
use Rattle.std.proofs.lemmas.List.Sums.{fold-append}
use Rattle.std.specs.Hash as fed
use Rattle.std.specs.Hash.FoldHasher as folding
use Rattle.sql_tree.specs.sql_name.Compared.{full_text}
use Rattle.sql_tree.specs.sql_name.Hash.{text_writes}
use Rattle.lint_transaction.specs.SpanKey.{hash_of}
use Rattle.lint_transaction.proofs.span_key.hash.Goals as goal

pub returns-in-LastName : goal.returns-in-LastName
unfolding hash_of
returns-in-LastName c =
    let text : List ℕ = full_text c.name_at.result in
    rw c.in-LastName.is (c.hash_alone.ensures ∙ ap (λ (w : fed.HashWrites). folding.finish (fold folding.write folding.initial w)) (sym (append-nil (text_writes text))) ∙ ap (λ (t : List ℕ). hash_of (t ∷ [])) c.name_at.ensures)

pub returns-in-BothEnds : goal.returns-in-BothEnds
unfolding hash_of
returns-in-BothEnds c =
    let first : List ℕ = full_text c.name_at-in-BothEnds.result in
    let last : List ℕ = full_text c.name_at-in-BothEnds-2.result in
    rw c.in-BothEnds.is (c.hash_both.ensures
    ∙ ap folding.finish (sym (fold-append folding.write folding.initial (text_writes first) (text_writes last)))
    ∙ ap (λ (w : fed.HashWrites). folding.finish (fold folding.write folding.initial (text_writes first ++ w))) (sym (append-nil (text_writes last)))
    ∙ (λ i. hash_of (c.name_at-in-BothEnds.ensures i ∷ c.name_at-in-BothEnds-2.ensures i ∷ [])))
