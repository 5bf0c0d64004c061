use Rattle.std.proofs.Common.{◌≡◌, ◌∙◌, ◌++◌, ap, codes, List, ℕ}
use Rattle.refused_word.specs.Messages.{message_of, of_choice, suggestion_by}
use Rattle.refused_word.proofs.message.unknown_rule.Goals as goal

pub returns : goal.returns
unfolding message_of
returns c =
    c.in_ok-text.ensures
    ∙ ap (λ (rest : List ℕ). of_choice c.args.choice (codes "unknown rule: " ++ c.args.name.now ++ rest))
    (c.as_str.ensures.value ∙ c.in_ok-rest.ensures ∙ ap suggestion_by c.in_ok-code.ensures)
