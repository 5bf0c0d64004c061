use Rattle.std.proofs.Common.{◌≡◌, ◌∙◌, ◌++◌, List, [], ◌∷◌, ap}
use Rattle.std.specs.Prelude.{is_some}
use Rattle.code_choice.specs.Choices.{code_choices_of}
use Rattle.code_choice.specs.squawk_words.Words.{Text}
use Rattle.check_words.proofs.set.is_taken.Goals as goal

pub returns : goal.returns
returns c =
    let held : c.push.new.self ≡ c.args.word.now ∷ [] = c.in_ok-push.ensures ∙ ap (λ (ws : List Text). ws ++ c.args.word.now ∷ []) c.new-words.ensures in
    c.is_some.ensures ∙ (ap (λ choices. is_some choices) c.in_ok-choices.ensures ∙ ap (λ (ws : List Text). is_some (code_choices_of ws)) held)
