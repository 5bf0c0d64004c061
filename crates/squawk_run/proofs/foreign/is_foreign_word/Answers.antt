use Rattle.std.proofs.Common.{◌∙◌, ap, map, ℕ, List, Bor}
use Rattle.std.specs.List.{list_any}
use Rattle.std.specs.Str.{bytes_eq}
use Rattle.squawk_run.specs.ForeignWords.{is_option_among}
use Rattle.squawk_run.proofs.Search.{any_of_map}
use Rattle.squawk_run.proofs.foreign.is_foreign_word.Goals as goal

pub returns-in-Some : goal.returns-in-Some
returns-in-Some c =
    let name = c.name_in.result.now in
    let names = c.args.names.now in
    c.is_among.ensures ∙ any_of_map (λ n. bytes_eq n name) (λ (n : Bor (List ℕ)). n.now) names
    ∙ ap (λ t. list_any (λ n. bytes_eq n t) (map (λ (n : Bor (List ℕ)). n.now) names)) c.name_in.ensures
    ∙ ap (is_option_among (map (λ (n : Bor (List ℕ)). n.now) names)) c.in-Some.ensures
