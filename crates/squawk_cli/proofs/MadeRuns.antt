-- A run on a made text is refused by nothing.
use Rattle.std.proofs.Common.{◌≡◌, ◌≤◌, ℕ, List, Option, Some, None, IfSome, IsSome, refl, ap, subst, sym, arith}
use Rattle.std.specs.Prelude.{option_and_then, option_map}
use Rattle.std.specs.Str.{IsUtf8}
use Rattle.squawk_linter.specs.sql_token.Token.{Text, Lexed}
use Rattle.squawk_linter.proofs.of_sql_token.TokenLaws as tokens
use Rattle.squawk_linter.specs.sql_tree.Statement.{IsValid}
use Rattle.squawk_linter.proofs.of_sql_tree.TreeLaws as tree
use Rattle.law_made_texts.specs.squawk_generate.Made.{made}
use Rattle.law_made_texts.specs.Valid.{MadeIsValid}
use Rattle.squawk_run.specs.squawk_words.declared.choices.Choices.{Choices}
use Rattle.squawk_run.specs.squawk_words.Choices.{IsAccepted, choices_of}
use Rattle.squawk_cli.specs.declared.config.Config.{Config}
use Rattle.squawk_run.specs.declared.status.Status.{Status}
use Rattle.squawk_run.specs.declared.status.Status.TheVariants.{Clean, Found, BadArguments, NotUtf8, TooLong, Unterminated, Syntax, ReadFault, WriteFault, NoMemory}
use Rattle.squawk_cli.specs.Modes.{given_text, groups_to_make, text_by}
use Rattle.squawk_cli.specs.Config.{config_by, config_of}
use Rattle.squawk_cli.specs.Outcome.{EndForMade, InputFor, ReadBy, ReadFor, ReadForMade, WordsFor}
use Rattle.squawk_cli.proofs.Groups.{AreFew, few_named}

-- a valid text for which nothing is read
ends_so : (s : Status) (words : List (List ℕ)) (t : Text) (a b : Option Text) → WordsFor s words → IsAccepted words → ReadForMade s a b → InputFor s words t → IsUtf8 t → IsValid t → EndForMade s
ends_so Clean words t a b w taken r i utf8 valid = tt
ends_so Found words t a b w taken r i utf8 valid = tt
ends_so BadArguments words t a b w taken r i utf8 valid = absurd (w taken)
ends_so NotUtf8 words t a b w taken r i utf8 valid = absurd (i.0 utf8)
ends_so TooLong words t a b w taken r i utf8 valid = absurd r
ends_so (Unterminated at) words t a b w taken r i utf8 valid =
    absurd (tokens.not_both t valid.0.toks at (subst (λ (x : Text). Lexed x valid.0.toks) valid.1 valid.2.lexed) i.2)
ends_so (Syntax at) words t a b w taken r i utf8 valid = absurd (tree.not_both valid.0 t at valid.1 valid.2 i.1)
ends_so ReadFault words t a b w taken r i utf8 valid = absurd r
ends_so WriteFault words t a b w taken r i utf8 valid = tt
ends_so NoMemory words t a b w taken r i utf8 valid = tt

-- the groups that a configuration asks for
abbrev asked_by : Option Config → Option ℕ
asked_by config = option_and_then (λ c. c.generate) config

by_groups :
    MadeIsValid → (s : Status) (words : List (List ℕ)) (generate : Option ℕ) (a b : Option Text) → WordsFor s words → IsAccepted words → AreFew generate →
    ReadBy generate s a b → IfSome (text_by generate a) (λ t. InputFor s words t) → IsSome generate → EndForMade s
by_groups law s words None a b w taken few r i asked = absurd (cc)
by_groups law s words (Some n) a b w taken few r i asked = let is = law n (omega arith) in ends_so s words (made n) a b w taken r i is.0 is.1

by_choices :
    MadeIsValid → (s : Status) (words : List (List ℕ)) (choices : Option Choices) → choices_of words ≡ choices → (a b : Option Text) → WordsFor s words →
    IfSome (option_map config_by choices) (λ c. AreFew c.generate) → ReadBy (asked_by (option_map config_by choices)) s a b →
    IfSome (text_by (asked_by (option_map config_by choices)) a) (λ t. InputFor s words t) → IsSome (asked_by (option_map config_by choices)) → EndForMade s
by_choices law s words None e a b w few r i asked = absurd (cc)
by_choices law s words (Some choices) e a b w few r i asked =
    by_groups law s words choices.generate a b w (subst (λ (o : Option Choices). IsSome o) (sym e) refl) few r i asked

pub made_ends :
    MadeIsValid → (s : Status) (words : List (List ℕ)) (a b : Option Text) → WordsFor s words → ReadFor s words a b → IfSome (given_text words a) (λ t. InputFor s words t) →
    IsSome (groups_to_make words) → EndForMade s
made_ends law s words a b w r i asked = by_choices law s words (choices_of words) refl a b w (few_named words) r i asked
