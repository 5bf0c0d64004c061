-- Where nothing fails, a valid text is linted.
use Rattle.std.proofs.Common.{◌≡◌, ℕ, ◌≤◌, ◌^◌, List, length, None, Some, IfSome, ap, refl, subst, arith}
use Rattle.std.specs.declared.option.Option.{Option}
use Rattle.std.specs.Str.{IsUtf8}
use Rattle.squawk_run.specs.devices.Faults.{Rose}
use Rattle.squawk_run.specs.squawk_words.Choices.{IsAccepted}
use Rattle.law_made_texts.specs.squawk_generate.Made.{made}
use Rattle.squawk_linter.specs.sql_token.Token.{Text, Lexed}
use Rattle.squawk_linter.proofs.of_sql_token.TokenLaws as tokens
use Rattle.squawk_linter.specs.sql_tree.Statement.{IsValid}
use Rattle.squawk_linter.proofs.of_sql_tree.TreeLaws as tree
use Rattle.squawk_run.proofs.Runs.{took_fits}
use Rattle.squawk_run.specs.Ends as ends
use Rattle.squawk_run.specs.Statuses.{end_of}
use Rattle.squawk_cli.specs.Modes.{text_by}
use Rattle.squawk_cli.specs.Outcome.{WordsFor, ReadBy, ReadForMade, InputFor, SourceCause, SinkCause, IsDone}
use Rattle.squawk_run.specs.declared.status.Status.{Status}
use Rattle.squawk_run.specs.declared.status.Status.TheVariants.{Clean, Found, BadArguments, NotUtf8, TooLong, Unterminated, Syntax, ReadFault, WriteFault, NoMemory}

done_at : (s : Status) (words : List (List ℕ)) (t : List ℕ) (f g h k : ℕ) → WordsFor s words → (s ≡ TooLong → 2 ^ 32 ≤ length t)
    → InputFor s words t → SourceCause s f g → SinkCause s h k → IsAccepted words → ¬ (Rose f g) → ¬ (Rose h k)
    → IsUtf8 t → IsValid t → IsDone s
done_at Clean words t f g h k w long i source sink taken ns nk u v = tt
done_at Found words t f g h k w long i source sink taken ns nk u v = tt
done_at BadArguments words t f g h k w long i source sink taken ns nk u v = absurd (w taken)
done_at NotUtf8 words t f g h k w long i source sink taken ns nk u v = i.0 u
done_at TooLong words t f g h k w long i source sink taken ns nk u v =
    let most : 2 ^ 32 ≤ length t = long refl in let short = v.2.short in let same = ap length v.1 in omega arith
done_at (Unterminated at) words t f g h k w long i source sink taken ns nk u v =
    tokens.not_both t v.0.toks at (subst (λ (x : Text). Lexed x v.0.toks) v.1 v.2.lexed) i.2
done_at (Syntax at) words t f g h k w long i source sink taken ns nk u v = tree.not_both v.0 t at v.1 v.2 i.1
done_at ReadFault words t f g h k w long i source sink taken ns nk u v = absurd (ns source)
done_at WriteFault words t f g h k w long i source sink taken ns nk u v = absurd (nk sink)
done_at NoMemory words t f g h k w long i source sink taken ns nk u v = tt

-- of an input the text is what is left of the source; a made text is never too long
pub is_done : (s : Status) (words : List (List ℕ)) (generate : Option ℕ) (a b : Option (List ℕ)) (f g h k : ℕ) → WordsFor s words → ReadBy generate s a b
    → IfSome (text_by generate a) (λ t. InputFor s words t) → SourceCause s f g → SinkCause s h k → IsAccepted words → ¬ (Rose f g) → ¬ (Rose h k)
    → IfSome (text_by generate a) (λ t. IsUtf8 t → IsValid t → IsDone s)
is_done s words (Some n) a b f g h k w r i source sink taken ns nk =
    done_at s words (made n) f g h k w (λ e. absurd (subst (λ x. ReadForMade x a b) e r)) i source sink taken ns nk
is_done s words None None b f g h k w r i source sink taken ns nk = tt
is_done s words None (Some t) b f g h k w r i source sink taken ns nk =
    done_at s words t f g h k w (λ e. took_fits t b (2 ^ 32) (subst (λ x. ends.ReadFor (end_of x) (Some t) b) e r)) i source sink taken ns nk
