-- Where nothing fails, a valid text is answered.
use Rattle.std.proofs.Common.{◌≡◌, ℕ, ◌<◌, ◌^◌, List, length, None, Some, IfSome, ap, subst, arith}
use Rattle.std.specs.declared.option.Option.{Option}
use Rattle.std.specs.Str.{IsUtf8}
use Rattle.squawk_run.specs.devices.Faults.{Rose}
use Rattle.law_next_fix.specs.sql_token.Token.{Text, Lexed}
use Rattle.law_next_fix.proofs.of_sql_token.TokenLaws as tokens
use Rattle.law_next_fix.specs.sql_tree.Statement.{IsValid}
use Rattle.law_next_fix.proofs.of_sql_tree.TreeLaws as tree
use Rattle.squawk_run.proofs.Runs.{done_by}
use Rattle.squawk_run.specs.Ends.{Finished, Refused, Stopped, IsDone, ReadFor, SinkCause, SourceCause, WordsFor}
use Rattle.squawk_run.specs.declared.stop.Stop.TheVariants as stop
use Rattle.squawk_run.specs.TextChoices.{AreTaken}
use Rattle.squawk_run.specs.Statuses.{end_of}
use Rattle.squawk_run.specs.declared.status.Status.{Status}
use Rattle.squawk_run.specs.declared.status.Status.TheVariants.{Clean, Found, BadArguments, NotUtf8, TooLong, Unterminated, Syntax, ReadFault, WriteFault, NoMemory}
use Rattle.squawk_fix.specs.Outcome.{AnsweredFor}

short_of : (t : List ℕ) → IsValid t → length t < 2 ^ 32
short_of t v = let short = v.2.short in let same = ap length v.1 in omega arith

-- a valid text is not refused
not_refused : (s : Status) (words : List (List ℕ)) (t : List ℕ) (old new : Option (List ℕ)) (P : ℕ → Type 0) → AnsweredFor s words t old new P → IsValid t → end_of s ≡ Refused → ⊥
not_refused Clean words t old new P a v e = let f : Finished ≡ Refused = e in cc
not_refused Found words t old new P a v e = let f : Finished ≡ Refused = e in cc
not_refused BadArguments words t old new P a v e = let f : Stopped stop.BadArguments ≡ Refused = e in cc
not_refused NotUtf8 words t old new P a v e = let f : Stopped stop.NotUtf8 ≡ Refused = e in cc
not_refused TooLong words t old new P a v e = let f : Stopped stop.TooLong ≡ Refused = e in cc
not_refused (Unterminated at) words t old new P a v e = tokens.not_both t v.0.toks at (subst (λ (x : Text). Lexed x v.0.toks) v.1 v.2.lexed) a.2
not_refused (Syntax at) words t old new P a v e = tree.not_both v.0 t at v.1 v.2 a.1
not_refused ReadFault words t old new P a v e = let f : Stopped stop.ReadFault ≡ Refused = e in cc
not_refused WriteFault words t old new P a v e = let f : Stopped stop.WriteFault ≡ Refused = e in cc
not_refused NoMemory words t old new P a v e = let f : Stopped stop.NoMemory ≡ Refused = e in cc

-- an input that is UTF-8 is not refused for its bytes
not_bytes : (s : Status) (words : List (List ℕ)) (t : List ℕ) (old new : Option (List ℕ)) (P : ℕ → Type 0) → AnsweredFor s words t old new P → IsUtf8 t → end_of s ≡ Stopped stop.NotUtf8 → ⊥
not_bytes Clean words t old new P a u e = let f : Finished ≡ Stopped stop.NotUtf8 = e in cc
not_bytes Found words t old new P a u e = let f : Finished ≡ Stopped stop.NotUtf8 = e in cc
not_bytes BadArguments words t old new P a u e = let f : Stopped stop.BadArguments ≡ Stopped stop.NotUtf8 = e in cc
not_bytes NotUtf8 words t old new P a u e = a.1 u
not_bytes TooLong words t old new P a u e = let f : Stopped stop.TooLong ≡ Stopped stop.NotUtf8 = e in cc
not_bytes (Unterminated at) words t old new P a u e = let f : Refused ≡ Stopped stop.NotUtf8 = e in cc
not_bytes (Syntax at) words t old new P a u e = let f : Refused ≡ Stopped stop.NotUtf8 = e in cc
not_bytes ReadFault words t old new P a u e = let f : Stopped stop.ReadFault ≡ Stopped stop.NotUtf8 = e in cc
not_bytes WriteFault words t old new P a u e = let f : Stopped stop.WriteFault ≡ Stopped stop.NotUtf8 = e in cc
not_bytes NoMemory words t old new P a u e = let f : Stopped stop.NoMemory ≡ Stopped stop.NotUtf8 = e in cc

pub is_done : (s : Status) (words : List (List ℕ)) (a b old new : Option (List ℕ)) (P : ℕ → Type 0) (f g h k : ℕ) → WordsFor (end_of s) (AreTaken words) → ReadFor (end_of s) a b
    → IfSome a (λ t. AnsweredFor s words t old new P) → SourceCause (end_of s) f g → SinkCause (end_of s) h k → AreTaken words → ¬ (Rose f g) → ¬ (Rose h k)
    → IfSome a (λ t. IsUtf8 t → IsValid t → IsDone (end_of s))
is_done s words None b old new P f g h k w r i source sink taken ns nk = tt
is_done s words (Some t) b old new P f g h k w r i source sink taken ns nk = λ u v.
    done_by (end_of s) (AreTaken words) t b f g h k w r source sink taken ns nk (short_of t v) (not_refused s words t old new P i v) (not_bytes s words t old new P i u)
