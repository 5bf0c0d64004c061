-- The edits of fixes, as new tokens: the word CONCURRENTLY, another type, a timeout in front.
use Rattle.std.specs.Prelude.{◌≡◌, ◌<◌, ℕ, ◌+◌, Bool, true, false, not, ◌==◌, List, [], ◌∷◌, ◌++◌, drop, length, slice_index, codes}
use Rattle.std.specs.List.{list_all}
use Rattle.law_renumber.specs.sql_token.declared.token.Tok.{Tok}
use Rattle.law_renumber.specs.sql_token.declared.token.TokKind.TheVariants.{Blank, Word, Op, Str, Punct}
use Rattle.law_renumber.specs.sql_token.Terminal.{is_significant}
use Rattle.law_renumber.specs.sql_token.Token.{Text, Lexed, At, is_word, is_blank}
use Rattle.law_edit_tokens.specs.Exchange.{exchanged, Made, made_text, made_toks, reread, Cut, keeps_before, LastKeeps, IsPlainWord}

-- ` concurrently`
abbrev pub concurrently_made : List Made
concurrently_made = (Blank, codes " ") ∷ (Word, codes "concurrently") ∷ []

-- after a name or a word, where no word goes on
abbrev pub ConcurrentlyRereads : Type 0
ConcurrentlyRereads =
    (t : Text) (a : ℕ) (front after : List Tok) → Cut t a a front [] after → 0 < a → LastKeeps front 32 → is_word (slice_index (drop a t) 0) ≡ false →
    Lexed (exchanged t a a (made_text concurrently_made))
    (reread front (made_toks a concurrently_made) a (a + length (made_text concurrently_made)) after)

-- One word in place of a run of tokens, where no word goes on after it, and the token before it lets it begin.
abbrev pub WordRereads : Type 0
WordRereads =
    (t w : Text) (a b : ℕ) (front run after : List Tok) → Cut t a b front run after → a < b → IsPlainWord w →
    LastKeeps front (slice_index w 0) → is_word (slice_index (drop b t) 0) ≡ false →
    Lexed (exchanged t a b (made_text ((Word, w) ∷ []))) (reread front (made_toks a ((Word, w) ∷ [])) b (a + length (made_text ((Word, w) ∷ []))) after)

-- set NAME = 'Ds'; and a line ending
abbrev pub set_made : Text → ℕ → Text → List Made
set_made name digit ending =
    (Word, codes "set") ∷ (Blank, codes " ") ∷ (Word, name) ∷ (Blank, codes " ") ∷ (Op, codes "=") ∷ (Blank, codes " ")
    ∷ (Str, 39 ∷ digit ∷ 115 ∷ 39 ∷ []) ∷ (Punct, codes ";") ∷ (Blank, ending) ∷ []

-- line feeds and carriage returns
pub record IsEnding (ending : Text) : Type 0 where
  pub blank : list_all is_blank ending ≡ true
  pub some : 0 < length ending

abbrev pub all_quiet : List Tok → Bool
all_quiet ks = list_all (λ k. not (is_significant k.kind)) ks

-- At the first significant token.
abbrev pub SetRereads : Type 0
SetRereads =
    (t name ending : Text) (digit a : ℕ) (front : List Tok) (k : Tok) (after : List Tok) → Cut t a a front [] (k ∷ after) →
    all_quiet front ≡ true → is_significant k.kind ≡ true → IsPlainWord name → (digit == 39) ≡ false → IsEnding ending →
    Lexed (exchanged t a a (made_text (set_made name digit ending)))
    (reread front (made_toks a (set_made name digit ending)) a (a + length (made_text (set_made name digit ending))) (k ∷ after))

-- ---- what a word at the place of the edit gives by itself

-- No word goes on after a word.
abbrev pub WordEnds : Type 0
WordEnds = (t : Text) (i j : ℕ) → At t i Word j → is_word (slice_index (drop j t) 0) ≡ false

abbrev pub LastOfList : Type 0
LastOfList = (front : List Tok) (k : Tok) (b : ℕ) → keeps_before k.kind b ≡ true → LastKeeps (front ++ k ∷ []) b
