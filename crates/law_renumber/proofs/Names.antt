-- Other numbers alone, and words in the place of names, keep what reading sees.
use Rattle.std.proofs.Common.{◌≡◌, ◌∙◌, ap, sym, refl, Bool, true, false, ◌&&◌, List, [], ◌∷◌, map}
use Rattle.std.specs.Prelude.{if◌then◌else◌}
use Rattle.sql_token.specs.declared.terminal.Symbol.{Symbol}
use Rattle.sql_token.specs.declared.terminal.Symbol.TheVariants as s
use Rattle.std.specs.Option.{option_map}
use Rattle.sql_token.specs.declared.terminal.Terminal.{Terminal}
use Rattle.sql_token.specs.Depth.{statements}
use Rattle.sql_token.specs.Terminal.{terminals}
use Rattle.sql_tree.specs.Statement.{statement, all_statements, read_tokens}
use Rattle.sql_tree.specs.ActionPieces.{is_word_symbol}
use Rattle.law_renumber.specs.Renumber.{seen, renumber}
use Rattle.law_renumber.specs.Names.{NumbersKeep, NumbersKeepOptions, is_quoted_symbol, word_for, as_words, WordsKeep, OthersStay, same, StatementsReadAlike, TextsReadAlike}
use Rattle.law_renumber.specs.Moved.{stmt_moved}
use Rattle.law_renumber.specs.Trees.{StatementRenumbers}
use Rattle.law_renumber.specs.Texts.{reading_moved, TextRenumbers}
use Rattle.law_renumber.proofs.Seen.{numbers, for_kept}
use Rattle.law_renumber.proofs.Options.{by_words, text_by_all}
use Rattle.law_renumber.proofs.Statements.{statement_changed, statement_renumbers}
use Rattle.law_renumber.proofs.Readings.{reading_renumbers, text_renumbers}

pub numbers_keep : NumbersKeep
numbers_keep f = record { symbol = λ t. refl; number = λ t. refl }

pub numbers_keep_options : NumbersKeepOptions
numbers_keep_options f ts = by_words (renumber f) (λ t. refl) ts

word_seen : (x : Symbol) → seen (word_for x) ≡ seen x
word_seen s.Quoted = refl
word_seen _ = refl

chosen_seen : (b : Bool) (x : Symbol) → seen (if b then word_for x else x) ≡ seen x
chosen_seen true x = word_seen x
chosen_seen false x = refl

pub words_keep : WordsKeep
words_keep chosen f = record { symbol = λ t. chosen_seen (chosen t.number) t.symbol; number = λ t. refl }

unquoted_stays : (x : Symbol) → is_quoted_symbol x ≡ false → is_word_symbol (word_for x) ≡ is_word_symbol x
unquoted_stays s.Quoted is = cc
unquoted_stays _ is = refl

other_stays : (b : Bool) (x : Symbol) → (b && is_quoted_symbol x) ≡ false → is_word_symbol (if b then word_for x else x) ≡ is_word_symbol x
other_stays true x is = unquoted_stays x is
other_stays false x is = refl

pub others_stay : OthersStay
others_stay chosen f t is = other_stays (chosen t.number) t.symbol is

-- ---- the same trees

pub unnumbered : (ts : List Terminal) → map (renumber same) ts ≡ ts
unnumbered [] = refl
unnumbered (t ∷ ts) = ap (λ (xs : List Terminal). t ∷ xs) (unnumbered ts)

-- A tree whose numbers stay is the same tree.
statement_same : (t : Terminal) (ts : List Terminal) → option_map (stmt_moved same) (statement (t ∷ ts)) ≡ statement (t ∷ ts)
statement_same t ts = sym (statement_renumbers same t ts) ∙ ap statement (unnumbered (t ∷ ts))

reading_same : (ts : List Terminal) → reading_moved same (all_statements (statements ts)) ≡ all_statements (statements ts)
reading_same ts =
    sym (reading_renumbers (numbers same) ts (text_by_all (renumber same) ts (numbers_keep_options same ts)))
    ∙ ap (λ (xs : List Terminal). all_statements (statements xs)) (unnumbered ts)

pub statements_read_alike : StatementsReadAlike
statements_read_alike chosen t ts h =
    for_kept StatementRenumbers statement_changed (as_words chosen same) same (words_keep chosen same) t ts h ∙ statement_same t ts

pub texts_read_alike : TextsReadAlike
unfolding read_tokens
texts_read_alike chosen t u ks ls is h =
    for_kept TextRenumbers text_renumbers (as_words chosen same) same (words_keep chosen same) t u ks ls is h ∙ reading_same (terminals t ks)
