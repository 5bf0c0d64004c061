-- A token whose name is the text of no key word is none.
use Rattle.std.proofs.Common.{◌≡◌, ℕ, Bool, true, false, cond, List, [], ◌∷◌, map, refl, sym, ap, ◌∙◌, arith, Option, None}
use Rattle.std.proofs.lemmas.Bool.Decides.{nat_tests}
use Rattle.std.proofs.lemmas.Str.Ascii.{lowercase-lowercase}
use Rattle.std.specs.Prelude.{◌==◌, ◌&&◌, length, slice_index}
use Rattle.std.specs.Char.{to_ascii_lowercase}
use Rattle.std.specs.List.{find}
use Rattle.std.specs.Str.{bytes_eq}
use Rattle.pass_data_type.specs.sql_keyword.declared.words.Keyword.{Keyword}
use Rattle.pass_data_type.specs.sql_keyword.Find.{keyword_of}
use Rattle.pass_data_type.specs.sql_keyword.Texts.{all_keywords, text}
use Rattle.pass_data_type.specs.sql_token.declared.terminal.Symbol.TheVariants as s
use Rattle.pass_data_type.specs.sql_token.declared.token.TokKind.{TokKind}
use Rattle.pass_data_type.specs.sql_token.declared.token.TokKind.TheVariants as k
use Rattle.pass_data_type.specs.sql_token.Terminal.{symbol_of, number_symbol, operator_symbol, punct_symbol, word_symbol}
use Rattle.pass_data_type.specs.sql_name.Name.{full_name, unquoted}
use Rattle.law_edit_types.specs.Names.{is_key_word}

-- the key word whose text in lower case is l
abbrev in_lower : List ℕ → Option Keyword
in_lower l = find (λ w. bytes_eq l (map to_ascii_lowercase (text w))) all_keywords

lower_is : (bs : List ℕ) → keyword_of bs ≡ in_lower (map to_ascii_lowercase bs)
unfolding keyword_of
lower_is bs = refl

-- no key word begins with a quote
quoted_none : (bs : List ℕ) → in_lower (34 ∷ bs) ≡ None
unfolding all_keywords text
quoted_none bs = refl

-- ---- words

all_lower_twice : (bs : List ℕ) → map to_ascii_lowercase (map to_ascii_lowercase bs) ≡ map to_ascii_lowercase bs
all_lower_twice [] = refl
all_lower_twice (b ∷ bs) = let p = lowercase-lowercase b in let q = all_lower_twice bs in λ i. p i ∷ q i

-- A word is a key word only where its name is the text of one.
word_is_free : (bs : List ℕ) → keyword_of (full_name bs) ≡ None → keyword_of bs ≡ None
unfolding full_name
word_is_free [] free = free
word_is_free (b ∷ bs) free = by (b == 34) refl free
  where
    begins : (b == 34) ≡ true → b ≡ 34
    begins h = grind (arith, nat_tests)

    lower_quote : (b == 34) ≡ true → to_ascii_lowercase b ≡ 34
    lower_quote h = ap to_ascii_lowercase (begins h)

    by : (c : Bool) → (b == 34) ≡ c → keyword_of (cond c (unquoted bs) (map to_ascii_lowercase (b ∷ bs))) ≡ None → keyword_of (b ∷ bs) ≡ None
    by true h free = lower_is (b ∷ bs) ∙ ap (λ (x : ℕ). in_lower (x ∷ map to_ascii_lowercase bs)) (lower_quote h) ∙ quoted_none (map to_ascii_lowercase bs)
    by false h free =
        lower_is (b ∷ bs) ∙ sym (lower_is (map to_ascii_lowercase (b ∷ bs)) ∙ ap in_lower (all_lower_twice (b ∷ bs))) ∙ free

-- ---- other tokens

number_not : (bs : List ℕ) → is_key_word (number_symbol bs) ≡ false
number_not bs = by (slice_index bs 0 == 49 && length bs == 1)
  where
    by : (c : Bool) → is_key_word (cond c s.One s.Number) ≡ false
    by true = refl
    by false = refl

operator_not : (bs : List ℕ) → is_key_word (operator_symbol bs) ≡ false
operator_not bs = by (slice_index bs 0 == 61) (length bs == 1) (slice_index bs 0 == 42 && length bs == 1)
  where
    by : (a b c : Bool) → is_key_word (cond a (cond b s.Equals s.EqualsOperator) (cond c s.Star s.Operator)) ≡ false
    by true true c = refl
    by true false c = refl
    by false b true = refl
    by false b false = refl

punct_not : (b : ℕ) → is_key_word (punct_symbol b) ≡ false
punct_not b = by (b == 40) (b == 41) (b == 91) (b == 93) (b == 44) (b == 59) (b == 46)
  where
    by : (a b c d e f g : Bool) →
        is_key_word (cond a s.OpenRound (cond b s.CloseRound (cond c s.OpenSquare (cond d s.CloseSquare (cond e s.Comma (cond f s.Semicolon (cond g s.Dot s.Colon))))))) ≡ false
    by true b c d e f g = refl
    by false true c d e f g = refl
    by false false true d e f g = refl
    by false false false true e f g = refl
    by false false false false true f g = refl
    by false false false false false true g = refl
    by false false false false false false true = refl
    by false false false false false false false = refl

-- No token whose name is none of their texts is a key word.
pub free_symbol : (kind : TokKind) (bs : List ℕ) → keyword_of (full_name bs) ≡ None → is_key_word (symbol_of kind bs) ≡ false
unfolding symbol_of
free_symbol k.Word bs free = ap (λ (o : Option Keyword). is_key_word (word_symbol o)) (word_is_free bs free)
free_symbol k.Quoted bs free = refl
free_symbol k.Str bs free = refl
free_symbol k.UName bs free = refl
free_symbol k.Dollar bs free = refl
free_symbol k.Param bs free = refl
free_symbol k.Number bs free = number_not bs
free_symbol k.Op bs free = operator_not bs
free_symbol k.Punct bs free = punct_not (slice_index bs 0)
free_symbol _ bs free = refl
