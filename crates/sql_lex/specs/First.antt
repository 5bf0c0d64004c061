-- What the first byte of a token tells of its kind.
use Rattle.std.specs.Prelude.{◌≡◌, ℕ, ◌==◌, true, false}
use Rattle.std.specs.Char.{is_ascii_digit}
use Rattle.sql_token.specs.Token.{is_blank, is_prefix, is_op, is_punct, begins_word}
use Rattle.sql_lex.specs.declared.class.TheConstants.{BLANK_FIRST, WORD_FIRST, LETTER_FIRST, DIGIT_FIRST, OPERATOR_FIRST, PUNCT_FIRST, QUOTE_FIRST, DOUBLE_FIRST}

-- no white space, comment, byte order mark, quote or `$` begins with b
pub record IsPlain (b : ℕ) : Type 0 where
  pub blank : is_blank b ≡ false
  pub mark : (b == 239) ≡ false
  pub dash : (b == 45) ≡ false
  pub slash : (b == 47) ≡ false
  pub quote : (b == 39) ≡ false
  pub double : (b == 34) ≡ false
  pub dollar : (b == 36) ≡ false

-- no string constant and no identifier with Unicode escapes begins with the letter b
pub record IsNoPrefix (b : ℕ) : Type 0 where
  pub plain : IsPlain b
  pub prefix : is_prefix b ≡ false
  pub small : (b == 117) ≡ false
  pub large : (b == 85) ≡ false

-- no number begins with b
pub record IsNoDigit (b : ℕ) : Type 0 where
  pub digit : is_ascii_digit b ≡ false
  pub point : (b == 46) ≡ false

-- no number and no word begins with b
pub record IsSign (b : ℕ) : Type 0 where
  pub other : IsNoPrefix b
  pub number : IsNoDigit b
  pub word : begins_word b ≡ false

-- a word begins with b, and no other token
pub record LeadsWord (b : ℕ) : Type 0 where
  pub other : IsNoPrefix b
  pub number : IsNoDigit b
  pub word : begins_word b ≡ true

-- a mark begins with b, and no other token
pub record LeadsPunct (b : ℕ) : Type 0 where
  pub sign : IsSign b
  pub operator : is_op b ≡ false
  pub mark : is_punct b ≡ true

-- what the class of a byte tells of it
pub record Tells (class b : ℕ) : Type 0 where
  pub blank : class ≡ BLANK_FIRST → is_blank b ≡ true
  pub word : class ≡ WORD_FIRST → IsNoPrefix b × IsNoDigit b × (begins_word b ≡ true)
  pub letter : class ≡ LETTER_FIRST → IsPlain b × IsNoDigit b × (begins_word b ≡ true)
  pub digit : class ≡ DIGIT_FIRST → IsNoPrefix b × (is_ascii_digit b ≡ true)
  pub operator : class ≡ OPERATOR_FIRST → IsSign b × (is_op b ≡ true)
  pub punct : class ≡ PUNCT_FIRST → IsSign b × (is_op b ≡ false) × (is_punct b ≡ true)
  pub quote : class ≡ QUOTE_FIRST → b ≡ 39
  pub double : class ≡ DOUBLE_FIRST → b ≡ 34
