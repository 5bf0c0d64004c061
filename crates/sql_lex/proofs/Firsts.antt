-- What a byte's tests tell of the tokens that begin with it.
use Rattle.std.proofs.Common.{◌≡◌, ℕ, ◌==◌, Bool, true, [], ◌∷◌}
use Rattle.std.specs.Char.{is_ascii_digit}
use Rattle.sql_token.specs.Token.{is_blank, is_prefix, begins_word}
use Rattle.sql_lex.specs.First.{IsPlain, IsNoPrefix, IsNoDigit, IsSign}
use Rattle.sql_lex.proofs.Tables.{none_of, all_false}

abbrev pub plain_tests : ℕ → Bool
plain_tests b = none_of (is_blank b ∷ (b == 239) ∷ (b == 45) ∷ (b == 47) ∷ (b == 39) ∷ (b == 34) ∷ (b == 36) ∷ [])

pub plain : (b : ℕ) → plain_tests b ≡ true → IsPlain b
plain b h =
    let f = all_false (is_blank b ∷ (b == 239) ∷ (b == 45) ∷ (b == 47) ∷ (b == 39) ∷ (b == 34) ∷ (b == 36) ∷ []) h in
    record { blank = f.0; mark = f.1.0; dash = f.1.1.0; slash = f.1.1.1.0; quote = f.1.1.1.1.0; double = f.1.1.1.1.1.0; dollar = f.1.1.1.1.1.1.0 }

abbrev pub prefix_tests : ℕ → Bool
prefix_tests b = none_of (is_prefix b ∷ (b == 117) ∷ (b == 85) ∷ [])

pub no_prefix : (b : ℕ) → IsPlain b → prefix_tests b ≡ true → IsNoPrefix b
no_prefix b p h = let f = all_false (is_prefix b ∷ (b == 117) ∷ (b == 85) ∷ []) h in record { plain = p; prefix = f.0; small = f.1.0; large = f.1.1.0 }

abbrev pub digit_tests : ℕ → Bool
digit_tests b = none_of (is_ascii_digit b ∷ (b == 46) ∷ [])

pub no_digit : (b : ℕ) → digit_tests b ≡ true → IsNoDigit b
no_digit b h = let f = all_false (is_ascii_digit b ∷ (b == 46) ∷ []) h in record { digit = f.0; point = f.1.0 }

-- a class whose bytes begin no number and no word
abbrev pub sign_tests : ℕ → Bool
sign_tests b = none_of (is_ascii_digit b ∷ (b == 46) ∷ begins_word b ∷ [])

pub sign : (b : ℕ) → IsNoPrefix b → sign_tests b ≡ true → IsSign b
sign b p h =
    let f = all_false (is_ascii_digit b ∷ (b == 46) ∷ begins_word b ∷ []) h in
    record { other = p; number = record { digit = f.0; point = f.1.0 }; word = f.1.1.0 }
