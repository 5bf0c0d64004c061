-- Soundness by a stack, which has of each open bracket, the innermost first, whether it is round.
use Rattle.std.specs.Prelude.{◌≡◌, Bool, true, false, ◌&&◌, nat_le, if◌then◌else◌, List, [], ◌∷◌, length}
use Rattle.sql_token.specs.declared.terminal.Terminal.{Terminal}
use Rattle.sql_token.specs.sql_keyword.declared.words.TheConstants.Keyword.{BEGIN}
use Rattle.sql_token.specs.Terminal.{is_opener, is_closer, is_round, is_unicode_name, is_keyword}
use Rattle.sql_token.specs.Sound.{same, begins_atomic}

abbrev pub none_open : List Bool → Bool
none_open [] = true
none_open (b ∷ bs) = false

abbrev pub popped : List Bool → Bool → (List Bool → Bool) → Bool
popped [] round more = false
popped (b ∷ bs) round more = if same b round then more bs else false

abbrev pub nests : List Bool → List Terminal → Bool
nests st [] = none_open st
nests st (t ∷ ts) =
    if is_unicode_name t then false
    else (if is_opener t then (if nat_le 128 (length st) then false else nests (is_round t ∷ st) ts)
    else (if is_closer t then popped st (is_round t) (λ rest. nests rest ts)
    else (if none_open st && begins_atomic t ts then false else nests st ts)))

-- no bracket, no identifier with Unicode escapes and no BEGIN
pub record StandsAnywhere (t : Terminal) : Type 0 where
  pub name : is_unicode_name t ≡ false
  pub opener : is_opener t ≡ false
  pub closer : is_closer t ≡ false
  pub begin : is_keyword BEGIN t ≡ false
