-- A text that ends in a Blank.
use Rattle.std.proofs.Common.{◌≡◌, ◌<◌, ℕ, false, List, [], ◌∷◌, ap, ◌∙◌, arith}
use Rattle.std.specs.Prelude.{not}
use Rattle.law_edit_cuts.specs.sql_token.declared.token.Tok.{Tok}
use Rattle.law_edit_cuts.specs.sql_token.declared.token.TokKind.{TokKind}
use Rattle.law_edit_cuts.specs.sql_token.Token.{Text, Leads, is_blank}
use Rattle.law_edit_tokens.specs.Exchange.{LastKeeps, keeps_before}
use Rattle.law_joined_texts.specs.Joined.{EndsInBlank}

-- Its last token stays where no blank follows it.
pub blank_keeps : (ks : List Tok) (b : ℕ) → EndsInBlank ks → is_blank b ≡ false → LastKeeps ks b
blank_keeps [] b blank ends = tt
blank_keeps (k ∷ []) b blank ends = ap (λ (x : TokKind). keeps_before x b) blank ∙ ap not ends
blank_keeps (k ∷ l ∷ ks) b blank ends = blank_keeps (l ∷ ks) b blank ends

-- It has a byte.
pub some_byte : (t : Text) (i e : ℕ) (ks : List Tok) → Leads t i ks e → EndsInBlank ks → i < e
some_byte t i e [] lead blank = absurd blank
some_byte t i e (k ∷ []) lead blank = let before = lead.1.before in omega (arith, lead.2)
some_byte t i e (k ∷ l ∷ ks) lead blank = let before = lead.1.before in let rest = some_byte t k.end e (l ∷ ks) lead.2 blank in omega arith
