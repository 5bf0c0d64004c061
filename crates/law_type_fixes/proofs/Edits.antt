-- The edit of a fix: one replacement, and the text that it makes.
use Rattle.std.proofs.Common.{◌≡◌, ℕ, ◌+◌, ◌-◌, ◌<◌, ◌≤◌, cond, max, List, [], ◌∷◌, ◌++◌, length, take, drop, append-nil, sym, ap, ◌∙◌, subst, arith}
use Rattle.std.proofs.lemmas.Bool.Decides.{nat_tests}
use Rattle.std.proofs.lemmas.List.Elements.{All-head}
use Rattle.std.specs.Prelude.{nat_le, nat_lt, All}
use Rattle.pass_data_type.specs.sql_token.Token.{Text, Lexed}
use Rattle.pass_data_type.specs.sql_tree.Range.{span_range_of, token_at}
use Rattle.pass_data_type.specs.sql_tree.Statement.{Tree}
use Rattle.law_edit_types.specs.law_edit_tokens.Exchange.{exchanged, made_text}
use Rattle.law_edit_types.specs.Runs.{word_made, worded_text, IsApart}
use Rattle.pass_data_type.specs.lint_base.declared.edit.Edit.{Edit}
use Rattle.pass_data_type.specs.lint_base.Edits.{replacement}
use Rattle.pass_data_type.specs.lint_base.Fixes.{FixValue}
use Rattle.law_fixes.specs.Edited.{edited, place_moved}
use Rattle.law_type_fixes.specs.Mended.{AreApart, JoinsNone}
use Rattle.law_type_fixes.specs.Moved.{byte_moved}
use Rattle.law_type_fixes.specs.Stays.{replaced}
use Rattle.law_type_fixes.proofs.Tokens.{bounds}

one_edited : (t w : Text) (a b : ℕ) → edited t (replacement (record { start = a; end = b }) w ∷ []) ≡ exchanged t a b (made_text (word_made w))
one_edited t w a b = let e : a - 0 ≡ a = omega arith in let nil = sym (append-nil w) in λ i. take (e i) t ++ (nil i ++ drop b t)

one_moved : (w : Text) (a b x : ℕ) → a ≤ b → place_moved (replacement (record { start = a; end = b }) w ∷ []) x ≡ byte_moved (record { from = a; until = b; size = length w }) x
one_moved w a b x h = number (length w)
  where
    number : (n : ℕ) → cond (nat_le b x) (x + n - (b - a)) x ≡ cond (nat_lt x b) x (a + n + (x - b))
    number n = grind (arith, nat_tests)

-- the edits of a fix that puts the word in the place of the tokens n to m
pub record PutsWord (tree : Tree) (n m : ℕ) (w : Text) (f : FixValue) : Type 0 where
  pub order : n ≤ m
  pub within : m < length tree.toks
  pub edits : f.edits ≡ replacement (record { start = (token_at tree.toks n).start; end = (token_at tree.toks m).end }) w ∷ []
  pub text : edited tree.text f.edits ≡ worded_text tree n m w
  pub place : (x : ℕ) → place_moved f.edits x ≡ byte_moved (replaced tree n m w) x
  pub apart : AreApart tree.text f.edits → IsApart tree n m

pub puts_word : (tree : Tree) (n m : ℕ) (w : Text) (f : FixValue) → Lexed tree.text tree.toks → n ≤ m → m < length tree.toks →
    f.edits ≡ replacement (span_range_of tree.toks n m) w ∷ [] → PutsWord tree n m w f
puts_word tree n m w f lexed order within has =
    let b = bounds tree.text tree.toks n m w lexed order within in
    let grows = b.grows in
    let end : max (token_at tree.toks n).start (token_at tree.toks m).end ≡ (token_at tree.toks m).end = omega arith in
    let edits : f.edits ≡ replacement (record { start = (token_at tree.toks n).start; end = (token_at tree.toks m).end }) w ∷ [] =
    has ∙ (λ i. replacement (record { start = (token_at tree.toks n).start; end = end i }) w ∷ []) in
    record {
      order = order;
      within = within;
      edits = edits;
      text = ap (λ (x : List Edit). edited tree.text x) edits ∙ one_edited tree.text w (token_at tree.toks n).start (token_at tree.toks m).end;
      place = λ x. ap (λ (es : List Edit). place_moved es x) edits ∙ one_moved w (token_at tree.toks n).start (token_at tree.toks m).end x (omega (arith, grows));
      apart = λ h. joins (All-head (JoinsNone tree.text) (replacement (record { start = (token_at tree.toks n).start; end = (token_at tree.toks m).end }) w) []
          (subst (λ (x : List Edit). All (JoinsNone tree.text) x) edits h));
    }
  where
    joins : JoinsNone tree.text (replacement (record { start = (token_at tree.toks n).start; end = (token_at tree.toks m).end }) w) → IsApart tree n m
    joins j = record { before = j.before; after = j.after }
