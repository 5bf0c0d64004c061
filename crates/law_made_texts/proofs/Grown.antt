-- A made text with one group more has a tree where it has one without.
use Rattle.std.proofs.Common.{◌≡◌, ◌∙◌, ℕ, zero, suc, ◌+◌, ◌*◌, ◌%◌, ◌<◌, ◌≤◌, ◌^◌, Bool, true, false, List, [], ◌∷◌, ◌++◌, length, length-append, append-nil, codes, decimal, refl, ap, sym, subst, arith, lit<, if◌then◌else◌, Ok}
use Rattle.std.specs.Prelude.{◌==◌}
use Rattle.std.specs.Str.{IsUtf8}
use Rattle.law_joined_texts.specs.sql_token.Chunks.{chunks}
use Rattle.law_joined_texts.specs.sql_token.Depth.{statements}
use Rattle.law_joined_texts.specs.sql_token.Terminal.{terminals}
use Rattle.law_joined_texts.specs.sql_token.Token.{Text, Leads, Lexed, begins_blank}
use Rattle.law_joined_texts.specs.sql_tree.declared.nodes.Stmt.{Stmt}
use Rattle.law_joined_texts.specs.sql_tree.Statement.{Tree, IsTree, IsValid, all_statements, read_tokens}
use Rattle.law_joined_texts.specs.law_edit_tokens.Exchange.{Fits, Made, made_text, made_toks}
use Rattle.law_joined_texts.specs.law_edit_tokens.Terminals.{made_terms}
use Rattle.law_joined_texts.proofs.of_law_edit_tokens.Made.{made_lead}
use Rattle.law_joined_texts.proofs.of_law_edit_tokens.Terminals.{made_terminals}
use Rattle.law_joined_texts.specs.Joined.{EndsInBlank, IsFinished, ends_in_semicolon, joined}
use Rattle.law_joined_texts.proofs.Joins.{finished_stays, trees_join}
use Rattle.squawk_generate.specs.Made.{group, group_by, made}
use Rattle.squawk_generate.proofs.MadeText.{made_is_text, made_is_utf8}
use Rattle.law_made_texts.proofs.Names.{IsNumber, decimal_number}
use Rattle.law_made_texts.proofs.Groups.{column_fits, column_made, column_text, constraint_fits, constraint_made, constraint_text, index_fits, index_made, index_text, table_fits, table_made, table_text}
use Rattle.law_made_texts.proofs.Readings.{SameSymbols, column_ends, column_read, column_same, constraint_ends, constraint_read, constraint_same, index_ends, index_read, index_same, read_of, reading, table_ends, table_read, table_same, terms_alike}
use Rattle.law_made_texts.specs.Valid.{MadeIsValid}

-- ---- groups

-- The text has a tree, and is finished; no blank is at its front.
record IsWhole (t : Text) : Type 0 where
  tree : Tree
  of_text : tree.text ≡ t
  read : IsTree tree
  finished : IsFinished tree

record IsGroup (t : Text) : Type 0 where
  whole : IsWhole t
  fresh : begins_blank true t ≡ false

is_read : (t : Text) (ps : List Made) (stmts : List Stmt) → terminals t (made_toks 0 ps) ≡ made_terms 0 ps → reading ps ≡ Ok stmts → read_tokens t (made_toks 0 ps) ≡ Ok stmts
unfolding read_tokens
is_read t ps stmts same read = ap (λ ts. all_statements (statements ts)) same ∙ read

terms_of : (ps : List Made) → terminals (made_text ps) (made_toks 0 ps) ≡ made_terms 0 ps
unfolding terminals
terms_of ps = made_terminals (made_text ps) 0 0 ps [] (sym (append-nil (made_text ps)))

-- tokens that are read as those of number 0 are a text with a tree
whole_of :
    (ps zs : List Made) (stmts : List Stmt) → Fits true ps [] → SameSymbols ps zs → reading zs ≡ Ok stmts → ends_in_semicolon (made_terms 0 zs) ≡ true →
    EndsInBlank (made_toks 0 ps) → length (made_text ps) < 2 ^ 32 → IsWhole (made_text ps)
whole_of ps zs stmts fits same read ends blank short =
    let t : Text = made_text ps in
    let zero' : 0 + length t ≡ length t = omega arith in
    let alike = terms_alike 0 ps zs same in
    let terms = terms_of ps in
    record {
      tree = record { text = t; toks = made_toks 0 ps; stmts = stmts };
      of_text = refl;
      read = record {
        short = short;
        lexed = subst (λ (e : ℕ). Leads t 0 (made_toks 0 ps) e) zero' (made_lead t 0 ps [] (sym (append-nil t)) fits);
        read = is_read t ps stmts terms (ap (λ ts. all_statements (statements ts)) alike ∙ read);
      };
      finished = record { semicolon = ap ends_in_semicolon (terms ∙ alike) ∙ ends; blank = blank };
    }

module _ (number : List ℕ) (is : IsNumber number) where
  of_made : (ps : List Made) (t : Text) → made_text ps ≡ t → (length (made_text ps) < 2 ^ 32 → IsWhole (made_text ps)) → begins_blank true (made_text ps) ≡ false → length t < 2 ^ 32 → IsGroup t
  of_made ps t same whole fresh short = subst IsGroup same (record { whole = whole (subst (λ (x : Text). length x < 2 ^ 32) (sym same) short); fresh = fresh })

  either : {a b : Text} (test : Bool) → (length a < 2 ^ 32 → IsGroup a) → (length b < 2 ^ 32 → IsGroup b) → length (if test then a else b) < 2 ^ 32 → IsGroup (if test then a else b)
  either true f g = f
  either false f g = g

  group_whole : (kind : ℕ) → length (group_by kind number) < 2 ^ 32 → IsGroup (group_by kind number)
  group_whole kind =
      either (kind == 0)
      (of_made (table_made number) _ (table_text number) (whole_of (table_made number) (table_made (codes "0")) _ (table_fits number is) (table_same number is) table_read table_ends refl) refl)
      (either (kind == 1)
      (of_made (index_made number) _ (index_text number) (whole_of (index_made number) (index_made (codes "0")) _ (index_fits number is) (index_same number is) index_read index_ends refl) refl)
      (either (kind == 2)
      (of_made (constraint_made number) _ (constraint_text number) (whole_of (constraint_made number) (constraint_made (codes "0")) _ (constraint_fits number is) (constraint_same number is) constraint_read constraint_ends refl) refl)
      (of_made (column_made number) _ (column_text number) (whole_of (column_made number) (column_made (codes "0")) _ (column_fits number is) (column_same number is) column_read column_ends refl) refl)))

group_is : (i : ℕ) → i < 2 ^ 32 → length (group i) < 2 ^ 32 → IsGroup (group i)
unfolding group
group_is i low short = group_whole (decimal i) (decimal_number i (omega arith)) (i % 4) short

-- ---- made texts

-- a whole text and then a group
one_more : (t u : Text) → IsWhole t → IsGroup u → length (t ++ u) < 2 ^ 32 → IsWhole (t ++ u)
one_more t u a g short =
    let b = g.whole in
    let same : (joined a.tree b.tree).text ≡ t ++ u = λ i. a.of_text i ++ b.of_text i in
    record {
      tree = joined a.tree b.tree;
      of_text = same;
      read = trees_join a.tree b.tree a.read a.finished b.read (ap (begins_blank true) b.of_text ∙ g.fresh) (subst (λ (x : Text). length x < 2 ^ 32) (sym same) short);
      finished = finished_stays a.tree b.tree a.read b.read b.finished;
    }

made_whole : (n : ℕ) → 128 * suc n < 2 ^ 32 → IsWhole (made (suc n))
unfolding made
made_whole zero low = (group_is 0 (lit< tt) (let h = (made_is_text 1 (omega arith)).short in omega arith)).whole
made_whole (suc n) low =
    let short : length (made (suc n) ++ group (suc n)) < 2 ^ 32 = let h = (made_is_text (suc (suc n)) (omega arith)).short in omega arith in
    one_more (made (suc n)) (group (suc n)) (made_whole n (omega arith))
    (group_is (suc n) (omega arith) (omega (arith, length-append (made (suc n)) (group (suc n))))) short

nothing_read : read_tokens [] [] ≡ Ok []
unfolding read_tokens terminals statements chunks
nothing_read = refl

pub made_is_valid : MadeIsValid
unfolding made
made_is_valid zero low = (made_is_utf8 0 (omega arith), (record { text = []; toks = []; stmts = [] }, refl, record { short = lit< tt; lexed = refl; read = nothing_read }))
made_is_valid (suc n) low = let w = made_whole n low in (made_is_utf8 (suc n) (omega arith), (w.tree, w.of_text, w.read))
