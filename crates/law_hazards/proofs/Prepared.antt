-- A statement whose tokens begin with COMMIT PREPARED or ROLLBACK PREPARED ends no transaction of its own.
use Rattle.std.proofs.Common.{◌≡◌, ◌∙◌, sym, ap, subst, refl, arith, ℕ, suc, ◌-◌, Bool, true, false, cond, List, [], ◌∷◌, length, take, Option, Some, None, is_some, unwrap_or, option_and_then}
use Rattle.std.proofs.lemmas.Bool.{false≢true}
use Rattle.law_renumber.specs.sql_keyword.Same.{same_keyword}
use Rattle.law_renumber.specs.sql_keyword.declared.words.Keyword.{Keyword}
use Rattle.law_renumber.specs.sql_keyword.declared.words.TheConstants.Keyword as keyword
use Rattle.law_renumber.specs.sql_token.declared.terminal.Terminal.{Terminal}
use Rattle.law_renumber.specs.sql_token.declared.token.Span.{Span}
use Rattle.law_renumber.specs.sql_token.Depth.{span_of}
use Rattle.law_renumber.specs.sql_token.Sound.{is_sound}
use Rattle.law_renumber.specs.sql_token.Terminal.{is_keyword, is_semicolon, terminals}
use Rattle.law_renumber.specs.sql_tree.declared.kinds.StmtKind.{StmtKind}
use Rattle.law_renumber.specs.sql_tree.declared.nodes.Body.{Body}
use Rattle.law_renumber.specs.sql_tree.declared.nodes.Body.TheVariants as body
use Rattle.law_renumber.specs.sql_tree.declared.nodes.Stmt.{Stmt}
use Rattle.law_renumber.specs.sql_tree.Forms.{led_by, one_word_kind, rows_of, take_part}
use Rattle.law_renumber.specs.sql_tree.Statement.{Tree, body_by, body_shape_of, final_kind, form_from, form_of, from_verb, front_by, kind_and_body, last_of, statement, stmt_in, without_semicolon}
use Rattle.law_hazards.specs.Words.{begin_with, statement_tokens}
use Rattle.law_hazards.proofs.Begun.{IsBegun, Says, begun, key}
use Rattle.law_hazards.proofs.Reading.{IsRead}

-- ---- forms

-- It is the form of a statement that ends no transaction.
abbrev EndsNothing : Option (StmtKind × Body) → Type 0
EndsNothing o = unwrap_or (option_and_then (λ (f : StmtKind × Body). Some f.1) o) body.Kept ≡ body.End false false

-- a word that makes such a form with the word PREPARED behind it
abbrev IsPreparedWord : Keyword → Type 0
IsPreparedWord word = (m n : ℕ) (ts : List Terminal) → EndsNothing (form_of (key word m ∷ key keyword.PREPARED n ∷ ts))

commit_form : IsPreparedWord keyword.COMMIT
unfolding form_of from_verb form_from front_by led_by one_word_kind rows_of take_part kind_and_body body_shape_of final_kind body_by is_keyword same_keyword
commit_form m n ts = refl

rollback_form : IsPreparedWord keyword.ROLLBACK
unfolding form_of from_verb form_from front_by led_by one_word_kind rows_of take_part kind_and_body body_shape_of final_kind body_by is_keyword same_keyword
rollback_form m n ts = refl

-- the same words are left without the semicolon
shortened : (x : Terminal) (n : ℕ) (ts : List Terminal) → (us : List Terminal) × (without_semicolon (x ∷ key keyword.PREPARED n ∷ ts) ≡ x ∷ key keyword.PREPARED n ∷ us)
unfolding is_semicolon
shortened x n [] = ([], refl)
shortened x n (t ∷ ts) = by (is_semicolon (last_of (x ∷ key keyword.PREPARED n ∷ t ∷ ts)))
  where
    by : (b : Bool)
        → (us : List Terminal) × (cond b (take (length (x ∷ key keyword.PREPARED n ∷ t ∷ ts) - 1) (x ∷ key keyword.PREPARED n ∷ t ∷ ts)) (x ∷ key keyword.PREPARED n ∷ t ∷ ts) ≡ x ∷ key keyword.PREPARED n ∷ us)
    by true =
        let size : length (x ∷ key keyword.PREPARED n ∷ t ∷ ts) - 1 ≡ suc (suc (length ts)) = omega arith in
        (take (length ts) (t ∷ ts), ap (λ m. take m (x ∷ key keyword.PREPARED n ∷ t ∷ ts)) size)
    by false = (t ∷ ts, refl)

-- ---- a statement

module _ (word : Keyword) (form : IsPreparedWord word) where
  form_ends_nothing : (own : List Terminal) → IsBegun word keyword.PREPARED own → EndsNothing (form_of (without_semicolon own))
  form_ends_nothing own b =
      let short = shortened (key word b.m) b.n b.rest in
      subst (λ us. EndsNothing (form_of us)) (sym (ap without_semicolon b.is ∙ short.1)) (form b.m b.n short.0)

  by_form : (span : Span) (o : Option (StmtKind × Body)) (s : Stmt) → EndsNothing o → option_and_then (λ f. Some (stmt_in span f)) o ≡ Some s → s.body ≡ body.End false false
  by_form span None s nothing h = absurd (false≢true (ap is_some h))
  by_form span (Some f) s nothing h = sym (ap (λ (o : Option Stmt). (unwrap_or o s).body) h) ∙ nothing

  body_is : (own : List Terminal) (s : Stmt) → statement own ≡ Some s → EndsNothing (form_of (without_semicolon own)) → s.body ≡ body.End false false
  unfolding statement
  body_is own s h nothing = by (is_sound own) h
    where
      by : (b : Bool) → cond b (option_and_then (λ f. Some (stmt_in (span_of own) f)) (form_of (without_semicolon own))) None ≡ Some s → s.body ≡ body.End false false
      by true h = by_form (span_of own) (form_of (without_semicolon own)) s nothing h
      by false h = absurd (false≢true (ap is_some h))

  module _ (tree : Tree) (s : Stmt) where
    span_is : (own : List Terminal) → statement own ≡ Some s → (s.first ≡ (span_of own).first) × (s.last ≡ (span_of own).last)
    unfolding statement
    span_is own h = by (is_sound own) (form_of (without_semicolon own)) h
      where
        by : (b : Bool) (o : Option (StmtKind × Body)) → cond b (option_and_then (λ f. Some (stmt_in (span_of own) f)) o) None ≡ Some s
            → (s.first ≡ (span_of own).first) × (s.last ≡ (span_of own).last)
        by true None h = absurd (false≢true (ap is_some h))
        by true (Some f) h = (sym (ap (λ (o : Option Stmt). (unwrap_or o s).first) h), sym (ap (λ (o : Option Stmt). (unwrap_or o s).last) h))
        by false o h = absurd (false≢true (ap is_some h))

    prepared : IsRead (terminals tree.text tree.toks) s → Says tree word keyword.PREPARED s.first s.last → s.body ≡ body.End false false
    prepared read says =
        let span = span_is read.own read.is_statement in
        body_is read.own s read.is_statement
        (form_ends_nothing read.own
        (begun tree word keyword.PREPARED read.before read.own read.after read.parts
        (subst (λ n. Says tree word keyword.PREPARED (span_of read.own).first n) span.1 (subst (λ n. Says tree word keyword.PREPARED n s.last) span.0 says))))

pub commits_prepared : (tree : Tree) (s : Stmt) → IsRead (terminals tree.text tree.toks) s → begin_with tree.text (keyword.COMMIT ∷ keyword.PREPARED ∷ []) (statement_tokens tree s) ≡ true
    → s.body ≡ body.End false false
commits_prepared = prepared keyword.COMMIT commit_form

pub rolls_prepared_back : (tree : Tree) (s : Stmt) → IsRead (terminals tree.text tree.toks) s → begin_with tree.text (keyword.ROLLBACK ∷ keyword.PREPARED ∷ []) (statement_tokens tree s) ≡ true
    → s.body ≡ body.End false false
rolls_prepared_back = prepared keyword.ROLLBACK rollback_form
