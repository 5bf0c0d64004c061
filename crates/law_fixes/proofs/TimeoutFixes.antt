-- The fixes that set a timeout in front of a text.
use Rattle.std.proofs.Common.{◌≡◌, ◌≢◌, ◌⊎◌, inl, inr, ℕ, zero, suc, ◌+◌, ◌-◌, ◌<◌, ◌≤◌, ◌^◌, Bool, true, false, cond, List, [], ◌∷◌, ◌++◌, map, length, length-append, get_or, take, drop, append_assoc, append-nil, sym, refl, ap, ◌∙◌, subst, arith, Some, None}
use Rattle.std.proofs.lemmas.Bool.Decides.{nat_tests}
use Rattle.std.proofs.lemmas.Bool.{and_from}
use Rattle.std.proofs.lemmas.List.{drop-drop, drop_at, take_at, get_or-append-add, get_or_at}
use Rattle.std.proofs.lemmas.List.Elements.{All-nil, All-append}
use Rattle.std.specs.Prelude.{All, ◌==◌, ◌&&◌, ◌||◌, not, nat_lt, codes}
use Rattle.std.specs.List.{position_or_len}
use Rattle.std.specs.Str.{bytes_eq}
use Rattle.pass_concurrent.specs.text_pos.declared.ending.LineEnding.{LineEnding}
use Rattle.pass_concurrent.specs.text_pos.declared.ending.LineEnding.TheVariants.{Lf, CrLf}
use Rattle.pass_concurrent.specs.text_pos.Line.{ending_bytes, line_ending_of}
use Rattle.pass_concurrent.specs.sql_name.Name.{full_name}
use Rattle.law_edit_inserts.specs.sql_token.Token.{Text, Leads, text_of}
use Rattle.law_edit_inserts.specs.sql_token.Terminal.{is_significant, is_significant_token, symbol_of, terminals}
use Rattle.law_edit_inserts.specs.sql_token.declared.terminal.Symbol.TheVariants as s
use Rattle.law_edit_inserts.specs.sql_token.declared.token.Tok.{Tok}
use Rattle.law_edit_inserts.specs.sql_token.declared.token.TokKind.TheVariants.{Word}
use Rattle.law_edit_inserts.proofs.of_sql_token.Statements.{by_counts}
use Rattle.law_edit_inserts.specs.sql_tree.declared.nodes.Stmt.{Stmt}
use Rattle.law_edit_inserts.specs.sql_tree.Range.{token_at}
use Rattle.law_edit_inserts.specs.sql_tree.Statement.{Tree, IsTree, all_statements, no_token}
use Rattle.law_edit_inserts.specs.law_edit_tokens.Edits.{IsEnding, all_quiet, set_made}
use Rattle.law_edit_inserts.specs.law_edit_tokens.Exchange.{IsPlainWord, Made, exchanged, made_text, made_toks, reread, tok_moved}
use Rattle.law_edit_inserts.proofs.of_law_edit_tokens.After.{exchanged_at, leads_split, leads_within}
use Rattle.law_edit_inserts.proofs.of_law_edit_tokens.Terminals.{quiet_terms}
use Rattle.law_edit_inserts.specs.SetInFront.{set_tree}
use Rattle.law_edit_inserts.proofs.Sets.{set_in_front, timeouts_are_words}
use Rattle.law_edit_inserts.proofs.Statements.{of_read, all_ok}
use Rattle.pass_concurrent.specs.lint_base.declared.edit.Edit.{Edit}
use Rattle.pass_concurrent.specs.lint_base.declared.rule.Rule.{Rule}
use Rattle.pass_concurrent.specs.lint_base.declared.rule.Rule.TheVariants as rule
use Rattle.pass_concurrent.specs.lint_base.declared.violation.Violation.{Violation}
use Rattle.pass_concurrent.specs.lint_base.Edits.{insertion}
use Rattle.pass_concurrent.specs.lint_base.Fixes.{FixValue}
use Rattle.pass_concurrent.specs.lint_base.RuleSets.{Rules, has}
use Rattle.pass_concurrent.specs.lint_transaction.Earlier.{any_below, concat_below}
use Rattle.pass_concurrent.specs.lint_transaction.Names.{name_at}
use Rattle.pass_concurrent.specs.lint_transaction.Transaction.{stmt_at}
use Rattle.pass_concurrent.specs.lint_pass.RuleLaws.{one_all, pieces_all, unless_all}
use Rattle.pass_session.specs.RequireTimeoutSettings.{is_first_slow, is_set, lock_report, lock_timeout, setting_fix, sets_at, statement_report, statement_timeout, timeouts_at, reports_of_require_timeout_settings, both_reports}
use Rattle.pass_session.specs.Tokens.{first_place, first_significant, or_first}
use Rattle.law_fixes.specs.Edited.{edited}
use Rattle.law_fixes.specs.Timeouts.{IsSetOf, SetMended, TimeoutsMend}
use Rattle.law_fixes.specs.Timeouts.IsSetOf.{lock as is_lock, statement as is_statement}
use Rattle.law_fixes.proofs.Fixed.{inside_some, one_edited}
use Rattle.law_fixes.proofs.Detached.{where_list}

-- ---- the first significant token

-- the tokens before it, it, and those after it
pub record FirstOf (toks : List Tok) : Type 0 where
  pub front : List Tok
  pub k : Tok
  pub after : List Tok
  pub parts : toks ≡ front ++ k ∷ after
  pub quiet : all_quiet front ≡ true
  pub significant : is_significant k.kind ≡ true
  pub count : position_or_len is_significant_token toks ≡ length front

pub one_more : (n : ℕ) → 1 + n ≡ suc n
one_more n = omega arith

pub first_of : (toks : List Tok) → (all_quiet toks ≡ true) ⊎ FirstOf toks
first_of [] = inl refl
first_of (k ∷ ks) = by (is_significant k.kind) refl (first_of ks)
  where
    by : (b : Bool) → is_significant k.kind ≡ b → (all_quiet ks ≡ true) ⊎ FirstOf ks → (all_quiet (k ∷ ks) ≡ true) ⊎ FirstOf (k ∷ ks)
    by true e r = inr (record {
      front = [];
      k = k;
      after = ks;
      parts = refl;
      quiet = refl;
      significant = e;
      count = ap (λ (b : Bool). cond (not b) (1 + position_or_len is_significant_token ks) 0) e;
    })
    by false e (inl q) = inl (and_from (not (is_significant k.kind)) (all_quiet ks) (ap not e) q)
    by false e (inr r) = inr (record {
      front = k ∷ r.front;
      k = r.k;
      after = r.after;
      parts = ap (λ (l : List Tok). k ∷ l) r.parts;
      quiet = and_from (not (is_significant k.kind)) (all_quiet r.front) (ap not e) r.quiet;
      significant = r.significant;
      count = ap (λ (b : Bool). cond (not b) (1 + position_or_len is_significant_token ks) 0) e ∙ ap (λ (x : ℕ). 1 + x) r.count ∙ one_more (length r.front);
    })

pub lower : (n m : ℕ) → n < m → nat_lt n m ≡ true
lower n m h = grind (arith, nat_tests)

-- the number of it, and its place
pub first_number : (tree : Tree) (f : FirstOf tree.toks) → first_significant tree ≡ length f.front
first_number tree f =
    let size = ap length f.parts ∙ length-append f.front (f.k ∷ f.after) in
    let count = f.count in
    let within = lower (length f.front) (length tree.toks) (omega (arith, size)) in
    (λ i. or_first (cond (nat_lt (count i) (length tree.toks)) (Some (count i)) None))
    ∙ (λ i. or_first (cond (within i) (Some (length f.front)) None))

pub first_token : (tree : Tree) (f : FirstOf tree.toks) → token_at tree.toks (length f.front) ≡ f.k
first_token tree f = ap (λ (l : List Tok). get_or l (length f.front) no_token) f.parts ∙ get_or_at f.front f.k f.after no_token (length f.front) refl

pub first_is_at : (tree : Tree) (f : FirstOf tree.toks) → first_place tree ≡ f.k.start
first_is_at tree f =
    let number = first_number tree f in
    ap (λ (n : ℕ). (token_at tree.toks n).start) number ∙ ap (λ (k : Tok). k.start) (first_token tree f)

-- a text without one has no statement
pub no_statements : (tree : Tree) → IsTree tree → all_quiet tree.toks ≡ true → tree.stmts ≡ []
unfolding terminals
no_statements tree is quiet = inside (ap all_statements (sym (by_counts [])) ∙ of_read tree.text tree.toks [] tree.stmts (quiet_terms tree.text 0 tree.toks quiet) is.read)
  where
    inside : {x y : List Stmt} → all_ok x ≡ all_ok y → y ≡ x
    inside e = cc

-- ---- the text of a new token

texts_are : (u : Text) (i : ℕ) (ps : List Made) (rest : Text) → drop i u ≡ made_text ps ++ rest → map (text_of u) (made_toks i ps) ≡ map (λ p. p.1) ps
texts_are u i [] rest same = refl
texts_are u i (p ∷ ps) rest same =
    let front : drop i u ≡ p.1 ++ (made_text ps ++ rest) = same ∙ append_assoc p.1 (made_text ps) rest in
    let size : i + length p.1 - i ≡ length p.1 = omega arith in
    let text : take (i + length p.1 - i) (drop i u) ≡ p.1 = (λ x. take (size x) (front x)) ∙ take_at p.1 (made_text ps ++ rest) (length p.1) refl in
    let next : drop (i + length p.1) u ≡ made_text ps ++ rest =
    sym (drop-drop (length p.1) i u) ∙ ap (λ (x : Text). drop (length p.1) x) front ∙ drop_at p.1 (made_text ps ++ rest) (length p.1) refl in
    let others = texts_are u (i + length p.1) ps rest next in
    λ x. text x ∷ others x

-- ---- the Set

-- the parameter of a fix: its name, and the first byte of its value
pub record Parameter (name : Text) (digit : ℕ) : Type 0 where
  pub plain : IsPlainWord name
  pub symbol : symbol_of Word name ≡ s.Word
  pub quote : (digit == 39) ≡ false
  pub full : bytes_eq (full_name name) name ≡ true

any_set : (p : ℕ → Bool) (i : ℕ) → p 0 ≡ true → any_below p (suc i) ≡ true
any_set p zero h = h
any_set p (suc i) h = ap (λ (b : Bool). b || p (suc i)) (any_set p i h)

module _ (tree : Tree) (is : IsTree tree) (name : Text) (digit : ℕ) (ending : Text) (parameter : Parameter name digit) (end : IsEnding ending) (f : FirstOf tree.toks) where
  abbrev pub new : Tree
  new = set_tree tree name digit ending f.front f.k f.after

  abbrev at : ℕ
  at = f.k.start

  abbrev made : List Made
  made = set_made name digit ending

  abbrev n : ℕ
  n = length f.front

  third_text : text_of new.text (token_at new.toks (n + 2)) ≡ name
  third_text =
      let lead = leads_split tree.text 0 (length tree.text) f.front f.k f.after (subst (λ (x : List Tok). Leads tree.text 0 x (length tree.text)) f.parts is.lexed) in
      let low : at ≤ length tree.text = leads_within tree.text 0 at f.front (omega arith) lead.0 in
      let texts = texts_are new.text at made (drop at tree.text) (exchanged_at tree.text (made_text made) at at low) in
      let token : token_at new.toks (n + 2) ≡ get_or (made_toks at made) 2 no_token =
      get_or-append-add f.front (made_toks at made ++ map (tok_moved at (at + length (made_text made))) (f.k ∷ f.after)) 2 no_token in
      ap (text_of new.text) token ∙ ap (λ (l : List Text). get_or l 2 []) texts

  same_number : (x : ℕ) → (x == x) ≡ true
  same_number x = grind (arith, nat_tests)

  is_the_name : sets_at new name 0 ≡ true
  is_the_name =
      let text = third_text in
      ap (λ (b : Bool). b && bytes_eq (name_at new (n + 2)) name) (same_number (n + 2)) ∙ ap (λ (t : Text). bytes_eq (full_name t) name) text ∙ parameter.full

  pub is_set_later : (i : ℕ) → is_set new name (suc i) ≡ true
  is_set_later i = any_set (sets_at new name) i is_the_name

  pub not_slow : is_first_slow new 0 ≡ false
  not_slow = refl

-- ---- what is reported then

quiet_lock : (b : Bool) (tree : Tree) (rules : Rules) (st : Stmt) (was_set : Bool) → was_set ≡ true → All (λ w. w.code ≢ rule.RequireLockTimeout) (both_reports was_set b tree rules st)
unfolding lock_report statement_report
quiet_lock b tree rules st was_set h =
    subst (λ (x : Bool). All (λ w. w.code ≢ rule.RequireLockTimeout) (both_reports x b tree rules st)) (sym h)
    (All-append (λ w. w.code ≢ rule.RequireLockTimeout) _ _
    (where_list (λ w. w.code ≢ rule.RequireLockTimeout) (has rules rule.RequireLockTimeout) [] (All-nil (λ w. w.code ≢ rule.RequireLockTimeout)))
    (where_list (λ w. w.code ≢ rule.RequireLockTimeout) (has rules rule.RequireStatementTimeout) _
    (unless_all (λ w. w.code ≢ rule.RequireLockTimeout) b (statement_report tree st ∷ []) (one_all (λ w. w.code ≢ rule.RequireLockTimeout) (statement_report tree st) other))))
  where
    other : rule.RequireStatementTimeout ≢ rule.RequireLockTimeout
    other e = cc

quiet_statement : (b : Bool) (tree : Tree) (rules : Rules) (st : Stmt) (was_set : Bool) → was_set ≡ true → All (λ w. w.code ≢ rule.RequireStatementTimeout) (both_reports b was_set tree rules st)
unfolding lock_report statement_report
quiet_statement b tree rules st was_set h =
    subst (λ (x : Bool). All (λ w. w.code ≢ rule.RequireStatementTimeout) (both_reports b x tree rules st)) (sym h)
    (All-append (λ w. w.code ≢ rule.RequireStatementTimeout) _ _
    (where_list (λ w. w.code ≢ rule.RequireStatementTimeout) (has rules rule.RequireLockTimeout) _
    (unless_all (λ w. w.code ≢ rule.RequireStatementTimeout) b (lock_report tree st ∷ []) (one_all (λ w. w.code ≢ rule.RequireStatementTimeout) (lock_report tree st) other)))
    (where_list (λ w. w.code ≢ rule.RequireStatementTimeout) (has rules rule.RequireStatementTimeout) [] (All-nil (λ w. w.code ≢ rule.RequireStatementTimeout))))
  where
    other : rule.RequireLockTimeout ≢ rule.RequireStatementTimeout
    other e = cc

-- The rule reports nothing, where it reports nothing of each statement but the first, and the first is not slow.
silent_by : (code : Rule) (new : Tree) (rules : Rules) → is_first_slow new 0 ≡ false →
    ((i : ℕ) → All (λ w. w.code ≢ code) (both_reports (is_set new lock_timeout (suc i)) (is_set new statement_timeout (suc i)) new rules (stmt_at new (suc i)))) →
    All (λ w. w.code ≢ code) (reports_of_require_timeout_settings new rules)
silent_by code new rules first each = pieces_all (λ w. w.code ≢ code) (timeouts_at new rules) (length new.stmts) at
  where
    at : (i : ℕ) → All (λ w. w.code ≢ code) (timeouts_at new rules i)
    at zero =
        subst (λ (b : Bool). All (λ w. w.code ≢ code) (cond b (both_reports (is_set new lock_timeout 0) (is_set new statement_timeout 0) new rules (stmt_at new 0)) [])) (sym first)
        (All-nil (λ w. w.code ≢ code))
    at (suc i) = where_list (λ w. w.code ≢ code) (is_first_slow new (suc i)) _ (each i)

-- ---- the fix

pub ending_is : (l : LineEnding) → IsEnding (ending_bytes l)
ending_is Lf = record { blank = refl; some = omega arith }
ending_is CrLf = record { blank = refl; some = omega arith }

pub lock_parameter : Parameter lock_timeout 49
unfolding full_name
lock_parameter = record {
  plain = record { bytes = refl; begins = refl; ascii = omega arith; long = omega arith };
  symbol = timeouts_are_words.0;
  quote = refl;
  full = refl;
}

pub statement_parameter : Parameter statement_timeout 53
unfolding full_name
statement_parameter = record {
  plain = record { bytes = refl; begins = refl; ascii = omega arith; long = omega arith };
  symbol = timeouts_are_words.1;
  quote = refl;
  full = refl;
}

pub lock_text : (ending : Text) → codes "set lock_timeout = '1s';" ++ ending ≡ made_text (set_made lock_timeout 49 ending)
lock_text ending = ap (λ (x : Text). codes "set lock_timeout = '1s';" ++ x) (sym (append-nil ending))

pub statement_text : (ending : Text) → codes "set statement_timeout = '5s';" ++ ending ≡ made_text (set_made statement_timeout 53 ending)
statement_text ending = ap (λ (x : Text). codes "set statement_timeout = '5s';" ++ x) (sym (append-nil ending))

mends : (tree : Tree) (rules : Rules) (code : Rule) (name : Text) (digit : ℕ) (title setting : Text) → IsTree tree → FirstOf tree.toks → Parameter name digit →
    IsSetOf code tree (set_made name digit (ending_bytes (line_ending_of tree.text))) →
    ((ending : Text) → setting ++ ending ≡ made_text (set_made name digit ending)) →
    ((new : Tree) → is_first_slow new 0 ≡ false → ((i : ℕ) → is_set new name (suc i) ≡ true) → All (λ w. w.code ≢ code) (reports_of_require_timeout_settings new rules)) →
    (f : FixValue) → setting_fix tree title setting ≡ f → length (edited tree.text f.edits) < 2 ^ 32 → SetMended code tree rules f.edits
mends tree rules code name digit title setting is first parameter set texts quiet f has short =
    let ending : Text = ending_bytes (line_ending_of tree.text) in
    let end = ending_is (line_ending_of tree.text) in
    let at : ℕ = first.k.start in
    let put = texts ending in
    let place = first_is_at tree first in
    let edits : f.edits ≡ insertion (made_text (set_made name digit ending)) at ∷ [] = ap (λ (x : FixValue). x.edits) (sym has) ∙ (λ i. insertion (put i) (place i) ∷ []) in
    let text : edited tree.text f.edits ≡ exchanged tree.text at at (made_text (set_made name digit ending)) =
    ap (λ (x : List Edit). edited tree.text x) edits ∙ one_edited tree.text (made_text (set_made name digit ending)) at in
    let reads = set_in_front tree name ending digit first.front first.k first.after is first.parts first.quiet first.significant parameter.plain parameter.symbol parameter.quote end
    (subst (λ (x : Text). length x < 2 ^ 32) text short) in
    let made : List Made = set_made name digit ending in
    let token = first_token tree first in
    let front : take (length first.front) tree.toks ≡ first.front =
    ap (λ (l : List Tok). take (length first.front) l) first.parts ∙ take_at first.front (first.k ∷ first.after) (length first.front) refl in
    let rest : drop (length first.front) tree.toks ≡ first.k ∷ first.after =
    ap (λ (l : List Tok). drop (length first.front) l) first.parts ∙ drop_at first.front (first.k ∷ first.after) (length first.front) refl in
    record {
      new = new tree is name digit ending parameter end first;
      text = sym text;
      is = reads.is;
      terms = record {
        n = length first.front;
        set = made;
        set_is = set;
        within = omega (arith, ap length first.parts, length-append first.front (first.k ∷ first.after));
        quiet = ap all_quiet front ∙ first.quiet;
        significant = ap (λ (k : Tok). is_significant k.kind) token ∙ first.significant;
        put = edits ∙ ap (λ (k : Tok). insertion (made_text made) k.start ∷ []) (sym token);
        toks = λ i. reread (sym front i) (made_toks (sym token i).start made) (sym token i).start ((sym token i).start + length (made_text made)) (sym rest i);
        terms = reads.terms;
      };
      silent = quiet (new tree is name digit ending parameter end first) (not_slow tree is name digit ending parameter end first) (is_set_later tree is name digit ending parameter end first);
    }

lock_quiet : (rules : Rules) (new : Tree) → is_first_slow new 0 ≡ false → ((i : ℕ) → is_set new lock_timeout (suc i) ≡ true) → All (λ w. w.code ≢ rule.RequireLockTimeout) (reports_of_require_timeout_settings new rules)
lock_quiet rules new first set =
    silent_by rule.RequireLockTimeout new rules first
    (λ i. quiet_lock (is_set new statement_timeout (suc i)) new rules (stmt_at new (suc i)) (is_set new lock_timeout (suc i)) (set i))

statement_quiet : (rules : Rules) (new : Tree) → is_first_slow new 0 ≡ false → ((i : ℕ) → is_set new statement_timeout (suc i) ≡ true) → All (λ w. w.code ≢ rule.RequireStatementTimeout) (reports_of_require_timeout_settings new rules)
statement_quiet rules new first set =
    silent_by rule.RequireStatementTimeout new rules first
    (λ i. quiet_statement (is_set new lock_timeout (suc i)) new rules (stmt_at new (suc i)) (is_set new statement_timeout (suc i)) (set i))

module _ (tree : Tree) (rules : Rules) (is : IsTree tree) where
  abbrev Mends : Violation → Type 0
  Mends v = (f : FixValue) → v.fix ≡ Some f → length (edited tree.text f.edits) < 2 ^ 32 → SetMended v.code tree rules f.edits

  lock_mends : FirstOf tree.toks → (st : Stmt) → Mends (lock_report tree st)
  unfolding lock_report
  lock_mends first st f fixed short =
      mends tree rules rule.RequireLockTimeout lock_timeout 49 (codes "Add lock timeout") (codes "set lock_timeout = '1s';") is first lock_parameter (is_lock refl refl) lock_text (lock_quiet rules) f (inside_some fixed) short

  statement_mends : FirstOf tree.toks → (st : Stmt) → Mends (statement_report tree st)
  unfolding statement_report
  statement_mends first st f fixed short =
      mends tree rules rule.RequireStatementTimeout statement_timeout 53 (codes "Add statement timeout") (codes "set statement_timeout = '5s';") is first statement_parameter (is_statement refl refl) statement_text (statement_quiet rules) f (inside_some fixed) short

  both_mend : FirstOf tree.toks → (a b : Bool) (st : Stmt) → All Mends (both_reports a b tree rules st)
  both_mend first a b st =
      All-append Mends _ _
      (where_list Mends (has rules rule.RequireLockTimeout) _ (unless_all Mends a (lock_report tree st ∷ []) (one_all Mends (lock_report tree st) (lock_mends first st))))
      (where_list Mends (has rules rule.RequireStatementTimeout) _ (unless_all Mends b (statement_report tree st ∷ []) (one_all Mends (statement_report tree st) (statement_mends first st))))

pub timeouts_mend : TimeoutsMend
timeouts_mend tree rules is = by (first_of tree.toks)
  where
    by : (all_quiet tree.toks ≡ true) ⊎ FirstOf tree.toks → All (Mends tree rules is) (reports_of_require_timeout_settings tree rules)
    by (inl quiet) =
        let none = no_statements tree is quiet in
        subst (λ (ss : List Stmt). All (Mends tree rules is) (concat_below (timeouts_at tree rules) (length ss))) (sym none) (All-nil (Mends tree rules is))
    by (inr first) =
        pieces_all (Mends tree rules is) (timeouts_at tree rules) (length tree.stmts)
        (λ i. where_list (Mends tree rules is) (is_first_slow tree i) _ (both_mend tree rules is first (is_set tree lock_timeout i) (is_set tree statement_timeout i) (stmt_at tree i)))
