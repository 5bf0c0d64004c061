-- The reports of a rule on statements, where the word was put into one of them.
use Rattle.std.proofs.Common.{◌≡◌, ◌≢◌, ℕ, ◌+◌, ◌-◌, ◌<◌, ◌≤◌, inl, inr, max, Bool, true, false, cond, List, [], ◌∷◌, map, length, length-append, sym, refl, ap, ◌∙◌, subst, arith, Option, Some, None}
use Rattle.std.proofs.lemmas.Bool.Decides.{nat_tests}
use Rattle.std.proofs.lemmas.List.{length-map}
use Rattle.std.proofs.lemmas.List.Elements.{All-nil}
use Rattle.std.specs.Prelude.{◌==◌, All, codes, if◌then◌else◌}
use Rattle.pass_concurrent.specs.text_pos.Range.{Range}
use Rattle.law_edit_inserts.specs.sql_token.declared.token.Span.{Span}
use Rattle.law_edit_inserts.specs.sql_token.declared.token.Tok.{Tok}
use Rattle.law_edit_inserts.specs.sql_tree.declared.nodes.Body.{Body}
use Rattle.law_edit_inserts.specs.sql_tree.declared.nodes.Body.TheVariants as body
use Rattle.law_edit_inserts.specs.sql_tree.declared.nodes.Stmt.{Stmt}
use Rattle.law_edit_inserts.specs.sql_tree.Path.{path_cuts}
use Rattle.law_edit_inserts.specs.sql_tree.Range.{token_at, span_range_of, stmt_range_of}
use Rattle.law_edit_inserts.specs.sql_tree.Statement.{Tree}
use Rattle.law_edit_inserts.specs.law_renumber.Moved.{span_moved, body_moved, stmt_moved}
use Rattle.law_edit_inserts.specs.Concurrently.{concurrent_body}
use Rattle.law_edit_inserts.specs.Built.{room_after, concurrently_tree, concurrent_stmt, TakesConcurrently}
use Rattle.law_edit_inserts.specs.Built.TakesConcurrently.{index, dropped, rebuilt}
use Rattle.law_edit_inserts.specs.sql_tree.declared.kinds.StmtKind.{StmtKind}
use Rattle.std.specs.Option.{option_map}
use Rattle.law_edit_inserts.specs.Apart.{outside}
use Rattle.law_edit_inserts.proofs.Apart.{stays_within}
use Rattle.pass_concurrent.specs.lint_base.declared.settings.LinterSettings.{LinterSettings}
use Rattle.pass_concurrent.specs.lint_base.declared.violation.Violation.{Violation}
use Rattle.pass_concurrent.specs.lint_base.RuleSets.{Rules, has}
use Rattle.pass_concurrent.specs.lint_transaction.Earlier.{concat_below}
use Rattle.pass_concurrent.specs.lint_transaction.Transaction.{no_stmt, stmt_at, is_new}
use Rattle.pass_concurrent.specs.lint_pass.RuleLaws.{one_all, pieces_all, unless_all, where_all}
use Rattle.pass_concurrent.specs.lint_pass.Fixes.{insertion_fix}
use Rattle.law_fixes.specs.Moved.{start_moved, end_moved, range_moved, violation_moved}
use Rattle.law_fixes.proofs.Tokens.{low_token, high_token, starts_ascend}
use Rattle.pass_concurrent.specs.lint_base.declared.rule.Rule.{Rule}
use Rattle.law_fixes.specs.Stays.{place_of, inserted}
use Rattle.law_fixes.proofs.Statements.{Added, inside, Aside, Away, Other, path_aside, others, this_new, new_same}

-- ---- rules

-- the token that the word goes after, and the table that excuses the statement where it is new
pub record Target : Type 0 where
  pub word : ℕ
  pub table : Option Span

-- which statements are reported, and with which words
pub record WordRule : Type 0 where
  pub code : Rule
  pub message : List ℕ
  pub help : List ℕ
  pub target : StmtKind → Body → Option Target

abbrev pub word_report : WordRule → Tree → Stmt → ℕ → Violation
word_report r tree s word = record {
  code = r.code;
  message = r.message;
  text_range = stmt_range_of tree.toks s;
  note = None;
  help = Some r.help;
  fix = Some (insertion_fix (codes "Add `concurrently`") (codes " concurrently") (span_range_of tree.toks word word).end);
}

abbrev pub is_excused : LinterSettings → Tree → ℕ → Option Span → Bool
is_excused settings tree i None = false
is_excused settings tree i (Some path) = is_new settings.assume_in_transaction tree (path_cuts tree.text tree.toks path) i

abbrev pub word_reports_by : WordRule → LinterSettings → Tree → ℕ → Stmt → Option Target → List Violation
word_reports_by r settings tree i s None = []
word_reports_by r settings tree i s (Some t) = if is_excused settings tree i t.table then [] else word_report r tree s t.word ∷ []

-- the reports of s, which is statement i
abbrev pub word_reports : WordRule → LinterSettings → Tree → ℕ → Stmt → List Violation
word_reports r settings tree i s = word_reports_by r settings tree i s (r.target s.kind s.body)

abbrev pub word_reports_at : WordRule → Tree → Rules → LinterSettings → ℕ → List Violation
word_reports_at r tree rules settings i = if has rules r.code then word_reports r settings tree i (stmt_at tree i) else []

abbrev pub word_table : WordRule → Tree → Rules → LinterSettings → List Violation
word_table r tree rules settings = concat_below (word_reports_at r tree rules settings) (length tree.stmts)

-- ---- what the law asks of such a rule

abbrev pub target_moved : (ℕ → ℕ) → Target → Target
target_moved f t = record { word = f t.word; table = option_map (span_moved f) t.table }

-- It looks at no number, reports no statement with the mark, and the word goes where the form takes it.
pub record IsWordRule (r : WordRule) : Type 0 where
  pub moved : (f : ℕ → ℕ) (kind : StmtKind) (b : Body) → r.target kind (body_moved f b) ≡ option_map (target_moved f) (r.target kind b)
  pub with_concurrently : (m : ℕ) (kind : StmtKind) (b : Body) → r.target kind (concurrent_body m b) ≡ None
  pub takes : (s : Stmt) (t : Target) → r.target s.kind s.body ≡ Some t → TakesConcurrently t.word s

-- ---- places

pub start_low : (a w s : ℕ) → s < a → s ≡ start_moved a w s
start_low a w s h = grind (arith, nat_tests)

pub start_high : (a w s : ℕ) → a ≤ s → a + w + (s - a) ≡ start_moved a w s
start_high a w s h = grind (arith, nat_tests)

pub end_low : (a w e : ℕ) → e ≤ a → e ≡ end_moved a w e
end_low a w e h = grind (arith, nat_tests)

pub end_high : (a w e : ℕ) → a < e → e + w ≡ end_moved a w e
end_high a w e h = grind (arith, nat_tests)

pub max_low : (a s e : ℕ) → s < a → e ≤ a → max s e ≤ a
max_low a s e p q = omega arith

pub max_high : (a w s e : ℕ) → a ≤ s → a < e → max (a + w + (s - a)) (a + w + (e - a)) ≡ max s e + w
max_high a w s e p q = omega arith

pub max_above : (a s e : ℕ) → a < e → a < max s e
max_above a s e p = omega arith

-- a statement that is only kept is not reported
pub kept_is : (r : WordRule) → IsWordRule r → (kind : StmtKind) → r.target kind body.Kept ≡ None
kept_is r law kind = by (r.target kind body.Kept) refl
  where
    none : (t : Target) → TakesConcurrently t.word (record no_stmt { kind = kind }) → ⊥
    none t (index u g name path has) = kept has
      where
        kept : body.Kept ≡ body.Index t.word u None g name path → ⊥
        kept e = cc
    none t (dropped g paths is has) = kept has
      where
        kept : body.Kept ≡ body.Drop t.word false g paths → ⊥
        kept e = cc
    none t (rebuilt found valued path has) = kept has
      where
        kept : body.Kept ≡ body.Reindex found t.word false valued path → ⊥
        kept e = cc

    by : (t : Option Target) → r.target kind body.Kept ≡ t → t ≡ None
    by None e = refl
    by (Some t) e = absurd (none t (law.takes (record no_stmt { kind = kind }) t e))

module _ (tree : Tree) (before : List Stmt) (s : Stmt) (after : List Stmt) (n : ℕ) (build : Added tree before s after n (concurrent_stmt n s)) (r : WordRule) (law : IsWordRule r) where
  abbrev now : Tree
  now = concurrently_tree tree n before (concurrent_stmt n s) after

  abbrev place : ℕ
  place = place_of tree n

  abbrev f : ℕ → ℕ
  f = room_after n

  within : n < length tree.toks
  within = let i = inside tree before s after n (concurrent_stmt n s) build in i.within

  range_is : (lo hi first last : ℕ) → Aside tree before s after n (concurrent_stmt n s) build lo hi → (lo ≤ first) × (first < hi) → (lo ≤ last) × (last < hi) →
      span_range_of now.toks (f first) (f last) ≡ range_moved place inserted (span_range_of tree.toks first last)
  range_is lo hi first last (inl a) p q =
      let x = p.1 in let y = q.1 in
      let b = low_token tree.text tree.toks n build.is.lexed within first (omega arith) in
      let c = low_token tree.text tree.toks n build.is.lexed within last (omega arith) in
      let starts = b.token in let ends = c.token in
      let top = max_low place (token_at tree.toks first).start (token_at tree.toks last).end b.start c.end in
      (λ i. record { start = (starts i).start; end = max (starts i).start (ends i).end })
      ∙ (let j = start_low place inserted (token_at tree.toks first).start b.start in let k = end_low place inserted (max (token_at tree.toks first).start (token_at tree.toks last).end) top in
      λ i. record { start = j i; end = k i })
  range_is lo hi first last (inr a) p q =
      let x = p.0 in let y = q.0 in let z = a.0 in let x' = p.1 in let y' = q.1 in let z' = a.1 in
      let b = high_token tree.text tree.toks n build.is.lexed within first (omega arith) (omega arith) in
      let c = high_token tree.text tree.toks n build.is.lexed within last (omega arith) (omega arith) in
      let starts = b.token in let ends = c.token in
      let first_start : ℕ = (token_at tree.toks first).start in
      let last_end : ℕ = (token_at tree.toks last).end in
      let top = max_high place inserted first_start last_end b.start c.end ∙ end_high place inserted (max first_start last_end) (max_above place first_start last_end c.end) in
      (λ i. record { start = (starts i).start; end = max (starts i).start (ends i).end })
      ∙ (let j = start_high place inserted first_start b.start in λ i. record { start = j i; end = top i })

  -- ---- one report

  report_is : (lo hi : ℕ) (x : Stmt) (word : ℕ) → Aside tree before s after n (concurrent_stmt n s) build lo hi → stmt_moved (outside lo hi) x ≡ x → outside lo hi word ≡ word →
      word_report r now (stmt_moved f x) (f word) ≡ violation_moved place inserted (word_report r tree x word)
  report_is lo hi x word side fixed here =
      let first = stays_within lo hi x.first (ap (λ (y : Stmt). y.first) fixed) in
      let last = stays_within lo hi x.last (ap (λ (y : Stmt). y.last) fixed) in
      let at = stays_within lo hi word here in
      let range = range_is lo hi x.first x.last side first last in
      let edit = ap (λ (r : Range). r.end) (range_is lo hi word word side at at) in
      λ i. record (word_report r tree x word) { text_range = range i; fix = Some (insertion_fix (codes "Add `concurrently`") (codes " concurrently") (edit i)) }

  unless_moved : (a b : Bool) (v w : Violation) → a ≡ b → v ≡ violation_moved place inserted w → cond a [] (v ∷ []) ≡ map (violation_moved place inserted) (cond b [] (w ∷ []))
  unless_moved a b v w p q = (λ i. cond (p i) [] (q i ∷ [])) ∙ by b
    where
      by : (b : Bool) → cond b [] (violation_moved place inserted w ∷ []) ≡ map (violation_moved place inserted) (cond b [] (w ∷ []))
      by true = refl
      by false = refl

  some_target : {p q : Target} → Some p ≡ Some q → p ≡ q
  some_target e = cc

  some_span : {p q : Span} → Some p ≡ Some q → p ≡ q
  some_span e = cc

  excused_same : (settings : LinterSettings) (j lo hi : ℕ) (table : Option Span) → Aside tree before s after n (concurrent_stmt n s) build lo hi → option_map (span_moved (outside lo hi)) table ≡ table →
      is_excused settings now j (option_map (span_moved f) table) ≡ is_excused settings tree j table
  excused_same settings j lo hi None side e = refl
  excused_same settings j lo hi (Some path) side e =
      ap (λ (q : List (List ℕ)). is_new settings.assume_in_transaction now q j) (path_aside tree before s after n (concurrent_stmt n s) build lo hi path side (some_span e))
      ∙ new_same tree before s after n (concurrent_stmt n s) build settings.assume_in_transaction (path_cuts tree.text tree.toks path) j

  other_reports : (settings : LinterSettings) (j : ℕ) (x y : Stmt) → Other tree before s after n (concurrent_stmt n s) build x y → word_reports r settings now j y ≡ map (violation_moved place inserted) (word_reports r settings tree j x)
  other_reports settings j x y o =
      ap (λ (z : Stmt). word_reports r settings now j z) o.moved
      ∙ ap (λ (t : Option Target). word_reports_by r settings now j (stmt_moved f x) t) (law.moved f x.kind x.body)
      ∙ by (r.target x.kind x.body) (sym (law.moved (outside o.lo o.hi) x.kind x.body) ∙ ap (λ (z : Stmt). r.target z.kind z.body) o.fixed)
    where
      by : (t : Option Target) → option_map (target_moved (outside o.lo o.hi)) t ≡ t →
          word_reports_by r settings now j (stmt_moved f x) (option_map (target_moved f) t) ≡ map (violation_moved place inserted) (word_reports_by r settings tree j x t)
      by None e = refl
      by (Some t) e =
          let fixed = some_target e in
          unless_moved _ _ _ _ (excused_same settings j o.lo o.hi t.table o.side (ap (λ (z : Target). z.table) fixed)) (report_is o.lo o.hi x t.word o.side o.fixed (ap (λ (z : Target). z.word) fixed))

  this_reports : (settings : LinterSettings) (j : ℕ) → (j == length before) ≡ true → word_reports r settings now j (stmt_at now j) ≡ []
  this_reports settings j h =
      ap (λ (z : Stmt). word_reports r settings now j z) (this_new tree before s after n (concurrent_stmt n s) build j h)
      ∙ ap (λ (t : Option Target). word_reports_by r settings now j (concurrent_stmt n s) t) (law.with_concurrently (n + 2) s.kind (body_moved f s.body))

  -- ---- all reports

  reports_same : (rules : Rules) (settings : LinterSettings) (j : ℕ) →
      word_reports_at r now rules settings j ≡ cond (j == length before) [] (map (violation_moved place inserted) (word_reports_at r tree rules settings j))
  reports_same rules settings j = by (has rules r.code) (j == length before) refl
    where
      by : (h b : Bool) → (j == length before) ≡ b →
          cond h (word_reports r settings now j (stmt_at now j)) [] ≡ cond b [] (map (violation_moved place inserted) (cond h (word_reports r settings tree j (stmt_at tree j)) []))
      by false true e = refl
      by false false e = refl
      by true true e = this_reports settings j e
      by true false e = other_reports settings j (stmt_at tree j) (stmt_at now j) (others tree before s after n (concurrent_stmt n s) build j e)

  count_same : length now.stmts ≡ length tree.stmts
  count_same =
      omega (
        arith,
        length-append (map (stmt_moved f) before) (concurrent_stmt n s ∷ map (stmt_moved f) after),
        length-map before (stmt_moved f),
        length-map after (stmt_moved f),
        length-append before (s ∷ after),
        ap length build.parts,
      )

  pub table_same : (rules : Rules) (settings : LinterSettings) → word_table r now rules settings
      ≡ concat_below (λ j. cond (j == length before) [] (map (violation_moved place inserted) (word_reports_at r tree rules settings j))) (length tree.stmts)
  table_same rules settings = let count = count_same in λ i. concat_below (λ j. reports_same rules settings j i) (count i)

  -- ---- no report begins where the statement begins

  abbrev Elsewhere : Violation → Type 0
  Elsewhere v = v.text_range.start ≢ start_moved place inserted (stmt_range_of tree.toks s).start

  -- a start that is lower or higher
  less_apart : (a w x y : ℕ) → x < y → y < a → x ≢ start_moved a w y
  less_apart a w x y p q = let e = start_low a w y q in λ h. omega (arith, h, e)

  more_apart : (a w x y : ℕ) → a ≤ x → y < a → a + w + (x - a) ≢ start_moved a w y
  more_apart a w x y p q = let e = start_low a w y q in λ h. omega (arith, h, e)

  low_apart : (x : Stmt) → x.first < s.first → (token_at now.toks (f x.first)).start ≢ start_moved place inserted (token_at tree.toks s.first).start
  low_apart x h =
      let i = inside tree before s after n (concurrent_stmt n s) build in
      let first = i.first in let last = i.last in let top = i.within in
      let b = low_token tree.text tree.toks n build.is.lexed top x.first (omega arith) in
      let c = low_token tree.text tree.toks n build.is.lexed top s.first (omega arith) in
      let ascend = starts_ascend tree.text tree.toks x.first s.first build.is.lexed h (omega arith) in
      let token = b.token in
      λ e. less_apart place inserted (token_at tree.toks x.first).start (token_at tree.toks s.first).start ascend c.start (sym (ap (λ (k : Tok). k.start) token) ∙ e)

  high_apart : (x : Stmt) → s.last + 1 ≤ x.first → x.first < length tree.toks → (token_at now.toks (f x.first)).start ≢ start_moved place inserted (token_at tree.toks s.first).start
  high_apart x low high =
      let i = inside tree before s after n (concurrent_stmt n s) build in
      let first = i.first in let last = i.last in let top = i.within in
      let b = high_token tree.text tree.toks n build.is.lexed top x.first (omega arith) (omega arith) in
      let c = low_token tree.text tree.toks n build.is.lexed top s.first (omega arith) in
      let token = b.token in
      λ e. more_apart place inserted (token_at tree.toks x.first).start (token_at tree.toks s.first).start b.start c.start (sym (ap (λ (k : Tok). k.start) token) ∙ e)

  target_elsewhere : (settings : LinterSettings) (j : ℕ) (x : Stmt) → (token_at now.toks (f x.first)).start ≢ start_moved place inserted (token_at tree.toks s.first).start → (t : Option Target) →
      All Elsewhere (word_reports_by r settings now j (stmt_moved f x) t)
  target_elsewhere settings j x h None = All-nil Elsewhere
  target_elsewhere settings j x h (Some t) =
      unless_all Elsewhere (is_excused settings now j t.table) (word_report r now (stmt_moved f x) t.word ∷ []) (one_all Elsewhere (word_report r now (stmt_moved f x) t.word) h)

  stmt_elsewhere : (settings : LinterSettings) (j : ℕ) (x y : Stmt) → Other tree before s after n (concurrent_stmt n s) build x y → All Elsewhere (word_reports r settings now j y)
  stmt_elsewhere settings j x y o = subst (λ (z : Stmt). All Elsewhere (word_reports r settings now j z)) (sym o.moved) (by o.away)
    where
      by : Away tree before s after n (concurrent_stmt n s) build x → All Elsewhere (word_reports r settings now j (stmt_moved f x))
      by (inl h) = target_elsewhere settings j x (low_apart x h) (r.target x.kind (body_moved f x.body))
      by (inr (inl h)) = target_elsewhere settings j x (high_apart x h.0 h.1) (r.target x.kind (body_moved f x.body))
      by (inr (inr h)) =
          let none = ap (λ (b : Body). r.target x.kind (body_moved f b)) h ∙ kept_is r law x.kind in
          subst (λ (t : Option Target). All Elsewhere (word_reports_by r settings now j (stmt_moved f x) t)) (sym none) (All-nil Elsewhere)

  at_elsewhere : (settings : LinterSettings) (j : ℕ) → All Elsewhere (word_reports r settings now j (stmt_at now j))
  at_elsewhere settings j = by (j == length before) refl
    where
      by : (b : Bool) → (j == length before) ≡ b → All Elsewhere (word_reports r settings now j (stmt_at now j))
      by true e = subst (λ (x : List Violation). All Elsewhere x) (sym (this_reports settings j e)) (All-nil Elsewhere)
      by false e = stmt_elsewhere settings j (stmt_at tree j) (stmt_at now j) (others tree before s after n (concurrent_stmt n s) build j e)

  pub elsewhere : (rules : Rules) (settings : LinterSettings) → All Elsewhere (word_table r now rules settings)
  elsewhere rules settings =
      pieces_all Elsewhere (word_reports_at r now rules settings) (length now.stmts)
      (λ j. where_all Elsewhere (has rules r.code) (word_reports r settings now j (stmt_at now j)) (λ e. at_elsewhere settings j))
