-- Only a token of more than 63 bytes is an identifier that is too long.
use Rattle.std.proofs.Common.{◌≡◌, ◌∙◌, sym, ap, subst, refl, ℕ, ◌+◌, ◌-◌, ◌<◌, ◌≤◌, Bool, true, false, ◌&&◌, ◌||◌, cond, List, [], ◌∷◌, ◌++◌, length, take, drop, nat_lt, true≢false, arith}
use Rattle.std.proofs.lemmas.Bool.{le-ltb, ltb-false}
use Rattle.std.proofs.lemmas.List.{append-nil, length-take}
use Rattle.std.proofs.Math.Nat.{min-le_left}
use Rattle.std.specs.List.{list_any}
use Rattle.lint_pass.proofs.of_sql_name.FullText.{length-full_name}
use Rattle.lint_pass.specs.sql_tree.declared.nodes.Stmt.{Stmt}
use Rattle.sql_token.specs.Terminal.{is_name_kind}
use Rattle.lint_pass.specs.sql_tree.Range.{token_at}
use Rattle.lint_pass.specs.sql_tree.Statement.{Tree}
use Rattle.lint_pass.specs.lint_base.declared.violation.Violation.{Violation}
use Rattle.lint_pass.specs.Those.{those}
use Rattle.lint_pass.specs.lint_transaction.Names.{name_at}
use Rattle.pass_name.specs.IdentifierTooLong.{is_long_at, is_too_long, kind_at, reports_of_identifier_too_long, numbers_from, report, token_numbers}
use Rattle.pass_name.proofs.NameCuts.{numbers_more, numbers_none}

-- a token's text has no more bytes than lie between its places
length-name_at : (tree : Tree) (number : ℕ) → length (name_at tree number) ≤ (token_at tree.toks number).end - (token_at tree.toks number).start
length-name_at tree number =
    let t = token_at tree.toks number in
    let text : List ℕ = take (t.end - t.start) (drop t.start tree.text) in
    grind (arith, length-full_name text, length-take (t.end - t.start) (drop t.start tree.text), min-le_left (t.end - t.start) (length (drop t.start tree.text)))

-- what is short enough is no identifier that is too long
short_names : (tree : Tree) (number : ℕ) → is_long_at tree number ≡ false → is_too_long tree number ≡ false
short_names tree number h =
    let t = token_at tree.toks number in
    let within : t.end ≤ t.start + 63 = ltb-false (t.start + 63) t.end h in
    let fits : length (name_at tree number) ≤ 63 = grind (arith, within, length-name_at tree number) in
    by (is_name_kind (kind_at tree number)) (nat_lt 63 (length (name_at tree number))) (le-ltb 63 (length (name_at tree number)) fits)
  where
    by : (a b : Bool) → b ≡ false → (a && b) ≡ false
    by true b e = e
    by false b e = refl

no_long_numbers : (tree : Tree) (numbers : List ℕ) → list_any (is_long_at tree) numbers ≡ false → those (is_too_long tree) (report tree) numbers ≡ []
no_long_numbers tree [] h = refl
no_long_numbers tree (n ∷ ns) h = by (no_long_numbers tree ns) (is_long_at tree n) refl
  where
    by : (list_any (is_long_at tree) ns ≡ false → those (is_too_long tree) (report tree) ns ≡ []) → (b : Bool) → is_long_at tree n ≡ b
        → those (is_too_long tree) (report tree) (n ∷ ns) ≡ []
    by ih true e = absurd (true≢false (sym (ap (λ (b : Bool). b || list_any (is_long_at tree) ns) e) ∙ h))
    by ih false e =
        ap (λ (b : Bool). cond b (report tree n ∷ []) [] ++ those (is_too_long tree) (report tree) ns) (short_names tree n e)
        ∙ ih (sym (ap (λ (b : Bool). b || list_any (is_long_at tree) ns) e) ∙ h)

-- a statement without a token of more than 63 bytes has no report
no_long_names : (tree : Tree) (s : Stmt) → list_any (is_long_at tree) (token_numbers s) ≡ false → reports_of_identifier_too_long tree s ≡ []
unfolding reports_of_identifier_too_long
no_long_names tree s h = no_long_numbers tree (token_numbers s) h

pub no_long_reports : (tree : Tree) (s : Stmt) (out : List Violation) → list_any (is_long_at tree) (token_numbers s) ≡ false → out ≡ out ++ reports_of_identifier_too_long tree s
no_long_reports tree s out h = sym (append-nil out) ∙ ap (λ vs. out ++ vs) (sym (no_long_names tree s h))

-- ---- the walk over the numbers

module _ (f : ℕ → Bool) (first end : ℕ) where
  abbrev rest : List ℕ
  rest = numbers_from (first + 1) (end - (first + 1))

  found_among : (all : Bool) → first < end → list_any f (numbers_from first (end - first)) ≡ all → (f first || list_any f (numbers_from (first + 1) (end - (first + 1)))) ≡ all
  found_among all lt e = ap (list_any f) (sym (numbers_more first end lt)) ∙ e

  -- the next number is one
  pub any_found : (all : Bool) → first < end → f first ≡ true → list_any f (numbers_from first (end - first)) ≡ all → true ≡ all
  any_found all lt h e = sym (ap (λ (b : Bool). b || list_any f rest) h) ∙ found_among all lt e

  -- it is none
  pub any_next : (all : Bool) → first < end → f first ≡ false → list_any f (numbers_from first (end - first)) ≡ all → list_any f (numbers_from (first + 1) (end - (first + 1))) ≡ all
  any_next all lt h e = sym (ap (λ (b : Bool). b || list_any f rest) h) ∙ found_among all lt e

  -- no number is left
  pub any_none : (all : Bool) → end ≤ first → list_any f (numbers_from first (end - first)) ≡ all → false ≡ all
  any_none all le e = ap (list_any f) (sym (numbers_none first end le)) ∙ e
