-- A Set at the start of a text: what is reported then by all listed rules.
use Rattle.std.proofs.Common.{◌≡◌, ℕ, zero, suc, ◌+◌, ◌-◌, ◌<◌, ◌≤◌, Bool, true, false, cond, List, [], ◌∷◌, ◌++◌, map, length, length-append, append_assoc, get_or, sym, refl, ap, ◌∙◌, subst, arith, Some, Ok}
use Rattle.std.proofs.lemmas.Bool.Decides.{nat_tests}
use Rattle.std.proofs.lemmas.List.{get_or-append_right, get_or-map, length-map}
use Rattle.std.proofs.lemmas.List.Elements.{All-nil, All-cons}
use Rattle.std.specs.Prelude.{All, ◌==◌, ◌&&◌}
use Rattle.law_type_fixes.specs.sql_token.declared.terminal.Terminal.{Terminal}
use Rattle.law_type_fixes.specs.sql_token.declared.token.Span.{Span}
use Rattle.law_type_fixes.specs.sql_token.declared.token.Tok.{Tok}
use Rattle.law_type_fixes.specs.sql_token.Depth.{statements}
use Rattle.law_type_fixes.specs.sql_token.Terminal.{terminals, terminals_from}
use Rattle.law_type_fixes.specs.sql_token.Token.{Leads, Text, text_of}
use Rattle.law_type_fixes.specs.sql_tree.declared.nodes.ColType.{ColType}
use Rattle.law_type_fixes.specs.sql_tree.declared.nodes.Stmt.{Stmt}
use Rattle.law_type_fixes.specs.sql_tree.Range.{token_at}
use Rattle.law_type_fixes.specs.sql_tree.Statement.{Tree, IsTree, no_token, statement}
use Rattle.law_type_fixes.specs.law_renumber.Moved.{stmt_moved}
use Rattle.law_type_fixes.specs.law_edit_cuts.Exchanges.{joined}
use Rattle.law_type_fixes.specs.law_edit_tokens.Edits.{set_made}
use Rattle.law_type_fixes.specs.law_edit_tokens.Exchange.{made_text, made_toks, tok_moved}
use Rattle.law_type_fixes.proofs.of_law_edit_tokens.After.{exchanged_after, leads_split, leads_within}
use Rattle.law_type_fixes.proofs.of_law_edit_tokens.Terminals.{quiet_terms, terms_append}
use Rattle.law_type_fixes.specs.law_edit_inserts.SetInFront.{room_before, set_stmt, set_tree}
use Rattle.law_type_fixes.proofs.of_law_edit_inserts.Apart.{span_is, stays_within, statements_apart}
use Rattle.law_type_fixes.proofs.of_law_edit_inserts.Statements.{full_parts, joined_append, of_read, statements_join, stmt_at_place}
use Rattle.law_type_fixes.proofs.of_law_renumber.Readings.{NoneEmpty, statements_full}
use Rattle.law_type_fixes.proofs.of_law_edit_inserts.Tokens.{AtLeast, least_parts, terms_least}
use Rattle.law_type_fixes.specs.lint_base.declared.violation.Violation.{Violation}
use Rattle.law_type_fixes.specs.lint_node.Same.{same_kind}
use Rattle.law_type_fixes.specs.lint_transaction.Transaction.{no_stmt}
use Rattle.law_type_fixes.specs.pass_concurrent.RequireConcurrentIndexDeletion as drops
use Rattle.law_type_fixes.specs.sql_tree.declared.kinds.StmtKind.TheVariants as stmt
use Rattle.law_type_fixes.specs.law_fixes.Moved.{start_moved}
use Rattle.law_type_fixes.proofs.of_law_fixes.TimeoutFixes.{FirstOf}
use Rattle.law_type_fixes.proofs.of_law_fixes.Tokens.{placed, text_after}
use Rattle.law_type_fixes.proofs.of_law_fixes.Words.{start_high}
use Rattle.law_type_fixes.specs.Rules.{TypeRule, reports_on}
use Rattle.law_type_fixes.proofs.ColumnTypes.{no_types}
use Rattle.law_fix_steps.specs.Kept.{Kept}
use Rattle.law_fix_steps.specs.Left.{Left}
use Rattle.law_fix_steps.proofs.Alignments.{Idle, one_in_front}
use Rattle.law_fix_steps.proofs.Left.{nil_left}
use Rattle.law_fix_steps.proofs.Like.{Aligned, Like, type_rules}
use Rattle.law_fix_steps.proofs.Concurrently as concurrently
use Rattle.law_fix_steps.proofs.Moved.{Follows, Moves, moved_like}
use Rattle.law_fix_steps.proofs.Near.{Shifts, tok_shifts}
use Rattle.law_fix_steps.proofs.Paths.{path_follows}

room_is : (n x : ℕ) → n ≤ x → room_before n x ≡ x + 9
room_is n x h = grind (arith, nat_tests)

same_room : (n x y : ℕ) → n ≤ x → n ≤ y → (room_before n x == room_before n y) ≡ (x == y)
same_room n x y p q = grind (arith, nat_tests)

-- ---- no statement

and_false : (b : Bool) → (b && false) ≡ false
and_false true = refl
and_false false = refl

no_drops : (t : Tree) → drops.reports_of_require_concurrent_index_deletion t no_stmt ≡ []
no_drops t = λ i. cond (and_false (same_kind no_stmt.kind stmt.DropIndex) i) (drops.report t no_stmt ∷ []) [] ++ []

no_types_left : (exact : Bool) (move : ℕ → ℕ) (gone : ℕ) (tree new : Tree) (rs : List TypeRule) → All (λ r. Left exact move gone (reports_on r new []) (reports_on r tree [])) rs
no_types_left exact move gone tree new [] = All-nil (λ r. Left exact move gone (reports_on r new []) (reports_on r tree []))
no_types_left exact move gone tree new (r ∷ rs) = All-cons (λ r. Left exact move gone (reports_on r new []) (reports_on r tree [])) r rs tt (no_types_left exact move gone tree new rs)

nil_kept : (move : ℕ → ℕ) (ws vs : List Violation) → ws ≡ [] → Kept move ws vs
nil_kept move ws vs e = subst (λ (l : List Violation). Kept move l vs) (sym e) tt

-- a statement that is only kept
pub none_like : (exact : Bool) (move : ℕ → ℕ) (gone : ℕ) (tree new : Tree) → Like exact move gone tree new no_stmt no_stmt
none_like exact move gone tree new = record {
  begins_is = refl;
  ends_is = refl;
  chains_is = refl;
  creates_is = λ path. refl;
  slow_is = refl;
  sets_is = λ name. refl;
  place = λ slow. cc;
  builds_are = λ settings i j news. tt;
  drops_are = λ settings i j. nil_left exact move gone _ _ (no_drops new) (no_drops tree);
  rebuilds_are = λ settings i j. tt;
  detaches_are = nil_kept move _ _ (concurrently.no_detaches new no_stmt refl);
  types_are = subst (λ (l : List ColType). All (λ r. Left exact move gone (reports_on r new l) (reports_on r tree l)) type_rules) (sym no_types) (no_types_left exact move gone tree new type_rules);
}

-- ---- the Set

module _ (exact : Bool) (gone : ℕ) (tree : Tree) (is : IsTree tree) (name : Text) (digit : ℕ) (ending : Text) (f : FirstOf tree.toks) where
  abbrev pub new : Tree
  new = set_tree tree name digit ending f.front f.k f.after

  abbrev pub at : ℕ
  at = f.k.start

  abbrev pub size : ℕ
  size = length (made_text (set_made name digit ending))

  abbrev n : ℕ
  n = length f.front

  abbrev g : ℕ → ℕ
  g = room_before n

  abbrev pub move : ℕ → ℕ
  move = start_moved at size

  abbrev made : List Tok
  made = made_toks at (set_made name digit ending)

  abbrev rest : List Tok
  rest = map (tok_moved at (at + size)) (f.k ∷ f.after)

  lead : Leads tree.text 0 f.front at × Leads tree.text at (f.k ∷ f.after) (length tree.text)
  lead = leads_split tree.text 0 (length tree.text) f.front f.k f.after (subst (λ (x : List Tok). Leads tree.text 0 x (length tree.text)) f.parts is.lexed)

  low : at ≤ length tree.text
  low = leads_within tree.text 0 at f.front (omega arith) lead.0

  count : length tree.toks ≡ n + length (f.k ∷ f.after)
  count = ap length f.parts ∙ length-append f.front (f.k ∷ f.after)

  old_token : (x : ℕ) → n ≤ x → token_at tree.toks x ≡ get_or (f.k ∷ f.after) (x - n) no_token
  old_token x h = ap (λ (ks : List Tok). get_or ks x no_token) f.parts ∙ get_or-append_right f.front (f.k ∷ f.after) n x no_token refl h

  new_token : (x : ℕ) → n ≤ x → x < length tree.toks → token_at new.toks (g x) ≡ tok_moved at (at + size) (token_at tree.toks x)
  new_token x h lt =
      let place : x + 9 - (n + 9) ≡ x - n = omega arith in
      let total = count in
      let nine : length (f.front ++ made) ≡ n + 9 = length-append f.front made in
      ap (λ (y : ℕ). token_at new.toks y) (room_is n x h)
      ∙ ap (λ (ks : List Tok). get_or ks (x + 9) no_token) (sym (append_assoc f.front made rest))
      ∙ get_or-append_right (f.front ++ made) rest (n + 9) (x + 9) no_token nine (omega (arith, h))
      ∙ ap (λ (y : ℕ). get_or rest y no_token) place
      ∙ get_or-map (tok_moved at (at + size)) (f.k ∷ f.after) (x - n) no_token no_token (omega (arith, h, lt, total))
      ∙ ap (tok_moved at (at + size)) (sym (old_token x h))

  follows : (x : ℕ) → n ≤ x → x < length tree.toks → Follows move g tree new x
  follows x h lt =
      let token = new_token x h lt in
      let old = old_token x h in
      let total = count in
      let p = placed tree.text at (length tree.text) (f.k ∷ f.after) (x - n) lead.1 (omega (arith, h, lt, total)) in
      let start : at ≤ (token_at tree.toks x).start = subst (λ (k : Tok). at ≤ k.start) (sym old) p.low in
      let some : (token_at tree.toks x).start < (token_at tree.toks x).end = subst (λ (k : Tok). k.start < k.end) (sym old) p.some in
      record {
        kind = ap (λ (k : Tok). k.kind) token;
        start = ap (λ (k : Tok). k.start) token ∙ start_high at size (token_at tree.toks x).start start;
        text = ap (λ (k : Tok). text_of new.text k) token
            ∙ sym (text_after tree.text new.text at (at + size) (token_at tree.toks x) (sym (exchanged_after tree.text (made_text (set_made name digit ending)) at at low)) start (omega (arith, some)));
      }

  shifts : (x : ℕ) → n ≤ x → x < length tree.toks → Shifts g at (at + size) tree new x
  shifts x h lt =
      let token = new_token x h lt in
      let old = old_token x h in
      let total = count in
      let p = placed tree.text at (length tree.text) (f.k ∷ f.after) (x - n) lead.1 (omega (arith, h, lt, total)) in
      let start : at ≤ (token_at tree.toks x).start = subst (λ (k : Tok). at ≤ k.start) (sym old) p.low in
      let some : (token_at tree.toks x).start < (token_at tree.toks x).end = subst (λ (k : Tok). k.start < k.end) (sym old) p.some in
      tok_shifts g tree new at (at + size) x token start (omega (arith, start, some))

  new_count : length new.toks ≡ length tree.toks + 9
  new_count =
      let total = count in
      let all = length-append f.front (made ++ rest) in
      let some = length-append made rest in
      let same = length-map (f.k ∷ f.after) (tok_moved at (at + size)) in
      omega (arith, total, all, some, same)

  moves : (lo hi : ℕ) → n ≤ lo → hi ≤ length tree.toks → Moves move g lo hi tree new
  moves lo hi p q = record {
    tokens = λ x a b. follows x (omega (arith, p, a)) (omega (arith, q, b));
    down = at;
    up = at + size;
    shifts = λ x a b. shifts x (omega (arith, p, a)) (omega (arith, q, b));
    paths = λ span e.
        (let u = stays_within lo hi span.first (ap (λ (s : Span). s.first) e) in
        let v = stays_within lo hi span.last (ap (λ (s : Span). s.last) e) in
        path_follows move g tree new lo hi q (λ x a b. follows x (omega (arith, p, a)) (omega (arith, q, b)))
        (λ x a b. (let u' = room_is n x (omega (arith, p, a)) in let v' = room_is n (suc x) (omega (arith, p, a)) in omega (arith, u', v')))
        (λ x a b. (let l = room_is n x (omega (arith, p, a)) in let c = new_count in omega (arith, l, c, q, b)))
        span u.0 u.1 v.0 v.1);
    apart = λ x y a b c d. same_room n x y (omega (arith, p, a)) (omega (arith, p, c));
  }

  -- ---- no statement begins before the first significant token

  all_least : AtLeast n (terminals tree.text tree.toks)
  unfolding terminals
  all_least =
      let place : 0 + n ≡ n = omega arith in
      let none = quiet_terms tree.text 0 f.front f.quiet in
      let e : terminals_from tree.text 0 tree.toks ≡ terminals_from tree.text n (f.k ∷ f.after) =
      ap (λ (ks : List Tok). terminals_from tree.text 0 ks) f.parts ∙ terms_append tree.text 0 f.front (f.k ∷ f.after) ∙ (λ i. none i ++ terminals_from tree.text (place i) (f.k ∷ f.after)) in
      subst (AtLeast n) (sym e) (terms_least tree.text n (f.k ∷ f.after))

  begins_late : (before : List Stmt) (x : Stmt) (after : List Stmt) → tree.stmts ≡ before ++ x ∷ after → n ≤ x.first
  unfolding NoneEmpty AtLeast
  begins_late before x after parts =
      let ts = terminals tree.text tree.toks in
      let place = stmt_at_place (statements ts) before x after (of_read tree.text tree.toks ts tree.stmts refl is.read ∙ ap (λ (l : List Stmt). Ok l) parts) in
      let whole : ts ≡ joined place.earlier ++ (place.here ++ joined place.later) = sym (statements_join ts) ∙ ap joined place.parts ∙ joined_append place.earlier (place.here ∷ place.later) in
      let all = subst (AtLeast n) whole all_least in
      let here = (least_parts n place.here (joined place.later) (least_parts n (joined place.earlier) (place.here ++ joined place.later) all).1).0 in
      let full = (full_parts place.earlier place.here place.later (subst NoneEmpty place.parts (statements_full ts))).1 in
      by place.here place.later here full place.here_is
    where
      by : (us : List Terminal) (later : List (List Terminal)) → AtLeast n us → NoneEmpty (us ∷ later) → statement us ≡ Some x → n ≤ x.first
      by [] later h full e = absurd full
      by (u ∷ us) later h full e = let s = (span_is (u ∷ us) x e).0 in let l = h.0 in omega (arith, s, l)

  -- ---- all statements

  one_like : (before : List Stmt) (x : Stmt) (after : List Stmt) → tree.stmts ≡ before ++ x ∷ after → Like exact move gone tree new x (stmt_moved g x)
  one_like before x after parts =
      let a = statements_apart tree before x after is parts in
      let within = a.within in
      moved_like exact move g gone x.first (x.last + 1) tree new (moves x.first (x.last + 1) (begins_late before x after parts) (omega (arith, within))) x a.here_is

  each_like : (pre xs : List Stmt) → tree.stmts ≡ pre ++ xs → (i : ℕ) → Like exact move gone tree new (get_or xs i no_stmt) (get_or (map (stmt_moved g) xs) i no_stmt)
  each_like pre [] e i = none_like exact move gone tree new
  each_like pre (x ∷ xs) e zero = one_like pre x xs e
  each_like pre (x ∷ xs) e (suc i) = each_like (pre ++ x ∷ []) xs (e ∙ sym (append_assoc pre (x ∷ []) xs)) i

  idle : Idle new
  idle = record {
    begins_not = refl;
    ends_not = refl;
    creates_not = λ path. refl;
    slow_not = refl;
    quiet = record {
      builds_none = λ settings. refl;
      drops_none = λ settings. (λ i. cond (and_false (same_kind stmt.Set stmt.DropIndex) i) (drops.report new (set_stmt n) ∷ []) [] ++ []);
      rebuilds_none = λ settings. refl;
      detaches_none = concurrently.no_detaches new (set_stmt n) refl;
      types_none = concurrently.no_types (set_stmt n) refl refl;
      not_slow = refl;
    };
  }

  pub set_aligned : (assumed : Bool) → Aligned exact move gone assumed tree new
  set_aligned assumed = one_in_front exact move gone assumed tree new idle (each_like [] tree.stmts refl) (ap suc (length-map tree.stmts (stmt_moved g)))
