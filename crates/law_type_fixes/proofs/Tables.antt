-- The reports of a rule on column types, where tokens of one type became a word.
use Rattle.std.proofs.Common.{◌≡◌, ◌≢◌, ℕ, zero, suc, ◌+◌, ◌<◌, ◌≤◌, ◌⊎◌, inl, inr, Bool, true, false, cond, List, [], ◌∷◌, ◌++◌, map, length, get_or, length-append, append_assoc, sym, refl, ap, ◌∙◌, subst, arith}
use Rattle.std.proofs.lemmas.Bool.{true≢false}
use Rattle.std.proofs.lemmas.Bool.Decides.{nat_tests}
use Rattle.std.proofs.lemmas.List.{length-map, map-append}
use Rattle.std.proofs.lemmas.List.Elements.{All-append, All-cons, All-head, All-nil, All-tail}
use Rattle.std.specs.Prelude.{◌==◌, All}
use Rattle.pass_data_type.specs.sql_token.Token.{Text}
use Rattle.pass_data_type.specs.sql_name.Name.{full_name}
use Rattle.pass_data_type.specs.sql_tree.declared.nodes.ColType.{ColType}
use Rattle.pass_data_type.specs.sql_tree.declared.nodes.Stmt.{Stmt}
use Rattle.pass_data_type.specs.sql_tree.Range.{token_at}
use Rattle.pass_data_type.specs.sql_tree.Statement.{Tree}
use Rattle.law_edit_types.specs.law_renumber.Moved.{type_moved, stmt_moved}
use Rattle.law_edit_types.specs.law_edit_inserts.Apart.{outside, Apart}
use Rattle.law_edit_types.proofs.of_law_edit_inserts.Apart.{stays_within, statements_apart}
use Rattle.law_edit_types.specs.Runs.{fused, worded_tree}
use Rattle.pass_data_type.specs.lint_base.declared.settings.LinterSettings.{LinterSettings}
use Rattle.pass_data_type.specs.lint_base.declared.violation.Violation.{Violation}
use Rattle.pass_data_type.specs.lint_base.RuleSets.{Rules, has}
use Rattle.pass_data_type.specs.lint_node.ColumnTypes.{column_types}
use Rattle.pass_data_type.specs.lint_pass.RuleLaws.{pieces_all}
use Rattle.pass_data_type.specs.lint_pass.RuleTables.{enabled_reports}
use Rattle.pass_data_type.specs.lint_pass.Those.{that}
use Rattle.pass_data_type.specs.lint_transaction.Earlier.{concat_below}
use Rattle.pass_data_type.specs.lint_transaction.Transaction.{no_stmt, stmt_at}
use Rattle.law_fixes.proofs.Tokens.{starts_ascend}
use Rattle.law_type_fixes.specs.Apart.{TypeApart}
use Rattle.law_type_fixes.specs.Moved.{Replaced, byte_moved, report_moved}
use Rattle.law_type_fixes.specs.Rules.{TypeRule, reports_on, type_reports, type_table}
use Rattle.law_type_fixes.specs.Stays.{IsRun, replaced, but_type, Exchanged, TypesStay, TypesSilent}
use Rattle.law_type_fixes.specs.Stays.IsRun.{inner, name}
use Rattle.law_type_fixes.proofs.ColumnTypes.{types_moved, no_types}
use Rattle.law_type_fixes.proofs.TypeReports.{Stays, IsTypeRule}
use Rattle.law_type_fixes.proofs.Tokens.{bounds, same_text, same_range, high_token, place_low, place_high}
use Rattle.law_type_fixes.proofs.TypesApart.{types_apart}

-- ---- lists

all_fixed : (g : ℕ → ℕ) (P : ColType → Type 0) → ((ty : ColType) → type_moved g ty ≡ ty → P ty) → (tys : List ColType) → map (type_moved g) tys ≡ tys → All P tys
all_fixed g P one [] e = All-nil P
all_fixed g P one (ty ∷ tys) e = All-cons P ty tys (one ty (first e)) (all_fixed g P one tys (rest e))
  where
    first : {x y : ColType} {xs ys : List ColType} → x ∷ xs ≡ y ∷ ys → x ≡ y
    first e = cc

    rest : {x y : ColType} {xs ys : List ColType} → x ∷ xs ≡ y ∷ ys → xs ≡ ys
    rest e = cc

pub one_of : (P : ColType → Type 0) (xs : List ColType) (y : ColType) (ys : List ColType) → All P (xs ++ y ∷ ys) → P y
one_of P [] y ys h = All-head P y ys h
one_of P (x ∷ xs) y ys h = one_of P xs y ys (All-tail P x (xs ++ y ∷ ys) h)

reports_append : (r : TypeRule) (tree : Tree) (xs ys : List ColType) → reports_on r tree (xs ++ ys) ≡ reports_on r tree xs ++ reports_on r tree ys
reports_append r tree [] ys = refl
reports_append r tree (x ∷ xs) ys =
    ap (λ (l : List Violation). that (r.test tree) (r.report tree) x ++ l) (reports_append r tree xs ys)
    ∙ sym (append_assoc (that (r.test tree) (r.report tree) x) (reports_on r tree xs) (reports_on r tree ys))

reports_none : (r : TypeRule) (tree : Tree) (tys : List ColType) → All (λ ty. r.test tree ty ≡ false) tys → reports_on r tree tys ≡ []
reports_none r tree [] h = refl
reports_none r tree (ty ∷ tys) h =
    let here = All-head (λ ty. r.test tree ty ≡ false) ty tys h in
    let rest = reports_none r tree tys (All-tail (λ ty. r.test tree ty ≡ false) ty tys h) in
    λ i. cond (here i) (r.report tree ty ∷ []) [] ++ rest i

equal_is : (a b : ℕ) → (a == b) ≡ true → a ≡ b
equal_is a b h = grind (arith, nat_tests)

-- ---- one type became a word

module _ (rule : TypeRule) (law : IsTypeRule rule) (tree : Tree) (before : List Stmt) (st : Stmt) (after : List Stmt) (now : Stmt) (n m : ℕ) (w : Text)
    (earlier : List ColType) (ty : ColType) (later : List ColType) (ex : Exchanged rule tree before st after now n m w earlier ty later) where
  abbrev new : Tree
  new = worded_tree tree n m w before now after

  abbrev f : ℕ → ℕ
  f = fused n m

  abbrev r : Replaced
  r = replaced tree n m w

  apart : Apart tree before st after
  apart = statements_apart tree before st after ex.is ex.parts

  type_apart : TypeApart tree earlier ty later
  type_apart = types_apart tree before st after earlier ty later ex.is ex.parts ex.old

  -- ---- where the run is

  record Run : Type 0 where
    pub first : ty.whole.first ≤ n
    pub order : n ≤ m
    pub last : m < type_apart.until
    pub within : m < length tree.toks
    pub begins : st.first ≤ n
    pub ends : m < st.last + 1

  abbrev In : ℕ → ℕ → ℕ → Type 0
  In lo hi x = (lo ≤ x) × (x < hi)

  -- the two numbers of the run are among those of the type
  run_in : (lo hi : ℕ) → type_moved (outside lo hi) ty ≡ ty → IsRun ty n m → In lo hi n × In lo hi m
  run_in lo hi e (inner p q) = (
    subst (λ (x : ℕ). In lo hi x) p (stays_within lo hi ty.inner.first (ap (λ (x : ColType). x.inner.first) e)),
    subst (λ (x : ℕ). In lo hi x) q (stays_within lo hi ty.inner.last (ap (λ (x : ColType). x.inner.last) e)),
  )
  run_in lo hi e (name p q) = (
    subst (λ (x : ℕ). In lo hi x) p (stays_within lo hi ty.name (ap (λ (x : ColType). x.name) e)),
    subst (λ (x : ℕ). In lo hi x) q (stays_within lo hi ty.name (ap (λ (x : ColType). x.name) e)),
  )

  run_order : IsRun ty n m → n ≤ m
  run_order (inner p q) = let a = type_apart in let o = a.inner in omega (arith, o, p, q)
  run_order (name p q) = omega (arith, p, q)

  type_fixed : type_moved (outside st.first (st.last + 1)) ty ≡ ty
  type_fixed =
      let a = apart in
      let all = sym (types_moved (outside st.first (st.last + 1)) st) ∙ ap column_types a.here_is in
      one_of (λ (x : ColType). type_moved (outside st.first (st.last + 1)) x ≡ x) earlier ty later
      (subst (λ (l : List ColType). All (λ (x : ColType). type_moved (outside st.first (st.last + 1)) x ≡ x) l) ex.old
      (all_fixed (outside st.first (st.last + 1)) (λ (x : ColType). type_moved (outside st.first (st.last + 1)) x ≡ x) (λ x e. e) (column_types st) all))

  run : Run
  run =
      let a = type_apart in
      let here = run_in ty.whole.first a.until a.here_is ex.run in
      let there = run_in st.first (st.last + 1) type_fixed ex.run in
      let within = a.within in
      let p = here.0.0 in let q = here.1.1 in let p' = there.0.0 in let q' = there.1.1 in
      record { first = p; order = run_order ex.run; last = q; within = omega (arith, q, within); begins = p'; ends = q' }

  -- ---- types aside

  -- the numbers from lo to before hi are all before the run, or all after it
  abbrev Far : ℕ → ℕ → Type 0
  Far lo hi = (hi ≤ n) ⊎ ((m + 1 ≤ lo) × (hi ≤ length tree.toks))

  -- its report begins at another place than that of the type
  abbrev Elsewhere : ℕ → Type 0
  Elsewhere x = (0 < length w) → byte_moved r (token_at tree.toks x).start ≢ byte_moved r (token_at tree.toks ty.whole.first).start

  record Other (x : ColType) : Type 0 where
    pub stays : Stays r tree new f x
    pub away : Elsewhere x.whole.first

  far_stays : (lo hi : ℕ) → Far lo hi → (x : ColType) → type_moved (outside lo hi) x ≡ x → Stays r tree new f x
  far_stays lo hi far x e =
      let u = run in
      let name = stays_within lo hi x.name (ap (λ (y : ColType). y.name) e) in
      let first = stays_within lo hi x.whole.first (ap (λ (y : ColType). y.whole.first) e) in
      let last = stays_within lo hi x.whole.last (ap (λ (y : ColType). y.whole.last) e) in
      let first' = stays_within lo hi x.inner.first (ap (λ (y : ColType). y.inner.first) e) in
      let last' = stays_within lo hi x.inner.last (ap (λ (y : ColType). y.inner.last) e) in
      record {
        name = ap full_name (same_text tree.text tree.toks n m w ex.is.lexed u.order u.within lo hi x.name far name.0 name.1);
        whole = same_range tree.text tree.toks n m w ex.is.lexed u.order u.within lo hi x.whole.first x.whole.last far first.0 first.1 last.0 last.1;
        inner = same_range tree.text tree.toks n m w ex.is.lexed u.order u.within lo hi x.inner.first x.inner.last far first'.0 first'.1 last'.0 last'.1;
        last = same_range tree.text tree.toks n m w ex.is.lexed u.order u.within lo hi x.name x.name far name.0 name.1 name.0 name.1;
      }

  low_apart : (a b s x y : ℕ) → a < b → x < y → y ≤ a → byte_moved (record { from = a; until = b; size = s }) x ≢ byte_moved (record { from = a; until = b; size = s }) y
  low_apart a b s x y grows less low =
      let p = place_low a b s x (omega (arith, grows, less, low)) in
      let q = place_low a b s y (omega (arith, grows, low)) in
      λ e. omega (arith, less, p, q, e)

  high_apart : (a b s x y : ℕ) → a < b → 0 < s → b ≤ x → y ≤ a → byte_moved (record { from = a; until = b; size = s }) x ≢ byte_moved (record { from = a; until = b; size = s }) y
  high_apart a b s x y grows some high low =
      let p = place_high a b s x high in
      let q = place_low a b s y (omega (arith, grows, low)) in
      λ e. omega (arith, grows, some, low, p, q, e)

  begins_low : (token_at tree.toks ty.whole.first).start ≤ (token_at tree.toks n).start
  begins_low = let u = run in by (same_or_less ty.whole.first n u.first) u.order u.within
    where
      same_or_less : (x y : ℕ) → x ≤ y → (x < y) ⊎ (x ≡ y)
      same_or_less x y h = grind arith

      by : (ty.whole.first < n) ⊎ (ty.whole.first ≡ n) → n ≤ m → m < length tree.toks → (token_at tree.toks ty.whole.first).start ≤ (token_at tree.toks n).start
      by (inl h) p q = let up = starts_ascend tree.text tree.toks ty.whole.first n ex.is.lexed h (omega arith) in omega (arith, up)
      by (inr h) p q = let same = ap (λ (x : ℕ). (token_at tree.toks x).start) h in omega (arith, same)

  -- numbers below the first one of the type, or after the run
  elsewhere : (x : ℕ) → (x < ty.whole.first) ⊎ ((m + 1 ≤ x) × (x < length tree.toks)) → Elsewhere x
  elsewhere x (inl h) some =
      let u = run in let first = u.first in let order = u.order in let within = u.within in
      let b = bounds tree.text tree.toks n m w ex.is.lexed order within in
      low_apart (token_at tree.toks n).start (token_at tree.toks m).end (length w) (token_at tree.toks x).start (token_at tree.toks ty.whole.first).start b.grows
      (starts_ascend tree.text tree.toks x ty.whole.first ex.is.lexed h (omega arith)) begins_low
  elsewhere x (inr h) some =
      let u = run in let order = u.order in let within = u.within in
      let b = bounds tree.text tree.toks n m w ex.is.lexed order within in
      let k = high_token tree.text tree.toks n m w ex.is.lexed order within x h.0 h.1 in
      high_apart (token_at tree.toks n).start (token_at tree.toks m).end (length w) (token_at tree.toks x).start (token_at tree.toks ty.whole.first).start b.grows some k.start begins_low

  -- types of these numbers are aside
  record Side (lo hi : ℕ) : Type 0 where
    pub far : Far lo hi
    pub away : (x : ℕ) → lo ≤ x → x < hi → (x < ty.whole.first) ⊎ ((m + 1 ≤ x) × (x < length tree.toks))

  low_side : (lo hi : ℕ) → hi ≤ ty.whole.first → Side lo hi
  low_side lo hi h = let u = run in let first = u.first in record { far = inl (omega (arith, h, first)); away = λ x p q. inl (omega (arith, h, q)) }

  high_side : (lo hi : ℕ) → m + 1 ≤ lo → hi ≤ length tree.toks → Side lo hi
  high_side lo hi p q = record { far = inr (p, q); away = λ x a b. inr (omega (arith, p, a), omega (arith, q, b)) }

  side_others : (lo hi : ℕ) → Side lo hi → (tys : List ColType) → map (type_moved (outside lo hi)) tys ≡ tys → All Other tys
  side_others lo hi side tys e = all_fixed (outside lo hi) Other one tys e
    where
      one : (x : ColType) → type_moved (outside lo hi) x ≡ x → Other x
      one x e =
          let first = stays_within lo hi x.whole.first (ap (λ (y : ColType). y.whole.first) e) in
          record { stays = far_stays lo hi side.far x e; away = elsewhere x.whole.first (side.away x.whole.first first.0 first.1) }

  -- the other types of the statement
  others_here : All Other (earlier ++ later)
  others_here =
      let a = type_apart in let u = run in let last = u.last in
      All-append Other earlier later (side_others 0 ty.whole.first (low_side 0 ty.whole.first (omega arith)) earlier a.earlier_is)
      (side_others a.until (length tree.toks) (high_side a.until (length tree.toks) (omega (arith, last)) (omega arith)) later a.later_is)

  -- ---- other statements

  -- a statement, and what it is now
  record OtherStmt (x y : Stmt) : Type 0 where
    pub types : column_types y ≡ map (type_moved f) (column_types x)
    pub others : All Other (column_types x)

  one_stmt : (lo hi : ℕ) → Side lo hi → (x : Stmt) → stmt_moved (outside lo hi) x ≡ x → OtherStmt x (stmt_moved f x)
  one_stmt lo hi side x e = record {
    types = types_moved f x;
    others = side_others lo hi side (column_types x) (sym (types_moved (outside lo hi) x) ∙ ap column_types e);
  }

  none_stmt : OtherStmt no_stmt no_stmt
  none_stmt = let none = no_types in record {
    types = none ∙ sym (ap (λ (l : List ColType). map (type_moved f) l) none);
    others = subst (λ (l : List ColType). All Other l) (sym none) (All-nil Other);
  }

  stmts_first : {x y : Stmt} {xs ys : List Stmt} → x ∷ xs ≡ y ∷ ys → x ≡ y
  stmts_first e = cc

  stmts_rest : {x y : Stmt} {xs ys : List Stmt} → x ∷ xs ≡ y ∷ ys → xs ≡ ys
  stmts_rest e = cc

  side_stmts : (lo hi : ℕ) → Side lo hi → (ss : List Stmt) → map (stmt_moved (outside lo hi)) ss ≡ ss → (j : ℕ) → OtherStmt (get_or ss j no_stmt) (get_or (map (stmt_moved f) ss) j no_stmt)
  side_stmts lo hi side [] e j = none_stmt
  side_stmts lo hi side (x ∷ ss) e zero = one_stmt lo hi side x (stmts_first e)
  side_stmts lo hi side (x ∷ ss) e (suc j) = side_stmts lo hi side ss (stmts_rest e) j

  list_stmts : (lo hi low high : ℕ) → Side lo hi → Side low high → (xs ys : List Stmt) → map (stmt_moved (outside lo hi)) xs ≡ xs → map (stmt_moved (outside low high)) ys ≡ ys →
      (j : ℕ) → (j == length xs) ≡ false → OtherStmt (get_or (xs ++ st ∷ ys) j no_stmt) (get_or (map (stmt_moved f) xs ++ now ∷ map (stmt_moved f) ys) j no_stmt)
  list_stmts lo hi low high p q [] ys e g zero h = absurd (true≢false h)
  list_stmts lo hi low high p q [] ys e g (suc j) h = side_stmts low high q ys g j
  list_stmts lo hi low high p q (x ∷ xs) ys e g zero h = one_stmt lo hi p x (stmts_first e)
  list_stmts lo hi low high p q (x ∷ xs) ys e g (suc j) h = list_stmts lo hi low high p q xs ys (stmts_rest e) g j (less j (length xs) h)
    where
      less : (a b : ℕ) → (suc a == suc b) ≡ false → (a == b) ≡ false
      less a b h = grind (arith, nat_tests)

  -- the statement begins no later than its type
  st_low : st.first ≤ ty.whole.first
  st_low = (stays_within st.first (st.last + 1) ty.whole.first (ap (λ (x : ColType). x.whole.first) type_fixed)).0

  others : (j : ℕ) → (j == length before) ≡ false → OtherStmt (stmt_at tree j) (stmt_at new j)
  others j h =
      let a = apart in let u = run in let ends = u.ends in
      subst (λ (l : List Stmt). OtherStmt (get_or l j no_stmt) (stmt_at new j)) (sym ex.parts)
      (list_stmts 0 st.first (st.last + 1) (length tree.toks) (low_side 0 st.first st_low) (high_side (st.last + 1) (length tree.toks) (omega (arith, ends)) (omega arith))
      before after a.before_is a.after_is j h)

  this_new : (j : ℕ) → (j == length before) ≡ true → stmt_at new j ≡ now
  this_new j h = ap (λ (x : ℕ). stmt_at new x) (equal_is j (length before) h) ∙ at before
    where
      at : (xs : List Stmt) → get_or (map (stmt_moved f) xs ++ now ∷ map (stmt_moved f) after) (length xs) no_stmt ≡ now
      at [] = refl
      at (x ∷ xs) = at xs

  -- ---- reports

  reports_moved : (tys : List ColType) → All Other tys → reports_on rule new (map (type_moved f) tys) ≡ map (report_moved r) (reports_on rule tree tys)
  reports_moved [] h = refl
  reports_moved (x ∷ xs) h =
      (let p = one (All-head Other x xs h) in let q = reports_moved xs (All-tail Other x xs h) in λ i. p i ++ q i)
      ∙ sym (map-append (report_moved r) (that (rule.test tree) (rule.report tree) x) (reports_on rule tree xs))
    where
      by : (b : Bool) → cond b (report_moved r (rule.report tree x) ∷ []) [] ≡ map (report_moved r) (cond b (rule.report tree x ∷ []) [])
      by true = refl
      by false = refl

      one : Other x → that (rule.test new) (rule.report new) (type_moved f x) ≡ map (report_moved r) (that (rule.test tree) (rule.report tree) x)
      one o =
          (let test = law.test r tree new f x o.stays in let report = law.report r tree new f x o.stays in λ i. cond (test i) (report i ∷ []) [])
          ∙ by (rule.test tree x)

  this_reports : reports_on rule new (column_types now) ≡ map (report_moved r) (reports_on rule tree (earlier ++ later))
  this_reports =
      ap (λ (l : List ColType). reports_on rule new l) ex.new
      ∙ reports_append rule new (map (type_moved f) earlier) (ex.types ++ map (type_moved f) later)
      ∙ ap (λ (l : List Violation). reports_on rule new (map (type_moved f) earlier) ++ l)
      (reports_append rule new ex.types (map (type_moved f) later) ∙ ap (λ (l : List Violation). l ++ reports_on rule new (map (type_moved f) later)) (reports_none rule new ex.types ex.silent))
      ∙ sym (reports_append rule new (map (type_moved f) earlier) (map (type_moved f) later))
      ∙ ap (λ (l : List ColType). reports_on rule new l) (sym (map-append (type_moved f) earlier later))
      ∙ reports_moved (earlier ++ later) others_here

  reports_at : (rules : Rules) (settings : LinterSettings) (j : ℕ) →
      enabled_reports rule.code (λ i. type_reports rule settings new i (stmt_at new i)) rules j ≡ map (report_moved r) (enabled_reports rule.code (but_type (length before) (earlier ++ later) rule tree) rules j)
  reports_at rules settings j = by (has rules rule.code) (j == length before) refl
    where
      by : (h b : Bool) → (j == length before) ≡ b →
          cond h (reports_on rule new (column_types (stmt_at new j))) []
          ≡ map (report_moved r) (cond h (cond b (reports_on rule tree (earlier ++ later)) (reports_on rule tree (column_types (stmt_at tree j)))) [])
      by false b e = refl
      by true true e = ap (λ (x : Stmt). reports_on rule new (column_types x)) (this_new j e) ∙ this_reports
      by true false e =
          let o = others j e in
          ap (λ (l : List ColType). reports_on rule new l) o.types ∙ reports_moved (column_types (stmt_at tree j)) o.others

  count_same : length new.stmts ≡ length tree.stmts
  count_same =
      omega (
        arith,
        length-append (map (stmt_moved f) before) (now ∷ map (stmt_moved f) after),
        length-map before (stmt_moved f),
        length-map after (stmt_moved f),
        length-append before (st ∷ after),
        ap length ex.parts,
      )

  pub table_same : (rules : Rules) (settings : LinterSettings) → type_table rule new rules settings
      ≡ concat_below (λ i. map (report_moved r) (enabled_reports rule.code (but_type (length before) (earlier ++ later) rule tree) rules i)) (length tree.stmts)
  table_same rules settings = let count = count_same in λ i. concat_below (λ j. reports_at rules settings j i) (count i)

  -- ---- silence

  abbrev Silent : Violation → Type 0
  Silent v = v.text_range.start ≢ byte_moved r (token_at tree.toks ty.whole.first).start

  reports_silent : 0 < length w → (tys : List ColType) → All Other tys → All Silent (map (report_moved r) (reports_on rule tree tys))
  reports_silent some [] h = All-nil Silent
  reports_silent some (x ∷ xs) h =
      subst (λ (l : List Violation). All Silent l) (sym (map-append (report_moved r) (that (rule.test tree) (rule.report tree) x) (reports_on rule tree xs)))
      (All-append Silent (map (report_moved r) (that (rule.test tree) (rule.report tree) x)) (map (report_moved r) (reports_on rule tree xs))
      (by (rule.test tree x) (All-head Other x xs h)) (reports_silent some xs (All-tail Other x xs h)))
    where
      by : (b : Bool) → Other x → All Silent (map (report_moved r) (cond b (rule.report tree x ∷ []) []))
      by false o = All-nil Silent
      by true o =
          All-cons Silent (report_moved r (rule.report tree x)) []
          (subst (λ (s : ℕ). byte_moved r s ≢ byte_moved r (token_at tree.toks ty.whole.first).start) (sym (law.place tree x)) (o.away some)) (All-nil Silent)

  silent_at : 0 < length w → (rules : Rules) (j : ℕ) → All Silent (map (report_moved r) (enabled_reports rule.code (but_type (length before) (earlier ++ later) rule tree) rules j))
  silent_at some rules j = by (has rules rule.code) (j == length before) refl
    where
      by : (h b : Bool) → (j == length before) ≡ b →
          All Silent (map (report_moved r) (cond h (cond b (reports_on rule tree (earlier ++ later)) (reports_on rule tree (column_types (stmt_at tree j)))) []))
      by false b e = All-nil Silent
      by true true e = reports_silent some (earlier ++ later) others_here
      by true false e = let o = others j e in reports_silent some (column_types (stmt_at tree j)) o.others

  pub table_silent : 0 < length w → (rules : Rules) (settings : LinterSettings) → All Silent (type_table rule new rules settings)
  table_silent some rules settings =
      subst (λ (l : List Violation). All Silent l) (sym (table_same rules settings))
      (pieces_all Silent (λ i. map (report_moved r) (enabled_reports rule.code (but_type (length before) (earlier ++ later) rule tree) rules i)) (length tree.stmts) (silent_at some rules))

-- ---- the laws

pub types_stay : (rule : TypeRule) → IsTypeRule rule → TypesStay rule
types_stay rule law tree before st after now n m w earlier ty later ex rules settings = table_same rule law tree before st after now n m w earlier ty later ex rules settings

pub types_silent : (rule : TypeRule) → IsTypeRule rule → TypesSilent rule
types_silent rule law tree before st after now n m w earlier ty later ex some rules settings = table_silent rule law tree before st after now n m w earlier ty later ex some rules settings
