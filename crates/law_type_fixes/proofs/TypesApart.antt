-- The numbers that a column type holds are those of its own tokens.
use Rattle.std.proofs.Common.{◌≡◌, ℕ, suc, ◌+◌, ◌≤◌, Bool, true, false, cond, List, [], ◌∷◌, ◌++◌, map, length, refl, Option, Ok, sym, ap, ◌∙◌, subst, arith}
use Rattle.pass_data_type.specs.sql_token.declared.token.Tok.{Tok}
use Rattle.pass_data_type.specs.sql_token.declared.terminal.Terminal.{Terminal}
use Rattle.pass_data_type.specs.sql_token.Token.{Text, text_of}
use Rattle.pass_data_type.specs.sql_token.Terminal.{is_significant, symbol_of, terminals, terminals_from}
use Rattle.pass_data_type.specs.sql_token.Depth.{statements}
use Rattle.pass_data_type.specs.sql_tree.declared.nodes.ColType.{ColType}
use Rattle.pass_data_type.specs.sql_tree.declared.nodes.Stmt.{Stmt}
use Rattle.pass_data_type.specs.sql_tree.Nodes.{types_in}
use Rattle.pass_data_type.specs.sql_tree.Statement.{Tree}
use Rattle.law_edit_types.specs.law_renumber.Moved.{type_moved}
use Rattle.law_edit_types.proofs.of_law_renumber.There.{IfThere}
use Rattle.law_edit_types.proofs.of_law_renumber.Ordered.{Numbered, numbered_le, numbered_lower}
use Rattle.law_edit_types.specs.law_edit_cuts.Exchanges.{joined}
use Rattle.law_edit_types.specs.law_edit_inserts.Apart.{outside}
use Rattle.law_edit_types.proofs.of_law_edit_inserts.Statements.{of_read, statements_join, joined_append, stmt_at_place}
use Rattle.law_type_fixes.specs.Apart.{TypeApart, TypesApart}
use Rattle.law_type_fixes.proofs.Bodies.{statement_walk}
use Rattle.law_type_fixes.proofs.ColumnTypes.{types_ranged}
use Rattle.law_type_fixes.proofs.Ranged.{Within, Ranged, walk_ranged, ranged_le, ranged_parts}
use Rattle.law_edit_types.proofs.of_law_edit_inserts.Apart.{stays}

-- ---- the numbers of terminals ascend

pub numbered_tokens : (t : Text) (n : ℕ) (toks : List Tok) → Numbered n (terminals_from t n toks) (n + length toks)
numbered_tokens t n [] = omega arith
numbered_tokens t n (k ∷ toks) =
    let low : n + 1 ≡ suc n = omega arith in
    let high : n + 1 + length toks ≡ n + length (k ∷ toks) = omega arith in
    let rest = subst (λ (x : ℕ). Numbered (n + 1) (terminals_from t (n + 1) toks) x) high (numbered_tokens t (n + 1) toks) in
    by (is_significant k.kind) (subst (λ (x : ℕ). Numbered x (terminals_from t (n + 1) toks) (n + length (k ∷ toks))) low rest)
  where
    by : (b : Bool) → Numbered (suc n) (terminals_from t (n + 1) toks) (n + length (k ∷ toks)) →
        Numbered n (cond b (record { symbol = symbol_of k.kind (text_of t k); number = n } ∷ terminals_from t (n + 1) toks) (terminals_from t (n + 1) toks)) (n + length (k ∷ toks))
    by true h = (omega arith, h)
    by false h = numbered_lower n (suc n) (terminals_from t (n + 1) toks) (n + length (k ∷ toks)) (omega arith) h

pub all_numbered : (t : Text) (toks : List Tok) → Numbered 0 (terminals t toks) (0 + length toks)
unfolding terminals
all_numbered t toks = numbered_tokens t 0 toks

pub record Both (lo hi : ℕ) (xs ys : List Terminal) : Type 0 where
  pub mid : ℕ
  pub left : Numbered lo xs mid
  pub right : Numbered mid ys hi

pub numbered_parts : (lo hi : ℕ) (xs ys : List Terminal) → Numbered lo (xs ++ ys) hi → Both lo hi xs ys
numbered_parts lo hi [] ys h = record { mid = lo; left = omega arith; right = h }
numbered_parts lo hi (x ∷ xs) ys h = let p = numbered_parts (suc x.number) hi xs ys h.1 in record { mid = p.mid; left = (h.0, p.left); right = p.right }

-- ---- types stay where only other numbers change

within_fixed : (lo hi low high : ℕ) (ty : ColType) → Within lo hi ty → low ≤ lo → hi ≤ high → type_moved (outside low high) ty ≡ ty
within_fixed lo hi low high ty h p q =
    let first = h.low in
    h.fixed (outside low high) (λ n le lt. stays low high n (omega (arith, first, p, le)) (omega (arith, q, lt)))

ranged_fixed : (lo hi low high : ℕ) (tys : List ColType) → Ranged lo hi tys → low ≤ lo → hi ≤ high → map (type_moved (outside low high)) tys ≡ tys
ranged_fixed lo hi low high [] h p q = refl
ranged_fixed lo hi low high (ty ∷ tys) h p q =
    let a = h.1.0.low in let b = h.1.0.some in
    let above = ranged_le h.0 hi tys h.1.1 in
    let here = within_fixed lo h.0 low high ty h.1.0 p (omega (arith, above, q)) in
    let rest = ranged_fixed h.0 hi low high tys h.1.1 (omega (arith, a, b, p)) q in
    λ i. here i ∷ rest i

apart_of : (tree : Tree) (lo hi : ℕ) (earlier : List ColType) (ty : ColType) (later : List ColType) → hi ≤ length tree.toks → Ranged lo hi (earlier ++ ty ∷ later) → TypeApart tree earlier ty later
apart_of tree lo hi earlier ty later top h =
    let p = ranged_parts lo hi earlier (ty ∷ later) h in
    let right : (mid : ℕ) × (Within p.mid mid ty × Ranged mid hi later) = p.right in
    let here : Within p.mid right.0 ty = right.1.0 in
    let first = here.low in
    let above = ranged_le right.0 hi later right.1.1 in
    record {
      until = right.0;
      earlier_is = ranged_fixed lo p.mid 0 ty.whole.first earlier p.left (omega arith) first;
      here_is = here.fixed (outside ty.whole.first right.0) (λ n le lt. stays ty.whole.first right.0 n le lt);
      later_is = ranged_fixed right.0 hi right.0 (length tree.toks) later right.1.1 (omega arith) top;
      within = omega (arith, above, top);
      inner = here.inner;
    }

pub types_apart : TypesApart
types_apart tree before st after earlier ty later is parts cut =
    let ts = terminals tree.text tree.toks in
    let place = stmt_at_place (statements ts) before st after (of_read tree.text tree.toks ts tree.stmts refl is.read ∙ ap (λ (x : List Stmt). Ok x) parts) in
    let whole : ts ≡ joined place.earlier ++ (place.here ++ joined place.later) =
    sym (statements_join ts) ∙ ap joined place.parts ∙ joined_append place.earlier (place.here ∷ place.later) in
    let numbers = subst (λ (x : List Terminal). Numbered 0 x (0 + length tree.toks)) whole (all_numbered tree.text tree.toks) in
    let a = numbered_parts 0 (0 + length tree.toks) (joined place.earlier) (place.here ++ joined place.later) numbers in
    let b = numbered_parts a.mid (0 + length tree.toks) place.here (joined place.later) a.right in
    let top = numbered_le b.mid (joined place.later) (0 + length tree.toks) b.right in
    let walked : Ranged a.mid b.mid (types_in st.body) =
    subst (λ (x : Option Stmt). IfThere (λ (s : Stmt). Ranged a.mid b.mid (types_in s.body)) x) place.here_is (statement_walk Ranged walk_ranged a.mid b.mid place.here b.left) in
    apart_of tree a.mid b.mid earlier ty later (omega (arith, top)) (subst (λ (x : List ColType). Ranged a.mid b.mid x) cut (types_ranged a.mid b.mid st walked))
